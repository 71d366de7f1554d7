use Rattle.std.specs.Prelude.{ℕ, zero, suc, nat_lt, if◌then◌else◌, Bool, true, false, Option, Some, None, List, [], ◌∷◌, drop, slice_get}
use Rattle.nook_data.specs.Types.{FaultKind, Instr}
use Rattle.nook_data.specs.declared.limits.TheConstants.{MOST_INSTRUCTIONS}
use Rattle.nook_data.specs.declared.scenario.FaultKind.TheVariants as fault
use Rattle.register_points.specs.Uses.{use_of}
use Rattle.register_points.specs.declared.sources.Source.{Source}
use Rattle.register_points.specs.declared.sources.Source.TheVariants as source
use Rattle.register_points.specs.declared.uses.Use.TheVariants as does

-- Where the row of a member comes from, by the instructions of the fault's burst.

abbrev pub keeps : Option (Option Instr) → ℕ → Bool
keeps None r = false
keeps (Some i) r = elim (use_of i r) [ does.Keeps ↦ true | _ ↦ false ]

-- the instruction before keeps the register, and there is one after it
abbrev pub is_kept_before : List (Option Instr) → ℕ → ℕ → Bool
is_kept_before instrs r zero = false
is_kept_before instrs r (suc before) = if nat_lt (suc before) MOST_INSTRUCTIONS then keeps (slice_get instrs before) r else false

-- the first of the instructions that uses the register sets it without reading it
abbrev pub is_set_from : List (Option Instr) → ℕ → Bool
is_set_from [] r = false
is_set_from (i ∷ instrs) r = elim (use_of i r) [ does.Keeps ↦ is_set_from instrs r | does.Sets ↦ true | does.Reads ↦ false ]

abbrev pub register_source : List (Option Instr) → ℕ → ℕ → Source
register_source instrs r after = if is_kept_before instrs r after then source.Before
    else if is_set_from (drop after instrs) r then source.Base else source.Run

-- the same for any kind of fault
abbrev pub source_of : List (Option Instr) → FaultKind → ℕ → Source
source_of instrs (fault.Reg r v) after = register_source instrs r after
source_of instrs _ after = source.Run
