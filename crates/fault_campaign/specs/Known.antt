use Rattle.std.specs.Prelude.{◌≡◌, ℕ, ◌-◌, ◌<◌, ◌==◌, Bool, true, false, if◌then◌else◌, Option, Some, None, List, [], ◌∷◌, get_or}
use Rattle.campaign_defs.specs.Members.{IsBaseRun, Ran, alone}
use Rattle.campaign_defs.specs.Rows.{plan_row}
use Rattle.campaign_defs.specs.Types.{Row}
use Rattle.campaign_rows.specs.Shown.{IsShown}
use Rattle.campaign_rows.specs.declared.shown.Shown.{Shown}
use Rattle.fault_campaign.specs.NumberedRows.{IsRowFor}
use Rattle.fault_campaign.specs.declared.known.Known.{Known}
use Rattle.guard_defs.specs.Every.{put_at}
use Rattle.nook_data.specs.Types.{Fault, FaultKind, Instr}
use Rattle.plan_defs.specs.Types.{Plan}
use Rattle.register_points.specs.Found.{AreKnown}
use Rattle.register_points.specs.Sources.{source_of}
use Rattle.register_points.specs.declared.sources.Source.{Source}
use Rattle.register_points.specs.declared.sources.Source.TheVariants as source

-- What is known of the members of a burst before they are run.

-- the fault of a member that has only one
abbrev pub only_fault : List Fault → Option Fault
only_fault [] = None
only_fault (f ∷ []) = Some f
only_fault (f ∷ g ∷ faults) = None

-- where the row of the member with a fault comes from, by the instructions of a burst
abbrev pub source_alone : ℕ → List (Option Instr) → Option Fault → Source
source_alone burst instrs None = source.Run
source_alone burst instrs (Some f) = if f.burst == burst then source_of instrs f.kind f.after else source.Run

-- the same of the member with these faults
abbrev pub source_by : ℕ → List (Option Instr) → List Fault → Source
source_by burst instrs faults = source_alone burst instrs (only_fault faults)

-- both are the same single fault, the first before the instruction before that of the second
pub record IsBefore (earlier later : List Fault) : Type 0 where
  pub fault : Fault
  pub later_is : later ≡ alone fault
  pub earlier_is : earlier ≡ alone (put_at fault.burst (fault.after - 1) fault.kind)

-- the index is that of an earlier member with the same fault before the instruction before
pub record IsEarlier (lists : List (List Fault)) (index earlier : ℕ) : Type 0 where
  pub less : earlier < index
  pub before : IsBefore (get_or lists earlier []) (get_or lists index [])

-- the row is that of a member with the same fault before the instruction before
pub record IsRowBefore (plan : Plan) (shown : Shown) (faults : List Fault) (row : Row) : Type 0 where
  pub earlier : List Fault
  pub before : IsBefore earlier faults
  pub is_row : IsRowFor plan shown earlier row

-- the row of a fault's member is what its source says
abbrev pub IsSourceRow : Plan → Shown → Row → ℕ → FaultKind → ℕ → Source → Type 0
IsSourceRow plan shown base burst kind after source.Run = Unit {0}
IsSourceRow plan shown base burst kind after source.Base = IsRowFor plan shown (alone (put_at burst after kind)) base
IsSourceRow plan shown base burst kind after source.Before =
    (row : Row) → IsRowFor plan shown (alone (put_at burst (after - 1) kind)) row → IsRowFor plan shown (alone (put_at burst after kind)) row

-- what these instructions of a burst say of the members' rows is right, given the row of the base's run
abbrev pub AreRight : Plan → Shown → Row → ℕ → List (Option Instr) → Type 0
AreRight plan shown base burst instrs = (kind : FaultKind) (after : ℕ)
    → IsSourceRow plan shown base burst kind after (source_of instrs kind after)

-- what is known is right
abbrev pub IsRight : Plan → Shown → Known → Type 0
IsRight plan shown known = AreRight plan shown known.base.now known.burst known.instrs.now

-- the texts and the row are those of the base's run
pub record IsBaseSeen (plan : Plan) (shown : Shown) (row : Row) : Type 0 where
  pub ran : Ran
  pub is_base : IsBaseRun plan ran
  pub seen : IsShown ran shown
  pub row_is : row ≡ plan_row plan ran ran

-- without a guard the instructions say what is right of the members; with a guard there are none
pub record AreInstrsOf (plan : Plan) (burst : ℕ) (instrs : List (Option Instr)) : Type 0 where
  pub free : plan.guard ≡ false → AreKnown plan.base plan.part burst instrs
  pub guarded : plan.guard ≡ true → instrs ≡ []
