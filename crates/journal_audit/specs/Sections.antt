-- A thread on one part, as the audit keeps it, and the effect of an event's line on a section.
use Rattle.std.specs.Prelude.{◌≡◌, ℕ, ◌-◌, ◌==◌, Bool, true, false, List, [], ◌∷◌, Option, Some, None, All, length}
use Rattle.std.specs.Prelude.{slice_get}
use Rattle.run_laws.specs.Audit.{Section}
use Rattle.run_defs.specs.Simulation.{ThreadState, Waiting, part_after}
use Rattle.part_defs.specs.Steps.{enabled}
use Rattle.nook_data.specs.declared.steps.Event.{Event}
use Rattle.nook_data.specs.declared.calls.Op.{Op}
use Rattle.nook_data.specs.declared.steps.Step.{Step}

-- a thread, and the part of its operations
pub record OnPart : Type 0 where
  pub part : ℕ
  pub state : ThreadState

abbrev pub with_state : OnPart → ThreadState → OnPart
with_state t state = record { part = t.part; state = state }

abbrev pub state_in : OnPart → ThreadState
state_in t = t.state

-- each thread's part is this one
abbrev pub AreOn : ℕ → List OnPart → Type 0
AreOn part threads = All (λ t. t.part ≡ part) threads

-- the open call of a part, from its number, if there is one
abbrev pub waiting_on : ℕ → Option ℕ → Option Waiting
waiting_on part None = None
waiting_on part (Some call) = Some (record { part = part; call = call })

-- the first of some operations, if there is one, is on the part
abbrev pub is_at : ℕ → List (ℕ × Op) → Bool
is_at part [] = true
is_at part (o ∷ ops) = o.0 == part

-- the newest event of a journal
abbrev pub newest_in : List Event → Option Event
newest_in journal = slice_get journal (length journal - 1)

abbrev pub with_threads : Section → List ThreadState → Section
with_threads s threads = record s { threads = threads }

-- a step was taken, or may not be taken
abbrev pub IsTaken : Bool → Section → Step → Section → Type 0
IsTaken true s step t = (enabled s.seat.run.state step ≡ true) × (t ≡ record s { seat = part_after step s.seat })
IsTaken false s step t = enabled s.seat.run.state step ≡ false

-- a line fits, and this is the section after it, or it does not fit
abbrev pub IsAfter : Bool → Option Section → Section → Type 0
IsAfter true after s = after ≡ Some s
IsAfter false after s = after ≡ None
