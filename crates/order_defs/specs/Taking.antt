-- The orders in which the events of several journals can be taken, if each thread has at most one open operation.
use Rattle.std.specs.Prelude.{◌≡◌, ℕ, Some, None, List, [], ◌∷◌, map, slice_get, slice_index_or, slice_set}
use Rattle.std.specs.List.{AllByRecursion}
use Rattle.nook_data.specs.declared.calls.Op.{Op}
use Rattle.nook_data.specs.declared.scenario.ThreadSpec.{ThreadSpec}
use Rattle.nook_data.specs.declared.steps.Event.{Event}
use Rattle.nook_data.specs.declared.steps.Event.TheVariants as event
use Rattle.run_defs.specs.Simulation.{ThreadState, opening_thread, threads_after}

-- ---- one event

-- the events left of each part's journal, and the threads after the events that were taken
pub record Taking : Type 0 where
  pub left : List (List Event)
  pub threads : List ThreadState

-- nothing was taken
abbrev pub opening_taking : List ThreadSpec → List (List Event) → Taking
opening_taking threads journals = record { left = journals; threads = map opening_thread threads }

-- the thread has no open operation, and its next is this one on the part
pub record IsNextOf (threads : List ThreadState) (thread part : ℕ) (op : Op) : Type 0 where
  pub t : ThreadState
  pub more : List (ℕ × Op)
  pub at : slice_get threads thread ≡ Some t
  pub free : t.waiting ≡ None
  pub next : t.rest ≡ (part, op) ∷ more

-- an invocation may be taken if it is its thread's next, every other event at once
abbrev pub IsTimely : List ThreadState → ℕ → Event → Type 0
IsTimely threads part (event.Invoke call thread op answer) = IsNextOf threads thread part op
IsTimely threads part e = Unit {0}

-- the first event left of a part may be taken
pub record MayTake (s : Taking) (part : ℕ) : Type 0 where
  pub event : Event
  pub rest : List Event
  pub at : slice_get s.left part ≡ Some (event ∷ rest)
  pub timely : IsTimely s.threads part event

-- the state after that event
abbrev pub after_taking : Taking → ℕ → Event → List Event → Taking
after_taking s part e rest =
    record { left = slice_set s.left part rest; threads = threads_after 0 part e s.threads }

-- ---- an order

-- taking one event of each of these parts, one after another, leads from one state to another
abbrev pub Leads : Taking → List ℕ → Taking → Type 0
Leads s [] end = s ≡ end
Leads s (part ∷ order) end = (may : MayTake s part) × Leads (after_taking s part may.event may.rest) order end

-- no event may be taken
abbrev pub IsStuck : Taking → Type 0
IsStuck s = (part : ℕ) → MayTake s part → ⊥

-- the thread's operations were all invoked and answered
abbrev pub IsThrough : ThreadState → Type 0
IsThrough t = (t.rest ≡ []) × (t.waiting ≡ None)

-- every event was taken, and every operation was invoked and answered
pub record IsAllTaken (s : Taking) : Type 0 where
  pub none_left : (part : ℕ) → slice_index_or s.left part [] ≡ []
  pub through : AllByRecursion IsThrough s.threads
