-- Threads without their answers: what decides which events may be taken.
use Rattle.std.specs.Prelude.{◌≡◌, ℕ, Option, Some, None, List, [], ◌∷◌, map}
use Rattle.event_order.specs.declared.callers.OpenCall.{OpenCall}
use Rattle.nook_data.specs.declared.calls.Op.{Op}
use Rattle.order_defs.specs.Taking.{Taking}
use Rattle.run_defs.specs.Simulation.{ThreadState, Waiting}

-- a thread without its answers
abbrev pub bare : ThreadState → ThreadState
bare t = record { rest = t.rest; waiting = t.waiting; answers = [] }

-- the events left, and the threads without their answers
abbrev pub bare_taking : Taking → Taking
bare_taking s = record { left = s.left; threads = map bare s.threads }

-- an open call, as the simulation represents it
abbrev pub waiting_for : Option OpenCall → Option Waiting
waiting_for None = None
waiting_for (Some w) = Some (record { part = w.part; call = w.call })

-- the thread has no open call, and its next operation is this one on the part
pub record IsNextHere (t : ThreadState) (part : ℕ) (op : Op) : Type 0 where
  pub free : t.waiting ≡ None
  pub more : List (ℕ × Op)
  pub next : t.rest ≡ (part, op) ∷ more
