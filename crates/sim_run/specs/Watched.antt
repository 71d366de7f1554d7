use Rattle.std.specs.Prelude.{◌≡◌, Bool, false, is_some, Option, Some, None, List, [], ◌∷◌, ◌++◌}
use Rattle.nook_data.specs.Types.{Break, Event}
use Rattle.contract_monitor.specs.Monitors.{Monitored, Represents}
use Rattle.guard_defs.specs.GuardedRuns.{spec_of}
use Rattle.promise_defs.specs.Contract.{first_break}
use Rattle.run_defs.specs.Simulation.{RunningPart}

-- Monitors of the parts of a run, during the search for its first break.

-- the first break of a part's journal
abbrev pub first_break_of : RunningPart → Option Break
first_break_of seat = first_break (spec_of seat).class (spec_of seat).blocks seat.run.journal

-- the part exists and has broken a clause
abbrev pub has_broken_at : Option RunningPart → Bool
has_broken_at None = false
has_broken_at (Some seat) = is_some (first_break_of seat)

-- a monitor has seen a part's journal
abbrev pub HasSeen : RunningPart → Monitored → Type 0
HasSeen seat m = Represents (spec_of seat).class (spec_of seat).blocks seat.run.journal m

-- a monitor has seen the journal of a part that exists
abbrev pub HasSeenAt : Option RunningPart → Monitored → Type 0
HasSeenAt None m = ⊥
HasSeenAt (Some seat) m = HasSeen seat m

-- each part has a monitor that has seen its journal
abbrev pub HaveSeen : List RunningPart → List Monitored → Type 0
HaveSeen [] [] = Unit {0}
HaveSeen [] (m ∷ monitors) = ⊥
HaveSeen (seat ∷ seats) [] = ⊥
HaveSeen (seat ∷ seats) (m ∷ monitors) = HasSeen seat m × HaveSeen seats monitors

-- a monitor has seen a part's journal except for the newest event
pub record IsOneAfter (seat : RunningPart) (m : Monitored) : Type 0 where
  pub front : List Event
  pub newest : Event
  pub journal : seat.run.journal ≡ front ++ newest ∷ []
  pub seen : Represents (spec_of seat).class (spec_of seat).blocks front m

-- the same for a part that exists
abbrev pub IsOneAfterAt : Option RunningPart → Monitored → Type 0
IsOneAfterAt None m = ⊥
IsOneAfterAt (Some seat) m = IsOneAfter seat m
