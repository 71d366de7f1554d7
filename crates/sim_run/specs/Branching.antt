use Rattle.std.specs.Prelude.{◌≡◌, ℕ, List, map}
use Rattle.part_defs.specs.Runs.{PartRun}
use Rattle.part_defs.specs.State.{PartState}
use Rattle.run_defs.specs.Simulation.{RunningPart, Simulation}

-- How branching simulations are compared.

-- a part without its journal, and the frames that have not arrived
pub record SeatNow : Type 0 where
  pub state : PartState
  pub coming : List (List ℕ)

abbrev pub seat_now : RunningPart → SeatNow
seat_now seat = record { state = seat.run.state; coming = seat.coming }

-- the parts of two simulations are in the same states with the same frames to come, and the threads are the same
pub record AreStatesAlike (s t : Simulation) : Type 0 where
  pub parts : map seat_now s.parts ≡ map seat_now t.parts
  pub threads : s.threads ≡ t.threads

-- the part and its journal
abbrev pub run_of : RunningPart → PartRun
run_of seat = seat.run
