use Rattle.std.specs.Prelude.{◌≡◌, ◌≤◌, ◌<◌, ℕ, Some, slice_get}
use Rattle.nook_data.specs.Members.{struck}
use Rattle.nook_data.specs.Types.{Fault, PartSpec, Scenario}
use Rattle.guard_defs.specs.Guard.{guard}
use Rattle.guard_defs.specs.FirstBreaks.{NoneBreaks, picked_choice}
use Rattle.guard_defs.specs.GuardedRuns.{guarded_runs, known_of}
use Rattle.run_defs.specs.Simulation.{Choice, RunningPart, begins, runs}
use Rattle.front_laws.specs.Owned.{owned, struck_at}

-- The first trap of a scenario's guarded run.

-- no part breaks a clause in this number of steps of the scheduled run; in the next step the part at the index would,
-- and this is the guard's trap
pub record IsFirstTrap (scenario : Scenario) (index : ℕ) (f : Fault) (steps : ℕ) : Type 0 where
  pub spec : PartSpec
  pub there : slice_get scenario.parts index ≡ Some spec
  pub kept : NoneBreaks (runs steps (begins scenario))
  pub choice : Choice
  pub picks : picked_choice (runs steps (begins scenario)) ≡ Some choice
  pub part : choice.part ≡ index
  pub seat : RunningPart
  pub at : slice_get (runs steps (begins scenario)).parts index ≡ Some seat
  pub trap : guard seat.run.state (known_of seat) choice.step ≡ Some f

-- up to that step the guarded run is the scheduled run, which does not change if the part has the fault from the start;
-- after that step the guarded run is the one in which the part has it from the start
pub record IsPutFirst (scenario : Scenario) (index : ℕ) (f : Fault) (steps : ℕ) : Type 0 where
  pub alike : (n : ℕ) → n ≤ steps → guarded_runs n (begins scenario) ≡ runs n (begins scenario)
  pub before : (n : ℕ) → n ≤ steps → guarded_runs n (begins (struck scenario index f))
      ≡ owned (struck_at index f) (guarded_runs n (begins scenario))
  pub after : (n : ℕ) → steps < n
      → guarded_runs n (begins (struck scenario index f)) ≡ guarded_runs n (begins scenario)
