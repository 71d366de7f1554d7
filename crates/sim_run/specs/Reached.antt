use Rattle.std.specs.Prelude.{◌≡◌, true, Option, Some, None, List, [], ◌∷◌, slice_get}
use Rattle.nook_data.specs.declared.scenario.PartSpec.{PartSpec}
use Rattle.nook_data.specs.declared.steps.Step.{Step}
use Rattle.part_defs.specs.Runs.{IsRun, state_of}
use Rattle.run_defs.specs.Simulation.{Choice, RunningPart}
use Rattle.part_defs.specs.Steps.{enabled}

-- Properties of each simulation that a scenario's run reaches.

-- the part's journal is a run of the spec, and the part is in the state that it leads to
pub record IsSeatOf (spec : PartSpec) (seat : RunningPart) : Type 0 where
  pub run : IsRun spec seat.run.journal
  pub state : seat.run.state ≡ state_of spec seat.run.journal

-- there is one such part for each spec
abbrev pub AreSeatsOf : List PartSpec → List RunningPart → Type 0
AreSeatsOf [] [] = Unit {0}
AreSeatsOf [] (seat ∷ seats) = ⊥
AreSeatsOf (spec ∷ specs) [] = ⊥
AreSeatsOf (spec ∷ specs) (seat ∷ seats) = IsSeatOf spec seat × AreSeatsOf specs seats

-- the part exists and may take the step
abbrev pub MayTake : Option RunningPart → Step → Type 0
MayTake None s = ⊥
MayTake (Some seat) s = enabled seat.run.state s ≡ true

-- the choice's part exists and may take its step
abbrev pub IsOpenChoice : List RunningPart → Choice → Type 0
IsOpenChoice parts c = MayTake (slice_get parts c.part) c.step
