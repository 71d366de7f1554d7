use Rattle.std.specs.Prelude.{◌≡◌, ◌+◌, true, false, Result, Ok, Err, List, length}
use Rattle.nook_data.specs.declared.steps.Event.{Event}
use Rattle.nook_data.specs.declared.steps.Step.{Step}
use Rattle.nook_data.specs.declared.memory.NoMemory.{NoMemory}
use Rattle.part_defs.specs.Calls.{Stepped}
use Rattle.part_defs.specs.Runs.{PartRun, run_after}
use Rattle.part_defs.specs.State.{PartState}
use Rattle.part_defs.specs.Steps.{enabled}
use Rattle.part_core.specs.declared.part.StepDone.{StepDone}
use Rattle.part_core.specs.declared.part.StepRefused.{StepRefused}
use Rattle.part_core.specs.declared.part.StepRefused.TheVariants as refused

-- How a method's result relates to the definition of its step.

-- a part and an event as one value
abbrev pub stepped_to : PartState → Event → Stepped
stepped_to p e = record { state = p; event = e }

-- the step was taken as defined, or nothing was changed
abbrev pub IsStepOf : Stepped → PartState → Result Event NoMemory → PartState → Type 0
IsStepOf t p (Ok e) q = t ≡ stepped_to q e
IsStepOf t p (Err x) q = q ≡ p

-- a step of a part: it is refused exactly if it may not be taken; otherwise the part is as the definition says, and the
-- journal has one more event, whose number is returned; running out of memory changes nothing
abbrev pub IsStepped : PartRun → Step → Result StepDone StepRefused → PartRun → Type 0
IsStepped r s (Ok done) q =
    (enabled r.state s ≡ true) × (q ≡ run_after r s) × (done.number ≡ length q.journal)
IsStepped r s (Err refused.NotEnabled) q = (enabled r.state s ≡ false) × (q ≡ r)
IsStepped r s (Err refused.NoMemory) q = (enabled r.state s ≡ true) × (q ≡ r)
