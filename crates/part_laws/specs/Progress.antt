use Rattle.std.specs.Prelude.{◌≡◌, ℕ, true, false, None, Some, []}
use Rattle.nook_data.specs.declared.steps.Step.{Step}
use Rattle.nook_data.specs.declared.steps.Step.TheVariants as step
use Rattle.part_defs.specs.Runs.{next_any}
use Rattle.part_defs.specs.State.{PartState}
use Rattle.part_defs.specs.Steps.{enabled}

-- When only an invocation or a frame from outside can still happen in a part.

-- no call is open, and no stage, entry or burst may be taken
pub record IsStill (p : PartState) : Type 0 where
  pub calls : p.log.pending ≡ []
  pub stage : enabled p step.Stage ≡ false
  pub enter : (thread : ℕ) → enabled p (step.Enter thread) ≡ false
  pub burst : (context : ℕ) → enabled p (step.Burst context) ≡ false

-- the next step may be taken, if there is one; if there is none, the part is still
pub record HasProgress (p : PartState) : Type 0 where
  pub enabled : (s : Step) → next_any p ≡ Some s → enabled p s ≡ true
  pub still : next_any p ≡ None → IsStill p
