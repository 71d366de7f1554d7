-- What the numbers of frames in a report mean for a part.
use Rattle.std.specs.Prelude.{◌≡◌, ◌-◌, ℕ, Bool, true, false, if◌then◌else◌, List, fold, length}
use Rattle.machine_defs.specs.Devices.{ring_of}
use Rattle.nook_data.specs.declared.scenario.PartSpec.{PartSpec}
use Rattle.nook_data.specs.declared.steps.Event.{Event}
use Rattle.nook_data.specs.declared.steps.Mode.{Mode}
use Rattle.nook_data.specs.declared.steps.Mode.TheVariants as mode
use Rattle.nook_data.specs.declared.steps.Stage.TheVariants as stage
use Rattle.part_defs.specs.Runs.{state_of}
use Rattle.promise_defs.specs.Contract.{Known, known_after, known_first}
use Rattle.promise_defs.specs.Losses.{losses}

-- the next stage is Load: the frames that the driver had were lost at the Reset before it
abbrev pub awaits_load : Mode → Bool
awaits_load (mode.Boot stage.Load) = true
awaits_load (mode.Recovering stage.Load) = true
awaits_load m = false

-- how many frames the driver holds: those popped since the last Load and not handed up
abbrev pub in_hands : Mode → Known → ℕ
in_hands m k = if awaits_load m then 0 else length k.popped - length k.handed

-- `queued` and `ring` are the lengths of the queue and of the ring, `driver` the number of frames that the driver holds
pub record ReportsLengths (spec : PartSpec) (journal : List Event) : Type 0 where
  pub queued : (losses journal).queued ≡ length (state_of spec journal).queue
  pub ring : (losses journal).ring ≡ length (ring_of (state_of spec journal).domain.device)
  pub driver : (losses journal).driver
      ≡ in_hands (state_of spec journal).mode (fold known_after (known_first spec.class spec.blocks) journal)
