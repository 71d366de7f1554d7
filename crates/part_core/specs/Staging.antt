use Rattle.std.specs.Prelude.{◌≡◌, ◌≤◌, true, false, length}
use Rattle.std.specs.List.{list_any}
use Rattle.nook_data.specs.declared.steps.Stage.{Stage}
use Rattle.nook_data.specs.Classes.{defaults_of}
use Rattle.machine_defs.specs.Entries.{is_buffer_of}
use Rattle.part_defs.specs.State.{PartState}
use Rattle.nook_data.specs.declared.limits.TheConstants.{SHADOW}
use Rattle.nook_data.specs.declared.memory_map.TheConstants.{DATA_WORDS, TEXT_WORDS}
use Rattle.part_laws.specs.Tied.{is_driving_stage}

-- what a stage may rely on: the log has the class's defaults, the image fits, and the shadow's buffer is not lent if
-- the shadow's context is to enter
pub record IsReady (s : Stage) (p : PartState) : Type 0 where
  pub defaults : p.log.defaults ≡ defaults_of p.spec.class
  pub text : length p.spec.image.text ≤ TEXT_WORDS
  pub initial : length p.spec.image.initial ≤ DATA_WORDS
  pub free : is_driving_stage s ≡ true → list_any (is_buffer_of SHADOW) p.domain.entries ≡ false
