use Rattle.std.specs.Prelude.{ℕ, codes}
use Rattle.run_defs.specs.Generated.{generated_part}
use Rattle.run_defs.specs.References.{sound_image}
use Rattle.nook_data.specs.Types.{Fault, PartSpec}
use Rattle.nook_data.specs.declared.classes.Class.TheVariants as class
use Rattle.nook_data.specs.declared.scenario.FaultKind.TheVariants as strikes

-- a trap in a burst, after 40 instructions
abbrev pub trap_at : ℕ → Fault
trap_at burst = record { burst = burst; after = 40; kind = strikes.Trap }

-- a sound part
abbrev pub generated_audio : PartSpec
generated_audio = generated_part (codes "audio") class.Sound sound_image
