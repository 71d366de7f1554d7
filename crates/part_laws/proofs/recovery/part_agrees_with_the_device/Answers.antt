use Rattle.part_laws.proofs.ReadAloud.{kept_agrees}
use Rattle.part_laws.proofs.recovery.part_agrees_with_the_device.Goals as goal

pub returns : goal.returns
returns c = kept_agrees
