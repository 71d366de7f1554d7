use Rattle.machine_defs.proofs.BurstClasses.{burst_keeps_class}
use Rattle.part_laws.proofs.devices.every_burst_keeps_the_class.Goals as goal

pub returns : goal.returns
returns c = burst_keeps_class
