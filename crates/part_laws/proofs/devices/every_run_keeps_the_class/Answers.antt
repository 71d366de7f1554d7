use Rattle.part_laws.proofs.DeviceStays.{run_device, run_spec}
use Rattle.part_laws.proofs.devices.every_run_keeps_the_class.Goals as goal

pub returns : goal.returns
returns c = record { device = run_device; spec = run_spec }
