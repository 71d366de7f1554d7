use Rattle.part_laws.proofs.DeviceStays.{device_after, spec_after}
use Rattle.part_laws.proofs.devices.each_step_keeps_the_class.Goals as goal

pub returns : goal.returns
returns c = record { device = device_after; spec = spec_after }
