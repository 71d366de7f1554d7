use Rattle.machine_defs.proofs.DeviceClasses.{input_keeps_class, output_keeps_class}
use Rattle.device_models.proofs.laws.ports_keep_the_class.Goals as goal

pub returns-clause-input : goal.returns-clause-input
returns-clause-input c = input_keeps_class

pub returns-clause-output : goal.returns-clause-output
returns-clause-output c = output_keeps_class
