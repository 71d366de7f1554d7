-- The types of the code's data, re-exported so that the definitions import them from one module.
use Rattle.nook_data.specs.declared
pub use declared.machine.{Form.Form, Mnemonic.Mnemonic, Act.Act, BadParam.BadParam, BurstEnd.BurstEnd, Context.Context}
pub use declared.machine.{Cpu.Cpu, Instr.Instr, Service.Service, TrapCause.TrapCause}
pub use declared.calls.{Answer.Answer, CallEntry.CallEntry, Op.Op, OpName.OpName}
pub use declared.campaign.{Campaign.Campaign, MemberRow.MemberRow}
pub use declared.classes.{Accept.Accept, Admit.Admit, Class.Class}
pub use declared.clause.{Clause.Clause}
pub use declared.devices.{DeviceKind.DeviceKind, DeviceState.DeviceState, Disk.Disk, Link.Link}
pub use declared.entries.{Entry.Entry}
pub use declared.scenario.{BadBlock.BadBlock, Fault.Fault, FaultKind.FaultKind, FaultName.FaultName, Image.Image}
pub use declared.scenario.{PartSpec.PartSpec, Scenario.Scenario, ScheduleSpec.ScheduleSpec, ThreadSpec.ThreadSpec}
pub use declared.steps.{End.End, Event.Event, FailCause.FailCause, Mode.Mode, Stage.Stage, Step.Step}
pub use declared.verdicts.{Break.Break, Losses.Losses}
