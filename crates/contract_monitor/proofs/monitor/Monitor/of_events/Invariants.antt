use Rattle.std.proofs.Common.{take}
use Rattle.contract_monitor.specs.Monitors.{Represents}
use Rattle.contract_monitor.proofs.monitor.Monitor.of_events.Given as goal

abbrev pub invariant-loop-event : goal.invariant-loop-event
invariant-loop-event l = Represents l.fn.class l.fn.blocks (take l.event-index l.events) l.monitor
