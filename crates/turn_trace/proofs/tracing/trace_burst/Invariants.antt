use Rattle.std.proofs.Common.{◌≡◌, ◌<◌, ◌-◌}
use Rattle.driver_isa.specs.Turns.{machine_of}
use Rattle.nook_io.specs.Changes.{change}
use Rattle.turn_trace.specs.Bursts.{burst_trace, trace_from}
use Rattle.turn_trace.proofs.Going.{Remains}
use Rattle.turn_trace.proofs.tracing.trace_burst.Given as goal

abbrev pub invariant-loop-point : goal.invariant-loop-point
invariant-loop-point g l = record {
  remains : Remains (g.B.Bus.entries l.initial.bus) (change g.K.Sink.held g.K.Sink.count l.initial.sink l.sink)
      (trace_from (4096 - l.point) (g.B.Bus.entries l.initial.bus) l.pending
      (machine_of l.cpu (g.B.Bus.words l.bus) (g.B.Bus.device l.bus)) l.acts)
      (burst_trace (g.B.Bus.entries l.initial.bus) l.initial.pending
      (machine_of l.initial.cpu (g.B.Bus.words l.initial.bus) (g.B.Bus.device l.initial.bus)));
  few : l.acts < 64;
  same : g.B.Bus.entries l.bus ≡ g.B.Bus.entries l.initial.bus;
}
