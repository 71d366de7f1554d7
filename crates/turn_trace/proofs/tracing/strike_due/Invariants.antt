use Rattle.std.proofs.Common.{◌≡◌, length}
use Rattle.driver_isa.specs.Turns.{machine_of}
use Rattle.machine_defs.specs.Burst.{strikes_at}
use Rattle.nook_io.specs.Changes.{change}
use Rattle.report_text.proofs.WroteLemmas.{Progress}
use Rattle.turn_trace.proofs.Going.{strike_lines_at}
use Rattle.turn_trace.proofs.tracing.strike_due.Given as goal

abbrev pub invariant-loop-fault : goal.invariant-loop-fault
invariant-loop-fault g l = record {
  struck : strikes_at l.point (g.B.Bus.entries l.bus) l.rest (machine_of l.cpu (g.B.Bus.words l.bus) (g.B.Bus.device l.bus))
      ≡ strikes_at l.point (g.B.Bus.entries l.initial.bus) l.initial.rest
      (machine_of l.initial.cpu (g.B.Bus.words l.initial.bus) (g.B.Bus.device l.initial.bus));
  progress : Progress (change g.K.Sink.held g.K.Sink.count l.initial.sink l.sink)
      (strike_lines_at l.point (g.B.Bus.entries l.initial.bus) l.rest) (strike_lines_at l.point (g.B.Bus.entries l.initial.bus) l.initial.rest);
  entries : g.B.Bus.entries l.bus ≡ g.B.Bus.entries l.initial.bus;
  held : g.B.Bus.held l.bus ≡ g.B.Bus.held l.initial.bus;
}

abbrev pub decreases-loop-fault : goal.decreases-loop-fault
decreases-loop-fault g l = length l.rest
