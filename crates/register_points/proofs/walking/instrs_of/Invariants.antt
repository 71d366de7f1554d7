use Rattle.std.proofs.Common.{◌≡◌, ◌-◌, ◌<◌, ◌++◌, [], length}
use Rattle.driver_isa.specs.Turns.{machine_of}
use Rattle.register_laws.specs.Uses.{instrs_from}
use Rattle.register_points.proofs.walking.instrs_of.Given as goal

abbrev pub invariant-loop-turn : goal.invariant-loop-turn
invariant-loop-turn g l = record {
  left : l.instrs ++ instrs_from (4096 - l._turn) (g.B.Bus.entries l.initial.bus)
      (machine_of l.cpu (g.B.Bus.words l.bus) (g.B.Bus.device l.bus)) l.acts
      ≡ instrs_from 4096 (g.B.Bus.entries l.initial.bus)
      (machine_of l.initial.cpu (g.B.Bus.words l.initial.bus) (g.B.Bus.device l.initial.bus)) [];
  few : length l.acts < 64;
  same : g.B.Bus.entries l.bus ≡ g.B.Bus.entries l.initial.bus;
}
