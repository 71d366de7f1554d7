use Rattle.std.proofs.Common.{◌≡◌, ◌-◌, ◌<◌, length}
use Rattle.driver_isa.specs.Turns.{machine_of}
use Rattle.guard_defs.specs.Turns.{turns_before, turns_to}
use Rattle.guard_point.proofs.walking.turns_before.Given as goal

abbrev pub invariant-loop-turns : goal.invariant-loop-turns
invariant-loop-turns g l = record {
  left : turns_to l.index (4096 - l.turns) (g.B.Bus.entries l.initial.bus) l.pending
      (machine_of l.cpu (g.B.Bus.words l.bus) (g.B.Bus.device l.bus)) l.acts
      ≡ turns_before l.index (g.B.Bus.entries l.initial.bus) l.initial.pending
      (machine_of l.initial.cpu (g.B.Bus.words l.initial.bus) (g.B.Bus.device l.initial.bus));
  few : length l.acts < 64;
  same : g.B.Bus.entries l.bus ≡ g.B.Bus.entries l.initial.bus;
}
