use Rattle.std.proofs.Common.{◌≡◌, length}
use Rattle.driver_isa.specs.Steps.{cpu_of}
use Rattle.driver_isa.specs.Turns.{machine_of}
use Rattle.machine_defs.specs.Burst.{strikes_at}
use Rattle.driver_isa.proofs.faults.strike_front.Given as goal

abbrev pub invariant-loop-rest : goal.invariant-loop-rest
invariant-loop-rest g l =
    (strikes_at l.point (g.B.Bus.entries l.bus) l.rest (machine_of (cpu_of l.counter l.registers) (g.B.Bus.words l.bus) (g.B.Bus.device l.bus))
    ≡ strikes_at l.point (g.B.Bus.entries l.initial.bus) l.initial.rest
    (machine_of (cpu_of l.counter l.initial.registers) (g.B.Bus.words l.initial.bus) (g.B.Bus.device l.initial.bus)))
    × (g.B.Bus.entries l.bus ≡ g.B.Bus.entries l.initial.bus)
    × (g.B.Bus.held l.bus ≡ g.B.Bus.held l.initial.bus)

abbrev pub decreases-loop-rest : goal.decreases-loop-rest
decreases-loop-rest g l = length l.rest
