use Rattle.std.proofs.Common.{◌≡◌, ◌<◌, ◌≤◌, ◌-◌, length}
use Rattle.driver_isa.specs.Steps.{cpu_of}
use Rattle.driver_isa.specs.Turns.{machine_of}
use Rattle.machine_defs.specs.Burst.{burst_from}
use Rattle.driver_isa.proofs.burst.run_turns.Given as goal

abbrev pub invariant-loop-count : goal.invariant-loop-count
invariant-loop-count g l =
    (burst_from (4096 - l.count) (g.B.Bus.entries l.bus) l.pending
    (machine_of (cpu_of l.counter l.registers) (g.B.Bus.words l.bus) (g.B.Bus.device l.bus)) l.acts
    ≡ burst_from 4096 (g.B.Bus.entries l.initial.bus) l.initial.pending
    (machine_of (cpu_of l.initial.counter l.initial.registers) (g.B.Bus.words l.initial.bus) (g.B.Bus.device l.initial.bus)) l.initial.acts)
    × (l.count ≤ 4096)
    × (length l.acts < 64)
    × (g.B.Bus.entries l.bus ≡ g.B.Bus.entries l.initial.bus)
    × (g.B.Bus.held l.bus ≡ g.B.Bus.held l.initial.bus)

abbrev pub decreases-loop-count : goal.decreases-loop-count
decreases-loop-count g l = 4096 - l.count
