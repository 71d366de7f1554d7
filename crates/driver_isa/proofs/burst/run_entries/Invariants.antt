use Rattle.std.proofs.Common.{◌≡◌, ◌<◌, ◌≤◌, ◌-◌, ℕ, List, false, length}
use Rattle.driver_isa.specs.Runs.{is_due}
use Rattle.driver_isa.specs.Steps.{cpu_of}
use Rattle.driver_isa.specs.Turns.{machine_of}
use Rattle.machine_defs.specs.Burst.{burst_from}
use Rattle.nook_data.specs.declared.scenario.Fault.{Fault}
use Rattle.driver_isa.proofs.burst.run_entries.Given as goal

abbrev pub invariant-loop-left : goal.invariant-loop-left
invariant-loop-left g l = record {
  went : (pending : List Fault) → ((k : ℕ) → l.before ≤ k → k < l.stop → is_due k pending ≡ false)
      → burst_from (4096 - (l.stop - l.left)) (g.B.Bus.entries l.bus) pending
      (machine_of (cpu_of l.at l.registers) (g.B.Bus.words l.bus) (g.B.Bus.device l.bus)) l.acts
      ≡ burst_from (4096 - l.before) (g.B.Bus.entries l.initial.bus) pending
      (machine_of (cpu_of l.first l.initial.registers) (g.B.Bus.words l.initial.bus) (g.B.Bus.device l.initial.bus)) l.initial.acts;
  room : length l.acts < 64;
  left : l.left ≤ l.stop - l.before;
  inside : l.at ≤ 2048;
  entries : g.B.Bus.entries l.bus ≡ g.B.Bus.entries l.initial.bus;
  held : g.B.Bus.held l.bus ≡ g.B.Bus.held l.initial.bus;
}

abbrev pub decreases-loop-left : goal.decreases-loop-left
decreases-loop-left g l = l.left
