use Rattle.std.proofs.Common.{◌≡◌, ◌<◌, ◌≤◌, ◌-◌, ℕ, List, false, length}
use Rattle.driver_isa.specs.Runs.{is_due}
use Rattle.driver_isa.specs.Steps.{cpu_of}
use Rattle.driver_isa.specs.Turns.{machine_of}
use Rattle.machine_defs.specs.Burst.{burst_from}
use Rattle.nook_data.specs.declared.machine.Act.{Act}
use Rattle.nook_data.specs.declared.scenario.Fault.{Fault}
use Rattle.driver_isa.proofs.burst.run_computed.Given as goal

abbrev pub invariant-loop-left : goal.invariant-loop-left
invariant-loop-left g l = record {
  went : (stop : ℕ) (pending : List Fault) (acts : List Act) → l.most ≤ stop → stop ≤ 4096 → length acts < 64
      → ((k : ℕ) → stop - l.most ≤ k → k < stop → is_due k pending ≡ false)
      → burst_from (4096 - (stop - l.left)) (g.B.Bus.entries l.bus) pending
      (machine_of (cpu_of l.at l.registers) (g.B.Bus.words l.bus) (g.B.Bus.device l.bus)) acts
      ≡ burst_from (4096 - (stop - l.most)) (g.B.Bus.entries l.bus) pending
      (machine_of (cpu_of l.first l.initial.registers) (g.B.Bus.words l.bus) (g.B.Bus.device l.bus)) acts;
  left : l.left ≤ l.most;
  inside : l.at ≤ 2048;
}

abbrev pub decreases-loop-left : goal.decreases-loop-left
decreases-loop-left g l = l.left
