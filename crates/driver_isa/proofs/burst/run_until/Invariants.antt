use Rattle.std.proofs.Common.{◌≡◌, ◌<◌, ◌≤◌, ◌-◌, ℕ, List, None, false, length}
use Rattle.driver_isa.specs.Runs.{is_due, past_run}
use Rattle.driver_isa.specs.Steps.{cpu_of}
use Rattle.driver_isa.specs.Turns.{machine_of}
use Rattle.machine_defs.specs.Burst.{burst_from}
use Rattle.nook_data.specs.declared.scenario.Fault.{Fault}
use Rattle.driver_isa.proofs.burst.run_until.Given as goal

abbrev pub invariant-loop-run : goal.invariant-loop-run
invariant-loop-run g l = record {
  went : (pending : List Fault) → ((k : ℕ) → l.before ≤ k → k < l.stop → is_due k pending ≡ false)
      → burst_from (4096 - l.before) (g.B.Bus.entries l.initial.bus) pending
      (machine_of (cpu_of l.first l.initial.registers) (g.B.Bus.words l.initial.bus) (g.B.Bus.device l.initial.bus)) l.initial.acts
      ≡ past_run l.run.count (g.B.Bus.entries l.bus) pending
      (machine_of (cpu_of l.run.counter l.registers) (g.B.Bus.words l.bus) (g.B.Bus.device l.bus)) l.acts l.run.end;
  room : l.run.end ≡ None → length l.acts < 64;
  begun : l.run.count ≡ l.before → l.run.end ≡ None;
  further : l.before ≤ l.run.count;
  within : l.run.count ≤ l.stop;
  entries : g.B.Bus.entries l.bus ≡ g.B.Bus.entries l.initial.bus;
  held : g.B.Bus.held l.bus ≡ g.B.Bus.held l.initial.bus;
}

abbrev pub decreases-loop-run : goal.decreases-loop-run
decreases-loop-run g l = l.stop - l.run.count
