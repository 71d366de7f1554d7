use Rattle.std.proofs.Common.{◌≡◌, map}
use Rattle.run_defs.specs.Simulation.{journal_of}
use Rattle.run_results.specs.Journals.{events_in}
use Rattle.sim_run.proofs.simulating.take_journals.Given as goal

abbrev pub invariant-loop-seat : goal.invariant-loop-seat
invariant-loop-seat l = map events_in l.made ≡ map journal_of l.yielded
