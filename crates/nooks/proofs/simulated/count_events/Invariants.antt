use Rattle.std.proofs.Common.{◌≡◌, ◌+◌, drop, map}
use Rattle.run_defs.specs.Simulation.{events_count}
use Rattle.run_results.specs.Journals.{events_in}
use Rattle.nooks.proofs.simulated.count_events.Given as goal

abbrev pub invariant-loop-journal : goal.invariant-loop-journal
invariant-loop-journal l = l.count + events_count (map events_in (drop l.journal-index l.journals)) ≡ events_count (map events_in l.journals)
