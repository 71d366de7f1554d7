use Rattle.std.proofs.Common.{◌≡◌, map}
use Rattle.journal_audit.specs.Sections.{state_in}
use Rattle.run_defs.specs.Simulation.{answers_of_thread}
use Rattle.journal_audit.proofs.section.answers_of_each.Given as goal

abbrev pub invariant-loop-thread : goal.invariant-loop-thread
invariant-loop-thread l = l.made ≡ map answers_of_thread (map state_in l.yielded)
