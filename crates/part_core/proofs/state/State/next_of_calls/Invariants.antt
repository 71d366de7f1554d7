use Rattle.std.proofs.Common.{◌≡◌, drop}
use Rattle.part_defs.specs.Runs.{next_of_calls}
use Rattle.part_core.proofs.state.State.next_of_calls.Given as goal

abbrev pub invariant-loop-entry : goal.invariant-loop-entry
invariant-loop-entry l = (l.entry-items ≡ l.self.log.pending)
    × (next_of_calls l.self (drop l.entry-index l.self.log.pending) ≡ next_of_calls l.self l.self.log.pending)
