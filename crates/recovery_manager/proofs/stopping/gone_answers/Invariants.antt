use Rattle.std.proofs.Common.{◌≡◌, ◌++◌, ◌≤◌, length, drop, vec_capacity}
use Rattle.part_defs.specs.Log.{gone_answers}
use Rattle.recovery_manager.proofs.stopping.gone_answers.Given as goal

abbrev pub invariant-loop-i : goal.invariant-loop-i
invariant-loop-i l =
    (l.answers.items ++ gone_answers l.failures (drop l.i l.log.pending) ≡ gone_answers l.failures l.log.pending)
    × (length l.answers.items ≤ l.i)
    × (length l.log.pending ≤ vec_capacity l.answers)
