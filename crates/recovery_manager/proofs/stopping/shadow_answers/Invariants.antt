use Rattle.std.proofs.Common.{◌≡◌, ◌++◌, ◌≤◌, length, drop, vec_capacity}
use Rattle.part_defs.specs.Log.{stop_answers, stop_queue}
use Rattle.recovery_manager.proofs.stopping.shadow_answers.Given as goal

abbrev pub invariant-loop-i : goal.invariant-loop-i
invariant-loop-i g l =
    (l.answers.items ++ stop_answers (drop l.i l.log.pending) l.log.config l.log.holder (g.Q.RxFront.frames l.queue)
    ≡ stop_answers l.log.pending l.log.config l.log.holder (g.Q.RxFront.frames l.initial.queue))
    × (stop_queue (drop l.i l.log.pending) (g.Q.RxFront.frames l.queue) ≡ stop_queue l.log.pending (g.Q.RxFront.frames l.initial.queue))
    × (length l.answers.items ≤ l.i)
    × (length l.log.pending ≤ vec_capacity l.answers)
