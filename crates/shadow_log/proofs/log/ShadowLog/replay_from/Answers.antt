use Rattle.std.proofs.Common.{sym, ◌∙◌}
use Rattle.shadow_log.proofs.Replays.{passed_by}
use Rattle.shadow_log.proofs.log.ShadowLog.replay_from.Goals as goal

pub loop-key-preserved : goal.loop-key-preserved
loop-key-preserved c =
    sym (passed_by c.loop-key.key _ _ _ c.loop-key-test.true (rw (← c.self.view_is) c.if-value-self.false)) ∙ c.loop-key.invariant
