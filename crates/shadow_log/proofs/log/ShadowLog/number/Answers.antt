use Rattle.shadow_log.proofs.Numbers.{numbered_more}
use Rattle.shadow_log.proofs.log.ShadowLog.number.Goals as goal

pub invariant_of-self : goal.invariant_of-self
invariant_of-self c = numbered_more 0 _ _ c.self.invariant
