use Rattle.std.proofs.Common.{refl}
use Rattle.shadow_log.proofs.Numbers.{numbered_push}
use Rattle.shadow_log.proofs.log.ShadowLog.invoke.Goals as goal

pub invariant_of-self-2 : goal.invariant_of-self-2
invariant_of-self-2 c = rw c.in_ok-push.ensures.items (numbered_push 0 _ _ _ c.self.invariant refl)
