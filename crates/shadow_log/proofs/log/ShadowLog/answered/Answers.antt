use Rattle.std.proofs.Common.{rules, not}
use Rattle.std.proofs.lemmas.Fn.{filter_same}
use Rattle.part_defs.specs.Log.{is_call}
use Rattle.shadow_log.proofs.Numbers.{numbered_filter}
use Rattle.shadow_log.proofs.Changes.{answered_is}
use Rattle.shadow_log.proofs.log.ShadowLog.answered.Goals as goal

pub invariant_of-self : goal.invariant_of-self
invariant_of-self c =
    rw (filter_same _ (λ x. not (is_call c.args.call x)) _ (λ x b f' h. search rules) _ _ c.retain.ensures.filtered)
    (numbered_filter 0 _ _ _ c.self.invariant)

pub returns : goal.returns
returns c = rw (← c.self.view_is) (answered_is _ c.args.call _
    (filter_same _ (λ x. not (is_call c.args.call x)) _ (λ x b f' h. search rules) _ _ c.retain.ensures.filtered))
