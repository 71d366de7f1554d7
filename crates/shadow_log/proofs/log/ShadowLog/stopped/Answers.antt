use Rattle.std.proofs.Common.{rules, ◌≡◌, map, filter, length, ap, ◌∙◌}
use Rattle.std.specs.Vec.{with_items}
use Rattle.std.proofs.lemmas.List.{with_items_is, length-map}
use Rattle.std.proofs.lemmas.Fn.{filter_same}
use Rattle.part_defs.specs.Log.{held_call}
use Rattle.shadow_log.specs.Stopped.{is_unanswered}
use Rattle.shadow_log.proofs.Changes.{numbered_stop, after_answers_is}
use Rattle.shadow_log.proofs.log.ShadowLog.stopped.Goals as goal

pub invariant_of-self : goal.invariant_of-self
invariant_of-self c =
    let e : c.hold_all.new.pending ≡ map held_call (filter (is_unanswered c.args.answers.now) c.self.inside.pending.items) =
    c.hold_all.ensures ∙ ap (λ z. map held_call z)
    (c.deref_mut.ensures.value ∙ filter_same _ (is_unanswered c.args.answers.now) _ (λ x b f' h. search rules) _ _ c.retain.ensures.filtered) in
    let k : (with_items c.retain.new.self c.hold_all.new.pending).items ≡ map held_call (filter (is_unanswered c.args.answers.now) c.self.inside.pending.items) =
    with_items_is c.retain.new.self c.hold_all.new.pending (ap length c.hold_all.ensures ∙ (length-map _ held_call ∙ c.deref_mut.ensures.len)) ∙ e in
    numbered_stop _ (is_unanswered c.args.answers.now) _ _ k c.self.invariant

pub returns : goal.returns
returns c =
    let e : c.hold_all.new.pending ≡ map held_call (filter (is_unanswered c.args.answers.now) c.self.inside.pending.items) =
    c.hold_all.ensures ∙ ap (λ z. map held_call z)
    (c.deref_mut.ensures.value ∙ filter_same _ (is_unanswered c.args.answers.now) _ (λ x b f' h. search rules) _ _ c.retain.ensures.filtered) in
    let k : (with_items c.retain.new.self c.hold_all.new.pending).items ≡ map held_call (filter (is_unanswered c.args.answers.now) c.self.inside.pending.items) =
    with_items_is c.retain.new.self c.hold_all.new.pending (ap length c.hold_all.ensures ∙ (length-map _ held_call ∙ c.deref_mut.ensures.len)) ∙ e in
    rw (← c.self.view_is) (record { log = after_answers_is _ c.args.answers.now _ k; rising = c.self.invariant })
