use Rattle.std.proofs.Common.{refl}
use Rattle.part_defs.proofs.PartCases.{entered_call}
use Rattle.shadow_log.specs.Indices.{IsPosition}
use Rattle.shadow_log.proofs.Numbers.{numbered_set}
use Rattle.shadow_log.proofs.Changes.{entered_at, entered_nowhere}
use Rattle.shadow_log.proofs.log.ShadowLog.entered.Goals as goal

pub invariant_of-self : goal.invariant_of-self
invariant_of-self c =
    let p : IsPosition c.args.call c.in-Some.index c.self.inside.pending.items = rw (← c.deref.ensures.value) c.in-Some.ensures in
    numbered_set c.args.call _ entered_call _ _ c.index_mut-entry.result.now (λ x. refl) c.self.invariant p c.index_mut-entry.ensures.value

pub returns-in-Some : goal.returns-in-Some
returns-in-Some c =
    let p : IsPosition c.args.call c.in-Some.index c.self.inside.pending.items = rw (← c.deref.ensures.value) c.in-Some.ensures in
    rw (← c.self.view_is) (entered_at _ c.args.call _ c.index_mut-entry.result.now c.self.invariant p c.index_mut-entry.ensures.value)

pub returns-in_default : goal.returns-in_default
returns-in_default c = entered_nowhere _ c.args.call (rw (← c.self.view_is) (rw (← c.deref.ensures.value) c.in_default.ensures))
