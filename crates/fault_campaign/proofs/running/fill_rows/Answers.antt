use Rattle.std.proofs.Common.{◌≡◌, ◌∙◌, ◌+◌, [], None, arith, get_or, subst, sym, take}
use Rattle.std.proofs.lemmas.List.{get_or_default, take_all}
use Rattle.fault_campaign.specs.NumberedRows.{AreRowsFor, IsRowFor, IsSlotOf}
use Rattle.fault_campaign.proofs.KnownRows.{known_or_slot}
use Rattle.fault_campaign.proofs.Placings.{as_many_slots, one_more_row, zipped_at}
use Rattle.fault_campaign.proofs.running.fill_rows.Goals as goal

pub bounds-slots-index : goal.bounds-slots-index
bounds-slots-index c = omega (arith, as_many_slots c.args.plan.now c.args.seen.shown.now c.args.members.now c.args.slots.now c.requires.slots, c.loop-index-test.true)

pub fill_row-requires-clause-known : goal.fill_row-requires-clause-known
fill_row-requires-clause-known c =
    let here = get_or_default c.args.members.now c.loop-index.index [] c.index-members-index.result c.loop-index-test.true ∙ sym c.index-members-index.is in
    subst (IsSlotOf c.args.plan.now c.args.seen.shown.now c.index-members-index.result) (sym c.or-known.ensures)
    (known_or_slot c.args.plan.now c.args.seen.shown.now c.index-members-index.result c.known_row.result (get_or c.args.slots.now c.loop-index.index None)
    (subst (λ faults. IsSlotOf c.args.plan.now c.args.seen.shown.now faults c.known_row.result) here
    (c.known_row.ensures c.args.plan.now c.args.seen.shown.now c.requires.right
    (subst (AreRowsFor c.args.plan.now c.args.seen.shown.now (take c.loop-index.index c.args.members.now)) (sym c.as_slice.ensures.value) c.loop-index.invariant)))
    (subst (λ faults. IsSlotOf c.args.plan.now c.args.seen.shown.now faults (get_or c.args.slots.now c.loop-index.index None)) (sym c.index-members-index.is)
    (zipped_at (IsSlotOf c.args.plan.now c.args.seen.shown.now) c.args.members.now c.args.slots.now c.loop-index.index c.index-members-index.result None
    c.requires.slots c.loop-index-test.true)))

pub loop-index-preserved : goal.loop-index-preserved
loop-index-preserved c =
    subst (AreRowsFor c.args.plan.now c.args.seen.shown.now (take (c.loop-index.index + 1) c.args.members.now)) (sym c.in_ok-push.ensures.items)
    (one_more_row c.args.plan.now c.args.seen.shown.now c.args.members.now c.loop-index.rows.items c.loop-index.index c.index-members-index.result
    c.in_ok-row.row c.loop-index-test.true c.loop-index.invariant
    (subst (λ faults. IsRowFor c.args.plan.now c.args.seen.shown.now faults c.in_ok-row.row) c.index-members-index.is c.in_ok-row.ensures))

pub returns : goal.returns
returns c =
    subst (λ some. AreRowsFor c.args.plan.now c.args.seen.shown.now some c.loop-index.rows.items) (take_all c.loop-index.index c.args.members.now c.loop-index-test.false)
    c.loop-index.invariant
