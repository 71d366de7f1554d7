use Rattle.std.proofs.Common.{rules, subst, sym}
use Rattle.fault_campaign.specs.NumberedRows.{AreSlots}
use Rattle.fault_campaign.proofs.Placings.{none_numbered}
use Rattle.fault_campaign.proofs.placing.put_all.Goals as goal

pub loop-share-init : goal.loop-share-init
loop-share-init c plan shown lists count are =
    subst (AreSlots plan shown lists) (sym (c.in_ok-slots.ensures.items_if_clones_equal (λ y same. search rules)))
    (none_numbered plan shown lists c.args.count count)
