use Rattle.std.proofs.Common.{arith}
use Rattle.fault_campaign.proofs.KnownRows.{earlier_at}
use Rattle.fault_campaign.proofs.known.one_before.Goals as goal

pub returns-then-is_before : goal.returns-then-is_before
returns-then-is_before c =
    earlier_at c.args.members.now c.args.index _ _ _ _ _ (omega arith) c.requires c.as_slice.ensures c.index-members-earlier.is c.as_slice-2.ensures
    c.index-members-index.is (c.is_before.ensures c.if-is_before.true)
