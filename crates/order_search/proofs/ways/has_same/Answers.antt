use Rattle.std.proofs.Common.{get_or}
use Rattle.order_search.proofs.Views.{has_present}
use Rattle.order_search.proofs.ways.has_same.Goals as goal

pub returns-then-is_same : goal.returns-then-is_same
returns-then-is_same g c = λ e.
    has_present g.M.Moment.now c.args.level.now (get_or c.args.candidates.now c.loop-index.index-index 0)
    c.get.result.now
    c.args.moment.now c.get.ensures (c.is_same.ensures c.if-is_same.true)
