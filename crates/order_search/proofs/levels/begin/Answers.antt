use Rattle.order_search.proofs.Views.{first_viewed}
use Rattle.order_search.proofs.levels.begin.Goals as goal

pub returns : goal.returns
returns g c =
    first_viewed g.M.Moment.now c.push.new.self c.new-level.result c.new-2.result c.new.result c.args.first
    c.new-level.ensures
    c.new.ensures c.in_ok-push.ensures.ok c.new-2.ensures
