use Rattle.std.proofs.Common.{map, sym, ◌∙◌, subst}
use Rattle.event_order.specs.Lefts.{IsFirstIn, events_in}
use Rattle.event_order.specs.Ways.{IsWayToEnd}
use Rattle.event_order.proofs.Bared.{opening_bare}
use Rattle.event_order.proofs.first.first_left.Goals as goal
use Rattle.order_defs.specs.Taking.{Taking, opening_taking}

pub returns : goal.returns
returns c =
    let journals = map events_in c.args.journals.now in
    let s : Taking = opening_taking c.args.threads.now journals in
    let e : IsWayToEnd s c.take_all.new.self = c.take_all.ensures s (opening_bare c.args.threads.now journals ∙ sym c.in_ok-taker.ensures) in
    record {
      order = e.way.order;
      end = e.way.end;
      leads = e.way.leads;
      stuck = e.stuck;
      is_first = subst (λ (x : Taking). IsFirstIn x.left c.first_left.result) (sym e.way.same) c.first_left.ensures;
    }
