use Rattle.std.proofs.Common.{◌∙◌, ap, length, map, subst}
use Rattle.std.specs.Vec.Iter.{into_iter_items, into_iter_len}
use Rattle.part_server.specs.Desk.{IsDeskSeat, desk_spec, desk_view}
use Rattle.app_threads.specs.Order.{all_stamps}
use Rattle.threaded_run.proofs.Closed.{Remain, all_remain, all_stamps_remain, alone_of, leaves_one, no_stamps_remain, none_left, none_remain, seat_of, stamps_one}
use Rattle.threaded_run.proofs.closing.leave_all.Goals as goal

pub loop-desk-init : goal.loop-desk-init
loop-desk-init g c = record {
  remain = all_remain IsDeskSeat desk_spec desk_view c.args.opened.desks.items (into_iter_items c.into_iter-desks.result)
      c.args.opened.seats.items (into_iter_items c.into_iter-seats.result) c.new-journals.result c.new-ends.result
      c.requires.seats c.requires.alone c.into_iter-desks.ensures.rest c.into_iter-seats.ensures.rest c.new-journals.ensures c.new-ends.ensures;
  stamps = all_stamps_remain desk_view c.args.opened.seats.items (into_iter_items c.into_iter-seats.result) c.new-journals.result
      c.into_iter-seats.ensures.rest c.new-journals.ensures;
}

pub leave-requires-clause-seat : goal.leave-requires-clause-seat
leave-requires-clause-seat g c =
    seat_of IsDeskSeat desk_spec desk_view
    (map desk_spec c.args.opened.desks.items) (map (λ s. (desk_view s).seen) c.args.opened.seats.items)
    c.in-Some.desk (into_iter_items c.loop-desk.desks) (into_iter_items c.next.new.self)
    c.in-Some-next.seat (into_iter_items c.loop-desk.seats) (into_iter_items c.next-in-Some.new.self)
    c.loop-desk.journals c.loop-desk.ends c.in-Some.ensures.cases.0 c.in-Some-next.ensures.cases.0 c.loop-desk.invariant.remain

pub leave-requires-clause-alone : goal.leave-requires-clause-alone
leave-requires-clause-alone g c =
    alone_of IsDeskSeat desk_spec desk_view
    (map desk_spec c.args.opened.desks.items) (map (λ s. (desk_view s).seen) c.args.opened.seats.items)
    (into_iter_items c.loop-desk.desks)
    c.in-Some-next.seat (into_iter_items c.loop-desk.seats) (into_iter_items c.next-in-Some.new.self)
    c.loop-desk.journals c.loop-desk.ends c.in-Some-next.ensures.cases.0 c.loop-desk.invariant.remain

pub loop-desk-preserved : goal.loop-desk-preserved
loop-desk-preserved g c = record {
  remain = leaves_one IsDeskSeat desk_spec desk_view
      (map desk_spec c.args.opened.desks.items) (map (λ s. (desk_view s).seen) c.args.opened.seats.items)
      c.in-Some.desk (into_iter_items c.loop-desk.desks) (into_iter_items c.next.new.self)
      c.in-Some-next.seat (into_iter_items c.loop-desk.seats) (into_iter_items c.next-in-Some.new.self)
      c.loop-desk.journals c.push.new.self c.loop-desk.ends c.push-in-Some.new.self c.in_ok-left.left.journal c.in_ok-left.left.end
      c.in-Some.ensures.cases.0 c.in-Some-next.ensures.cases.0 c.in_ok-push.ensures.ok c.in_ok-push-2.ensures.ok
      c.loop-desk.invariant.remain c.in_ok-left.ensures.left;
  stamps = stamps_one desk_view (all_stamps (map desk_view c.args.opened.seats.items))
      c.in-Some-next.seat (into_iter_items c.loop-desk.seats) (into_iter_items c.next-in-Some.new.self)
      c.loop-desk.journals c.push.new.self c.in_ok-left.left.journal
      c.in-Some-next.ensures.cases.0 c.in_ok-push.ensures.ok c.loop-desk.invariant.stamps c.in_ok-left.ensures.stamped;
}

pub returns-clause-left : goal.returns-clause-left
returns-clause-left g c =
    none_remain IsDeskSeat desk_spec desk_view
    (map desk_spec c.args.opened.desks.items) (map (λ s. (desk_view s).seen) c.args.opened.seats.items)
    (into_iter_items c.loop-desk.seats) c.loop-desk.journals c.loop-desk.ends
    (subst (λ desks. Remain IsDeskSeat desk_spec desk_view
    (map desk_spec c.args.opened.desks.items) (map (λ s. (desk_view s).seen) c.args.opened.seats.items)
    desks (into_iter_items c.loop-desk.seats) c.loop-desk.journals c.loop-desk.ends)
    (none_left (into_iter_len c.loop-desk.desks) (into_iter_items c.loop-desk.desks) c.loop-desk.desks.rest.ok.0 c.in_default.ensures.cases.0)
    c.loop-desk.invariant.remain)

pub returns-clause-stamped : goal.returns-clause-stamped
returns-clause-stamped g c =
    no_stamps_remain desk_view (all_stamps (map desk_view c.args.opened.seats.items)) (into_iter_items c.loop-desk.seats) c.loop-desk.journals
    (c.loop-desk.invariant.remain.seated.0
    ∙ ap length (none_left (into_iter_len c.loop-desk.desks) (into_iter_items c.loop-desk.desks) c.loop-desk.desks.rest.ok.0 c.in_default.ensures.cases.0))
    c.loop-desk.invariant.stamps
