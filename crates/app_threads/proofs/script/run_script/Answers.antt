use Rattle.std.proofs.Common.{◌<◌, length, map, take, arith}
use Rattle.std.specs.Prelude.{Ok, Err}
use Rattle.std.proofs.lemmas.List.{take_all}
use Rattle.std.proofs.lemmas.Result.{err_from_is_err_and}
use Rattle.app_threads.specs.Order.{all_stamps}
use Rattle.app_threads.proofs.Listed.{all_at, take_next}
use Rattle.app_threads.proofs.Scripts.{call_shares, ops_ended, ops_more, ops_none, ops_stopped, ops_unkept, shares_none}
use Rattle.app_threads.proofs.Stamped.{until_follows, until_more, until_none}
use Rattle.app_threads.proofs.script.run_script.Goals as goal

pub loop-index-init : goal.loop-index-init
loop-index-init g c = record {
  seats = c.requires.seats;
  does = rw c.new-receipts.ensures (ops_none (map g.D.DeskLike.view c.args.seats.now) c.args.thread);
  shares = shares_none (map g.D.DeskLike.view c.args.seats.now);
  order = rw c.new-receipts.ensures (until_none (all_stamps (map g.D.DeskLike.view c.args.seats.now)) c.start-clock.result);
}

pub call_next-requires-clause-part : goal.call_next-requires-clause-part
call_next-requires-clause-part g c κs within =
    all_at (λ o. o.0 < length c.args.access.now.desks.now) c.args.ops.now c.requires.parts c.loop-index.index c.get.result.now c.get.ensures

pub returns-in_err-receipt-clause-ends : goal.returns-in_err-receipt-clause-ends
returns-in_err-receipt-clause-ends g c =
    let q = err_from_is_err_and c.from_residual.result c.from_residual.ensures.1 in
    rw (q.1, q.2)
    (ops_stopped (map g.D.DeskLike.spec c.args.access.now.desks.now) (map g.D.DeskLike.view c.args.seats.now) (map g.D.DeskLike.view c.loop-index.seats) (map g.D.DeskLike.view c.call_next.new.seats)
    c.args.thread c.loop-index.index c.get.result.now.0 c.get.result.now.1 c.args.ops.now c.loop-index.receipts c.in_err-receipt.field-0.0
    c.loop-index.invariant.does c.get.ensures c.in_err-receipt.ensures.ends)

pub returns-in_err-push-clause-ends : goal.returns-in_err-push-clause-ends
returns-in_err-push-clause-ends g c =
    let q = err_from_is_err_and c.from_residual-in_err-push.result c.from_residual-in_err-push.ensures.1 in
    rw (q.1, q.2)
    (ops_unkept (map g.D.DeskLike.spec c.args.access.now.desks.now) (map g.D.DeskLike.view c.args.seats.now) (map g.D.DeskLike.view c.loop-index.seats) (map g.D.DeskLike.view c.call_next.new.seats)
    c.args.thread c.loop-index.index c.get.result.now.0 c.get.result.now.1 c.in_ok-receipt.receipt c.args.ops.now c.loop-index.receipts
    c.loop-index.invariant.does c.get.ensures c.in_ok-receipt.ensures.ends)

pub returns-in_err-receipt-clause-shares : goal.returns-in_err-receipt-clause-shares
returns-in_err-receipt-clause-shares g c =
    call_shares (map g.D.DeskLike.spec c.args.access.now.desks.now) (map g.D.DeskLike.view c.args.seats.now) (map g.D.DeskLike.view c.loop-index.seats) (map g.D.DeskLike.view c.call_next.new.seats)
    c.args.thread c.loop-index.index c.get.result.now.0 c.get.result.now.1 (Err c.in_err-receipt.field-0.0) c.in_err-receipt.ensures.ends c.loop-index.invariant.shares

pub returns-in_err-push-clause-shares : goal.returns-in_err-push-clause-shares
returns-in_err-push-clause-shares g c =
    call_shares (map g.D.DeskLike.spec c.args.access.now.desks.now) (map g.D.DeskLike.view c.args.seats.now) (map g.D.DeskLike.view c.loop-index.seats) (map g.D.DeskLike.view c.call_next.new.seats)
    c.args.thread c.loop-index.index c.get.result.now.0 c.get.result.now.1 (Ok c.in_ok-receipt.receipt) c.in_ok-receipt.ensures.ends c.loop-index.invariant.shares

pub loop-index-preserved : goal.loop-index-preserved
loop-index-preserved g c = record {
  seats = c.in_ok-receipt.ensures.seats;
  does =
      let olds = map g.D.DeskLike.view c.args.seats.now in
      let news = map g.D.DeskLike.view c.call_next.new.seats in
      let ops = take c.loop-index.index c.args.ops.now in
      let k = ops_more (map g.D.DeskLike.spec c.args.access.now.desks.now) olds (map g.D.DeskLike.view c.loop-index.seats) news
      c.args.thread c.loop-index.index c.get.result.now.0 c.get.result.now.1 c.in_ok-receipt.receipt ops c.loop-index.receipts
      c.loop-index.invariant.does c.in_ok-receipt.ensures.ends in
      rw (c.in_ok-push.ensures.ok, take_next c.args.ops.now c.loop-index.index c.get.result.now c.get.ensures) k;
  shares =
      call_shares (map g.D.DeskLike.spec c.args.access.now.desks.now) (map g.D.DeskLike.view c.args.seats.now) (map g.D.DeskLike.view c.loop-index.seats) (map g.D.DeskLike.view c.call_next.new.seats)
      c.args.thread c.loop-index.index c.get.result.now.0 c.get.result.now.1 (Ok c.in_ok-receipt.receipt) c.in_ok-receipt.ensures.ends c.loop-index.invariant.shares;
  order =
      let k = until_more (map g.D.DeskLike.view c.loop-index.seats) (map g.D.DeskLike.view c.call_next.new.seats) c.loop-index.clock c.call_next.new.clock
      c.get.result.now.0 c.get.result.now.1 c.in_ok-receipt.receipt (take c.loop-index.index c.args.ops.now) c.loop-index.receipts
      c.in_ok-receipt.ensures.stamps c.in_ok-receipt.ensures.timely c.loop-index.invariant.order in
      rw (c.in_ok-push.ensures.ok, take_next c.args.ops.now c.loop-index.index c.get.result.now c.get.ensures) k;
}

pub returns-clause-ends : goal.returns-clause-ends
returns-clause-ends g c =
    let e = take_all c.loop-index.index c.args.ops.now (omega arith) in
    ops_ended (map g.D.DeskLike.spec c.args.access.now.desks.now) (map g.D.DeskLike.view c.args.seats.now) (map g.D.DeskLike.view c.loop-index.seats) c.args.thread c.args.ops.now c.loop-index.receipts
    (rw e at c.loop-index.invariant.does)

pub returns-clause-order : goal.returns-clause-order
returns-clause-order g c =
    let e = take_all c.loop-index.index c.args.ops.now (omega arith) in
    until_follows (all_stamps (map g.D.DeskLike.view c.loop-index.seats)) 0 c.loop-index.clock c.args.ops.now c.loop-index.receipts
    (rw e at c.loop-index.invariant.order)
