use Rattle.std.proofs.Common.{◌≤◌, length, map, take, arith}
use Rattle.std.specs.Prelude.{Ok, Err}
use Rattle.std.proofs.lemmas.Result.{err_from_is_err_and}
use Rattle.std.proofs.lemmas.List.{take_all}
use Rattle.app_threads.proofs.Listed.{all_at, take_few, take_next}
use Rattle.app_threads.proofs.Scripts.{arrival_shares, frames_ended, frames_more, frames_none, frames_stopped, shares_none}
use Rattle.app_threads.proofs.arrivals.run_arrivals.Goals as goal

pub loop-index-init : goal.loop-index-init
loop-index-init g c = record { seats = c.requires.seats; does = frames_none (map g.D.DeskLike.view c.args.seats.now) c.args.part; shares = shares_none (map g.D.DeskLike.view c.args.seats.now) }

pub arrive_next-requires-clause-some : goal.arrive_next-requires-clause-some
arrive_next-requires-clause-some g c κs within =
    (all_at (λ f. (1 ≤ length f) × (length f ≤ 64)) c.args.frames.now c.requires.frames c.loop-index.index c.get-frame.result.now c.get-frame.ensures).0

pub arrive_next-requires-clause-fits : goal.arrive_next-requires-clause-fits
arrive_next-requires-clause-fits g c κs within =
    (all_at (λ f. (1 ≤ length f) × (length f ≤ 64)) c.args.frames.now c.requires.frames c.loop-index.index c.get-frame.result.now c.get-frame.ensures).1

pub returns-in_err-arrive_next-clause-ends : goal.returns-in_err-arrive_next-clause-ends
returns-in_err-arrive_next-clause-ends g c =
    let q = err_from_is_err_and c.from_residual.result c.from_residual.ensures.1 in
    rw (q.1, q.2)
    (frames_stopped (map g.D.DeskLike.spec c.args.access.now.desks.now) (map g.D.DeskLike.view c.args.seats.now) (map g.D.DeskLike.view c.loop-index.seats) (map g.D.DeskLike.view c.arrive_next.new.seats)
    c.loop-index.index c.args.part c.get-frame.result.now c.args.frames.now (take c.loop-index.index c.args.frames.now) c.in_err-arrive_next.field-0.0
    (take_few c.args.frames.now c.loop-index.index) c.loop-index.invariant.does c.get-frame.ensures c.in_err-arrive_next.ensures.ends)

pub returns-in_err-arrive_next-clause-shares : goal.returns-in_err-arrive_next-clause-shares
returns-in_err-arrive_next-clause-shares g c =
    arrival_shares (map g.D.DeskLike.spec c.args.access.now.desks.now) (map g.D.DeskLike.view c.args.seats.now) (map g.D.DeskLike.view c.loop-index.seats) (map g.D.DeskLike.view c.arrive_next.new.seats)
    c.loop-index.index c.args.part c.get-frame.result.now (Err c.in_err-arrive_next.field-0.0) c.in_err-arrive_next.ensures.ends c.loop-index.invariant.shares

pub loop-index-preserved : goal.loop-index-preserved
loop-index-preserved g c = record {
  seats = c.in_ok-arrive_next.ensures.seats;
  does =
      rw (take_next c.args.frames.now c.loop-index.index c.get-frame.result.now c.get-frame.ensures)
      (frames_more (map g.D.DeskLike.spec c.args.access.now.desks.now) (map g.D.DeskLike.view c.args.seats.now) (map g.D.DeskLike.view c.loop-index.seats) (map g.D.DeskLike.view c.arrive_next.new.seats)
      c.loop-index.index c.args.part c.get-frame.result.now c.in_ok-arrive_next.field-0 (take c.loop-index.index c.args.frames.now)
      c.loop-index.invariant.does c.in_ok-arrive_next.ensures.ends);
  shares =
      arrival_shares (map g.D.DeskLike.spec c.args.access.now.desks.now) (map g.D.DeskLike.view c.args.seats.now) (map g.D.DeskLike.view c.loop-index.seats) (map g.D.DeskLike.view c.arrive_next.new.seats)
      c.loop-index.index c.args.part c.get-frame.result.now (Ok c.in_ok-arrive_next.field-0) c.in_ok-arrive_next.ensures.ends c.loop-index.invariant.shares;
}

pub returns-clause-ends : goal.returns-clause-ends
returns-clause-ends g c =
    let e = take_all c.loop-index.index c.args.frames.now (omega arith) in
    frames_ended (map g.D.DeskLike.spec c.args.access.now.desks.now) (map g.D.DeskLike.view c.args.seats.now) (map g.D.DeskLike.view c.loop-index.seats) c.args.part c.args.frames.now c.new.result c.new.ensures
    (rw e at c.loop-index.invariant.does)
