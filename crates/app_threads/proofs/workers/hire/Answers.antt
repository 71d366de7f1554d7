use Rattle.std.proofs.Common.{map, take, get_or, arith, refl}
use Rattle.std.proofs.lemmas.List.{map_push, take_all, take_more}
use Rattle.app_threads.specs.Hired.{IsHired}
use Rattle.app_threads.specs.declared.work.Work.TheVariants as work
use Rattle.app_threads.proofs.Listed.{each_push}
use Rattle.app_threads.proofs.Points.{spread_more}
use Rattle.app_threads.proofs.Splitting.{accounts_twice, clocked_twice, same_twice, starts_same}
use Rattle.app_threads.proofs.workers.hire.Goals as goal

pub returns-in_err-new_seats-clause-same : goal.returns-in_err-new_seats-clause-same
returns-in_err-new_seats-clause-same g c =
    same_twice (map g.D.DeskLike.view c.args.seats.now) (map g.D.DeskLike.view c.loop-at.seats) (map g.D.DeskLike.view c.split_all.new.seats) c.loop-at.invariant.same c.split_all.ensures.same

pub returns-in_err-push-clause-same : goal.returns-in_err-push-clause-same
returns-in_err-push-clause-same g c =
    same_twice (map g.D.DeskLike.view c.args.seats.now) (map g.D.DeskLike.view c.loop-at.seats) (map g.D.DeskLike.view c.split_all.new.seats) c.loop-at.invariant.same c.split_all.ensures.same

pub returns-in_err-new_seats-clause-accounts : goal.returns-in_err-new_seats-clause-accounts
returns-in_err-new_seats-clause-accounts g c =
    accounts_twice (map g.D.DeskLike.view c.args.seats.now) (map g.D.DeskLike.view c.loop-at.seats) (map g.D.DeskLike.view c.split_all.new.seats) c.loop-at.invariant.accounts c.split_all.ensures.accounts

pub returns-in_err-push-clause-accounts : goal.returns-in_err-push-clause-accounts
returns-in_err-push-clause-accounts g c =
    accounts_twice (map g.D.DeskLike.view c.args.seats.now) (map g.D.DeskLike.view c.loop-at.seats) (map g.D.DeskLike.view c.split_all.new.seats) c.loop-at.invariant.accounts c.split_all.ensures.accounts

pub returns-in_err-new_seats-clause-clocked : goal.returns-in_err-new_seats-clause-clocked
returns-in_err-new_seats-clause-clocked g c =
    clocked_twice (map g.D.DeskLike.view c.args.seats.now) (map g.D.DeskLike.view c.loop-at.seats) (map g.D.DeskLike.view c.split_all.new.seats) c.loop-at.invariant.clocked c.split_all.ensures.clocked

pub returns-in_err-push-clause-clocked : goal.returns-in_err-push-clause-clocked
returns-in_err-push-clause-clocked g c =
    clocked_twice (map g.D.DeskLike.view c.args.seats.now) (map g.D.DeskLike.view c.loop-at.seats) (map g.D.DeskLike.view c.split_all.new.seats) c.loop-at.invariant.clocked c.split_all.ensures.clocked

pub loop-at-preserved : goal.loop-at-preserved
loop-at-preserved g c = record {
  seats = c.split_all.ensures.seats;
  same = same_twice (map g.D.DeskLike.view c.args.seats.now) (map g.D.DeskLike.view c.loop-at.seats) (map g.D.DeskLike.view c.split_all.new.seats) c.loop-at.invariant.same c.split_all.ensures.same;
  hired =
      let view = g.D.DeskLike.view in
      let olds = map view c.args.seats.now in
      let mids = map view c.loop-at.seats in
      let k = get_or c.args.works.now c.loop-at.at (work.Script 0) in
      let R = IsHired g.D.DeskLike.is_seat g.D.DeskLike.spec view c.args.desks.now olds in
      let one : R k (record { work = k; seats = c.in_ok-new_seats.new_seats }) = record {
        is = refl;
        seats = c.in_ok-new_seats.ensures.made;
        starts = starts_same olds mids (map view c.in_ok-new_seats.new_seats.items) c.loop-at.invariant.same c.in_ok-new_seats.ensures.starts;
      } in
      rw (c.in_ok-push.ensures.items, take_more c.args.works.now c.loop-at.at (work.Script 0) (omega arith))
      (each_push R (take c.loop-at.at c.args.works.now) c.loop-at.workers.items k (record { work = k; seats = c.in_ok-new_seats.new_seats }) c.loop-at.invariant.hired one);
  accounts = accounts_twice (map g.D.DeskLike.view c.args.seats.now) (map g.D.DeskLike.view c.loop-at.seats) (map g.D.DeskLike.view c.split_all.new.seats) c.loop-at.invariant.accounts c.split_all.ensures.accounts;
  clocked = clocked_twice (map g.D.DeskLike.view c.args.seats.now) (map g.D.DeskLike.view c.loop-at.seats) (map g.D.DeskLike.view c.split_all.new.seats) c.loop-at.invariant.clocked c.split_all.ensures.clocked;
  spread =
      let view = g.D.DeskLike.view in
      rw (c.in_ok-push.ensures.items, map_push (λ worker. map view worker.seats.items) c.loop-at.workers.items (record { work = get_or c.args.works.now c.loop-at.at (work.Script 0); seats = c.in_ok-new_seats.new_seats }))
      (spread_more (map view c.args.seats.now) (map view c.loop-at.seats) (map view c.split_all.new.seats) (map view c.in_ok-new_seats.new_seats.items) (map (λ worker. map view worker.seats.items) c.loop-at.workers.items)
      c.loop-at.invariant.spread c.in_ok-new_seats.ensures.halves);
}

pub returns-clause-hired : goal.returns-clause-hired
returns-clause-hired g c =
    let e = take_all c.loop-at.at c.args.works.now (omega arith) in
    rw e at c.loop-at.invariant.hired
