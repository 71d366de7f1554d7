use Rattle.std.proofs.Common.{map, arith}
use Rattle.std.proofs.lemmas.List.{length-map, map_push}
use Rattle.app_threads.proofs.Points.{halve_more}
use Rattle.app_threads.proofs.SeatLists.{seats_pushed}
use Rattle.app_threads.proofs.Splitting.{accounts_more, clocked_more, same_more, start_done, start_more}
use Rattle.app_threads.proofs.seats.split_all.Goals as goal

pub loop-at-preserved : goal.loop-at-preserved
loop-at-preserved g c =
    let is_seat = g.D.DeskLike.is_seat in
    let view = g.D.DeskLike.view in
    let specs = map g.D.DeskLike.spec c.args.desks.now in
    let olds = map view c.args.seats.now in
    let mids = map view c.loop-at.seats in
    let news = map view c.split_at.new.seats in
    let made = map view c.loop-at.made.items in
    let one = view c.split_at.result in
    let items = c.in_ok-push.ensures.items in
    let was = c.loop-at.invariant in
    record {
      seats = c.split_at.ensures.seats;
      same = same_more specs olds mids news c.loop-at.at one c.split_at.ensures.splits was.same;
      made = rw items (seats_pushed is_seat c.args.desks.now c.loop-at.made.items c.loop-at.at c.split_at.result was.made c.split_at.ensures.made);
      accounts = accounts_more specs olds mids news c.loop-at.at one c.split_at.ensures.splits was.accounts;
      clocked = clocked_more specs olds mids news c.loop-at.at one c.split_at.ensures.splits was.clocked;
      starts = rw (items, map_push view c.loop-at.made.items c.split_at.result) (start_more specs olds mids news made c.loop-at.at one c.split_at.ensures.splits was.same was.starts);
      halves = rw (items, map_push view c.loop-at.made.items c.split_at.result) (halve_more specs olds mids news made c.loop-at.at one was.starts.0 c.split_at.ensures.splits was.halves);
    }

pub returns-in_err-push-clause-accounts : goal.returns-in_err-push-clause-accounts
returns-in_err-push-clause-accounts g c =
    accounts_more (map g.D.DeskLike.spec c.args.desks.now) (map g.D.DeskLike.view c.args.seats.now) (map g.D.DeskLike.view c.loop-at.seats) (map g.D.DeskLike.view c.split_at.new.seats)
    c.loop-at.at (g.D.DeskLike.view c.split_at.result) c.split_at.ensures.splits c.loop-at.invariant.accounts

pub returns-in_err-push-clause-clocked : goal.returns-in_err-push-clause-clocked
returns-in_err-push-clause-clocked g c =
    clocked_more (map g.D.DeskLike.spec c.args.desks.now) (map g.D.DeskLike.view c.args.seats.now) (map g.D.DeskLike.view c.loop-at.seats) (map g.D.DeskLike.view c.split_at.new.seats)
    c.loop-at.at (g.D.DeskLike.view c.split_at.result) c.split_at.ensures.splits c.loop-at.invariant.clocked

pub returns-clause-starts : goal.returns-clause-starts
returns-clause-starts g c =
    start_done (map g.D.DeskLike.view c.args.seats.now) (map g.D.DeskLike.view c.loop-at.made.items) c.loop-at.at
    (let seats = c.requires.seats.0 in let end = c.loop-at.auto.at-end in omega (arith, length-map c.args.seats.now g.D.DeskLike.view)) c.loop-at.invariant.starts
