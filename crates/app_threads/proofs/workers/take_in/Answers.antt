use Rattle.std.proofs.Common.{◌≡◌, ◌++◌, ◌∷◌, [], map, length, arith, ap, sym, subst, refl, ◌∙◌, append_assoc}
use Rattle.std.specs.Vec.Iter.{into_iter_items}
use Rattle.std.proofs.lemmas.List.{nil_from_length}
use Rattle.std.proofs.lemmas.List.Elements.{All-rest}
use Rattle.app_threads.specs.Steps.{TakeAllIn}
use Rattle.app_threads.specs.Workers.{AreSeats}
use Rattle.app_threads.proofs.Ending.{accounts_joined, clocked_joined}
use Rattle.app_threads.proofs.workers.take_in.Goals as goal

pub loop-done-preserved : goal.loop-done-preserved
loop-done-preserved g c =
    let view = g.D.DeskLike.view in
    let specs = map g.D.DeskLike.spec c.args.desks.now in
    let done = c.in-Some.done in
    let was = into_iter_items c.loop-done.done-iterator in
    let rest = into_iter_items c.next.new.self in
    let items : was ≡ done ∷ rest = c.in-Some.ensures.steps.0 in
    record {
      seats = c.join_all.ensures.seats;
      rest = All-rest (λ d. AreSeats g.D.DeskLike.is_seat c.args.desks.now d.seats.items) done rest was items c.loop-done.invariant.rest;
      len = (let n = c.in-Some.ensures.steps.1 in let m = c.loop-done.invariant.len in let k = ap length items in omega arith);
      joins = λ news t.
          c.loop-done.invariant.joins news
          (subst (λ l. TakeAllIn specs (map view c.loop-done.seats) (map (λ d. map view d.seats.items) l) news) (sym items) (map view c.join_all.new.seats, c.join_all.ensures.joins, t));
      ends = rw c.in_ok-push.ensures.items
          (append_assoc c.loop-done.ends.items (done.end ∷ []) (map (λ d. d.end) rest)
          ∙ (ap (λ l. c.loop-done.ends.items ++ map (λ d. d.end) l) (sym items) ∙ c.loop-done.invariant.ends));
      accounts = accounts_joined specs (map view c.args.seats.now) (map view c.loop-done.seats) (map view done.seats.items) (map view c.join_all.new.seats) c.loop-done.invariant.accounts c.join_all.ensures.joins;
      clocked = clocked_joined specs (map view c.args.seats.now) (map view c.loop-done.seats) (map view done.seats.items) (map view c.join_all.new.seats) c.loop-done.invariant.clocked c.join_all.ensures.joins;
    }

pub returns-in_err-push-clause-accounts : goal.returns-in_err-push-clause-accounts
returns-in_err-push-clause-accounts g c =
    let view = g.D.DeskLike.view in
    accounts_joined (map g.D.DeskLike.spec c.args.desks.now) (map view c.args.seats.now) (map view c.loop-done.seats) (map view c.in-Some.done.seats.items) (map view c.join_all.new.seats) c.loop-done.invariant.accounts c.join_all.ensures.joins

pub returns-in_err-push-clause-clocked : goal.returns-in_err-push-clause-clocked
returns-in_err-push-clause-clocked g c =
    let view = g.D.DeskLike.view in
    clocked_joined (map g.D.DeskLike.spec c.args.desks.now) (map view c.args.seats.now) (map view c.loop-done.seats) (map view c.in-Some.done.seats.items) (map view c.join_all.new.seats) c.loop-done.invariant.clocked c.join_all.ensures.joins

pub returns-clause-joins : goal.returns-clause-joins
returns-clause-joins g c =
    let view = g.D.DeskLike.view in
    let specs = map g.D.DeskLike.spec c.args.desks.now in
    let none : into_iter_items c.loop-done.done-iterator ≡ [] = nil_from_length (into_iter_items c.loop-done.done-iterator) (let n = c.in-None.ensures.steps.0 in let m = c.loop-done.invariant.len in omega arith) in
    c.loop-done.invariant.joins (map view c.loop-done.seats)
    (subst (λ l. TakeAllIn specs (map view c.loop-done.seats) (map (λ d. map view d.seats.items) l) (map view c.loop-done.seats)) (sym none) refl)
