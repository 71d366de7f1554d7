use Rattle.std.proofs.Common.{◌≡◌, ◌+◌, ◌++◌, ◌∷◌, [], map, take, length, arith, ap, sym, subst, ◌∙◌, rules}
use Rattle.std.proofs.lemmas.List.{length-map, length_push, map_push}
use Rattle.app_threads.proofs.SeatLists.{AreSeatsSoFar, TakenFrom, seats_popped, taken_more, views_popped}
use Rattle.app_threads.proofs.seats.join_all.Goals as goal

pub loop-other-preserved : goal.loop-other-preserved
loop-other-preserved g c =
    let is_seat = g.D.DeskLike.is_seat in
    let view = g.D.DeskLike.view in
    let desks = c.args.desks.now in
    let specs = map g.D.DeskLike.spec desks in
    let olds = map view c.args.seats.now in
    let others = map view c.args.others.items in
    let mids = map view c.loop-other.seats in
    let news = map view c.join_at.new.seats in
    let rest = c.pop.new.self.items in
    let other = c.in-Some.other in
    let at = c.len-at.result in
    let items : c.loop-other.others.items ≡ rest ++ other ∷ [] = c.in-Some.ensures.items in
    let here : at ≡ length rest = search rules in
    let more : length c.loop-other.others.items ≡ at + 1 = ap length items ∙ (length_push rest other ∙ ap (λ n. n + 1) (sym here)) in
    let views = views_popped (map view rest) others (view other) at (length-map rest view ∙ sym here)
    (sym (map_push view rest other) ∙ (ap (map view) (sym items) ∙ (c.loop-other.invariant.views ∙ ap (λ n. take n others) more))) in
    let popped = seats_popped is_seat desks rest at other (subst (λ n. AreSeatsSoFar is_seat desks (rest ++ other ∷ []) n) more (subst (λ l. AreSeatsSoFar is_seat desks l (length c.loop-other.others.items)) items c.loop-other.invariant.others)) in
    let taken = taken_more at specs olds others mids news (view other) views.1 c.join_at.ensures.joins (subst (λ n. TakenFrom n specs olds others mids) more c.loop-other.invariant.taken) in
    record {
      few = (let l = c.loop-other.invariant.few in omega arith);
      seats = c.join_at.ensures.seats;
      others = subst (λ n. AreSeatsSoFar is_seat desks rest n) here popped.0;
      views = subst (λ n. map view rest ≡ take n others) here views.0;
      taken = subst (λ n. TakenFrom n specs olds others news) here taken;
    }

pub returns-clause-joins : goal.returns-clause-joins
returns-clause-joins g c =
    let view = g.D.DeskLike.view in
    let none : length c.loop-other.others.items ≡ 0 = search rules in
    let taken = subst (λ n. TakenFrom n (map g.D.DeskLike.spec c.args.desks.now) (map view c.args.seats.now) (map view c.args.others.items) (map view c.loop-other.seats)) none c.loop-other.invariant.taken in
    let others : length c.args.others.items ≡ length c.args.desks.now = c.requires.others.0 in
    let seats : length c.args.seats.now ≡ length c.args.desks.now = c.requires.seats.0 in (
      length-map c.args.others.items view ∙ (others ∙ (sym seats ∙ sym (length-map c.args.seats.now view))),
      length-map c.args.desks.now g.D.DeskLike.spec ∙ (sym seats ∙ sym (length-map c.args.seats.now view)),
      taken.0,
      λ d spec v o w a b e f. taken.2 d spec v o w (omega arith) a b e f,
    )
