use Rattle.std.proofs.Common.{◌≡◌, ◌∷◌, [], List, length, map, ap, sym, subst, arith}
use Rattle.std.specs.Vec.Iter.{into_iter_items}
use Rattle.std.proofs.lemmas.List.{nil_from_length}
use Rattle.order_search.proofs.FirstEnds.{ends_none}
use Rattle.order_search.proofs.Onward.{goes_on}
use Rattle.order_search.proofs.Sifted.{takes_none}
use Rattle.order_search.proofs.Views.{all_ends_then, ways_then}
use Rattle.order_search.specs.Ends.{TakesEnds}
use Rattle.order_search.specs.Moments.{held_as}
use Rattle.order_search.specs.Ways.{Made, TakesWays, all_ways, made_as}
use Rattle.order_search.specs.declared.states.HeldState.{HeldState}
use Rattle.order_search.proofs.levels.go_over.Goals as goal

pub loop-state-preserved : goal.loop-state-preserved
loop-state-preserved g c =
    let now = g.M.Moment.now in
    let view = held_as now in
    let was = into_iter_items c.loop-state.state-iterator in
    let rest = into_iter_items c.next.new.self in
    let items : was ≡ c.in-Some.state ∷ rest = c.in-Some.ensures.steps.0 in
    record {
      len = (let n = c.in-Some.ensures.steps.1 in let m = c.loop-state.invariant.len in let k = ap length items in
          omega arith);
      ways = λ new t.
          c.loop-state.invariant.ways new (ways_then now was rest c.in-Some.state
          (made_as now c.loop-state.front.level c.loop-state.front.states c.loop-state.front.is_cut)
          (made_as now c.visit.new.front.level c.visit.new.front.states c.visit.new.front.is_cut) new items
          c.in_ok-visit.ensures.ways t);
      ends = λ new t.
          c.loop-state.invariant.ends new (all_ends_then now was rest c.in-Some.state c.loop-state.firsts
          c.visit.new.firsts new items c.in_ok-visit.ensures.ends t);
    }

pub returns : goal.returns
returns g c =
    let now = g.M.Moment.now in
    let view = held_as now in
    let none : into_iter_items c.loop-state.state-iterator ≡ [] = nil_from_length
    (into_iter_items c.loop-state.state-iterator)
    (let n = c.in-None.ensures.steps.0 in let m = c.loop-state.invariant.len in omega arith) in
    let after = c.loop-state.firsts in
    let new : Made = made_as now c.loop-state.front.level c.loop-state.front.states c.loop-state.front.is_cut in
    goes_on (made_as now c.args.work.level c.args.work.states c.args.work.is_cut) new c.args.work.firsts
    after
    (c.loop-state.invariant.ways new
    (subst (λ (xs : List (HeldState g.row.M.Denot)). TakesWays (all_ways (map view xs)) new new) (sym none)
    (takes_none new)))
    (c.loop-state.invariant.ends after
    (subst (λ (xs : List (HeldState g.row.M.Denot)). TakesEnds (map view xs) after after) (sym none) (ends_none after)))
