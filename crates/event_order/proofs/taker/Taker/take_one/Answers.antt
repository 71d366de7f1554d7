use Rattle.std.proofs.Common.{◌≡◌, ◌<◌, ◌++◌, ◌∷◌, length, map, take, drop, refl, sym, ap, ap₂, ◌∙◌, subst, arith}
use Rattle.std.proofs.lemmas.List.{length-map}
use Rattle.std.proofs.lemmas.Option.{slice_get_within}
use Rattle.event_order.specs.Bare.{bare}
use Rattle.event_order.specs.Ways.{lists_in, taking_in}
use Rattle.event_order.proofs.Taken.{one_taken, put_back}
use Rattle.event_order.proofs.taker.Taker.take_one.Goals as goal
use Rattle.event_order.proofs.taker.Taker.take_one.Goals.{After-first_able}
use Rattle.nook_data.specs.declared.steps.Event.{Event}
use Rattle.order_defs.specs.Taking.{IsStuck, IsTimely, Taking}
use Rattle.run_defs.specs.Simulation.{threads_after}
use Rattle.std.specs.Prelude.{slice_get}

taking_is : (c : After-first_able) → taking_in c.as_slice-2.result.now c.as_slice.result.now ≡ c.args.self.now
taking_is c = ap₂ taking_in c.as_slice-2.ensures.value c.as_slice.ensures.value ∙ c.self.view_is

pub returns-in_default : goal.returns-in_default
returns-in_default c =
    let here = (goal.at.returns-in_default c).After-first_able in
    (subst IsStuck (taking_is here) c.in_default.ensures, refl)

pub index_mut-requires : goal.index_mut-requires
index_mut-requires c =
    let able = c.in-Some.able in
    let items = c.self.inside.left.items in
    let within : able.part < length (lists_in c.as_slice-2.result.now) =
    slice_get_within (lists_in c.as_slice-2.result.now) able.part (able.event.now ∷ able.rest.now) c.in-Some.ensures.at in
    omega (arith, within, ap length c.as_slice-2.ensures.value, length-map c.as_slice-2.result.now (λ l. l.now), c.self.inside.left.ok.0)

pub returns : goal.returns
returns c =
    let here = (goal.at.returns c).After-first_able in
    let able = c.in-Some.able in
    let i = c.self.inside in
    let old = i.callers.items in
    let new = c.hear_all.new.callers in
    let same : c.as_mut_slice.result.now ≡ old = c.as_mut_slice.ensures.value in
    let heard : new ≡ map bare (threads_after 0 able.part able.event.now old) =
    c.hear_all.ensures ∙ ap (λ ts. map bare (threads_after 0 able.part able.event.now ts)) same in
    let many : length new ≡ length old = omega (arith, c.hear_all.auto.callers, ap length same) in (
      able.part,
      (
        record {
          event = able.event.now;
          rest = able.rest.now;
          at = ap (λ (x : Taking). slice_get x.left able.part) (sym (taking_is here)) ∙ c.in-Some.ensures.at;
          timely = subst (λ (x : Taking). IsTimely x.threads able.part able.event.now) (taking_is here) c.in-Some.ensures.timely;
        },
        one_taken i.left.items old (take i.callers.len (new ++ drop (length new) old)) c.args.self.now able c.self.view_is
            (put_back i.callers.len new old (omega (arith, i.callers.ok.0)) many ∙ heard),
      ),
    )
