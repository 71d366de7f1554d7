-- One event is taken.
use Rattle.std.proofs.Common.{◌≡◌, ℕ, ◌≤◌, List, ◌++◌, append-nil, length, map, take, drop, set, refl, ap, ap₂, ◌∙◌, arith}
use Rattle.std.proofs.lemmas.List.{drop_all, map-set, take_all}
use Rattle.std.specs.Borrow.{Bor}
use Rattle.event_order.specs.Bare.{bare, bare_taking}
use Rattle.event_order.specs.Ways.{lists_in, taking_in}
use Rattle.event_order.specs.declared.taker.Able.{Able}
use Rattle.nook_data.specs.declared.steps.Event.{Event}
use Rattle.order_defs.specs.Taking.{Taking, after_taking}
use Rattle.run_defs.specs.Simulation.{ThreadState, threads_after}

abbrev now : Bor (List Event) → List Event
now l = l.now

pub one_taken : (left : List (Bor (List Event))) (callers items : List ThreadState) (s : Taking) (able : Able) → taking_in left callers ≡ s
    → items ≡ map bare (threads_after 0 able.part able.event.now callers)
    → taking_in (set left able.part able.rest) items ≡ bare_taking (after_taking s able.part able.event.now able.rest.now)
one_taken left callers items s able is heard =
    ap₂ (λ l ts. record { left = l; threads = ts }) (map-set now left able.part able.rest) heard
    ∙ ap (λ (x : Taking). bare_taking (after_taking x able.part able.event.now able.rest.now)) is

-- as many new items replace all items of a list
pub put_back : (n : ℕ) (new old : List ThreadState) → n ≡ length old → length new ≡ length old → take n (new ++ drop (length new) old) ≡ new
put_back n new old many same =
    let over : length old ≤ length new = omega arith in
    let all : length new ≤ n = omega arith in
    rw (drop_all (length new) old over, append-nil new) (take_all n new all)
