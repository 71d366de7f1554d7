-- A way on which events are taken one after another.
use Rattle.std.proofs.Common.{◌≡◌, ◌<◌, ℕ, zero, suc, ◌+◌, Bool, true, false, Some, List, [], ◌∷◌, ◌++◌, length, slice_get, slice_set, refl, sym, ap, ◌∙◌, subst, arith}
use Rattle.event_order.specs.Bare.{bare_taking}
use Rattle.event_order.specs.Ways.{IsWay, IsWayToEnd, Takes}
use Rattle.event_order.proofs.Bared.{after_bare, stuck_from_bare, timely_from_bare}
use Rattle.nook_data.proofs.Options.{none_is_some, same_inside}
use Rattle.nook_data.specs.declared.steps.Event.{Event}
use Rattle.order_defs.specs.Taking.{IsStuck, IsTimely, Leads, Taking, after_taking}
use Rattle.run_defs.specs.Simulation.{events_count}

-- one more event
leads_more : (s end : Taking) (order : List ℕ) (k : ℕ) (e : Event) (rest : List Event) → slice_get end.left k ≡ Some (e ∷ rest)
    → IsTimely end.threads k e → Leads s order end → Leads s (order ++ k ∷ []) (after_taking end k e rest)
leads_more s end [] k e rest at timely leads = (
  record {
    event = e;
    rest = rest;
    at = ap (λ (x : Taking). slice_get x.left k) leads ∙ at;
    timely = subst (λ (x : Taking). IsTimely x.threads k e) (sym leads) timely;
  },
  ap (λ (x : Taking). after_taking x k e rest) leads,
)
leads_more s end (j ∷ order) k e rest at timely leads =
    (leads.0, leads_more (after_taking s j leads.0.event leads.0.rest) end order k e rest at timely leads.1)

pub way_first : (s now : Taking) → bare_taking s ≡ now → IsWay s now
way_first s now h = record { order = []; end = s; leads = refl; same = h }

way_more : (s now next : Taking) (k : ℕ) (e : Event) (rest : List Event) → IsWay s now → slice_get now.left k ≡ Some (e ∷ rest)
    → IsTimely now.threads k e → next ≡ bare_taking (after_taking now k e rest) → IsWay s next
way_more s now next k e rest w at timely is = record {
  order = w.order ++ k ∷ [];
  end = after_taking w.end k e rest;
  leads = leads_more s w.end w.order k e rest (ap (λ (x : Taking). slice_get x.left k) w.same ∙ at)
      (timely_from_bare w.end.threads k e (subst (λ (x : Taking). IsTimely x.threads k e) (sym w.same) timely)) w.leads;
  same = sym (after_bare w.end k e rest) ∙ (ap (λ (x : Taking). bare_taking (after_taking x k e rest)) w.same ∙ sym is);
}

-- an event was taken
pub way_taken : (s now next : Taking) (taken : Bool) → taken ≡ true → IsWay s now → Takes taken now next → IsWay s next
way_taken s now next false e w h = absurd (cc)
way_taken s now next true e w h = way_more s now next h.0 h.1.0.event h.1.0.rest w h.1.0.at h.1.0.timely h.1.1

-- no event may be taken
pub way_ends : (s now next : Taking) (taken : Bool) → taken ≡ false → IsWay s now → Takes taken now next → IsWayToEnd s next
way_ends s now next true e w h = absurd (cc)
way_ends s now next false e w h = record {
  way = record { order = w.order; end = w.end; leads = w.leads; same = w.same ∙ sym h.1 };
  stuck = stuck_from_bare w.end (subst IsStuck (sym w.same) h.0);
}

-- ---- fewer events are left

one_fewer : (left : List (List Event)) (k : ℕ) (e : Event) (rest : List Event) → slice_get left k ≡ Some (e ∷ rest)
    → events_count (slice_set left k rest) < events_count left
one_fewer [] k e rest at = none_is_some at
one_fewer (events ∷ left) zero e rest at =
    let many : length events ≡ suc (length rest) = ap length (same_inside at) in
    omega arith
one_fewer (events ∷ left) (suc k) e rest at =
    let fewer : events_count (slice_set left k rest) < events_count left = one_fewer left k e rest at in
    omega arith

pub fewer_left : (now next : Taking) (taken : Bool) → taken ≡ true → Takes taken now next → events_count next.left < events_count now.left
fewer_left now next false e h = absurd (cc)
fewer_left now next true e h =
    subst (λ (x : Taking). events_count x.left < events_count now.left) (sym h.1.1)
    (one_fewer now.left h.0 h.1.0.event h.1.0.rest h.1.0.at)
