-- How events are taken one by one.
use Rattle.std.specs.Prelude.{◌≡◌, ℕ, Bool, true, false, Some, List, [], ◌∷◌, map, slice_get}
use Rattle.std.specs.Borrow.{Bor}
use Rattle.event_order.specs.Bare.{bare_taking}
use Rattle.event_order.specs.declared.taker.Able.{Able}
use Rattle.nook_data.specs.declared.steps.Event.{Event}
use Rattle.order_defs.specs.Taking.{IsStuck, IsTimely, Leads, MayTake, Taking, after_taking}
use Rattle.run_defs.specs.Simulation.{ThreadState}

-- the lists that these references point to
abbrev pub lists_in : List (Bor (List Event)) → List (List Event)
lists_in left = map (λ l. l.now) left

abbrev pub taking_in : List (Bor (List Event)) → List ThreadState → Taking
taking_in left threads = record { left = lists_in left; threads = threads }

-- ---- one part

-- the first of these events of a part, if there is one, may not be taken
abbrev pub IsHeld : List ThreadState → ℕ → List Event → Type 0
IsHeld threads part events = (event : Event) (rest : List Event) → events ≡ event ∷ rest → IsTimely threads part event → ⊥

-- the first of these events of a part is this one, which may be taken
pub record IsAble (threads : List ThreadState) (part : ℕ) (events : List Event) (able : Able) : Type 0 where
  pub part_is : able.part ≡ part
  pub events_are : events ≡ able.event.now ∷ able.rest.now
  pub timely : IsTimely threads part able.event.now

-- ---- all parts

-- the event may be taken
pub record IsAbleIn (s : Taking) (able : Able) : Type 0 where
  pub at : slice_get s.left able.part ≡ Some (able.event.now ∷ able.rest.now)
  pub timely : IsTimely s.threads able.part able.event.now

-- an event was taken, or none may be taken
abbrev pub Takes : Bool → Taking → Taking → Type 0
Takes true s t = (part : ℕ) × ((may : MayTake s part) × (t ≡ bare_taking (after_taking s part may.event may.rest)))
Takes false s t = IsStuck s × (t ≡ s)

-- ---- a way

-- an order leads from a state to one that, without the answers, is this one
pub record IsWay (s now : Taking) : Type 0 where
  pub order : List ℕ
  pub end : Taking
  pub leads : Leads s order end
  pub same : bare_taking end ≡ now

-- the order leads to a state at which no event may be taken
pub record IsWayToEnd (s now : Taking) : Type 0 where
  pub way : IsWay s now
  pub stuck : IsStuck way.end
