-- A scheduled run is a run in some order, and a run in some order is the run under the schedule that lists its picks.
use Rattle.std.proofs.Common.{◌≡◌, ℕ, zero, suc, ◌+◌, ◌<◌, ◌==◌, nat_lt, Bool, true, false, Option, Some, None}
use Rattle.std.proofs.Common.{List, [], ◌∷◌}
use Rattle.std.proofs.Common.{length, map, find, slice_get, refl, sym, ap, ◌∙◌, subst, arith, eq-eqb, eqb-true}
use Rattle.std.proofs.Common.{ltb-true, lt-ltb, position}
use Rattle.std.specs.List.{AllByRecursion, position_or_len}
use Rattle.explore_defs.specs.Orders.{IsWholePath, Path, choice_of_actor, follows, led, with_schedule}
use Rattle.nook_data.proofs.Options.{none_is_some, same_inside}
use Rattle.nook_data.specs.Types.{Scenario, ScheduleSpec}
use Rattle.nook_data.specs.declared.scenario.ScheduleSpec.TheVariants as schedule
use Rattle.part_laws.proofs.Indices.{split}
use Rattle.run_defs.specs.Schedules.{Order, Picked, listed, listed_pick, opening_order, picked}
use Rattle.run_defs.specs.Simulation.{Choice, IsScheduledRun, RunningPart, Simulation, actor_of, begins}
use Rattle.run_defs.specs.Simulation.{choices_of, runs, stepped_by, taken}
use Rattle.run_defs.proofs.RunChanges.{taken_by}
use Rattle.sim_run.proofs.Choosing.{choices_found, choices_open}
use Rattle.sim_run.proofs.Ending.{moved_some}
use Rattle.sim_run.proofs.Reaching.{at_position, picked_one, runs_front, runs_still}
use Rattle.sim_run.specs.Actors.{choice_at}

-- ---- the schedule affects neither what may be taken nor what it leads to

-- a simulation under another schedule
abbrev pub with_order : Order → Simulation → Simulation
with_order order s = record s { order = order }

pub choices_same : (o : Order) (s : Simulation) → choices_of (with_order o s) ≡ choices_of s
unfolding choices_of
choices_same o s = refl

pub stepped_same : (o p : Order) (s : Simulation) (c : Choice) (q : Option RunningPart)
    → stepped_by s o c q ≡ with_order o (stepped_by s p c q)
stepped_same o p s c None = refl
stepped_same o p s c (Some seat) = refl

stepped_as : (o p : Order) (s : Simulation) (c : Choice) (q : Option RunningPart)
    → stepped_by (with_order p s) o c q ≡ with_order o (stepped_by s s.order c q)
stepped_as o p s c None = refl
stepped_as o p s c (Some seat) = refl

follows_same : (o : Order) (s : Simulation) (c : Choice) → follows (with_order o s) c ≡ with_order o (follows s c)
follows_same o s c = stepped_as o o s c (slice_get s.parts c.part)

-- ---- one step

-- after a choice, if there is one
abbrev led_by : Simulation → List ℕ → Option Choice → Option Simulation
led_by s picks o = elim o as (λ x. Option Simulation) [ None ↦ None | Some c ↦ led (follows s c) picks ]

pub led_one : (s : Simulation) (actor : ℕ) (picks : List ℕ) (c : Choice) → choice_of_actor actor s ≡ Some c
    → led s (actor ∷ picks) ≡ led (follows s c) picks
unfolding led
led_one s actor picks c h = ap (led_by s picks) h

-- picks that lead somewhere begin with a choice
pub record HasStep (s : Simulation) (actor : ℕ) (picks : List ℕ) (t : Simulation) : Type 0 where
  pub choice : Choice
  pub chosen : choice_of_actor actor s ≡ Some choice
  pub leads : led (follows s choice) picks ≡ Some t

pub led_step : (s t : Simulation) (actor : ℕ) (picks : List ℕ) → led s (actor ∷ picks) ≡ Some t → HasStep s actor picks t
unfolding led
led_step s t actor picks h = by_choice (choice_of_actor actor s) refl h
  where
    by_choice : (o : Option Choice) → choice_of_actor actor s ≡ o → led_by s picks o ≡ Some t → HasStep s actor picks t
    by_choice None e k = none_is_some k
    by_choice (Some c) e k = record { choice = c; chosen = e; leads = k }

found_named : (P : ℕ → Option Choice) (choices : List Choice) (index : ℕ) (c : Choice)
    → AllByRecursion (λ x. P x.actor ≡ Some x) choices → slice_get choices index ≡ Some c
    → find (λ x. x.actor == c.actor) choices ≡ Some c
found_named P [] index c all at = none_is_some at
found_named P (x ∷ choices) zero c all at =
    rw (eq-eqb x.actor c.actor (ap (λ (y : Choice). y.actor) (same_inside at))) at
found_named P (x ∷ choices) (suc index) c all at = split (x.actor == c.actor)
    (λ same.
    let named : x.actor ≡ c.actor = eqb-true x.actor c.actor same in
    let own : P c.actor ≡ Some c = at_position (λ (y : Choice). P y.actor ≡ Some y) choices index c all.1 at in
    rw same (sym all.0 ∙ ap P named ∙ own))
    (λ other. rw other (found_named P choices index c all.1 at))

-- each choice is its actor's
pub chosen_at : (s : Simulation) (index : ℕ) (c : Choice) → slice_get (choices_of s) index ≡ Some c
    → choice_of_actor c.actor s ≡ Some c
chosen_at s index c at = found_named (choice_at s.parts s.threads) (choices_of s) index c (choices_found s) at

-- ---- every scheduled run is in some order

-- some picks lead from one simulation to another, whatever their schedules are
record IsLed (o : Order) (s t : Simulation) : Type 0 where
  picks : List ℕ
  leads : led (with_order o s) picks ≡ Some (with_order o t)

led_none : (o : Order) (s : Simulation) → IsLed o s s
unfolding led
led_none o s = record { picks = []; leads = refl }

led_on : (o : Order) (s t : Simulation) (index : ℕ) (c : Choice) → slice_get (choices_of s) index ≡ Some c
    → IsLed o (follows s c) t → IsLed o s t
led_on o s t index c at h = record {
  picks = c.actor ∷ h.picks;
  leads = led_one (with_order o s) c.actor h.picks c
      (ap (find (λ (x : Choice). x.actor == c.actor)) (choices_same o s) ∙ chosen_at s index c at)
      ∙ ap (λ (x : Simulation). led x h.picks) (follows_same o s c) ∙ h.leads;
}

led_as : (o : Order) (s x t : Simulation) → with_order o s ≡ with_order o x → IsLed o s t → IsLed o x t
led_as o s x t e h = record { picks = h.picks; leads = ap (λ (y : Simulation). led y h.picks) (sym e) ∙ h.leads }

some_choices : (c : Choice) (more choices : List Choice) → choices ≡ c ∷ more → 0 < length choices
some_choices c more choices e = subst (λ (xs : List Choice). 0 < length xs) (sym e) (omega arith)

led_taken : (o : Order) (s t : Simulation) → 0 < length (choices_of s) → IsLed o (taken s (choices_of s)) t → IsLed o s t
led_taken o s t l h =
    let one = picked_one s (choices_of s) (choices_open s) l in
    let order : Order = (picked s.order (map actor_of (choices_of s))).order in
    led_on o s t (picked s.order (map actor_of (choices_of s))).index one.0 one.1.1.found
    (led_as o (taken s (choices_of s)) (follows s one.0) t
    (ap (with_order o) one.1.1.step ∙ ap (λ q. with_order o (stepped_by s order one.0 q)) (sym one.1.1.at_part)
    ∙ ap (with_order o) (stepped_same order s.order s one.0 (slice_get s.parts one.0.part))) h)

runs_led : (o : Order) (n : ℕ) (s : Simulation) → IsLed o s (runs n s)
unfolding runs
runs_led o zero s = led_none o s
runs_led o (suc n) s = by_choices (choices_of s) refl (λ x. runs_led o n x)
  where
    by_choices : (choices : List Choice) → choices_of s ≡ choices → ((x : Simulation) → IsLed o x (runs n x))
        → IsLed o s (runs (suc n) s)
    by_choices [] e more = subst (IsLed o s) (sym (runs_still (suc n) s e)) (led_none o s)
    by_choices (c ∷ choices) e more =
        let l : 0 < length (choices_of s) = some_choices c choices (choices_of s) e in
        led_taken o s (runs (suc n) s) l
        (subst (IsLed o (taken s (choices_of s)))
        (ap (runs n) (sym (moved_some s (choices_of s) l)) ∙ sym (runs_front n s))
        (more (taken s (choices_of s))))

-- the same under any schedule
pub scheduled_led : (scenario : Scenario) (spec : ScheduleSpec) (s : Simulation)
    → IsScheduledRun (with_schedule scenario spec) s
    → (path : Path) × (IsWholePath scenario path × (path.end.parts ≡ s.parts) × (path.end.threads ≡ s.threads))
unfolding begins
scheduled_led scenario spec s r =
    let o : Order = opening_order scenario.schedule in
    let h : IsLed o (begins (with_schedule scenario spec)) (runs r.steps (begins (with_schedule scenario spec))) =
    runs_led o r.steps (begins (with_schedule scenario spec)) in (
      record { picks = h.picks; end = with_order o s },
      (
        record {
          led = h.leads ∙ ap (λ (x : Simulation). Some (with_order o x)) r.reached;
          ended = choices_same o s ∙ r.ended;
        },
        refl,
        refl,
      ),
    )

-- ---- a run in some order is listed

position_first : (p : ℕ → Bool) (x : ℕ) (xs : List ℕ) → p x ≡ true → position p (x ∷ xs) ≡ Some 0
position_first p x xs h = rw h (rw (lt-ltb 0 (suc (length xs)) (omega arith)) refl)

position_next : (p : ℕ → Bool) (x : ℕ) (xs : List ℕ) (index : ℕ) → p x ≡ false → position p xs ≡ Some index
    → position p (x ∷ xs) ≡ Some (suc index)
position_next p x xs index h at = split (nat_lt (position_or_len p xs) (length xs))
    (λ low.
    let is : position_or_len p xs ≡ index = same_inside (rw low at at) in
    let less : position_or_len p xs < length xs = ltb-true (position_or_len p xs) (length xs) low in
    rw h (rw (lt-ltb (1 + position_or_len p xs) (suc (length xs)) (omega arith))
    (ap {B = Option ℕ} (λ (k : ℕ). Some k) (one_more (position_or_len p xs) index is))))
    (λ high. none_is_some (rw high at at))
  where
    one_more : (a b : ℕ) → a ≡ b → 1 + a ≡ suc b
    one_more a b e = omega arith

-- an actor's choice has the index at which the actor is named
pub record IsFoundAt (actor : ℕ) (c : Choice) (choices : List Choice) : Type 0 where
  pub index : ℕ
  pub named : position (λ a. a == actor) (map actor_of choices) ≡ Some index
  pub at : slice_get choices index ≡ Some c
  pub own : c.actor ≡ actor

pub indexed : (actor : ℕ) (c : Choice) (choices : List Choice) → find (λ x. x.actor == actor) choices ≡ Some c
    → IsFoundAt actor c choices
indexed actor c [] h = none_is_some h
indexed actor c (x ∷ choices) h = split (x.actor == actor)
    (λ same. record {
      index = 0;
      named = position_first (λ a. a == actor) x.actor (map actor_of choices) same;
      at = rw same at h;
      own = ap (λ (y : Choice). y.actor) (sym (same_inside (rw same at h))) ∙ eqb-true x.actor actor same;
    })
    (λ other.
    let f : IsFoundAt actor c choices = indexed actor c choices (rw other at h) in record {
      index = suc f.index;
      named = position_next (λ a. a == actor) x.actor (map actor_of choices) f.index other f.named;
      at = f.at;
      own = f.own;
    })

abbrev by_position : List ℕ → List ℕ → Option ℕ → Picked
by_position picks actors o = elim o as (λ x. Picked) [
  | Some index ↦ record { index = index; order = listed picks }
  | None ↦ listed_pick picks actors
]

picked_is : (pick : ℕ) (picks actors : List ℕ) (index : ℕ) → position (λ a. a == pick) actors ≡ Some index
    → picked (listed (pick ∷ picks)) actors ≡ record { index = index; order = listed picks }
unfolding picked
picked_is pick picks actors index h = ap (by_position picks actors) h

taken_is : (s : Simulation) (pick : ℕ) (picks : List ℕ) (choices : List Choice) (c : Choice) → s.order ≡ listed (pick ∷ picks)
    → IsFoundAt pick c choices → taken s choices ≡ stepped_by s (listed picks) c (slice_get s.parts c.part)
unfolding taken
taken_is s pick picks choices c order f =
    ap (λ (p : Picked). taken_by s p.order (slice_get choices p.index))
    (ap (λ (o : Order). picked o (map actor_of choices)) order ∙ picked_is pick picks (map actor_of choices) f.index f.named)
    ∙ ap (taken_by s (listed picks)) f.at

position_within : (choices : List Choice) (index : ℕ) (c : Choice) → slice_get choices index ≡ Some c → 0 < length choices
position_within [] index c h = none_is_some h
position_within (x ∷ choices) index c h = omega arith

-- one step under the schedule that lists the picks
pub record IsListedStep (s : Simulation) (actor : ℕ) (picks : List ℕ) (c : Choice) : Type 0 where
  pub some : 0 < length (choices_of (with_order (listed (actor ∷ picks)) s))
  pub step : taken (with_order (listed (actor ∷ picks)) s) (choices_of (with_order (listed (actor ∷ picks)) s))
      ≡ with_order (listed picks) (follows s c)

pub listed_step : (s : Simulation) (actor : ℕ) (picks : List ℕ) (c : Choice) → choice_of_actor actor s ≡ Some c
    → IsListedStep s actor picks c
listed_step s actor picks c h =
    let x : Simulation = with_order (listed (actor ∷ picks)) s in
    let f : IsFoundAt actor c (choices_of x) =
    indexed actor c (choices_of x) (ap (find (λ (y : Choice). y.actor == actor)) (choices_same (listed (actor ∷ picks)) s) ∙ h)
    in record {
      some = position_within (choices_of x) f.index c f.at;
      step = taken_is x actor picks (choices_of x) c refl f
          ∙ stepped_as (listed picks) (listed (actor ∷ picks)) s c (slice_get s.parts c.part);
    }

pub led_listed : (picks : List ℕ) (s t : Simulation) → led s picks ≡ Some t
    → runs (length picks) (with_order (listed picks) s) ≡ with_order (listed []) t
unfolding led runs
led_listed [] s t h = ap (with_order (listed [])) (same_inside h)
led_listed (actor ∷ picks) s t h =
    let one : HasStep s actor picks t = led_step s t actor picks h in
    let x : Simulation = with_order (listed (actor ∷ picks)) s in
    let step : IsListedStep s actor picks one.choice = listed_step s actor picks one.choice one.chosen in
    runs_front (length picks) x
    ∙ ap (runs (length picks)) (moved_some x (choices_of x) step.some ∙ step.step)
    ∙ led_listed picks (follows s one.choice) t one.leads

-- the scenario under the schedule that lists the picks
abbrev pub listing : Scenario → List ℕ → Scenario
listing scenario picks = with_schedule scenario (schedule.Listed picks)

pub listed_run : (scenario : Scenario) (picks : List ℕ) (t : Simulation) → led (begins scenario) picks ≡ Some t
    → runs (length picks) (begins (listing scenario picks)) ≡ with_order (listed []) t
unfolding begins opening_order
listed_run scenario picks t h = led_listed picks (begins scenario) t h

pub whole_listed : (scenario : Scenario) (path : Path) → IsWholePath scenario path
    → (s : Simulation) × (IsScheduledRun (listing scenario path.picks) s
    × (s.parts ≡ path.end.parts) × (s.threads ≡ path.end.threads))
whole_listed scenario path w = (
  with_order (listed []) path.end,
  (
    record {
      steps = length path.picks;
      reached = listed_run scenario path.picks path.end w.led;
      ended = choices_same (listed []) path.end ∙ w.ended;
    },
    refl,
    refl,
  ),
)
