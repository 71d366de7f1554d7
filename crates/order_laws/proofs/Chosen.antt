-- A listed schedule takes the choice of the actor that it names.
use Rattle.std.proofs.Common.{◌≡◌, ℕ, zero, suc, ◌+◌, ◌*◌, ◌<◌, ◌≤◌, ◌==◌, nat_lt, Bool, true, false, Option, Some, None, List, [], ◌∷◌, length, map, slice_get, refl, sym, ap, ◌∙◌, subst, arith, eq-eqb, ne_eqb, lt-ltb}
use Rattle.std.proofs.lemmas.Bool.{ltb-true}
use Rattle.std.specs.Prelude.{position}
use Rattle.std.specs.List.{position_or_len}
use Rattle.nook_data.specs.declared.calls.Op.{Op}
use Rattle.nook_data.specs.declared.steps.Step.{Step}
use Rattle.nook_data.proofs.Options.{none_is_some, same_inside}
use Rattle.part_defs.specs.Runs.{next_recovery}
use Rattle.part_laws.proofs.Indices.{split}
use Rattle.run_defs.specs.Schedules.{Order, Picked, listed, listed_pick, picked}
use Rattle.run_defs.specs.Simulation.{Choice, RunningPart, Simulation, ThreadState, Waiting, actor_of, arrival, choices_of, runs, stepped_by, taken}
use Rattle.run_defs.proofs.ChoicesInOrder.{choices_in_order, part_choices, thread_choices, with_choice, with_invocation, with_thread}
use Rattle.run_defs.proofs.RunChanges.{taken_by}

-- ---- the index of an actor

position_first : (p : ℕ → Bool) (x : ℕ) (xs : List ℕ) → p x ≡ true → position p (x ∷ xs) ≡ Some 0
position_first p x xs h = rw h (rw (lt-ltb 0 (suc (length xs)) (omega arith)) refl)

position_next : (p : ℕ → Bool) (x : ℕ) (xs : List ℕ) (index : ℕ) → p x ≡ false → position p xs ≡ Some index → position p (x ∷ xs) ≡ Some (suc index)
position_next p x xs index h at = split (nat_lt (position_or_len p xs) (length xs))
    (λ low.
    let is : position_or_len p xs ≡ index = same_inside (rw low at at) in
    let less : position_or_len p xs < length xs = ltb-true (position_or_len p xs) (length xs) low in
    rw h (rw (lt-ltb (1 + position_or_len p xs) (suc (length xs)) (omega arith)) (ap {B = Option ℕ} (λ (k : ℕ). Some k) (one_more (position_or_len p xs) index is))))
    (λ high. none_is_some (rw high at at))
  where
    one_more : (a b : ℕ) → a ≡ b → 1 + a ≡ suc b
    one_more a b e = omega arith

-- the actor is among the choices, with this choice
abbrev pub Finds : ℕ → Choice → List Choice → Type 0
Finds actor c choices = (index : ℕ) × (position (λ a. a == actor) (map actor_of choices) ≡ Some index) × (slice_get choices index ≡ Some c)

finds_here : (actor : ℕ) (c : Choice) (choices : List Choice) → c.actor ≡ actor → Finds actor c (c ∷ choices)
finds_here actor c choices h = (0, position_first (λ a. a == actor) c.actor (map actor_of choices) (eq-eqb c.actor actor h), refl)

finds_past : (actor : ℕ) (c d : Choice) (choices : List Choice) → (d.actor == actor) ≡ false → Finds actor c choices → Finds actor c (d ∷ choices)
finds_past actor c d choices h f = (suc f.0, position_next (λ a. a == actor) d.actor (map actor_of choices) f.0 h f.1, f.2)

module _ (actor : ℕ) (c : Choice) where
  past_choice : (other part : ℕ) (o : Option Step) (choices : List Choice) → (other == actor) ≡ false → Finds actor c choices → Finds actor c (with_choice other part o choices)
  past_choice other part None choices h f = f
  past_choice other part (Some s) choices h f = finds_past actor c (record { actor = other; part = part; step = s }) choices h f

  past_invocation : (other : ℕ) (parts : List RunningPart) (rest : List (ℕ × Op)) (choices : List Choice) → (other == actor) ≡ false → Finds actor c choices
      → Finds actor c (with_invocation other parts rest choices)
  past_invocation other parts [] choices h f = f
  past_invocation other parts ((part, o) ∷ rest) choices h f = past_choice other part _ choices h f

  past_thread : (other : ℕ) (parts : List RunningPart) (t : ThreadState) (w : Option Waiting) (choices : List Choice) → (other == actor) ≡ false → Finds actor c choices
      → Finds actor c (with_thread other parts t w choices)
  past_thread other parts t None choices h f = past_invocation other parts t.rest choices h f
  past_thread other parts t (Some w) choices h f = past_choice other w.part _ choices h f

  past_threads : (n : ℕ) (parts : List RunningPart) (threads : List ThreadState) (choices : List Choice) → n + length threads ≤ actor → Finds actor c choices
      → Finds actor c (thread_choices n parts threads choices)
  past_threads n parts [] choices l f = f
  past_threads n parts (t ∷ threads) choices l f =
      past_thread n parts t t.waiting (thread_choices (n + 1) parts threads choices) (ne_eqb n actor (λ e. omega arith))
      (past_threads (n + 1) parts threads choices (omega arith) f)

  -- a thread's choice
  in_threads : (n : ℕ) (parts : List RunningPart) (threads : List ThreadState) (choices : List Choice) (k : ℕ) (t : ThreadState) → actor ≡ n + k → c.actor ≡ actor
      → slice_get threads k ≡ Some t → ((others : List Choice) → with_thread actor parts t t.waiting others ≡ c ∷ others)
      → Finds actor c (thread_choices n parts threads choices)
  in_threads n parts [] choices k t is own at has = none_is_some at
  in_threads n parts (x ∷ threads) choices zero t is own at has =
      let here : actor ≡ n = omega arith in
      let others : List Choice = thread_choices (n + 1) parts threads choices in
      subst (λ (m : ℕ). Finds actor c (with_thread m parts x x.waiting (thread_choices (n + 1) parts threads choices))) here
      (subst (λ (y : ThreadState). Finds actor c (with_thread actor parts y y.waiting (thread_choices (n + 1) parts threads choices))) (sym (same_inside at))
      (subst (Finds actor c) (sym (has others)) (finds_here actor c others own)))
  in_threads n parts (x ∷ threads) choices (suc k) t is own at has =
      past_thread n parts x x.waiting (thread_choices (n + 1) parts threads choices) (ne_eqb n actor (λ e. omega arith))
      (in_threads (n + 1) parts threads choices k t (omega arith) own at has)

  own_choice : (part : ℕ) (o : Option Step) (s : Step) (choices : List Choice) → o ≡ Some s → c ≡ record { actor = actor; part = part; step = s }
      → Finds actor c (with_choice actor part o choices)
  own_choice part o s choices h is =
      subst (λ (x : Option Step). Finds actor c (with_choice actor part x choices)) (sym h)
      (subst (λ (x : Choice). Finds actor c (x ∷ choices)) is (finds_here actor c choices (ap (λ (x : Choice). x.actor) is)))

  -- a part's recovery, and its arrivals
  in_recoveries : (first part : ℕ) (seats : List RunningPart) (k : ℕ) (seat : RunningPart) (s : Step) → actor ≡ first + 2 * k → slice_get seats k ≡ Some seat
      → next_recovery seat.run.state ≡ Some s → c ≡ record { actor = actor; part = part + k; step = s } → Finds actor c (part_choices first part seats)
  in_recoveries first part [] k seat s is at next c_is = none_is_some at
  in_recoveries first part (x ∷ seats) zero seat s is at next c_is =
      let here : actor ≡ first = omega arith in
      subst (λ (m : ℕ). Finds actor c (with_choice m part (next_recovery x.run.state) (with_choice (first + 1) part (arrival x.run x.coming) (part_choices (first + 2) (part + 1) seats)))) here
      (own_choice part (next_recovery x.run.state) s (with_choice (first + 1) part (arrival x.run x.coming) (part_choices (first + 2) (part + 1) seats))
      (ap (λ (y : RunningPart). next_recovery y.run.state) (same_inside at) ∙ next)
      (c_is ∙ ap {B = Choice} (λ (p : ℕ). record { actor = actor; part = p; step = s }) (plus part)))
    where
      plus : (n : ℕ) → n + 0 ≡ n
      plus n = omega arith
  in_recoveries first part (x ∷ seats) (suc k) seat s is at next c_is =
      past_choice first part (next_recovery x.run.state) _ (ne_eqb first actor (λ e. omega arith))
      (past_choice (first + 1) part (arrival x.run x.coming) _ (ne_eqb (first + 1) actor (λ e. omega arith))
      (in_recoveries (first + 2) (part + 1) seats k seat s (omega arith) at next (c_is ∙ ap {B = Choice} (λ (p : ℕ). record { actor = actor; part = p; step = s }) (plus part k))))
    where
      plus : (n k : ℕ) → n + suc k ≡ n + 1 + k
      plus n k = omega arith

  in_arrivals : (first part : ℕ) (seats : List RunningPart) (k : ℕ) (seat : RunningPart) (s : Step) → actor ≡ first + 2 * k + 1 → slice_get seats k ≡ Some seat
      → arrival seat.run seat.coming ≡ Some s → c ≡ record { actor = actor; part = part + k; step = s } → Finds actor c (part_choices first part seats)
  in_arrivals first part [] k seat s is at next c_is = none_is_some at
  in_arrivals first part (x ∷ seats) zero seat s is at next c_is =
      let here : actor ≡ first + 1 = omega arith in
      past_choice first part (next_recovery x.run.state) _ (ne_eqb first actor (λ e. omega arith))
      (subst (λ (m : ℕ). Finds actor c (with_choice m part (arrival x.run x.coming) (part_choices (first + 2) (part + 1) seats))) here
      (own_choice part (arrival x.run x.coming) s (part_choices (first + 2) (part + 1) seats)
      (ap (λ (y : RunningPart). arrival y.run y.coming) (same_inside at) ∙ next)
      (c_is ∙ ap {B = Choice} (λ (p : ℕ). record { actor = actor; part = p; step = s }) (plus part))))
    where
      plus : (n : ℕ) → n + 0 ≡ n
      plus n = omega arith
  in_arrivals first part (x ∷ seats) (suc k) seat s is at next c_is =
      past_choice first part (next_recovery x.run.state) _ (ne_eqb first actor (λ e. omega arith))
      (past_choice (first + 1) part (arrival x.run x.coming) _ (ne_eqb (first + 1) actor (λ e. omega arith))
      (in_arrivals (first + 2) (part + 1) seats k seat s (omega arith) at next (c_is ∙ ap {B = Choice} (λ (p : ℕ). record { actor = actor; part = p; step = s }) (plus part k))))
    where
      plus : (n k : ℕ) → n + suc k ≡ n + 1 + k
      plus n k = omega arith

-- ---- in a simulation

pub thread_found : (s : Simulation) (i : ℕ) (c : Choice) (t : ThreadState) → c.actor ≡ i → slice_get s.threads i ≡ Some t
    → ((others : List Choice) → with_thread i s.parts t t.waiting others ≡ c ∷ others) → Finds i c (choices_of s)
thread_found s i c t own at has =
    subst (Finds i c) (sym (choices_in_order s)) (in_threads i c 0 s.parts s.threads (part_choices (length s.threads) 0 s.parts) i t (plus i) own at has)
  where
    plus : (k : ℕ) → k ≡ 0 + k
    plus k = omega arith

pub recovery_found : (s : Simulation) (k : ℕ) (seat : RunningPart) (x : Step) → slice_get s.parts k ≡ Some seat → next_recovery seat.run.state ≡ Some x
    → Finds (length s.threads + 2 * k) (record { actor = length s.threads + 2 * k; part = k; step = x }) (choices_of s)
recovery_found s k seat x at next =
    let actor : ℕ = length s.threads + 2 * k in
    let c : Choice = record { actor = length s.threads + 2 * k; part = k; step = x } in
    subst (Finds actor c) (sym (choices_in_order s)) (past_threads actor c 0 s.parts s.threads (part_choices (length s.threads) 0 s.parts) (low (length s.threads) k)
    (in_recoveries actor c (length s.threads) 0 s.parts k seat x refl at next (ap {B = Choice} (λ (p : ℕ). record { actor = length s.threads + 2 * k; part = p; step = x }) (plus k))))
  where
    plus : (k : ℕ) → k ≡ 0 + k
    plus k = omega arith

    low : (n k : ℕ) → 0 + n ≤ n + 2 * k
    low n k = omega arith

pub arrival_found : (s : Simulation) (k : ℕ) (seat : RunningPart) (x : Step) → slice_get s.parts k ≡ Some seat → arrival seat.run seat.coming ≡ Some x
    → Finds (length s.threads + 2 * k + 1) (record { actor = length s.threads + 2 * k + 1; part = k; step = x }) (choices_of s)
arrival_found s k seat x at next =
    let actor : ℕ = length s.threads + 2 * k + 1 in
    let c : Choice = record { actor = length s.threads + 2 * k + 1; part = k; step = x } in
    subst (Finds actor c) (sym (choices_in_order s)) (past_threads actor c 0 s.parts s.threads (part_choices (length s.threads) 0 s.parts) (low (length s.threads) k)
    (in_arrivals actor c (length s.threads) 0 s.parts k seat x refl at next (ap {B = Choice} (λ (p : ℕ). record { actor = length s.threads + 2 * k + 1; part = p; step = x }) (plus k))))
  where
    plus : (k : ℕ) → k ≡ 0 + k
    plus k = omega arith

    low : (n k : ℕ) → 0 + n ≤ n + 2 * k + 1
    low n k = omega arith

-- ---- one step of a listed schedule

abbrev by_position : List ℕ → List ℕ → Option ℕ → Picked
by_position picks actors o = elim o as (λ x. Picked) [ Some index ↦ record { index = index; order = listed picks } | None ↦ listed_pick picks actors ]

picked_is : (pick : ℕ) (picks actors : List ℕ) (index : ℕ) → position (λ a. a == pick) actors ≡ Some index
    → picked (listed (pick ∷ picks)) actors ≡ record { index = index; order = listed picks }
unfolding picked
picked_is pick picks actors index h = ap (by_position picks actors) h

taken_is : (s : Simulation) (pick : ℕ) (picks : List ℕ) (choices : List Choice) (c : Choice) → s.order ≡ listed (pick ∷ picks) → Finds pick c choices
    → taken s choices ≡ stepped_by s (listed picks) c (slice_get s.parts c.part)
unfolding taken
taken_is s pick picks choices c order f =
    ap (λ (p : Picked). taken_by s p.order (slice_get choices p.index))
    (ap (λ (o : Order). picked o (map actor_of choices)) order ∙ picked_is pick picks (map actor_of choices) f.0 f.1)
    ∙ ap (taken_by s (listed picks)) f.2

abbrev run_by : ℕ → Simulation → List Choice → Simulation
run_by m s choices = elim choices as (λ x. Simulation) [ [] ↦ s | (c ∷ more) ↦ runs m (taken s (c ∷ more)) ]

runs_on : (m : ℕ) (s : Simulation) (choices : List Choice) → choices_of s ≡ choices → (index : ℕ) (c : Choice) → slice_get choices index ≡ Some c
    → runs (suc m) s ≡ runs m (taken s choices)
unfolding runs
runs_on m s [] e index c h = none_is_some h
runs_on m s (d ∷ choices) e index c h = ap (run_by m s) e

-- the run continues after the choice of the picked actor
pub runs_listed : (m : ℕ) (s : Simulation) (pick : ℕ) (picks : List ℕ) (c : Choice) → s.order ≡ listed (pick ∷ picks) → Finds pick c (choices_of s)
    → runs (suc m) s ≡ runs m (stepped_by s (listed picks) c (slice_get s.parts c.part))
runs_listed m s pick picks c order f =
    runs_on m s (choices_of s) refl f.0 c f.2 ∙ ap (runs m) (taken_is s pick picks (choices_of s) c order f)
