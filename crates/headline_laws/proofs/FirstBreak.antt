use Rattle.std.proofs.Common.{◌≡◌, ℕ, suc, ◌+◌, ◌-◌, true, Some, None, List, [], ◌∷◌, ◌++◌, length, take, refl, sym}
use Rattle.std.proofs.Common.{ap, ◌∙◌, subst, arith}
use Rattle.std.proofs.lemmas.List.{take_at}
use Rattle.nook_data.specs.declared.clause.Clause.{Clause}
use Rattle.nook_data.specs.declared.classes.Class.{Class}
use Rattle.nook_data.specs.declared.steps.Event.{Event}
use Rattle.nook_data.specs.declared.steps.Event.TheVariants as event
use Rattle.nook_data.specs.declared.verdicts.Break.{Break}
use Rattle.nook_data.proofs.Options.{same_inside}
use Rattle.promise_defs.specs.Contract.{Known, break_from, broken, first_break, known_after, known_first}
use Rattle.promise_defs.proofs.PromiseChanges.{break_or}
use Rattle.part_laws.specs.Bound.{is_burst}

-- The events before the first break.

-- the first break is at an event after a prefix without a break
pub record IsBrokenAt (position : ℕ) (k : Known) (events : List Event) (b : Break) : Type 0 where
  pub front : List Event
  pub event : Event
  pub back : List Event
  pub parts : events ≡ front ++ event ∷ back
  pub number : b.event ≡ position + length front
  pub kept : break_from position k front ≡ None
  pub next : break_from position k (front ++ event ∷ []) ≡ Some b
  pub burst : is_burst event ≡ true

only_bursts : (k : Known) (e : Event) (clause : Clause) (more : List Clause) → broken k e ≡ clause ∷ more
    → is_burst e ≡ true
only_bursts k (event.Invoke call thread o answer) clause more h = absurd cc
only_bursts k (event.Enter call thread attempt answer) clause more h = absurd cc
only_bursts k (event.Burst context call burst count e acts answer failure) clause more h = refl
only_bursts k (event.Stage s answers released) clause more h = absurd cc
only_bursts k (event.Arrive frame kept) clause more h = absurd cc

pub broken_at : (position : ℕ) (k : Known) (events : List Event) (b : Break) → break_from position k events ≡ Some b
    → IsBrokenAt position k events b
unfolding break_from
broken_at position k [] b h = absurd cc
broken_at position k (e ∷ events) b h =
    by_clauses (broken k e) refl h (λ later. broken_at (suc position) (known_after k e) events b later)
  where
    by_clauses : (cs : List Clause) → broken k e ≡ cs
        → break_or position cs (break_from (suc position) (known_after k e) events) ≡ Some b
        → (break_from (suc position) (known_after k e) events ≡ Some b → IsBrokenAt (suc position) (known_after k e) events b)
        → IsBrokenAt position k (e ∷ events) b
    by_clauses [] same reported more =
        let later : IsBrokenAt (suc position) (known_after k e) events b = more reported in
        let n : b.event ≡ suc position + length later.front = later.number in
        record {
          front = e ∷ later.front;
          event = later.event;
          back = later.back;
          parts = ap (λ (l : List Event). e ∷ l) later.parts;
          number = omega arith;
          kept = ap (λ (cs : List Clause). break_or position cs
              (break_from (suc position) (known_after k e) later.front)) same ∙ later.kept;
          next = ap (λ (cs : List Clause). break_or position cs
              (break_from (suc position) (known_after k e) (later.front ++ later.event ∷ []))) same ∙ later.next;
          burst = later.burst;
        }
    by_clauses (clause ∷ others) same reported more =
        let n : position ≡ b.event = ap (λ (x : Break). x.event) (same_inside reported) in
        record {
          front = [];
          event = e;
          back = events;
          parts = refl;
          number = omega arith;
          kept = refl;
          next = ap (λ (cs : List Clause). break_or position cs None) same ∙ reported;
          burst = only_bursts k e clause others same;
        }

-- the events before the first break are this prefix
pub before_break : (class : Class) (size : ℕ) (events : List Event) (b : Break)
    → (x : IsBrokenAt 1 (known_first class size) events b) → take (b.event - 1) events ≡ x.front
before_break class size events b x =
    let n : b.event ≡ 1 + length x.front = x.number in
    ap (take (b.event - 1)) x.parts ∙ take_at x.front (x.event ∷ x.back) (b.event - 1) (omega arith)

one_more : (front back : List Event) (e : Event) → (front ++ e ∷ []) ++ back ≡ front ++ e ∷ back
one_more [] back e = refl
one_more (x ∷ front) back e = ap (λ (l : List Event). x ∷ l) (one_more front back e)

one_longer : (front : List Event) (e : Event) → length (front ++ e ∷ []) ≡ length front + 1
one_longer [] e = refl
one_longer (x ∷ front) e = let more : length (front ++ e ∷ []) ≡ length front + 1 = one_longer front e in omega arith

with_break : (class : Class) (size : ℕ) (events : List Event) (b : Break)
    → (x : IsBrokenAt 1 (known_first class size) events b) → take b.event events ≡ x.front ++ x.event ∷ []
with_break class size events b x =
    let n : b.event ≡ 1 + length x.front = x.number in
    let l : length (x.front ++ x.event ∷ []) ≡ length x.front + 1 = one_longer x.front x.event in
    ap (take b.event) (x.parts ∙ sym (one_more x.front x.back x.event))
    ∙ take_at (x.front ++ x.event ∷ []) x.back b.event (omega arith)

pub kept_before : (class : Class) (size : ℕ) (events : List Event) (b : Break) → first_break class size events ≡ Some b
    → first_break class size (take (b.event - 1) events) ≡ None
unfolding first_break
kept_before class size events b h =
    let x = broken_at 1 (known_first class size) events b h in
    subst (λ (l : List Event). break_from 1 (known_first class size) l ≡ None)
    (sym (before_break class size events b x)) x.kept

pub broken_next : (class : Class) (size : ℕ) (events : List Event) (b : Break) → first_break class size events ≡ Some b
    → first_break class size (take b.event events) ≡ Some b
unfolding first_break
broken_next class size events b h =
    let x = broken_at 1 (known_first class size) events b h in
    subst (λ (l : List Event). break_from 1 (known_first class size) l ≡ Some b)
    (sym (with_break class size events b x)) x.next
