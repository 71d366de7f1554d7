use Rattle.std.proofs.Common.{◌≡◌, ◌⊎◌, inl, inr, ℕ, zero, suc, ◌+◌, ◌*◌, ◌<◌, ◌==◌, Bool, false, Option, Some, None, List, [], ◌∷◌, find, length, slice_get, refl, sym, ap, ◌∙◌, subst, zero-add, arith, eq-eqb, ne_eqb}
use Rattle.std.specs.List.{AllByRecursion}
use Rattle.explore_defs.specs.Orders.{choice_of_actor}
use Rattle.nook_data.proofs.Options.{none_is_some, same_inside}
use Rattle.nook_data.specs.declared.calls.Op.{Op}
use Rattle.nook_data.specs.declared.steps.Step.{Step}
use Rattle.part_defs.specs.Runs.{next_recovery}
use Rattle.part_laws.proofs.Indices.{split}
use Rattle.run_defs.proofs.ChoicesInOrder.{choices_in_order, part_choices, thread_choices, with_choice, with_invocation, with_thread}
use Rattle.run_defs.specs.Simulation.{Choice, RunningPart, Simulation, ThreadState, Waiting, arrival, choice_of, choices_of}
use Rattle.run_defs.specs.Simulation.{going_on, invocation}

-- The choice of an actor, by its number; and what a choice is.

abbrev is_of : ℕ → Choice → Bool
is_of actor c = c.actor == actor

-- ---- one actor

abbrev pub invocation_of : ℕ → List RunningPart → List (ℕ × Op) → Option Choice
invocation_of thread parts [] = None
invocation_of thread parts ((part, o) ∷ rest) = choice_of thread part (invocation thread o (slice_get parts part))

-- a thread's choice
abbrev pub thread_choice : ℕ → List RunningPart → List (ℕ × Op) → Option Waiting → Option Choice
thread_choice thread parts rest None = invocation_of thread parts rest
thread_choice thread parts rest (Some w) = choice_of thread w.part (going_on thread (slice_get parts w.part))

pass_choice : (m actor part : ℕ) (o : Option Step) (choices : List Choice) → (actor == m) ≡ false
    → find (is_of m) (with_choice actor part o choices) ≡ find (is_of m) choices
pass_choice m actor part None choices h = refl
pass_choice m actor part (Some s) choices h = rw h refl

own_choice : (actor part : ℕ) (o : Option Step) (choices : List Choice) → find (is_of actor) choices ≡ None
    → find (is_of actor) (with_choice actor part o choices) ≡ choice_of actor part o
own_choice actor part None choices h = h
own_choice actor part (Some s) choices h = rw (eq-eqb actor actor refl) refl

pass_invocation : (m thread : ℕ) (parts : List RunningPart) (rest : List (ℕ × Op)) (choices : List Choice) → (thread == m) ≡ false
    → find (is_of m) (with_invocation thread parts rest choices) ≡ find (is_of m) choices
pass_invocation m thread parts [] choices h = refl
pass_invocation m thread parts ((part, o) ∷ rest) choices h =
    pass_choice m thread part (invocation thread o (slice_get parts part)) choices h

own_invocation : (thread : ℕ) (parts : List RunningPart) (rest : List (ℕ × Op)) (choices : List Choice) → find (is_of thread) choices ≡ None
    → find (is_of thread) (with_invocation thread parts rest choices) ≡ invocation_of thread parts rest
own_invocation thread parts [] choices h = h
own_invocation thread parts ((part, o) ∷ rest) choices h =
    own_choice thread part (invocation thread o (slice_get parts part)) choices h

pass_thread : (m thread : ℕ) (parts : List RunningPart) (t : ThreadState) (w : Option Waiting) (choices : List Choice) → (thread == m) ≡ false
    → find (is_of m) (with_thread thread parts t w choices) ≡ find (is_of m) choices
pass_thread m thread parts t None choices h = pass_invocation m thread parts t.rest choices h
pass_thread m thread parts t (Some w) choices h = pass_choice m thread w.part (going_on thread (slice_get parts w.part)) choices h

own_thread : (thread : ℕ) (parts : List RunningPart) (t : ThreadState) (w : Option Waiting) (choices : List Choice) → find (is_of thread) choices ≡ None
    → find (is_of thread) (with_thread thread parts t w choices) ≡ thread_choice thread parts t.rest w
own_thread thread parts t None choices h = own_invocation thread parts t.rest choices h
own_thread thread parts t (Some w) choices h = own_choice thread w.part (going_on thread (slice_get parts w.part)) choices h

-- ---- all actors

other : (a b : ℕ) → (a ≡ b → ⊥) → (a == b) ≡ false
other a b n = ne_eqb a b n

-- the threads before an actor
pass_threads : (m n : ℕ) (parts : List RunningPart) (threads : List ThreadState) (choices : List Choice)
    → ((k : ℕ) → k < length threads → n + k ≡ m → ⊥)
    → find (is_of m) (thread_choices n parts threads choices) ≡ find (is_of m) choices
pass_threads m n parts [] choices h = refl
pass_threads m n parts (t ∷ threads) choices h =
    pass_thread m n parts t t.waiting (thread_choices (n + 1) parts threads choices)
    (other n m (λ e. h 0 (omega arith) (plus n ∙ e)))
    ∙ pass_threads m (n + 1) parts threads choices (λ k l e. h (suc k) (omega arith) (next n k ∙ e))
  where
    plus : (n : ℕ) → n + 0 ≡ n
    plus n = omega arith

    next : (n k : ℕ) → n + suc k ≡ n + 1 + k
    next n k = omega arith

own_threads : (n k : ℕ) (parts : List RunningPart) (threads : List ThreadState) (t : ThreadState) (choices : List Choice)
    → slice_get threads k ≡ Some t → find (is_of (n + k)) choices ≡ None
    → find (is_of (n + k)) (thread_choices n parts threads choices) ≡ thread_choice (n + k) parts t.rest t.waiting
own_threads n k parts [] t choices at h = none_is_some at
own_threads n zero parts (x ∷ threads) t choices at h =
    subst (λ (m : ℕ). find (is_of m) choices ≡ None → find (is_of m) (thread_choices n parts (x ∷ threads) choices) ≡ thread_choice m parts t.rest t.waiting)
    (sym (plus n))
    (λ g. subst (λ (y : ThreadState). find (is_of n) (with_thread n parts x x.waiting (thread_choices (n + 1) parts threads choices)) ≡ thread_choice n parts y.rest y.waiting)
    (same_inside at)
    (own_thread n parts x x.waiting (thread_choices (n + 1) parts threads choices)
    (pass_threads n (n + 1) parts threads choices (λ k l e. absurd (above n k e)) ∙ g)))
    h
  where
    plus : (n : ℕ) → n + 0 ≡ n
    plus n = omega arith

    above : (n k : ℕ) → n + 1 + k ≡ n → ⊥
    above n k e = omega arith
own_threads n (suc k) parts (x ∷ threads) t choices at h =
    pass_thread (n + suc k) n parts x x.waiting (thread_choices (n + 1) parts threads choices) (other n (n + suc k) (below n k))
    ∙ subst (λ (m : ℕ). find (is_of m) choices ≡ None → find (is_of m) (thread_choices (n + 1) parts threads choices) ≡ thread_choice m parts t.rest t.waiting)
    (next n k) (own_threads (n + 1) k parts threads t choices at) h
  where
    below : (n k : ℕ) → n ≡ n + suc k → ⊥
    below n k e = omega arith

    next : (n k : ℕ) → n + 1 + k ≡ n + suc k
    next n k = omega arith

-- the parts' actors follow the threads
pass_parts : (m actor part : ℕ) (seats : List RunningPart) → m < actor → find (is_of m) (part_choices actor part seats) ≡ None
pass_parts m actor part [] l = refl
pass_parts m actor part (seat ∷ seats) l =
    pass_choice m actor part (next_recovery seat.run.state) _ (other actor m (λ e. apart actor m l e))
    ∙ pass_choice m (actor + 1) part (arrival seat.run seat.coming) _ (other (actor + 1) m (λ e. above actor m l e))
    ∙ pass_parts m (actor + 2) (part + 1) seats (omega arith)
  where
    apart : (a m : ℕ) → m < a → a ≡ m → ⊥
    apart a m l e = omega arith

    above : (a m : ℕ) → m < a → a + 1 ≡ m → ⊥
    above a m l e = omega arith

own_recovery : (m actor part k : ℕ) (seats : List RunningPart) (seat : RunningPart) → slice_get seats k ≡ Some seat → m ≡ actor + 2 * k
    → find (is_of m) (part_choices actor part seats) ≡ choice_of m (part + k) (next_recovery seat.run.state)
own_recovery m actor part k [] seat at e = none_is_some at
own_recovery m actor part zero (x ∷ seats) seat at e =
    subst (λ (n : ℕ). find (is_of n) (part_choices actor part (x ∷ seats)) ≡ choice_of n (part + 0) (next_recovery seat.run.state)) (first actor m e)
    (subst (λ (n : ℕ). find (is_of actor) (part_choices actor part (x ∷ seats)) ≡ choice_of actor n (next_recovery seat.run.state)) (plus part)
    (subst (λ (y : RunningPart). find (is_of actor) (part_choices actor part (x ∷ seats)) ≡ choice_of actor part (next_recovery y.run.state)) (same_inside at)
    (own_choice actor part (next_recovery x.run.state) _
    (pass_choice actor (actor + 1) part (arrival x.run x.coming) _ (other (actor + 1) actor (above actor))
    ∙ pass_parts actor (actor + 2) (part + 1) seats (omega arith)))))
  where
    plus : (n : ℕ) → n ≡ n + 0
    plus n = omega arith

    first : (a m : ℕ) → m ≡ a + 2 * 0 → a ≡ m
    first a m e = omega arith

    above : (a : ℕ) → a + 1 ≡ a → ⊥
    above a e = omega arith
own_recovery m actor part (suc k) (x ∷ seats) seat at e =
    pass_choice m actor part (next_recovery x.run.state) _ (other actor m (apart actor m k e))
    ∙ pass_choice m (actor + 1) part (arrival x.run x.coming) _ (other (actor + 1) m (above actor m k e))
    ∙ subst (λ (n : ℕ). find (is_of m) (part_choices (actor + 2) (part + 1) seats) ≡ choice_of m n (next_recovery seat.run.state)) (next part k)
    (own_recovery m (actor + 2) (part + 1) k seats seat at (omega arith))
  where
    next : (n k : ℕ) → n + 1 + k ≡ n + suc k
    next n k = omega arith

    apart : (a m k : ℕ) → m ≡ a + 2 * suc k → a ≡ m → ⊥
    apart a m k e f = omega arith

    above : (a m k : ℕ) → m ≡ a + 2 * suc k → a + 1 ≡ m → ⊥
    above a m k e f = omega arith

own_arrival : (m actor part k : ℕ) (seats : List RunningPart) (seat : RunningPart) → slice_get seats k ≡ Some seat → m ≡ actor + 2 * k + 1
    → find (is_of m) (part_choices actor part seats) ≡ choice_of m (part + k) (arrival seat.run seat.coming)
own_arrival m actor part k [] seat at e = none_is_some at
own_arrival m actor part zero (x ∷ seats) seat at e =
    pass_choice m actor part (next_recovery x.run.state) _ (other actor m (apart actor m e))
    ∙ subst (λ (n : ℕ). find (is_of n) (with_choice (actor + 1) part (arrival x.run x.coming) (part_choices (actor + 2) (part + 1) seats)) ≡ choice_of n (part + 0) (arrival seat.run seat.coming)) (first actor m e)
    (subst (λ (n : ℕ). find (is_of (actor + 1)) (with_choice (actor + 1) part (arrival x.run x.coming) (part_choices (actor + 2) (part + 1) seats)) ≡ choice_of (actor + 1) n (arrival seat.run seat.coming)) (plus part)
    (subst (λ (y : RunningPart). find (is_of (actor + 1)) (with_choice (actor + 1) part (arrival x.run x.coming) (part_choices (actor + 2) (part + 1) seats)) ≡ choice_of (actor + 1) part (arrival y.run y.coming)) (same_inside at)
    (own_choice (actor + 1) part (arrival x.run x.coming) _
    (pass_parts (actor + 1) (actor + 2) (part + 1) seats (omega arith)))))
  where
    plus : (n : ℕ) → n ≡ n + 0
    plus n = omega arith

    first : (a m : ℕ) → m ≡ a + 2 * 0 + 1 → a + 1 ≡ m
    first a m e = omega arith

    apart : (a m : ℕ) → m ≡ a + 2 * 0 + 1 → a ≡ m → ⊥
    apart a m e f = omega arith
own_arrival m actor part (suc k) (x ∷ seats) seat at e =
    pass_choice m actor part (next_recovery x.run.state) _ (other actor m (apart actor m k e))
    ∙ pass_choice m (actor + 1) part (arrival x.run x.coming) _ (other (actor + 1) m (above actor m k e))
    ∙ subst (λ (n : ℕ). find (is_of m) (part_choices (actor + 2) (part + 1) seats) ≡ choice_of m n (arrival seat.run seat.coming)) (next part k)
    (own_arrival m (actor + 2) (part + 1) k seats seat at (omega arith))
  where
    next : (n k : ℕ) → n + 1 + k ≡ n + suc k
    next n k = omega arith

    apart : (a m k : ℕ) → m ≡ a + 2 * suc k + 1 → a ≡ m → ⊥
    apart a m k e f = omega arith

    above : (a m k : ℕ) → m ≡ a + 2 * suc k + 1 → a + 1 ≡ m → ⊥
    above a m k e f = omega arith

-- ---- the choice of an actor

in_order : (s : Simulation) (actor : ℕ)
    → choice_of_actor actor s ≡ find (is_of actor) (thread_choices 0 s.parts s.threads (part_choices (length s.threads) 0 s.parts))
in_order s actor = ap (find (is_of actor)) (choices_in_order s)

within : {X : Type 0} (xs : List X) (k : ℕ) (x : X) → slice_get xs k ≡ Some x → k < length xs
within [] k x h = none_is_some h
within (y ∷ xs) zero x h = omega arith
within (y ∷ xs) (suc k) x h = let l : k < length xs = within xs k x h in omega arith

pub chosen_by_thread : (s : Simulation) (n : ℕ) (t : ThreadState) → slice_get s.threads n ≡ Some t
    → choice_of_actor n s ≡ thread_choice n s.parts t.rest t.waiting
chosen_by_thread s n t at =
    in_order s n
    ∙ subst (λ (m : ℕ). find (is_of m) (thread_choices 0 s.parts s.threads (part_choices (length s.threads) 0 s.parts)) ≡ thread_choice m s.parts t.rest t.waiting)
    (zero-add n)
    (own_threads 0 n s.parts s.threads t (part_choices (length s.threads) 0 s.parts) at
    (pass_parts (0 + n) (length s.threads) 0 s.parts (subst (λ (m : ℕ). m < length s.threads) (sym (zero-add n)) (within s.threads n t at))))

pub chosen_by_recovery : (s : Simulation) (k : ℕ) (seat : RunningPart) → slice_get s.parts k ≡ Some seat
    → choice_of_actor (length s.threads + 2 * k) s ≡ choice_of (length s.threads + 2 * k) k (next_recovery seat.run.state)
chosen_by_recovery s k seat at =
    in_order s (length s.threads + 2 * k)
    ∙ pass_threads (length s.threads + 2 * k) 0 s.parts s.threads (part_choices (length s.threads) 0 s.parts)
    (λ j l e. far (length s.threads) j k l e)
    ∙ own_recovery (length s.threads + 2 * k) (length s.threads) 0 k s.parts seat at refl
    ∙ ap (λ (j : ℕ). choice_of (length s.threads + 2 * k) j (next_recovery seat.run.state)) (zero-add k)
  where
    far : (n j k : ℕ) → j < n → 0 + j ≡ n + 2 * k → ⊥
    far n j k l e = omega arith

pub chosen_by_arrival : (s : Simulation) (k : ℕ) (seat : RunningPart) → slice_get s.parts k ≡ Some seat
    → choice_of_actor (length s.threads + 2 * k + 1) s ≡ choice_of (length s.threads + 2 * k + 1) k (arrival seat.run seat.coming)
chosen_by_arrival s k seat at =
    in_order s (length s.threads + 2 * k + 1)
    ∙ pass_threads (length s.threads + 2 * k + 1) 0 s.parts s.threads (part_choices (length s.threads) 0 s.parts)
    (λ j l e. far (length s.threads) j k l e)
    ∙ own_arrival (length s.threads + 2 * k + 1) (length s.threads) 0 k s.parts seat at refl
    ∙ ap (λ (j : ℕ). choice_of (length s.threads + 2 * k + 1) j (arrival seat.run seat.coming)) (zero-add k)
  where
    far : (n j k : ℕ) → j < n → 0 + j ≡ n + 2 * k + 1 → ⊥
    far n j k l e = omega arith

-- ---- what a choice is

pub record IsThreads (s : Simulation) (c : Choice) : Type 0 where
  pub t : ThreadState
  pub at : slice_get s.threads c.actor ≡ Some t
  pub is : thread_choice c.actor s.parts t.rest t.waiting ≡ Some c

pub record IsParts (s : Simulation) (c : Choice) : Type 0 where
  pub seat : RunningPart
  pub at : slice_get s.parts c.part ≡ Some seat
  pub is : ((c.actor ≡ length s.threads + 2 * c.part) × (next_recovery seat.run.state ≡ Some c.step))
      ⊎ ((c.actor ≡ length s.threads + 2 * c.part + 1) × (arrival seat.run seat.coming ≡ Some c.step))

abbrev pub IsKnown : Simulation → Choice → Type 0
IsKnown s c = IsThreads s c ⊎ IsParts s c

module _ (P : Choice → Type 0) where
  all_with : (actor part : ℕ) (o : Option Step) (choices : List Choice) → ((c : Choice) → choice_of actor part o ≡ Some c → P c)
      → AllByRecursion P choices → AllByRecursion P (with_choice actor part o choices)
  all_with actor part None choices here more = more
  all_with actor part (Some s) choices here more = (here (record { actor = actor; part = part; step = s }) refl, more)

  all_invocation : (n : ℕ) (parts : List RunningPart) (rest : List (ℕ × Op)) (choices : List Choice)
      → ((c : Choice) → invocation_of n parts rest ≡ Some c → P c) → AllByRecursion P choices
      → AllByRecursion P (with_invocation n parts rest choices)
  all_invocation n parts [] choices here more = more
  all_invocation n parts ((part, o) ∷ rest) choices here more =
      all_with n part (invocation n o (slice_get parts part)) choices here more

  all_thread : (n : ℕ) (parts : List RunningPart) (t : ThreadState) (w : Option Waiting) (choices : List Choice)
      → ((c : Choice) → thread_choice n parts t.rest w ≡ Some c → P c) → AllByRecursion P choices
      → AllByRecursion P (with_thread n parts t w choices)
  all_thread n parts t None choices here more = all_invocation n parts t.rest choices here more
  all_thread n parts t (Some w) choices here more = all_with n w.part (going_on n (slice_get parts w.part)) choices here more

  all_threads : (n : ℕ) (parts : List RunningPart) (threads : List ThreadState) (choices : List Choice)
      → ((k : ℕ) (t : ThreadState) (c : Choice) → slice_get threads k ≡ Some t → thread_choice (n + k) parts t.rest t.waiting ≡ Some c → P c)
      → AllByRecursion P choices → AllByRecursion P (thread_choices n parts threads choices)
  all_threads n parts [] choices each more = more
  all_threads n parts (t ∷ threads) choices each more =
      all_thread n parts t t.waiting (thread_choices (n + 1) parts threads choices)
      (λ c h. each 0 t c refl (subst (λ (m : ℕ). thread_choice m parts t.rest t.waiting ≡ Some c) (plus n) h))
      (all_threads (n + 1) parts threads choices
      (λ k x c at h. each (suc k) x c at (subst (λ (m : ℕ). thread_choice m parts x.rest x.waiting ≡ Some c) (next n k) h)) more)
    where
      plus : (n : ℕ) → n ≡ n + 0
      plus n = omega arith

      next : (n k : ℕ) → n + 1 + k ≡ n + suc k
      next n k = omega arith

  all_parts : (actor part : ℕ) (seats : List RunningPart)
      → ((k : ℕ) (seat : RunningPart) (c : Choice) → slice_get seats k ≡ Some seat → choice_of (actor + 2 * k) (part + k) (next_recovery seat.run.state) ≡ Some c → P c)
      → ((k : ℕ) (seat : RunningPart) (c : Choice) → slice_get seats k ≡ Some seat → choice_of (actor + 2 * k + 1) (part + k) (arrival seat.run seat.coming) ≡ Some c → P c)
      → AllByRecursion P (part_choices actor part seats)
  all_parts actor part [] recoveries arrivals = tt
  all_parts actor part (seat ∷ seats) recoveries arrivals =
      all_with actor part (next_recovery seat.run.state) _
      (λ c h. recoveries 0 seat c refl (subst (λ (m : ℕ). choice_of m (part + 0) (next_recovery seat.run.state) ≡ Some c) (first actor)
      (subst (λ (m : ℕ). choice_of actor m (next_recovery seat.run.state) ≡ Some c) (plus part) h)))
      (all_with (actor + 1) part (arrival seat.run seat.coming) _
      (λ c h. arrivals 0 seat c refl (subst (λ (m : ℕ). choice_of m (part + 0) (arrival seat.run seat.coming) ≡ Some c) (second actor)
      (subst (λ (m : ℕ). choice_of (actor + 1) m (arrival seat.run seat.coming) ≡ Some c) (plus part) h)))
      (all_parts (actor + 2) (part + 1) seats
      (λ k x c at h. recoveries (suc k) x c at (subst (λ (m : ℕ). choice_of m (part + suc k) (next_recovery x.run.state) ≡ Some c) (third actor k)
      (subst (λ (m : ℕ). choice_of (actor + 2 + 2 * k) m (next_recovery x.run.state) ≡ Some c) (next part k) h)))
      (λ k x c at h. arrivals (suc k) x c at (subst (λ (m : ℕ). choice_of m (part + suc k) (arrival x.run x.coming) ≡ Some c) (fourth actor k)
      (subst (λ (m : ℕ). choice_of (actor + 2 + 2 * k + 1) m (arrival x.run x.coming) ≡ Some c) (next part k) h)))))
    where
      plus : (n : ℕ) → n ≡ n + 0
      plus n = omega arith

      next : (n k : ℕ) → n + 1 + k ≡ n + suc k
      next n k = omega arith

      first : (a : ℕ) → a ≡ a + 2 * 0
      first a = omega arith

      second : (a : ℕ) → a + 1 ≡ a + 2 * 0 + 1
      second a = omega arith

      third : (a k : ℕ) → a + 2 + 2 * k ≡ a + 2 * suc k
      third a k = omega arith

      fourth : (a k : ℕ) → a + 2 + 2 * k + 1 ≡ a + 2 * suc k + 1
      fourth a k = omega arith

-- the parts of a choice
pub record IsMade (made_by made_in : ℕ) (o : Option Step) (c : Choice) : Type 0 where
  pub actor : c.actor ≡ made_by
  pub part : c.part ≡ made_in
  pub step : o ≡ Some c.step

pub made_of : (actor part : ℕ) (o : Option Step) (c : Choice) → choice_of actor part o ≡ Some c → IsMade actor part o c
made_of actor part None c h = none_is_some h
made_of actor part (Some s) c h =
    let e : ◌≡◌ {A = Choice} (record { actor = actor; part = part; step = s }) c = same_inside h in
    record {
      actor = ap (λ (x : Choice). x.actor) (sym e);
      part = ap (λ (x : Choice). x.part) (sym e);
      step = ap (λ (x : Choice). Some x.step) e;
    }

thread_actor : (n : ℕ) (parts : List RunningPart) (rest : List (ℕ × Op)) (w : Option Waiting) (c : Choice)
    → thread_choice n parts rest w ≡ Some c → c.actor ≡ n
thread_actor n parts [] None c h = none_is_some h
thread_actor n parts ((part, o) ∷ rest) None c h = (made_of n part (invocation n o (slice_get parts part)) c h).actor
thread_actor n parts rest (Some w) c h = (made_of n w.part (going_on n (slice_get parts w.part)) c h).actor

pub choices_known : (s : Simulation) → AllByRecursion (IsKnown s) (choices_of s)
choices_known s =
    subst (AllByRecursion (IsKnown s)) (sym (choices_in_order s))
    (all_threads (IsKnown s) 0 s.parts s.threads (part_choices (length s.threads) 0 s.parts)
    (λ k t c at h.
    let named : c.actor ≡ k = thread_actor (0 + k) s.parts t.rest t.waiting c h ∙ zero-add k in
    inl (record {
      t = t;
      at = ap (slice_get s.threads) named ∙ at;
      is = subst (λ (n : ℕ). thread_choice n s.parts t.rest t.waiting ≡ Some c) (zero-add k ∙ sym named) h;
    }))
    (all_parts (IsKnown s) (length s.threads) 0 s.parts
    (λ k seat c at h.
    let m = made_of (length s.threads + 2 * k) (0 + k) (next_recovery seat.run.state) c h in
    let part : c.part ≡ k = m.part ∙ zero-add k in
    inr (record {
      seat = seat;
      at = ap (slice_get s.parts) part ∙ at;
      is = inl (m.actor ∙ ap (λ (n : ℕ). length s.threads + 2 * n) (sym part), m.step);
    }))
    (λ k seat c at h.
    let m = made_of (length s.threads + 2 * k + 1) (0 + k) (arrival seat.run seat.coming) c h in
    let part : c.part ≡ k = m.part ∙ zero-add k in
    inr (record {
      seat = seat;
      at = ap (slice_get s.parts) part ∙ at;
      is = inr (m.actor ∙ ap (λ (n : ℕ). length s.threads + 2 * n + 1) (sym part), m.step);
    }))))

pub found_all : (P : Choice → Type 0) (actor : ℕ) (choices : List Choice) (c : Choice) → AllByRecursion P choices
    → find (λ x. x.actor == actor) choices ≡ Some c → P c
found_all P actor [] c all h = none_is_some h
found_all P actor (x ∷ choices) c all h = split (x.actor == actor)
    (λ here. subst P (same_inside (rw (here, find) at h)) all.0)
    (λ later. found_all P actor choices c all.1 (rw (later, find) at h))
