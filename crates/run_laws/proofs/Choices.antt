-- The choices of a simulation: each is a step of its part, and an invocation is its thread's next operation. If there
-- is no choice, no actor has a step.
use Rattle.std.proofs.Common.{◌≡◌, ℕ, zero, suc, ◌+◌, true, Option, Some, None, List, [], ◌∷◌, length, slice_get, refl, sym, ap, ◌∙◌, subst, arith}
use Rattle.std.specs.List.{AllByRecursion}
use Rattle.nook_data.specs.declared.calls.Op.{Op}
use Rattle.nook_data.specs.declared.steps.Step.{Step}
use Rattle.nook_data.specs.declared.steps.Step.TheVariants as step
use Rattle.part_defs.specs.Runs.{if_enabled, next_for, next_recovery}
use Rattle.run_defs.specs.Simulation.{Choice, RunningPart, Simulation, ThreadState, Waiting, arrival, going_on}
use Rattle.run_defs.specs.Simulation.{invocation, choices_of}
use Rattle.run_defs.proofs.ChoicesInOrder.{with_choice, with_invocation, with_thread, thread_choices, part_choices}
use Rattle.run_defs.proofs.ChoicesInOrder.{choices_in_order}
use Rattle.part_defs.specs.State.{PartState}
use Rattle.part_defs.specs.Steps.{enabled}
use Rattle.part_defs.proofs.NextSteps.{if_enabled_case, next_for_case}
use Rattle.nook_data.proofs.Options.{none_is_some, same_inside}

-- the thread has no open call, and the operation is its next
pub record IsNext (threads : List ThreadState) (thread part : ℕ) (o : Op) : Type 0 where
  pub t : ThreadState
  pub more : List (ℕ × Op)
  pub at : slice_get threads thread ≡ Some t
  pub free : t.waiting ≡ None
  pub next : t.rest ≡ (part, o) ∷ more

abbrev pub IsOwn : List ThreadState → ℕ → Step → Type 0
IsOwn threads part (step.Invoke thread o) = IsNext threads thread part o
IsOwn threads part _ = Unit {0}

pub record IsGood (parts : List RunningPart) (threads : List ThreadState) (c : Choice) : Type 0 where
  pub seat : RunningPart
  pub at : slice_get parts c.part ≡ Some seat
  pub may : enabled seat.run.state c.step ≡ true
  pub own : IsOwn threads c.part c.step

abbrev IsFine : List ThreadState → ℕ → PartState → Step → Type 0
IsFine threads part p s = (enabled p s ≡ true) × IsOwn threads part s

fine_for : (threads : List ThreadState) (part : ℕ) (p : PartState) (thread : ℕ) (s : Step) → next_for p thread ≡ Some s → IsFine threads part p s
fine_for threads part p thread s h = next_for_case (IsFine threads part p) p thread s (λ e. (e, tt)) (λ e. (e, tt)) h

fine_recovery : (threads : List ThreadState) (part : ℕ) (p : PartState) (s : Step) → next_recovery p ≡ Some s → IsFine threads part p s
unfolding next_recovery
fine_recovery threads part p s h =
    if_enabled_case (IsFine threads part p) p step.Stage s (if_enabled p (step.Burst 16) None) (λ e. (e, tt))
    (if_enabled_case (IsFine threads part p) p (step.Burst 16) s None (λ e. (e, tt)) none_is_some) h

fine_arrival : (threads : List ThreadState) (part : ℕ) (seat : RunningPart) (coming : List (List ℕ)) (s : Step) → arrival seat.run coming ≡ Some s
    → IsFine threads part seat.run.state s
fine_arrival threads part seat [] s h = none_is_some h
fine_arrival threads part seat (frame ∷ coming) s h =
    if_enabled_case (IsFine threads part seat.run.state) seat.run.state (step.Arrive frame) s None (λ e. (e, tt)) none_is_some h

module _ (parts : List RunningPart) (whole : List ThreadState) where
  abbrev Good : Choice → Type 0
  Good c = IsGood parts whole c

  good_with : (actor part : ℕ) (seat : RunningPart) (o : Option Step) (choices : List Choice) → slice_get parts part ≡ Some seat
      → ((s : Step) → o ≡ Some s → IsFine whole part seat.run.state s) → AllByRecursion Good choices → AllByRecursion Good (with_choice actor part o choices)
  good_with actor part seat None choices at fine more = more
  good_with actor part seat (Some s) choices at fine more =
      let f = fine s refl in
      (record { seat = seat; at = at; may = f.0; own = f.1 }, more)

  good_going : (thread part : ℕ) (q : Option RunningPart) (choices : List Choice) → slice_get parts part ≡ q → AllByRecursion Good choices
      → AllByRecursion Good (with_choice thread part (going_on thread q) choices)
  good_going thread part None choices at more = more
  good_going thread part (Some seat) choices at more =
      good_with thread part seat (next_for seat.run.state thread) choices at (fine_for whole part seat.run.state thread) more

  good_invoking : (thread part : ℕ) (o : Op) (q : Option RunningPart) (choices : List Choice) → slice_get parts part ≡ q → IsNext whole thread part o
      → AllByRecursion Good choices → AllByRecursion Good (with_choice thread part (invocation thread o q) choices)
  good_invoking thread part o None choices at next more = more
  good_invoking thread part o (Some seat) choices at next more =
      good_with thread part seat (if_enabled seat.run.state (step.Invoke thread o) None) choices at
      (λ s. if_enabled_case (IsFine whole part seat.run.state) seat.run.state (step.Invoke thread o) s None (λ e. (e, next)) none_is_some) more

  good_thread : (thread : ℕ) (t : ThreadState) (w : Option Waiting) (rest : List (ℕ × Op)) (choices : List Choice) → slice_get whole thread ≡ Some t
      → t.waiting ≡ w → t.rest ≡ rest → AllByRecursion Good choices → AllByRecursion Good (with_thread thread parts t w choices)
  good_thread thread t None rest choices at w r more = subst (λ xs. AllByRecursion Good (with_invocation thread parts xs choices)) (sym r) (by_rest rest r)
    where
      by_rest : (rest : List (ℕ × Op)) → t.rest ≡ rest → AllByRecursion Good (with_invocation thread parts rest choices)
      by_rest [] r = more
      by_rest ((part, o) ∷ rest) r =
          good_invoking thread part o (slice_get parts part) choices refl (record { t = t; more = rest; at = at; free = w; next = r }) more
  good_thread thread t (Some w) rest choices at e r more = good_going thread w.part (slice_get parts w.part) choices refl more

  good_threads : (thread : ℕ) (threads : List ThreadState) (choices : List Choice) → ((k : ℕ) → slice_get threads k ≡ slice_get whole (thread + k))
      → AllByRecursion Good choices → AllByRecursion Good (thread_choices thread parts threads choices)
  good_threads thread [] choices same more = more
  good_threads thread (t ∷ threads) choices same more =
      good_thread thread t t.waiting t.rest (thread_choices (thread + 1) parts threads choices)
      (ap (slice_get whole) (first thread) ∙ sym (same 0)) refl refl
      (good_threads (thread + 1) threads choices (λ k. same (suc k) ∙ ap (slice_get whole) (next thread k)) more)
    where
      first : (n : ℕ) → n ≡ n + 0
      first n = omega arith

      next : (n k : ℕ) → n + suc k ≡ n + 1 + k
      next n k = omega arith

  good_parts : (actor part : ℕ) (seats : List RunningPart) → ((k : ℕ) → slice_get seats k ≡ slice_get parts (part + k))
      → AllByRecursion Good (part_choices actor part seats)
  good_parts actor part [] same = tt
  good_parts actor part (seat ∷ seats) same =
      let at : slice_get parts part ≡ Some seat = ap (slice_get parts) (first part) ∙ sym (same 0) in
      good_with actor part seat (next_recovery seat.run.state) _ at (fine_recovery whole part seat.run.state)
      (good_with (actor + 1) part seat (arrival seat.run seat.coming) _ at (fine_arrival whole part seat seat.coming)
      (good_parts (actor + 2) (part + 1) seats (λ k. same (suc k) ∙ ap (slice_get parts) (next part k))))
    where
      first : (n : ℕ) → n ≡ n + 0
      first n = omega arith

      next : (n k : ℕ) → n + suc k ≡ n + 1 + k
      next n k = omega arith

pub choices_good : (s : Simulation) → AllByRecursion (IsGood s.parts s.threads) (choices_of s)
choices_good s =
    subst (AllByRecursion (IsGood s.parts s.threads)) (sym (choices_in_order s))
    (good_threads s.parts s.threads 0 s.threads (part_choices (length s.threads) 0 s.parts) (λ k. ap (slice_get s.threads) (plus k))
    (good_parts s.parts s.threads (length s.threads) 0 s.parts (λ k. ap (slice_get s.parts) (plus k))))
  where
    plus : (k : ℕ) → k ≡ 0 + k
    plus k = omega arith

-- ---- no actor has a step

with_none : (actor part : ℕ) (o : Option Step) (choices : List Choice) → with_choice actor part o choices ≡ [] → (o ≡ None) × (choices ≡ [])
with_none actor part None choices h = (refl, h)
with_none actor part (Some s) choices h = cc

-- a thread has no step
abbrev pub HasNoStep : List RunningPart → ℕ → List (ℕ × Op) → Option Waiting → Type 0
HasNoStep parts thread [] None = Unit {0}
HasNoStep parts thread ((part, o) ∷ rest) None = invocation thread o (slice_get parts part) ≡ None
HasNoStep parts thread rest (Some w) = going_on thread (slice_get parts w.part) ≡ None

thread_none : (parts : List RunningPart) (thread : ℕ) (t : ThreadState) (rest : List (ℕ × Op)) (w : Option Waiting) (choices : List Choice) → t.rest ≡ rest
    → with_thread thread parts t w choices ≡ [] → HasNoStep parts thread rest w × (choices ≡ [])
thread_none parts thread t [] None choices r h = (tt, subst (λ xs. with_invocation thread parts xs choices ≡ []) r h)
thread_none parts thread t ((part, o) ∷ rest) None choices r h =
    with_none thread part (invocation thread o (slice_get parts part)) choices (subst (λ xs. with_invocation thread parts xs choices ≡ []) r h)
thread_none parts thread t [] (Some w) choices r h = with_none thread w.part (going_on thread (slice_get parts w.part)) choices h
thread_none parts thread t (x ∷ rest) (Some w) choices r h = with_none thread w.part (going_on thread (slice_get parts w.part)) choices h

pub threads_none : (parts : List RunningPart) (thread : ℕ) (threads : List ThreadState) (choices : List Choice) → thread_choices thread parts threads choices ≡ []
    → ((k : ℕ) (t : ThreadState) → slice_get threads k ≡ Some t → HasNoStep parts (thread + k) t.rest t.waiting) × (choices ≡ [])
threads_none parts thread [] choices h = ((λ k t e. none_is_some e), h)
threads_none parts thread (x ∷ threads) choices h =
    let here = thread_none parts thread x x.rest x.waiting (thread_choices (thread + 1) parts threads choices) refl h in
    let more = threads_none parts (thread + 1) threads choices here.1 in
    (each here.0 more.0, more.1)
  where
    plus_none : (n : ℕ) → n ≡ n + 0
    plus_none n = omega arith

    plus_one : (n k : ℕ) → n + 1 + k ≡ n + suc k
    plus_one n k = omega arith

    each : HasNoStep parts thread x.rest x.waiting → ((k : ℕ) (t : ThreadState) → slice_get threads k ≡ Some t → HasNoStep parts (thread + 1 + k) t.rest t.waiting)
        → (k : ℕ) (t : ThreadState) → slice_get (x ∷ threads) k ≡ Some t → HasNoStep parts (thread + k) t.rest t.waiting
    each here more zero t e =
        subst (λ (n : ℕ). HasNoStep parts n t.rest t.waiting) (plus_none thread) (subst (λ (y : ThreadState). HasNoStep parts thread y.rest y.waiting) (same_inside e) here)
    each here more (suc k) t e = subst (λ (n : ℕ). HasNoStep parts n t.rest t.waiting) (plus_one thread k) (more k t e)

pub parts_none : (actor part : ℕ) (seats : List RunningPart) → part_choices actor part seats ≡ []
    → (k : ℕ) (seat : RunningPart) → slice_get seats k ≡ Some seat → next_recovery seat.run.state ≡ None
parts_none actor part [] h k seat e = none_is_some e
parts_none actor part (x ∷ seats) h zero seat e =
    subst (λ (y : RunningPart). next_recovery y.run.state ≡ None) (same_inside e) (with_none actor part (next_recovery x.run.state) _ h).0
parts_none actor part (x ∷ seats) h (suc k) seat e =
    let arrivals = (with_none actor part (next_recovery x.run.state) _ h).1 in
    parts_none (actor + 2) (part + 1) seats (with_none (actor + 1) part (arrival x.run x.coming) _ arrivals).1 k seat e

-- no part has an arrival left
pub arrivals_none : (actor part : ℕ) (seats : List RunningPart) → part_choices actor part seats ≡ []
    → (k : ℕ) (seat : RunningPart) → slice_get seats k ≡ Some seat → arrival seat.run seat.coming ≡ None
arrivals_none actor part [] h k seat e = none_is_some e
arrivals_none actor part (x ∷ seats) h zero seat e =
    let others = (with_none actor part (next_recovery x.run.state) _ h).1 in
    subst (λ (y : RunningPart). arrival y.run y.coming ≡ None) (same_inside e) (with_none (actor + 1) part (arrival x.run x.coming) _ others).0
arrivals_none actor part (x ∷ seats) h (suc k) seat e =
    let others = (with_none actor part (next_recovery x.run.state) _ h).1 in
    arrivals_none (actor + 2) (part + 1) seats (with_none (actor + 1) part (arrival x.run x.coming) _ others).1 k seat e
