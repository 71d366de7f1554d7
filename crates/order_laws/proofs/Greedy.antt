-- Whatever is taken first, the same is taken in the end.
use Rattle.std.proofs.Common.{◌≡◌, ℕ, zero, suc, ◌+◌, ◌==◌, if◌then◌else◌, Bool, true, false, Option, Some, None, List, [], ◌∷◌, slice_get, slice_set, refl, sym, ap, ap₂, ◌∙◌, subst, arith, eqb-true, ne_eqb, true≢false}
use Rattle.std.proofs.lemmas.Bool.{eqb-false}
use Rattle.nook_data.specs.Answers.{answer_at}
use Rattle.nook_data.specs.declared.calls.Answer.{Answer}
use Rattle.nook_data.specs.declared.calls.Op.{Op}
use Rattle.nook_data.specs.declared.scenario.PartSpec.{PartSpec}
use Rattle.nook_data.specs.declared.scenario.ThreadSpec.{ThreadSpec}
use Rattle.nook_data.specs.declared.steps.Event.{Event}
use Rattle.nook_data.specs.declared.steps.Event.TheVariants as event
use Rattle.nook_data.proofs.Options.{none_is_some, same_inside}
use Rattle.part_laws.proofs.Indices.{get_set_other, split}
use Rattle.run_defs.specs.Simulation.{ThreadState, Waiting, started, thread_after, threads_after}
use Rattle.run_defs.proofs.RunChanges.{settled, settled_by}
use Rattle.threaded_run.specs.Others.{HaveNoOthers, is_invocation_by}
use Rattle.audited_runs.proofs.Sections.{after_at}
use Rattle.audited_runs.proofs.Shares.{AllMay, MayStart}
use Rattle.order_defs.specs.OneClock.{AreOneRun}
use Rattle.order_defs.specs.Taking.{IsAllTaken, IsStuck, IsTimely, Leads, MayTake, Taking, after_taking, opening_taking}
use Rattle.order_laws.proofs.Ordered.{left_is, one_run_ordered}
use Rattle.order_laws.proofs.Own.{all_timely}

-- ---- a thread

-- a thread after an event of a part
abbrev touched : ℕ → ℕ → Event → ThreadState → ThreadState
touched i k e t = thread_after k e (started i k e t)

-- the open call, if there is one, is not the part's
abbrev IsElsewhere : ℕ → Option Waiting → Type 0
IsElsewhere k None = Unit {0}
IsElsewhere k (Some w) = (w.part == k) ≡ false

not_started : (i k : ℕ) (e : Event) (t : ThreadState) → is_invocation_by i e ≡ false → started i k e t ≡ t
not_started i k (event.Invoke call thread o a) t h = rw h refl
not_started i k (event.Enter call thread attempt a) t h = refl
not_started i k (event.Burst context call burst count end acts a failure) t h = refl
not_started i k (event.Stage stage answers released) t h = refl
not_started i k (event.Arrive frame kept) t h = refl

not_reported : (k : ℕ) (e : Event) (t : ThreadState) (w : Option Waiting) → IsElsewhere k w → settled k e t w ≡ t
not_reported k e t None h = refl
not_reported k e t (Some w) h = ap (λ b. settled_by k t (if b then answer_at w.call e else None)) h

untouched : (i k : ℕ) (e : Event) (t : ThreadState) → is_invocation_by i e ≡ false → IsElsewhere k t.waiting → touched i k e t ≡ t
untouched i k e t not h = ap (thread_after k e) (not_started i k e t not) ∙ not_reported k e t t.waiting h

reported_elsewhere : (k j : ℕ) (e : Event) (t : ThreadState) (w : Option Waiting) → IsElsewhere j t.waiting → IsElsewhere j (settled k e t w).waiting
reported_elsewhere k j e t None h = h
reported_elsewhere k j e t (Some w) h = by_answer (if w.part == k then answer_at w.call e else None)
  where
    by_answer : (a : Option Answer) → IsElsewhere j (settled_by k t a).waiting
    by_answer None = h
    by_answer (Some a) = tt

started_elsewhere : (i k j : ℕ) (e : Event) (t : ThreadState) → (k == j) ≡ false → IsElsewhere j t.waiting → IsElsewhere j (started i k e t).waiting
started_elsewhere i k j (event.Invoke call thread o a) t apart h = by_own (thread == i)
  where
    by_own : (b : Bool) → IsElsewhere j (if b then Some (record { part = k; call = call }) else t.waiting)
    by_own true = apart
    by_own false = h
started_elsewhere i k j (event.Enter call thread attempt a) t apart h = h
started_elsewhere i k j (event.Burst context call burst count end acts a failure) t apart h = h
started_elsewhere i k j (event.Stage stage answers released) t apart h = h
started_elsewhere i k j (event.Arrive frame kept) t apart h = h

-- an event that leaves the thread as it is, before or after another part's event
passes : (i k j : ℕ) (e f : Event) (t : ThreadState) → (k == j) ≡ false → is_invocation_by i f ≡ false → IsElsewhere j t.waiting
    → touched i j f (touched i k e t) ≡ touched i k e (touched i j f t)
passes i k j e f t apart not h =
    let s : ThreadState = started i k e t in
    untouched i j f (touched i k e t) not (reported_elsewhere k j e s s.waiting (started_elsewhere i k j e t apart h))
    ∙ sym (ap (touched i k e) (untouched i j f t not h))

-- an invocation is the next operation of its thread, which has no open call
first_on : (i k : ℕ) (e : Event) (t : ThreadState) → MayStart i k e t → is_invocation_by i e ≡ true
    → (t.waiting ≡ None) × ((o : Op) × ((more : List (ℕ × Op)) × (t.rest ≡ (k, o) ∷ more)))
first_on i k (event.Invoke call thread o a) t may is =
    let m = may (eqb-true thread i is) in
    (m.0, (o, (m.1.0, m.1.1)))
first_on i k (event.Enter call thread attempt a) t may is = absurd (true≢false (sym is))
first_on i k (event.Burst context call burst count end acts a failure) t may is = absurd (true≢false (sym is))
first_on i k (event.Stage stage answers released) t may is = absurd (true≢false (sym is))
first_on i k (event.Arrive frame kept) t may is = absurd (true≢false (sym is))

-- no two parts' events are both the thread's next invocation
not_both : (i k j : ℕ) (e f : Event) (t : ThreadState) → (k == j) ≡ false → MayStart i k e t → MayStart i j f t → is_invocation_by i e ≡ true
    → is_invocation_by i f ≡ false
not_both i k j e f t apart may may' is = split (is_invocation_by i f)
    (λ holds.
    let a = first_on i k e t may is in
    let b = first_on i j f t may' holds in
    absurd (eqb-false k j apart (same_part (sym a.1.1.1 ∙ b.1.1.1))))
    (λ fails. fails)
  where
    same_part : {o p : Op} {xs ys : List (ℕ × Op)} → (k, o) ∷ xs ≡ (j, p) ∷ ys → k ≡ j
    same_part h = ap (part_of k) h
      where
        part_of : ℕ → List (ℕ × Op) → ℕ
        part_of d [] = d
        part_of d (x ∷ xs) = x.0

flipped : (k j : ℕ) → (k == j) ≡ false → (j == k) ≡ false
flipped k j h = ne_eqb j k (λ e. eqb-false k j h (sym e))

free_elsewhere : (j : ℕ) (w : Option Waiting) → w ≡ None → IsElsewhere j w
free_elsewhere j w h = subst (IsElsewhere j) (sym h) tt

-- two parts' events may be taken in either order
commutes : (i k j : ℕ) (e f : Event) (t : ThreadState) → (k == j) ≡ false → MayStart i k e t → MayStart i j f t
    → touched i j f (touched i k e t) ≡ touched i k e (touched i j f t)
commutes i k j e f t apart may may' = split (is_invocation_by i e)
    (λ holds. passes i k j e f t apart (not_both i k j e f t apart may may' holds) (free_elsewhere j t.waiting (first_on i k e t may holds).0))
    (λ fails. split (is_invocation_by i f)
    (λ holds. sym (passes i j k f e t (flipped k j apart) fails (free_elsewhere k t.waiting (first_on i j f t may' holds).0)))
    (λ fails'. by_wait t.waiting refl fails fails'))
  where
    by_wait : (w : Option Waiting) → t.waiting ≡ w → is_invocation_by i e ≡ false → is_invocation_by i f ≡ false
        → touched i j f (touched i k e t) ≡ touched i k e (touched i j f t)
    by_wait None is fails fails' = passes i k j e f t apart fails' (free_elsewhere j t.waiting is)
    by_wait (Some w) is fails fails' = split (w.part == j)
        (λ here. sym (passes i j k f e t (flipped k j apart) fails (subst (IsElsewhere k) (sym is) (moved (eqb-true w.part j here)))))
        (λ there. passes i k j e f t apart fails' (subst (IsElsewhere j) (sym is) there))
      where
        moved : w.part ≡ j → (w.part == k) ≡ false
        moved same = ap (λ (p : ℕ). p == k) same ∙ flipped k j apart

all_commute : (n k j : ℕ) (e f : Event) (threads : List ThreadState) → (k == j) ≡ false → AllMay n k e threads → AllMay n j f threads
    → threads_after n j f (threads_after n k e threads) ≡ threads_after n k e (threads_after n j f threads)
all_commute n k j e f [] apart may may' = refl
all_commute n k j e f (t ∷ threads) apart may may' =
    ap₂ (λ (x : ThreadState) xs. x ∷ xs) (commutes n k j e f t apart may.0 may'.0) (all_commute (n + 1) k j e f threads apart may.1 may'.1)

-- ---- two parts

set_apart : {X : Type 0} (xs : List X) (k j : ℕ) (x y : X) → (k ≡ j → ⊥) → slice_set (slice_set xs k x) j y ≡ slice_set (slice_set xs j y) k x
set_apart [] k j x y apart = refl
set_apart (z ∷ xs) zero zero x y apart = absurd (apart refl)
set_apart (z ∷ xs) zero (suc j) x y apart = refl
set_apart (z ∷ xs) (suc k) zero x y apart = refl
set_apart (z ∷ xs) (suc k) (suc j) x y apart = ap (λ ys. z ∷ ys) (set_apart xs k j x y (λ e. apart (ap suc e)))

-- what may be taken may still be taken after another part's event
timely_after : (threads : List ThreadState) (k j : ℕ) (e f : Event) → (k == j) ≡ false → IsTimely threads k e → IsTimely threads j f
    → IsTimely (threads_after 0 k e threads) j f
timely_after threads k j e (event.Invoke call i o a) apart h h' =
    let may : MayStart i k e h'.t = may_at 0 threads i h'.t (all_timely threads k e h) h'.at in
    let not : is_invocation_by i e ≡ false = split (is_invocation_by i e)
    (λ holds. absurd (eqb-false k j apart (same_part (sym (first_on i k e h'.t may holds).1.1.1 ∙ h'.next))))
    (λ fails. fails) in
    let same : touched i k e h'.t ≡ h'.t = untouched i k e h'.t not (free_elsewhere k h'.t.waiting h'.free) in
    record {
      t = h'.t;
      more = h'.more;
      at = after_at 0 k e threads i h'.t h'.at ∙ ap {B = Option ThreadState} (λ (m : ℕ). Some (touched m k e h'.t)) (none i)
          ∙ ap {B = Option ThreadState} (λ (x : ThreadState). Some x) same;
      free = h'.free;
      next = h'.next;
    }
  where
    none : (n : ℕ) → 0 + n ≡ n
    none n = omega arith

    same_part : {o p : Op} {xs ys : List (ℕ × Op)} → (k, o) ∷ xs ≡ (j, p) ∷ ys → k ≡ j
    same_part h = ap (part_of k) h
      where
        part_of : ℕ → List (ℕ × Op) → ℕ
        part_of d [] = d
        part_of d (x ∷ xs) = x.0

    may_from : (n : ℕ) (xs : List ThreadState) (m : ℕ) (t : ThreadState) → AllMay n k e xs → slice_get xs m ≡ Some t → MayStart (n + m) k e t
    may_from n [] m t all at = none_is_some at
    may_from n (x ∷ xs) zero t all at = subst (λ (c : ℕ). MayStart c k e t) (plus n) (subst (MayStart n k e) (same_inside at) all.0)
      where
        plus : (n : ℕ) → n ≡ n + 0
        plus n = omega arith
    may_from n (x ∷ xs) (suc m) t all at = subst (λ (c : ℕ). MayStart c k e t) (next n m) (may_from (n + 1) xs m t all.1 at)
      where
        next : (n m : ℕ) → n + 1 + m ≡ n + suc m
        next n m = omega arith

    may_at : (n : ℕ) (xs : List ThreadState) (m : ℕ) (t : ThreadState) → AllMay 0 k e xs → slice_get xs m ≡ Some t → MayStart m k e t
    may_at n xs m t all at = subst (λ (c : ℕ). MayStart c k e t) (none m) (may_from 0 xs m t all at)
timely_after threads k j e (event.Enter call thread attempt a) apart h h' = tt
timely_after threads k j e (event.Burst context call burst count end acts a failure) apart h h' = tt
timely_after threads k j e (event.Stage stage answers released) apart h h' = tt
timely_after threads k j e (event.Arrive frame kept) apart h h' = tt

abbrev still : (s : Taking) (k j : ℕ) (a : MayTake s k) → MayTake s j → (k == j) ≡ false → MayTake (after_taking s k a.event a.rest) j
still s k j a b apart = record {
  event = b.event;
  rest = b.rest;
  at = get_set_other s.left j k a.rest (λ e. eqb-false k j apart (sym e)) ∙ b.at;
  timely = timely_after s.threads k j a.event b.event apart a.timely b.timely;
}

abbrev taking_of : List (List Event) → List ThreadState → Taking
taking_of left threads = record { left = left; threads = threads }

both : (s : Taking) (k j : ℕ) (a : MayTake s k) (b : MayTake s j) → (k == j) ≡ false
    → after_taking (after_taking s k a.event a.rest) j b.event b.rest ≡ after_taking (after_taking s j b.event b.rest) k a.event a.rest
both s k j a b apart =
    ap₂ taking_of (set_apart s.left k j a.rest b.rest (eqb-false k j apart))
    (all_commute 0 k j a.event b.event s.threads apart (all_timely s.threads k a.event a.timely) (all_timely s.threads j b.event b.timely))

-- a part has one next event
abbrev after_head : Taking → ℕ → List Event → Taking
after_head s k [] = s
after_head s k (e ∷ rest) = after_taking s k e rest

same_taking : (s : Taking) (k j : ℕ) (a : MayTake s k) (b : MayTake s j) → k ≡ j → after_taking s k a.event a.rest ≡ after_taking s j b.event b.rest
same_taking s k j a b same =
    let heads : a.event ∷ a.rest ≡ b.event ∷ b.rest = same_inside (sym a.at ∙ ap (slice_get s.left) same ∙ b.at) in
    ap (λ (p : ℕ). after_taking s p a.event a.rest) same ∙ ap (after_head s j) heads

-- ---- orders

-- an event that may be taken now may be taken first on the way to an end
takes_first : (order : List ℕ) (s end : Taking) (j : ℕ) (b : MayTake s j) → Leads s order end → IsStuck end
    → (others : List ℕ) × Leads (after_taking s j b.event b.rest) others end
takes_first [] s end j b leads stuck = absurd (stuck j (subst (λ (x : Taking). MayTake x j) leads b))
takes_first (k ∷ order) s end j b leads stuck =
    let a : MayTake s k = leads.0 in
    split (k == j)
    (λ same. (order, subst (λ (x : Taking). Leads x order end) (same_taking s k j a b (eqb-true k j same)) leads.1))
    (λ apart.
    let more = takes_first order (after_taking s k a.event a.rest) end j (still s k j a b apart) leads.1 stuck in
    (k ∷ more.0, (still s j k b a (flipped k j apart), subst (λ (x : Taking). Leads x more.0 end) (both s k j a b apart) more.1)))

-- two ends at which nothing may be taken are the same
pub ends_same : (order other : List ℕ) (s a b : Taking) → Leads s order a → IsStuck a → Leads s other b → IsStuck b → a ≡ b
ends_same [] [] s a b leads stuck leads' stuck' = sym leads ∙ leads'
ends_same (k ∷ order) [] s a b leads stuck leads' stuck' = absurd (stuck' k (subst (λ (x : Taking). MayTake x k) leads' leads.0))
ends_same order (j ∷ other) s a b leads stuck leads' stuck' =
    let first = takes_first order s a j leads'.0 leads stuck in
    ends_same first.0 other (after_taking s j leads'.0.event leads'.0.rest) a b first.1 stuck leads'.1 stuck'

-- when everything is taken, nothing may be taken
pub all_stuck : (s : Taking) → IsAllTaken s → IsStuck s
all_stuck s all part may = not_empty (sym (all.none_left part) ∙ (left_is s.left part (may.event ∷ may.rest) may.at).0)
  where
    not_empty : {x : Event} {xs : List Event} → [] ≡ x ∷ xs → ⊥
    not_empty h = cc

-- if journals are one run, everything is taken, whatever is taken first
pub one_run_taken : (threads : List ThreadSpec) (parts : List PartSpec) (journals : List (List Event)) (order : List ℕ) (end : Taking)
    → HaveNoOthers threads 0 parts journals → AreOneRun threads journals → Leads (opening_taking threads journals) order end → IsStuck end → IsAllTaken end
one_run_taken threads parts journals order end none one leads stuck =
    let o = one_run_ordered threads parts journals none one in
    subst IsAllTaken (ends_same o.0 order (opening_taking threads journals) o.1.0 end o.1.1.0 (all_stuck o.1.0 o.1.1.1) leads stuck) o.1.1.1
