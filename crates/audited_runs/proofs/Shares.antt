-- What each part knows of a thread changes as the thread does.
use Rattle.std.proofs.Common.{drop, ◌≡◌, ℕ, suc, ◌+◌, ◌==◌, if◌then◌else◌, Bool, true, false, Option, Some, None, List, [], ◌∷◌, ◌++◌, length, length-append, map, filter, slice_get, refl, sym, ap, ap₂, ◌∙◌, subst, arith, eqb-true, eq-eqb}
use Rattle.nook_data.specs.declared.calls.Answer.{Answer}
use Rattle.nook_data.specs.declared.steps.Event.{Event}
use Rattle.nook_data.specs.declared.steps.Event.TheVariants as event
use Rattle.nook_data.specs.declared.calls.Op.{Op}
use Rattle.nook_data.specs.declared.scenario.ThreadSpec.{ThreadSpec}
use Rattle.nook_data.specs.Answers.{answer_at}
use Rattle.part_defs.specs.Runs.{step_of}
use Rattle.run_defs.specs.Simulation.{ThreadState, Waiting, opening_thread, started, threads_after, thread_after}
use Rattle.run_defs.proofs.RunChanges.{settled, settled_by}
use Rattle.part_laws.proofs.Indices.{split}
use Rattle.run_laws.proofs.Choices.{IsOwn}
use Rattle.nook_data.proofs.Options.{same_inside}
use Rattle.run_laws.specs.Audit.{is_on}

-- ---- a thread, as a part knows it

abbrev pub is_from : ℕ → ℕ × Answer → Bool
is_from index a = a.0 == index

abbrev pub waiting_on : ℕ → Option Waiting → Option Waiting
waiting_on index None = None
waiting_on index (Some w) = if w.part == index then Some w else None

-- the thread's operations on the part, its open call if that is on the part, and the part's answers
abbrev pub share_of : ℕ → ThreadState → ThreadState
share_of index t = record {
  rest = filter (is_on index) t.rest;
  waiting = waiting_on index t.waiting;
  answers = filter (is_from index) t.answers;
}

-- ---- filters

pub filter_same : {X : Type 0} (p : X → Bool) (x : X) (xs : List X) → p x ≡ true → filter p (x ∷ xs) ≡ x ∷ filter p xs
filter_same p x xs h = rw (filter, h) refl

pub filter_none : {X : Type 0} (p : X → Bool) (x : X) (xs : List X) → p x ≡ false → filter p (x ∷ xs) ≡ filter p xs
filter_none p x xs h = rw (filter, h) refl

filter_push : {X : Type 0} (p : X → Bool) (xs : List X) (x : X) → p x ≡ true → filter p (xs ++ x ∷ []) ≡ filter p xs ++ x ∷ []
filter_push p [] x h = filter_same p x [] h
filter_push p (y ∷ xs) x h = split (p y)
    (λ e. filter_same p y (xs ++ x ∷ []) e ∙ ap (λ ys. y ∷ ys) (filter_push p xs x h) ∙ ap (λ ys. ys ++ x ∷ []) (sym (filter_same p y xs e)))
    (λ e. filter_none p y (xs ++ x ∷ []) e ∙ filter_push p xs x h ∙ ap (λ ys. ys ++ x ∷ []) (sym (filter_none p y xs e)))

filter_skip : {X : Type 0} (p : X → Bool) (xs : List X) (x : X) → p x ≡ false → filter p (xs ++ x ∷ []) ≡ filter p xs
filter_skip p [] x h = filter_none p x [] h
filter_skip p (y ∷ xs) x h = split (p y)
    (λ e. filter_same p y (xs ++ x ∷ []) e ∙ ap (λ ys. y ∷ ys) (filter_skip p xs x h) ∙ sym (filter_same p y xs e))
    (λ e. filter_none p y (xs ++ x ∷ []) e ∙ filter_skip p xs x h ∙ sym (filter_none p y xs e))

-- ---- an event that is the thread's own

-- if the event is the thread's invocation, the thread has no open call, and the operation is its next
abbrev pub MayStart : ℕ → ℕ → Event → ThreadState → Type 0
MayStart n part (event.Invoke call thread o a) t = thread ≡ n → (t.waiting ≡ None) × ((more : List (ℕ × Op)) × (t.rest ≡ (part, o) ∷ more))
MayStart n part e t = Unit {0}

share_started : (n part : ℕ) (e : Event) (t : ThreadState) → MayStart n part e t → share_of part (started n part e t) ≡ started n part e (share_of part t)
share_started n part (event.Invoke call thread o a) t may = split (thread == n)
    (λ e.
    let m = may (eqb-true thread n e) in
    let mine : (part == part) ≡ true = eq-eqb part part refl in
    let rest : filter (is_on part) (drop 1 t.rest) ≡ drop 1 (filter (is_on part) t.rest) =
    ap (λ xs. filter (is_on part) (drop 1 xs)) m.1.1 ∙ sym (ap (λ xs. drop 1 (filter (is_on part) xs)) m.1.1 ∙ ap (drop 1) (filter_same (is_on part) (part, o) m.1.0 mine)) in
    rw (e, mine, rest) refl)
    (λ e. rw e refl)
share_started n part (event.Enter call thread attempt a) t may = refl
share_started n part (event.Burst context call burst count end acts a failure) t may = refl
share_started n part (event.Stage stage answers released) t may = refl
share_started n part (event.Arrive frame kept) t may = refl

share_settled : (part : ℕ) (t : ThreadState) (a : Option Answer) → share_of part (settled_by part t a) ≡ settled_by part (share_of part t) a
share_settled part t None = refl
share_settled part t (Some a) =
    ap {B = ThreadState} (λ xs. record { rest = filter (is_on part) t.rest; waiting = None; answers = xs })
    (filter_push (is_from part) t.answers (part, a) (eq-eqb part part refl))

share_reported_by : (part : ℕ) (e : Event) (t : ThreadState) (w : Option Waiting)
    → share_of part (settled part e t w) ≡ settled part e (share_of part t) (waiting_on part w)
share_reported_by part e t None = refl
share_reported_by part e t (Some w) = split (w.part == part)
    (λ h. rw h (share_settled part t (answer_at w.call e) ∙ sym (waits h)))
    (λ h. rw h refl)
  where
    waits : (w.part == part) ≡ true → settled_by part (share_of part t) (if w.part == part then answer_at w.call e else None) ≡ settled_by part (share_of part t) (answer_at w.call e)
    waits h = rw h refl

pub share_own : (n part : ℕ) (e : Event) (t : ThreadState) → MayStart n part e t
    → thread_after part e (started n part e (share_of part t)) ≡ share_of part (thread_after part e (started n part e t))
share_own n part e t may =
    let s : ThreadState = started n part e t in
    ap (thread_after part e) (sym (share_started n part e t may)) ∙ sym (share_reported_by part e s s.waiting)

-- ---- an event of another part

share_not_started : (n part index : ℕ) (e : Event) (t : ThreadState) → (part == index) ≡ false → MayStart n part e t
    → share_of index (started n part e t) ≡ share_of index t
share_not_started n part index (event.Invoke call thread o a) t other may = split (thread == n)
    (λ e.
    let m = may (eqb-true thread n e) in
    let rest : filter (is_on index) (drop 1 t.rest) ≡ filter (is_on index) t.rest =
    ap (λ xs. filter (is_on index) (drop 1 xs)) m.1.1 ∙ sym (ap (filter (is_on index)) m.1.1 ∙ filter_none (is_on index) (part, o) m.1.0 other) in
    rw (e, other, rest, m.0) refl)
    (λ e. rw e refl)
share_not_started n part index (event.Enter call thread attempt a) t other may = refl
share_not_started n part index (event.Burst context call burst count end acts a failure) t other may = refl
share_not_started n part index (event.Stage stage answers released) t other may = refl
share_not_started n part index (event.Arrive frame kept) t other may = refl

share_not_settled : (part index : ℕ) (t : ThreadState) (w : Waiting) (a : Option Answer) → (part == index) ≡ false → t.waiting ≡ Some w → w.part ≡ part
    → share_of index (settled_by part t a) ≡ share_of index t
share_not_settled part index t w None other e is = refl
share_not_settled part index t w (Some a) other e is =
    let waits : waiting_on index t.waiting ≡ None = ap (waiting_on index) e ∙ ap (λ (k : ℕ). if k == index then Some w else None) is ∙ not_here (part == index) other in
    rw (filter_skip (is_from index) t.answers (part, a) other, waits) refl
  where
    not_here : (b : Bool) → b ≡ false → (if b then Some w else None) ≡ None
    not_here b h = rw h refl

share_not_reported : (part index : ℕ) (e : Event) (t : ThreadState) (w : Option Waiting) → (part == index) ≡ false → t.waiting ≡ w
    → share_of index (settled part e t w) ≡ share_of index t
share_not_reported part index e t None other h = refl
share_not_reported part index e t (Some w) other h = split (w.part == part)
    (λ k. ap (λ b. share_of index (settled_by part t (if b then answer_at w.call e else None))) k
    ∙ share_not_settled part index t w (answer_at w.call e) other h (eqb-true w.part part k))
    (λ k. ap (λ b. share_of index (settled_by part t (if b then answer_at w.call e else None))) k)

pub share_other : (n part index : ℕ) (e : Event) (t : ThreadState) → (part == index) ≡ false → MayStart n part e t
    → share_of index (thread_after part e (started n part e t)) ≡ share_of index t
share_other n part index e t other may =
    let s : ThreadState = started n part e t in
    share_not_reported part index e s s.waiting other refl ∙ share_not_started n part index e t other may

-- ---- all threads

abbrev pub AllMay : ℕ → ℕ → Event → List ThreadState → Type 0
AllMay n part e [] = Unit {0}
AllMay n part e (t ∷ threads) = MayStart n part e t × AllMay (n + 1) part e threads

pub all_own : (n part : ℕ) (e : Event) (threads : List ThreadState) → AllMay n part e threads
    → threads_after n part e (map (share_of part) threads) ≡ map (share_of part) (threads_after n part e threads)
all_own n part e [] may = refl
all_own n part e (t ∷ threads) may =
    ap₂ (λ (x : ThreadState) xs. x ∷ xs) (share_own n part e t may.0) (all_own (n + 1) part e threads may.1)

pub all_other : (n part index : ℕ) (e : Event) (threads : List ThreadState) → (part == index) ≡ false → AllMay n part e threads
    → map (share_of index) (threads_after n part e threads) ≡ map (share_of index) threads
all_other n part index e [] other may = refl
all_other n part index e (t ∷ threads) other may =
    ap₂ (λ (x : ThreadState) xs. x ∷ xs) (share_other n part index e t other may.0) (all_other (n + 1) part index e threads other may.1)

-- the step is its thread's own
may_start : (n part : ℕ) (e : Event) (t : ThreadState) (whole : List ThreadState) → slice_get whole n ≡ Some t → IsOwn whole part (step_of e) → MayStart n part e t
may_start n part (event.Invoke call thread o a) t whole at own = λ same.
    let is : own.t ≡ t = same_inside (sym own.at ∙ ap (slice_get whole) same ∙ at) in
    (subst (λ (x : ThreadState). x.waiting ≡ None) is own.free, (own.more, subst (λ (x : ThreadState). x.rest ≡ (part, o) ∷ own.more) is own.next))
may_start n part (event.Enter call thread attempt a) t whole at own = tt
may_start n part (event.Burst context call burst count end acts a failure) t whole at own = tt
may_start n part (event.Stage stage answers released) t whole at own = tt
may_start n part (event.Arrive frame kept) t whole at own = tt

pub all_may : (n part : ℕ) (e : Event) (threads whole : List ThreadState) → ((k : ℕ) → slice_get threads k ≡ slice_get whole (n + k))
    → IsOwn whole part (step_of e) → AllMay n part e threads
all_may n part e [] whole same own = tt
all_may n part e (t ∷ threads) whole same own = (
  may_start n part e t whole (ap (slice_get whole) (first n) ∙ sym (same 0)) own,
  all_may (n + 1) part e threads whole (λ k. same (suc k) ∙ ap (slice_get whole) (next n k)) own,
)
  where
    first : (n : ℕ) → n ≡ n + 0
    first n = omega arith

    next : (n k : ℕ) → n + suc k ≡ n + 1 + k
    next n k = omega arith

-- ---- how many operations a thread has left

abbrev pub waits_for : Option Waiting → ℕ
waits_for None = 0
waits_for (Some w) = 1

-- the operations of a thread: answered, open, or not invoked
abbrev pub operations_of : ThreadState → ℕ
operations_of t = length t.answers + waits_for t.waiting + length t.rest

started_counted : (n part : ℕ) (e : Event) (t : ThreadState) → MayStart n part e t → operations_of (started n part e t) ≡ operations_of t
started_counted n part (event.Invoke call thread o a) t may = split (thread == n)
    (λ e.
    let m = may (eqb-true thread n e) in
    let rest : length t.rest ≡ suc (length (drop 1 t.rest)) = ap length m.1.1 ∙ sym (ap (λ xs. suc (length (drop 1 xs))) m.1.1) in
    let free : waits_for t.waiting ≡ 0 = ap waits_for m.0 in
    rw e (omega arith))
    (λ e. rw e refl)
started_counted n part (event.Enter call thread attempt a) t may = refl
started_counted n part (event.Burst context call burst count end acts a failure) t may = refl
started_counted n part (event.Stage stage answers released) t may = refl
started_counted n part (event.Arrive frame kept) t may = refl

settled_counted : (part : ℕ) (t : ThreadState) (w : Waiting) (a : Option Answer) → t.waiting ≡ Some w → operations_of (settled_by part t a) ≡ operations_of t
settled_counted part t w None h = refl
settled_counted part t w (Some a) h =
    let size : length (t.answers ++ (part, a) ∷ []) ≡ length t.answers + 1 = length-append t.answers ((part, a) ∷ []) in
    let waits : waits_for t.waiting ≡ 1 = ap waits_for h in
    omega arith

reported_counted : (part : ℕ) (e : Event) (t : ThreadState) (w : Option Waiting) → t.waiting ≡ w → operations_of (settled part e t w) ≡ operations_of t
reported_counted part e t None h = refl
reported_counted part e t (Some w) h = settled_counted part t w (if w.part == part then answer_at w.call e else None) h

-- each thread has its script's operations
abbrev pub AreCounted : List ThreadSpec → List ThreadState → Type 0
AreCounted [] [] = Unit {0}
AreCounted [] (t ∷ threads) = ⊥
AreCounted (spec ∷ specs) [] = ⊥
AreCounted (spec ∷ specs) (t ∷ threads) = (operations_of t ≡ length spec.ops) × AreCounted specs threads

pub counted_after : (n part : ℕ) (e : Event) (specs : List ThreadSpec) (threads : List ThreadState) → AllMay n part e threads → AreCounted specs threads
    → AreCounted specs (threads_after n part e threads)
counted_after n part e [] [] may are = tt
counted_after n part e [] (t ∷ threads) may are = absurd are
counted_after n part e (spec ∷ specs) [] may are = absurd are
counted_after n part e (spec ∷ specs) (t ∷ threads) may are =
    let s : ThreadState = started n part e t in
    (reported_counted part e s s.waiting refl ∙ started_counted n part e t may.0 ∙ are.0, counted_after (n + 1) part e specs threads may.1 are.1)

pub counted_opening : (specs : List ThreadSpec) → AreCounted specs (map opening_thread specs)
counted_opening [] = tt
counted_opening (spec ∷ specs) = (none_yet (length spec.ops), counted_opening specs)
  where
    none_yet : (n : ℕ) → 0 + 0 + n ≡ n
    none_yet n = omega arith
