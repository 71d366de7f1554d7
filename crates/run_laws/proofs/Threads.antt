-- The invariant of each simulation that a scenario's run reaches: a thread's answers, open call and operations left are
-- its operations, in order, and it waits in the part that has its open call.
use Rattle.std.proofs.Common.{drop, ◌≡◌, ◌⊎◌, inl, inr, ℕ, zero, suc, ◌+◌, ◌≤◌, ◌==◌, if◌then◌else◌, true, false, Option, Some, None, List, [], ◌∷◌, ◌++◌, map, length, slice_get, slice_set, refl, sym, ap, ◌∙◌, subst, arith, append_assoc}
use Rattle.std.proofs.lemmas.Bool.{eqb-true, eq-eqb, ne_eqb}
use Rattle.nook_data.specs.declared.calls.Answer.{Answer}
use Rattle.nook_data.specs.declared.steps.Event.{Event}
use Rattle.nook_data.specs.declared.steps.Event.TheVariants as event
use Rattle.nook_data.specs.declared.calls.Op.{Op}
use Rattle.nook_data.specs.declared.steps.Step.{Step}
use Rattle.nook_data.specs.declared.steps.Step.TheVariants as step
use Rattle.nook_data.specs.declared.scenario.ThreadSpec.{ThreadSpec}
use Rattle.nook_data.specs.Answers.{answer_at}
use Rattle.part_defs.specs.Runs.{event_of, step_of}
use Rattle.run_defs.specs.Simulation.{RunningPart, ThreadState, Waiting, started, thread_after, threads_after}
use Rattle.run_defs.specs.Simulation.{part_after}
use Rattle.run_defs.proofs.RunChanges.{settled_by, settled}
use Rattle.part_defs.specs.Steps.{enabled}
use Rattle.machine_defs.proofs.BurstKeeps.{split}
use Rattle.part_laws.proofs.Indices.{get_set, map_push}
use Rattle.part_laws.proofs.RunsDetermined.{step_named}
use Rattle.part_laws.specs.Tied.{IsTied}
use Rattle.run_laws.proofs.Choices.{IsOwn}
use Rattle.run_laws.proofs.Numbers.{number, pending_number, started_number, step_says}
use Rattle.nook_data.proofs.Options.{same_inside}

-- the number of the call that a thread waits for in a part
abbrev pub waits_in : ℕ → Option Waiting → Option ℕ
waits_in k None = None
waits_in k (Some w) = if w.part == k then Some w.call else None

abbrev pub waiting_part : Option Waiting → List ℕ
waiting_part None = []
waiting_part (Some w) = w.part ∷ []

-- the parts of a thread's operations: answered, open and not invoked
abbrev pub all_parts : ThreadState → List ℕ
all_parts t = map (λ a. a.0) t.answers ++ (waiting_part t.waiting ++ map (λ o. o.0) t.rest)

pub record IsThreadOf (parts : List RunningPart) (n : ℕ) (spec : ThreadSpec) (t : ThreadState) : Type 0 where
  pub order : all_parts t ≡ map (λ o. o.0) spec.ops
  pub waits : (k : ℕ) (seat : RunningPart) → slice_get parts k ≡ Some seat → number n seat.run.state.log.pending ≡ waits_in k t.waiting

abbrev pub AreThreadsOf : List RunningPart → ℕ → List ThreadSpec → List ThreadState → Type 0
AreThreadsOf parts n [] [] = Unit {0}
AreThreadsOf parts n [] (t ∷ threads) = ⊥
AreThreadsOf parts n (spec ∷ specs) [] = ⊥
AreThreadsOf parts n (spec ∷ specs) (t ∷ threads) = IsThreadOf parts n spec t × AreThreadsOf parts (n + 1) specs threads

-- ---- an answer

record Settled (part : ℕ) (e : Event) (s t : ThreadState) : Type 0 where
  order : all_parts t ≡ all_parts s
  here : pending_number (λ call. answer_at call e) (waits_in part s.waiting) ≡ waits_in part t.waiting
  there : (k : ℕ) → (part == k) ≡ false → waits_in k s.waiting ≡ waits_in k t.waiting

by_answer : (part : ℕ) (e : Event) (s : ThreadState) (w : Waiting) (a : Option Answer) → s.waiting ≡ Some w → (w.part == part) ≡ true
    → answer_at w.call e ≡ a → Settled part e s (settled_by part s a)
by_answer part e s w None h same silent =
    let at : waits_in part s.waiting ≡ Some w.call = ap (waits_in part) h ∙ mine in
    record {
      order = refl;
      here = ap (pending_number (λ call. answer_at call e)) at ∙ kept ∙ sym at;
      there = λ k other. refl;
    }
  where
    mine : waits_in part (Some w) ≡ Some w.call
    mine = rw same refl

    kept : pending_number (λ call. answer_at call e) (Some w.call) ≡ Some w.call
    kept = rw silent refl
by_answer part e s w (Some a) h same count' = record {
  order = ap (λ xs. xs ++ map (λ o. o.0) s.rest) (map_push (λ a. a.0) s.answers (part, a))
      ∙ append_assoc (map (λ a. a.0) s.answers) (part ∷ []) (map (λ o. o.0) s.rest)
      ∙ ap (λ n. map (λ a. a.0) s.answers ++ (n ∷ map (λ o. o.0) s.rest)) (sym (eqb-true w.part part same))
      ∙ ap (λ o. map (λ a. a.0) s.answers ++ (waiting_part o ++ map (λ o. o.0) s.rest)) (sym h);
  here = ap (λ o. pending_number (λ call. answer_at call e) (waits_in part o)) h ∙ rw (same, count') refl;
  there = λ k other. ap (waits_in k) h ∙ rw (ap (λ n. n == k) (eqb-true w.part part same) ∙ other) refl;
}

settles : (part : ℕ) (e : Event) (s : ThreadState) (w : Option Waiting) → s.waiting ≡ w → Settled part e s (settled part e s w)
settles part e s None h = record {
  order = refl;
  here = ap (λ o. pending_number (λ call. answer_at call e) (waits_in part o)) h ∙ sym (ap (waits_in part) h);
  there = λ k other. refl;
}
settles part e s (Some w) h = split (w.part == part)
    (λ same. subst (λ a. Settled part e s (settled_by part s a)) (mine same) (by_answer part e s w (answer_at w.call e) h same refl))
    (λ other. subst (λ a. Settled part e s (settled_by part s a)) (none other) (record {
      order = refl;
      here = ap (pending_number (λ call. answer_at call e)) (away other) ∙ sym (away other);
      there = λ k elsewhere. refl;
    }))
  where
    mine : (w.part == part) ≡ true → answer_at w.call e ≡ (if w.part == part then answer_at w.call e else None)
    mine same = rw same refl

    none : (w.part == part) ≡ false → None ≡ (if w.part == part then answer_at w.call e else None)
    none other = rw other refl

    away : (w.part == part) ≡ false → waits_in part s.waiting ≡ None
    away other = rw (h, other) refl

-- ---- an invocation

abbrev pub IsOwnOf : ℕ → ℕ → ThreadState → Step → Type 0
IsOwnOf n part t (step.Invoke thread o) = (thread == n) ≡ true → (t.waiting ≡ None) × ((more : List (ℕ × Op)) × (t.rest ≡ (part, o) ∷ more))
IsOwnOf n part t _ = Unit {0}

record Started (n part : ℕ) (e : Event) (s t : ThreadState) : Type 0 where
  order : all_parts t ≡ all_parts s
  here : started_number n e (waits_in part s.waiting) ≡ waits_in part t.waiting
  there : (k : ℕ) → (part == k) ≡ false → waits_in k s.waiting ≡ waits_in k t.waiting

starts : (n part : ℕ) (e : Event) (s : ThreadState) → IsOwnOf n part s (step_of e) → Started n part e s (started n part e s)
starts n part (event.Invoke call thread o a) s own = split (thread == n)
    (λ mine.
    let next = own mine in
    record {
      order = rw mine (ap (λ xs. map (λ a. a.0) s.answers ++ (part ∷ map (λ o. o.0) (drop 1 xs))) next.1.1
          ∙ sym (ap (λ w. map (λ a. a.0) s.answers ++ (waiting_part w ++ map (λ o. o.0) s.rest)) next.0
          ∙ ap (λ xs. map (λ a. a.0) s.answers ++ map (λ o. o.0) xs) next.1.1));
      here = rw (mine, eq-eqb part part refl) refl;
      there = λ k other. rw (mine, other) (ap (waits_in k) next.0);
    })
    (λ other. record {
      order = rw other refl;
      here = rw other refl;
      there = λ k elsewhere. rw other refl;
    })
starts n part (event.Enter call thread attempt a) s own = record { order = refl; here = refl; there = λ k other. refl }
starts n part (event.Burst context call burst count end acts a failure) s own = record { order = refl; here = refl; there = λ k other. refl }
starts n part (event.Stage stage answers released) s own = record { order = refl; here = refl; there = λ k other. refl }
starts n part (event.Arrive frame kept) s own = record { order = refl; here = refl; there = λ k other. refl }

-- ---- a thread after a step

thread_step : (parts : List RunningPart) (n : ℕ) (spec : ThreadSpec) (t : ThreadState) (part : ℕ) (seat : RunningPart) (s : Step)
    → slice_get parts part ≡ Some seat → IsTied seat.run.state → enabled seat.run.state s ≡ true → IsOwnOf n part t s → IsThreadOf parts n spec t
    → IsThreadOf (slice_set parts part (part_after s seat)) n spec
    (thread_after part (event_of seat.run.state s) (started n part (event_of seat.run.state s) t))
thread_step parts n spec t part seat s at tied may own is =
    let e = event_of seat.run.state s in
    let one = started n part e t in
    let begun : Started n part e t one = starts n part e t (subst (IsOwnOf n part t) (sym (step_named seat.run.state s)) own) in
    let done : Settled part e one (thread_after part e one) = settles part e one one.waiting refl in
    record {
      order = done.order ∙ begun.order ∙ is.order;
      waits = λ k new h. by_position (get_set parts k part (part_after s seat) new h)
          (λ same. ap (λ (x : RunningPart). number n x.run.state.log.pending) same.1
          ∙ step_says seat.run.state s n tied may
          ∙ ap (λ w. pending_number (λ call. answer_at call e) (started_number n e w)) (is.waits part seat at)
          ∙ ap (pending_number (λ call. answer_at call e)) begun.here
          ∙ done.here
          ∙ ap (λ (m : ℕ). waits_in m (thread_after part e one).waiting) (sym same.0))
          (λ other.
          let apart : (part == k) ≡ false = ne_eqb part k (λ i. other.0 (sym i)) in
          is.waits k new other.1 ∙ begun.there k apart ∙ done.there k apart);
    }
  where
    by_position : {A B G : Type 0} → A ⊎ B → (A → G) → (B → G) → G
    by_position (inl a) f g = f a
    by_position (inr b) f g = g b

pub own_of : (whole : List ThreadState) (n part : ℕ) (t : ThreadState) (s : Step) → IsOwn whole part s → slice_get whole n ≡ Some t → IsOwnOf n part t s
own_of whole n part t (step.Invoke thread o) own at =
    λ mine.
    let same : own.t ≡ t = same_inside (sym own.at ∙ ap (slice_get whole) (eqb-true thread n mine) ∙ at) in
    (sym (ap (λ (x : ThreadState). x.waiting) same) ∙ own.free, (own.more, sym (ap (λ (x : ThreadState). x.rest) same) ∙ own.next))
own_of whole n part t (step.Enter thread) own at = tt
own_of whole n part t (step.Burst context) own at = tt
own_of whole n part t step.Stage own at = tt
own_of whole n part t (step.Arrive frame) own at = tt

pub threads_step : (parts : List RunningPart) (n : ℕ) (specs : List ThreadSpec) (whole threads : List ThreadState) (part : ℕ) (seat : RunningPart) (s : Step)
    → slice_get parts part ≡ Some seat → IsTied seat.run.state → enabled seat.run.state s ≡ true → IsOwn whole part s
    → ((k : ℕ) → slice_get threads k ≡ slice_get whole (n + k)) → AreThreadsOf parts n specs threads
    → AreThreadsOf (slice_set parts part (part_after s seat)) n specs (threads_after n part (event_of seat.run.state s) threads)
threads_step parts n [] whole [] part seat s at tied may own same are = tt
threads_step parts n [] whole (t ∷ threads) part seat s at tied may own same are = are
threads_step parts n (spec ∷ specs) whole [] part seat s at tied may own same are = are
threads_step parts n (spec ∷ specs) whole (t ∷ threads) part seat s at tied may own same are = (
  thread_step parts n spec t part seat s at tied may (own_of whole n part t s own (ap (slice_get whole) (first n) ∙ sym (same 0))) are.0,
  threads_step parts (n + 1) specs whole threads part seat s at tied may own (λ k. same (suc k) ∙ ap (slice_get whole) (next n k)) are.1,
)
  where
    first : (n : ℕ) → n ≡ n + 0
    first n = omega arith

    next : (n k : ℕ) → n + suc k ≡ n + 1 + k
    next n k = omega arith

-- ---- how many operations are left

abbrev pub rest_count : List ThreadState → ℕ
rest_count [] = 0
rest_count (t ∷ threads) = length t.rest + rest_count threads

settled_rest : (part : ℕ) (e : Event) (s : ThreadState) (w : Option Waiting) → (settled part e s w).rest ≡ s.rest
settled_rest part e s None = refl
settled_rest part e s (Some w) = by_answer' (if w.part == part then answer_at w.call e else None)
  where
    by_answer' : (a : Option Answer) → (settled_by part s a).rest ≡ s.rest
    by_answer' None = refl
    by_answer' (Some a) = refl

tail_less : (xs : List (ℕ × Op)) → length (drop 1 xs) ≤ length xs
tail_less [] = omega arith
tail_less (x ∷ xs) = omega arith

started_rest : (n part : ℕ) (e : Event) (s : ThreadState) → length (started n part e s).rest ≤ length s.rest
started_rest n part (event.Invoke call thread o a) s = split (thread == n)
    (λ mine. rw mine (tail_less s.rest))
    (λ other. rw other (omega arith))
started_rest n part (event.Enter call thread attempt a) s = omega arith
started_rest n part (event.Burst context call burst count end acts a failure) s = omega arith
started_rest n part (event.Stage stage answers released) s = omega arith
started_rest n part (event.Arrive frame kept) s = omega arith

heard_rest : (n part : ℕ) (e : Event) (s : ThreadState) → length (thread_after part e (started n part e s)).rest ≤ length s.rest
heard_rest n part e s =
    subst (λ (xs : List (ℕ × Op)). length xs ≤ length s.rest) (sym (settled_rest part e (started n part e s) (started n part e s).waiting)) (started_rest n part e s)

pub rest_le : (n part : ℕ) (e : Event) (threads : List ThreadState) → rest_count (threads_after n part e threads) ≤ rest_count threads
rest_le n part e [] = omega arith
rest_le n part e (t ∷ threads) = sum _ _ _ _ (heard_rest n part e t) (rest_le (n + 1) part e threads)
  where
    sum : (a b c d : ℕ) → a ≤ b → c ≤ d → a + c ≤ b + d
    sum a b c d p q = omega arith

pub rest_less : (n part call thread : ℕ) (o p : Op) (a : Option Answer) (threads : List ThreadState) (k : ℕ) (t : ThreadState) (more : List (ℕ × Op))
    → slice_get threads k ≡ Some t → thread ≡ n + k → t.rest ≡ (part, p) ∷ more
    → rest_count (threads_after n part (event.Invoke call thread o a) threads) + 1 ≤ rest_count threads
rest_less n part call thread o p a [] k t more h i r = cc
rest_less n part call thread o p a (x ∷ threads) zero t more h i r =
    let mine : (thread == n) ≡ true = eq-eqb thread n (omega arith) in
    let same : x.rest ≡ (part, p) ∷ more = ap (λ (y : ThreadState). y.rest) (same_inside h) ∙ r in
    sum _ _ _ _
    (subst (λ (xs : List (ℕ × Op)). length xs + 1 ≤ length x.rest)
    (sym (settled_rest part (event.Invoke call thread o a) (started n part (event.Invoke call thread o a) x) (started n part (event.Invoke call thread o a) x).waiting))
    (rw mine (rw same (omega arith))))
    (rest_le (n + 1) part (event.Invoke call thread o a) threads)
  where
    sum : (a b c d : ℕ) → a + 1 ≤ b → c ≤ d → a + c + 1 ≤ b + d
    sum a b c d p q = omega arith
rest_less n part call thread o p a (x ∷ threads) (suc k) t more h i r =
    sum _ _ _ _ (heard_rest n part (event.Invoke call thread o a) x) (rest_less (n + 1) part call thread o p a threads k t more h (omega arith) r)
  where
    sum : (a b c d : ℕ) → a ≤ b → c + 1 ≤ d → a + c + 1 ≤ b + d
    sum a b c d p q = omega arith

pub heard_length : (n part : ℕ) (e : Event) (threads : List ThreadState) → length (threads_after n part e threads) ≡ length threads
heard_length n part e [] = refl
heard_length n part e (t ∷ threads) = ap suc (heard_length (n + 1) part e threads)
