use Rattle.std.proofs.Common.{◌≡◌, ℕ, zero, suc, ◌+◌, ◌*◌, ◌<◌, ◌≤◌, ◌==◌, nat_lt, Bool, true, false, cond, Some, None, List, [], ◌∷◌, length, count_by, refl, sym, ap, ◌∙◌, subst, arith, eqb-true}
use Rattle.std.specs.List.{list_any, AllByRecursion}
use Rattle.std.proofs.lemmas.Bool.{eqb-false, eq-eqb, ltb-true, ltb-false, lt-ltb, le-ltb, or_left, or_right}
use Rattle.std.proofs.lemmas.List.Sums.{sum_by-cons}
use Rattle.nook_data.specs.declared.calls.CallEntry.{CallEntry}
use Rattle.nook_data.specs.declared.steps.Event.{Event}
use Rattle.nook_data.specs.declared.steps.Event.TheVariants as event
use Rattle.nook_data.specs.declared.scenario.PartSpec.{PartSpec}
use Rattle.part_defs.specs.Domain.{opening_domain}
use Rattle.part_defs.specs.Log.{opening_log}
use Rattle.part_defs.specs.Runs.{step_of, event_of, state_after, state_from, IsRunFrom, IsRun}
use Rattle.part_defs.specs.State.{PartState}
use Rattle.part_defs.specs.Steps.{opening, stepped}
use Rattle.machine_defs.proofs.BurstKeeps.{split}
use Rattle.part_laws.proofs.StepsFit.{fit_after, opening_fit}
use Rattle.part_laws.proofs.TiedBursts.{step_tied}
use Rattle.part_laws.proofs.TiedCalls.{AreThreads}
use Rattle.part_laws.proofs.TiedCrossing.{left, round, all_weaker}
use Rattle.part_laws.proofs.TiedSteps.{price, InvokesIn, StepTied, threads_of_fit}
use Rattle.part_laws.specs.Bound.{is_invoke, carries_failure, is_arrival, is_invoke_of, passing_below, threads_of, calls_of, failures_of, arrivals_of, most_events}
use Rattle.part_laws.specs.Fit.{IsFitSpec, IsFit}
use Rattle.part_laws.specs.Tied.{AreApart, IsTied}

-- The bound of a run.

-- there are at most as many open calls as threads that invoked

abbrev one_if : Bool → ℕ
one_if true = 1
one_if false = 0

abbrev below : ℕ → List CallEntry → ℕ
below n [] = 0
below n (c ∷ pending) = one_if (nat_lt c.thread n) + below n pending

abbrev at : ℕ → List CallEntry → ℕ
at n [] = 0
at n (c ∷ pending) = one_if (c.thread == n) + at n pending

one_below_more : (t n : ℕ) → one_if (nat_lt t (suc n)) ≤ one_if (t == n) + one_if (nat_lt t n)
one_below_more t n = split (t == n)
    (λ same. let e : t ≡ n = eqb-true t n same in
    rw (same, lt-ltb t (suc n) (omega arith), le-ltb t n (omega arith)) (omega arith))
    (λ other. split (nat_lt t n)
    (λ low. let l : t < n = ltb-true t n low in rw (other, low, lt-ltb t (suc n) (omega arith)) (omega arith))
    (λ high. let h : n ≤ t = ltb-false t n high in let ne = eqb-false t n other in
    rw (other, high, le-ltb t (suc n) (above t n h ne)) (omega arith)))
  where
    above : (t n : ℕ) → n ≤ t → (t ≡ n → ⊥) → suc n ≤ t
    above t n h ne = omega arith

below_more : (n : ℕ) (pending : List CallEntry) → below (suc n) pending ≤ at n pending + below n pending
below_more n [] = omega arith
below_more n (c ∷ pending) =
    let a : one_if (nat_lt c.thread (suc n)) ≤ one_if (c.thread == n) + one_if (nat_lt c.thread n) = one_below_more c.thread n in
    let b : below (suc n) pending ≤ at n pending + below n pending = below_more n pending in
    omega arith

at_none : (n : ℕ) (pending : List CallEntry) → AllByRecursion (λ d. (d.thread == n) ≡ false) pending → at n pending ≡ 0
at_none n [] all = refl
at_none n (c ∷ pending) all = rw all.0 (let more : at n pending ≡ 0 = at_none n pending all.1 in omega arith)

at_most_one : (test : ℕ → Bool) (n : ℕ) (pending : List CallEntry) → AreApart pending → AllByRecursion (λ c. test c.thread ≡ true) pending
    → at n pending ≤ one_if (test n)
at_most_one test n [] a all = omega arith
at_most_one test n (c ∷ pending) a all = split (c.thread == n)
    (λ here.
    let e : c.thread ≡ n = eqb-true c.thread n here in
    let none' : at n pending ≡ 0 = at_none n pending (subst (λ k. AllByRecursion (λ d. (d.thread == k) ≡ false) pending) e a.0) in
    let passes : test n ≡ true = ap test (sym e) ∙ all.0 in
    rw (here, passes) (omega arith))
    (λ other. rw other (let more : at n pending ≤ one_if (test n) = at_most_one test n pending a.1 all.1 in omega arith))

passing_is : (n : ℕ) (test : ℕ → Bool) → passing_below (suc n) test ≡ one_if (test n) + passing_below n test
passing_is n test = split (test n) (λ e. rw e refl) (λ e. rw e refl)

below_passing : (n : ℕ) (test : ℕ → Bool) (pending : List CallEntry) → AreApart pending → AllByRecursion (λ c. test c.thread ≡ true) pending
    → below n pending ≤ passing_below n test
below_passing zero test pending a all = none_below pending
  where
    none_below : (xs : List CallEntry) → below 0 xs ≤ 0
    none_below [] = omega arith
    none_below (c ∷ xs) = rw (le-ltb c.thread 0 (omega arith)) (let more : below 0 xs ≤ 0 = none_below xs in omega arith)
below_passing (suc n) test pending a all =
    let one : below (suc n) pending ≤ at n pending + below n pending = below_more n pending in
    let two : at n pending ≤ one_if (test n) = at_most_one test n pending a all in
    let three : below n pending ≤ passing_below n test = below_passing n test pending a all in
    let four : passing_below (suc n) test ≡ one_if (test n) + passing_below n test = passing_is n test in
    omega arith

all_below : (pending : List CallEntry) → AreThreads pending → length pending ≤ below 16 pending
all_below [] th = omega arith
all_below (c ∷ pending) th =
    rw (lt-ltb c.thread 16 th.0) (let more : length pending ≤ below 16 pending = all_below pending th.1 in omega arith)

few_calls : (test : ℕ → Bool) (pending : List CallEntry) → AreApart pending → AreThreads pending → AllByRecursion (λ c. test c.thread ≡ true) pending
    → length pending ≤ passing_below 16 test
few_calls test pending a th all =
    let one : length pending ≤ below 16 pending = all_below pending th in
    let two : below 16 pending ≤ passing_below 16 test = below_passing 16 test pending a all in
    omega arith

-- what a run keeps

pub opening_tied : (spec : PartSpec) → IsTied (opening spec)
unfolding opening opening_domain opening_log
opening_tied spec = record {
  rising = tt;
  apart = tt;
  calls = tt;
  driven = tt;
  stages = tt;
  limit = omega arith;
  within = λ h. omega arith;
}

pub tied_from : (p : PartState) (events : List Event) → IsFit p → IsTied p → IsRunFrom p events → IsTied (state_from p events)
unfolding IsRunFrom state_from
tied_from p [] f t r = t
tied_from p (e ∷ events) f t r =
    tied_from (state_after p (step_of e)) events (fit_after p (step_of e) f r.0)
    (step_tied (length p.log.pending) p (step_of e) f t (omega arith) r.0).tied r.2

pub run_tied : (spec : PartSpec) (journal : List Event) → IsFitSpec spec → IsRun spec journal → IsTied (state_from (opening spec) journal)
run_tied spec journal s r = tied_from (opening spec) journal (opening_fit spec s) (opening_tied spec) r

-- prices

abbrev prices : ℕ → List Event → ℕ
prices threads [] = 0
prices threads (e ∷ events) = price threads e + prices threads events

cost_from : (threads : ℕ) (test : ℕ → Bool) (p : PartState) (events : List Event) → passing_below 16 test ≡ threads → IsFit p → IsTied p
    → AllByRecursion (λ c. test c.thread ≡ true) p.log.pending → AllByRecursion (InvokesIn test) events → IsRunFrom p events
    → length events ≤ left threads p + prices threads events
unfolding IsRunFrom
cost_from threads test p [] few f t calls invoked r = omega arith
cost_from threads test p (e ∷ events) few f t calls invoked r =
    let n : length p.log.pending ≤ passing_below 16 test = few_calls test p.log.pending t.apart (threads_of_fit p f) calls in
    let q : PartState = state_after p (step_of e) in
    let k : StepTied threads p (stepped p (step_of e)) = step_tied threads p (step_of e) f t (omega arith) r.0 in
    let c : 1 + left threads q ≤ left threads p + price threads (event_of p (step_of e)) = k.cost in
    let same : price threads (event_of p (step_of e)) ≡ price threads e = ap (price threads) r.1 in
    let mine : InvokesIn test (event_of p (step_of e)) = subst (InvokesIn test) (sym r.1) invoked.0 in
    let more : length events ≤ left threads q + prices threads events =
    cost_from threads test q events few (fit_after p (step_of e) f r.0) k.tied (k.calls test calls mine) invoked.1 r.2 in
    omega arith

price_is : (threads : ℕ) (e : Event)
    → price threads e ≡ 34 * cond (is_invoke e) 1 0 + round threads * cond (carries_failure e) 1 0 + cond (is_arrival e) 1 0
price_is threads (event.Invoke call thread o answer) = omega arith
price_is threads (event.Enter call thread attempt answer) = omega arith
price_is threads (event.Burst context call burst count e acts answer None) = omega arith
price_is threads (event.Burst context call burst count e acts answer (Some cause)) = omega arith
price_is threads (event.Stage s answers released) = omega arith
price_is threads (event.Arrive frame kept) = omega arith

pub count_more : (p : Event → Bool) (e : Event) (events : List Event) → count_by p (e ∷ events) ≡ cond (p e) 1 0 + count_by p events
count_more p e events = sum_by-cons (λ x. cond (p x) 1 0) e events

prices_are : (threads : ℕ) (events : List Event)
    → prices threads events ≡ 34 * calls_of events + round threads * failures_of events + arrivals_of events
prices_are threads [] = omega arith
prices_are threads (e ∷ events) =
    let one : price threads e ≡ 34 * cond (is_invoke e) 1 0 + round threads * cond (carries_failure e) 1 0 + cond (is_arrival e) 1 0 = price_is threads e in
    let more : prices threads events ≡ 34 * calls_of events + round threads * failures_of events + arrivals_of events = prices_are threads events in
    sums (cond (is_invoke e) 1 0) (calls_of events) (calls_of (e ∷ events)) (cond (carries_failure e) 1 0) (failures_of events) (failures_of (e ∷ events))
    (cond (is_arrival e) 1 0) (arrivals_of events) (arrivals_of (e ∷ events)) (price threads e) (prices threads events)
    (count_more is_invoke e events) (count_more carries_failure e events) (count_more is_arrival e events) one more
  where
    sums : (a as' as'' b bs bs' c cs cs' x xs : ℕ) → as'' ≡ a + as' → bs' ≡ b + bs → cs' ≡ c + cs
        → x ≡ 34 * a + round threads * b + c → xs ≡ 34 * as' + round threads * bs + cs
        → x + xs ≡ 34 * as'' + round threads * bs' + cs'
    sums a as' as'' b bs bs' c cs cs' x xs ea eb ec ex exs = rw (ea, eb, ec, ex, exs) (omega arith)

-- the threads of a journal

invokes_more : (test test' : ℕ → Bool) (e : Event) → ((t : ℕ) → test t ≡ true → test' t ≡ true) → InvokesIn test e → InvokesIn test' e
invokes_more test test' (event.Invoke call thread o answer) h i = h thread i
invokes_more test test' (event.Enter call thread attempt answer) h i = tt
invokes_more test test' (event.Burst context call burst count e acts answer failure) h i = tt
invokes_more test test' (event.Stage s answers released) h i = tt
invokes_more test test' (event.Arrive frame kept) h i = tt

first_invoked : (e : Event) (events : List Event) → InvokesIn (λ t. list_any (is_invoke_of t) (e ∷ events)) e
first_invoked (event.Invoke call thread o answer) events =
    or_left (thread == thread) (list_any (is_invoke_of thread) events) (eq-eqb thread thread refl)
first_invoked (event.Enter call thread attempt answer) events = tt
first_invoked (event.Burst context call burst count e acts answer failure) events = tt
first_invoked (event.Stage s answers released) events = tt
first_invoked (event.Arrive frame kept) events = tt

all_invoked : (events : List Event) → AllByRecursion (InvokesIn (λ t. list_any (is_invoke_of t) events)) events
all_invoked [] = tt
all_invoked (e ∷ events) = (
  first_invoked e events,
  all_weaker (InvokesIn (λ t. list_any (is_invoke_of t) events)) (InvokesIn (λ t. list_any (is_invoke_of t) (e ∷ events))) events
      (λ x i. invokes_more (λ t. list_any (is_invoke_of t) events) (λ t. list_any (is_invoke_of t) (e ∷ events)) x
      (λ t h. or_right (is_invoke_of t e) (list_any (is_invoke_of t) events) h) i)
      (all_invoked events),
)

opening_left : (threads : ℕ) (spec : PartSpec) → left threads (opening spec) ≡ 200
unfolding opening opening_domain opening_log
opening_left threads spec = refl

no_calls : (test : ℕ → Bool) (spec : PartSpec) → AllByRecursion (λ c. test c.thread ≡ true) (opening spec).log.pending
unfolding opening opening_log
no_calls test spec = tt

pub run_bound : (spec : PartSpec) (journal : List Event) → IsFitSpec spec → IsRun spec journal → length journal ≤ most_events journal
run_bound spec journal s r =
    let test : ℕ → Bool = λ t. list_any (is_invoke_of t) journal in
    let cost : length journal ≤ left (threads_of journal) (opening spec) + prices (threads_of journal) journal =
    cost_from (threads_of journal) test (opening spec) journal refl (opening_fit spec s) (opening_tied spec) (no_calls test spec) (all_invoked journal) r in
    bounded (length journal) (calls_of journal) (failures_of journal) (arrivals_of journal) (threads_of journal) (left (threads_of journal) (opening spec))
    (prices (threads_of journal) journal) cost (opening_left (threads_of journal) spec) (prices_are (threads_of journal) journal)
  where
    bounded : (n calls failures arrivals threads l paid : ℕ) → n ≤ l + paid → l ≡ 200
        → paid ≡ 34 * calls + round threads * failures + arrivals
        → n ≤ calls * 34 + (failures + 1) * (5 + (6 + threads) * 33) + arrivals
    bounded n calls failures arrivals threads l paid a b c = omega arith
