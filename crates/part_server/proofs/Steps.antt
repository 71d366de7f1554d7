-- What a step adds to a part's journal.
use Rattle.std.proofs.Common.{◌≡◌, ℕ, zero, suc, ◌+◌, ◌-◌, ◌<◌, ◌≤◌, ◌&&◌, nat_lt, nat_le, is_none, Bool, true, false, Option, Some, None, IsSome, Result, Ok, Err, List, [], ◌∷◌, ◌++◌, length, drop, is_some, slice_get, refl, sym, ap, ◌∙◌, subst, arith, true≢false}
use Rattle.std.specs.List.{list_any}
use Rattle.std.proofs.lemmas.Bool.{and_from, lt-ltb, ltb-false, le-leb}
use Rattle.nook_data.specs.declared.classes.Class.TheVariants as class
use Rattle.nook_data.specs.declared.steps.Event.{Event}
use Rattle.nook_data.specs.declared.steps.Event.TheVariants as event
use Rattle.nook_data.specs.declared.desks.DeskRefused.{DeskRefused}
use Rattle.nook_data.specs.declared.calls.Op.{Op}
use Rattle.nook_data.specs.declared.desks.Receipt.{Receipt}
use Rattle.nook_data.specs.declared.scenario.PartSpec.{PartSpec}
use Rattle.nook_data.specs.declared.steps.Step.{Step}
use Rattle.nook_data.specs.declared.steps.Step.TheVariants as step
use Rattle.nook_data.specs.declared.calls.CallEntry.{CallEntry}
use Rattle.nook_data.specs.Classes.{same_class}
use Rattle.part_defs.specs.Log.{call_of_thread}
use Rattle.nook_data.specs.Numbered.{at_number}
use Rattle.std.specs.Option.{option_or}
use Rattle.part_defs.specs.Runs.{PartRun, IsRun, event_of, run_after, state_after, state_of, step_of, if_enabled}
use Rattle.part_defs.specs.Runs.{next_for, next_recovery, next_of_calls, next_any}
use Rattle.nook_data.specs.Answers.{answer_at}
use Rattle.part_defs.specs.Views.CallLogs.{answered_from}
use Rattle.part_defs.specs.State.{PartState}
use Rattle.part_defs.specs.Steps.{can_invoke, enabled}
use Rattle.nook_data.specs.Valid.{IsValidPart}
use Rattle.part_defs.proofs.NextSteps.{next_for_case}
use Rattle.desk_like.specs.Desks.{IsAt, IsReply, IsInvoke, IsArrive, IsOther, HasOpen, HasNoneOpen}
use Rattle.part_laws.proofs.DeviceStays.{spec_after}
use Rattle.part_core.proofs.Kept.{kept_after}
use Rattle.part_core.specs.Answering.{call_number}
use Rattle.part_core.specs.Kept.{IsKept}
use Rattle.part_core.specs.Turning.{IsStepped}
use Rattle.part_core.specs.declared.part.StepDone.{StepDone}
use Rattle.part_core.specs.declared.part.StepRefused.{StepRefused}
use Rattle.part_core.specs.declared.part.StepRefused.TheVariants as refusal
use Rattle.machine_defs.proofs.BurstKeeps.{split}
use Rattle.part_laws.proofs.Counts.{run_measured}
use Rattle.part_laws.proofs.RunBound.{run_tied}
use Rattle.part_laws.proofs.RunsDetermined.{step_named}
use Rattle.part_laws.proofs.ValidFits.{valid_fits}
use Rattle.part_laws.specs.Tied.{IsTied}
use Rattle.part_laws.specs.Bound.{IsMeasured, calls_of, arrivals_of}
use Rattle.part_server.specs.declared.waiting.Progress.{Progress}
use Rattle.part_server.specs.declared.waiting.Progress.TheVariants as progress
use Rattle.part_server.specs.declared.waiting.Waiting.{Waiting}
use Rattle.part_server.specs.Answers.{Invokes, Numbers, is_invocation}
use Rattle.part_server.specs.Turns.{Grows, InvokeGives, InvokedGives, GoOnGives, ReachedGives, LookGives, IsOwn, IsGoingOn, IsWaitingFor}
use Rattle.part_server.proofs.Views.{low_at}
use Rattle.part_server.proofs.Opens.{open_after, opened_after, was_invoked, answer_there}
use Rattle.nook_data.proofs.Options.{none_is_some, same_inside}

-- ---- the last event

last_at : (xs : List Event) (e : Event) → slice_get (xs ++ e ∷ []) (length xs) ≡ Some e
last_at [] e = refl
last_at (x ∷ xs) e = last_at xs e

length_more : (xs : List Event) (e : Event) → length (xs ++ e ∷ []) ≡ suc (length xs)
length_more [] e = refl
length_more (x ∷ xs) e = ap suc (length_more xs e)

pub last_there : (xs : List Event) (e : Event) → at_number (length (xs ++ e ∷ [])) (xs ++ e ∷ []) ≡ Some e
last_there xs e = ap (λ (n : ℕ). at_number n (xs ++ e ∷ [])) (length_more xs e) ∙ last_at xs e

pub last_is : (journal xs : List Event) (e : Event) (Is : Event → Type 0) → journal ≡ xs ++ e ∷ [] → IsAt journal (length journal) Is → Is e
last_is journal xs e Is same at = subst Is (same_inside (sym (subst (λ (l : List Event). at_number (length l) l ≡ Some at.event) same at.there) ∙ last_there xs e)) at.is

-- the event with a number, as the code reads it
pub at_position : (position : ℕ) (xs : List Event) (e : Event) → 0 < position → slice_get xs (position - 1) ≡ Some e → at_number position xs ≡ Some e
at_position zero xs e h i = absurd (none h)
  where
    none : 0 < 0 → ⊥
    none h = omega arith
at_position (suc k) xs e h i = subst (λ (n : ℕ). slice_get xs n ≡ Some e) (less k) i
  where
    less : (k : ℕ) → suc k - 1 ≡ k
    less k = omega arith

-- ---- the kind of event of a step

pub grown : (r q : PartRun) (s : Step) (Is : Event → Type 0) → q ≡ run_after r s → Is (event_of r.state s) → Grows r q Is
grown r q s Is e i = record {
  event = event_of r.state s;
  journal = ap (λ (x : PartRun). x.journal) e;
  spec = ap (λ (x : PartRun). x.state.spec) e ∙ spec_after r.state s;
  is = i;
}

pub grown_last : (r q : PartRun) (s : Step) (Is : Event → Type 0) → q ≡ run_after r s → IsAt q.journal (length q.journal) Is → Is (event_of r.state s)
grown_last r q s Is e at = last_is q.journal r.journal (event_of r.state s) Is (ap (λ (x : PartRun). x.journal) e) at

pub invoke_is : (call thread : ℕ) (o : Op) (e : Event) → step_of e ≡ step.Invoke thread o → Numbers call e → IsInvoke call thread o e
invoke_is call thread o (event.Invoke c t p a) s n = (n, of_thread s, of_op s)
  where
    of_thread : step.Invoke t p ≡ step.Invoke thread o → t ≡ thread
    of_thread h = cc

    of_op : step.Invoke t p ≡ step.Invoke thread o → p ≡ o
    of_op h = cc
invoke_is call thread o (event.Enter c t attempt a) s n = absurd n
invoke_is call thread o (event.Burst context c burst count end acts a failure) s n = absurd n
invoke_is call thread o (event.Stage stage answers released) s n = absurd n
invoke_is call thread o (event.Arrive frame kept) s n = absurd n

own_other : (e : Event) → IsOwn (step_of e) → IsOther e
own_other (event.Invoke c t o a) h = h
own_other (event.Enter c t attempt a) h = tt
own_other (event.Burst context c burst count end acts a failure) h = tt
own_other (event.Stage stage answers released) h = tt
own_other (event.Arrive frame kept) h = h

pub event_other : (p : PartState) (s : Step) → IsOwn s → IsOther (event_of p s)
event_other p s h = own_other (event_of p s) (subst IsOwn (sym (step_named p s)) h)

if_own : (p : PartState) (s x : Step) (others : Option Step) → IsOwn s → (others ≡ Some x → IsOwn x) → if_enabled p s others ≡ Some x → IsOwn x
if_own p s x others own more h = split (enabled p s)
    (λ e. subst IsOwn (same_inside (rw e at h)) own)
    (λ e. more (rw e at h))

pub for_own : (p : PartState) (t : ℕ) (x : Step) → next_for p t ≡ Some x → IsOwn x
for_own p t x h = next_for_case IsOwn p t x (λ e. tt) (λ e. tt) h

recovery_own : (p : PartState) (x : Step) → next_recovery p ≡ Some x → IsOwn x
unfolding next_recovery
recovery_own p x h = if_own p step.Stage x (if_enabled p (step.Burst 16) None) tt (λ i. if_own p (step.Burst 16) x None tt (λ j. none_is_some j) i) h

either_own : (a b : Option Step) (x : Step) → (a ≡ Some x → IsOwn x) → (b ≡ Some x → IsOwn x) → option_or a b ≡ Some x → IsOwn x
either_own None b x f g h = g h
either_own (Some s) b x f g h = f h

calls_own : (p : PartState) (calls : List CallEntry) (x : Step) → next_of_calls p calls ≡ Some x → IsOwn x
calls_own p [] x h = none_is_some h
calls_own p (c ∷ calls) x h = either_own (next_for p c.thread) (next_of_calls p calls) x (for_own p c.thread x) (calls_own p calls x) h

pub any_own : (p : PartState) (x : Step) → next_any p ≡ Some x → IsOwn x
unfolding next_any
any_own p x h = either_own (next_recovery p) (next_of_calls p p.log.pending) x (recovery_own p x) (calls_own p p.log.pending x) h

-- a thread's next step is enabled
pub for_enabled : (p : PartState) (t : ℕ) (x : Step) → next_for p t ≡ Some x → enabled p x ≡ true
for_enabled p t x h = next_for_case (λ (z : Step). enabled p z ≡ true) p t x (λ e. e) (λ e. e) h

-- ---- refusals

module _ (spec : PartSpec) (journal : List Event) (p : PartState) (valid : IsValidPart spec) (run : IsRun spec journal) (at : p ≡ state_of spec journal) where
  pub tied_at : IsTied p
  tied_at = subst IsTied (sym at) (run_tied spec journal (valid_fits spec valid) run)

  measured : IsMeasured spec journal
  measured = run_measured spec journal (valid_fits spec valid) run

  few_calls : p.log.count ≤ 100000
  few_calls =
      let e : p.log.count ≡ calls_of journal = ap (λ (x : PartState). x.log.count) at ∙ measured.calls in
      let f : calls_of journal ≤ 100000 = measured.few_calls in
      omega arith

  few_arrivals : p.arrived ≤ 100000
  few_arrivals =
      let e : p.arrived ≡ arrivals_of journal = ap (λ (x : PartState). x.arrived) at ∙ measured.arrivals in
      let f : arrivals_of journal ≤ 100000 = measured.few_arrivals in
      omega arith

  last_false : (a b c : Bool) → a ≡ true → b ≡ true → (a && b && c) ≡ false → c ≡ false
  last_false true true c h i j = j
  last_false true false c h i j = absurd (true≢false (sym i))
  last_false false b c h i j = absurd (true≢false (sym h))

  none_number : (o : Option CallEntry) → call_number o ≡ None → o ≡ None
  none_number None h = refl
  none_number (Some c) h = none_is_some (sym h)

  none_true : (o : Option CallEntry) → o ≡ None → is_none o ≡ true
  none_true None h = refl
  none_true (Some c) h = none_is_some (sym h)

  -- a thread with no open call may not invoke if all call numbers were used
  pub too_many_calls : (thread : ℕ) → thread < 16 → can_invoke p thread ≡ false → call_number (call_of_thread thread p.log.pending) ≡ None
      → HasNoneOpen p thread × (p.log.count ≡ 100000)
  too_many_calls thread low refused free =
      let none : call_of_thread thread p.log.pending ≡ None = none_number (call_of_thread thread p.log.pending) free in
      let past : 100000 ≤ p.log.count = ltb-false p.log.count 100000
      (last_false (nat_lt thread 16) (is_none (call_of_thread thread p.log.pending)) (nat_lt p.log.count 100000) (lt-ltb thread 16 low) (none_true (call_of_thread thread p.log.pending) none) refused) in
      (none, both p.log.count past few_calls)
    where
      both : (n : ℕ) → 100000 ≤ n → n ≤ 100000 → n ≡ 100000
      both n a b = omega arith

  pub too_many_arrivals : (frame : List ℕ) → same_class p.spec.class class.Net ≡ true → 1 ≤ length frame → length frame ≤ 64 → enabled p (step.Arrive frame) ≡ false
      → p.arrived ≡ 100000
  unfolding enabled
  too_many_arrivals frame net some fits refused =
      both p.arrived (ltb-false p.arrived 100000
      (last_false (same_class p.spec.class class.Net) (nat_le 1 (length frame) && nat_le (length frame) 64) (nat_lt p.arrived 100000) net
      (and_from (nat_le 1 (length frame)) (nat_le (length frame) 64) (le-leb 1 (length frame) some) (le-leb (length frame) 64 fits)) refused)) few_arrivals
    where
      both : (n : ℕ) → 100000 ≤ n → n ≤ 100000 → n ≡ 100000
      both n a b = omega arith

-- a thread's open call, by its number
pub number_open : (p : PartState) (thread call : ℕ) → call_number (call_of_thread thread p.log.pending) ≡ Some call → HasOpen p thread call
number_open p thread call h = by_call (call_of_thread thread p.log.pending) refl
  where
    by_call : (o : Option CallEntry) → call_of_thread thread p.log.pending ≡ o → HasOpen p thread call
    by_call None e = none_is_some (sym (ap call_number e) ∙ h)
    by_call (Some c) e = record { entry = c; open_one = e; number = same_inside (sym (ap call_number e) ∙ h) }

-- ---- the result of a part's step

pub kept_stepped : (r q : PartRun) (s : Step) (x : Result StepDone StepRefused) → IsKept r → IsStepped r s x q → IsKept q
kept_stepped r q s (Ok done) k h = subst IsKept (sym h.1) (kept_after r s k h.0)
kept_stepped r q s (Err refusal.NotEnabled) k h = subst IsKept (sym h.1) k
kept_stepped r q s (Err refusal.NoMemory) k h = subst IsKept (sym h.1) k

pub not_enabled : (r q : PartRun) (s : Step) (e : StepRefused) → e ≡ refusal.NotEnabled → IsStepped r s (Err e) q → (enabled r.state s ≡ false) × (q ≡ r)
not_enabled r q s refusal.NotEnabled is h = h
not_enabled r q s refusal.NoMemory is h = cc

both_tests : {G : Type 0} (b : Bool) → b ≡ true → b ≡ false → G
both_tests true h i = absurd (true≢false i)
both_tests false h i = absurd (true≢false (sym h))

-- an enabled step is not refused as one that is not enabled
pub is_enabled : (r q : PartRun) (s : Step) (e : StepRefused) → e ≡ refusal.NotEnabled → IsStepped r s (Err e) q → enabled r.state s ≡ true → ⊥
is_enabled r q s e is h may = both_tests (enabled r.state s) may (not_enabled r q s e is h).0

-- the event with the number that a step returns
module _ (r q : PartRun) (s : Step) (done : StepDone) (h : IsStepped r s (Ok done) q) where
  journal_is : q.journal ≡ r.journal ++ event_of r.state s ∷ []
  journal_is = ap (λ (x : PartRun). x.journal) h.1

  last_holds : at_number (length q.journal) q.journal ≡ Some (event_of r.state s)
  last_holds = ap (λ (l : List Event). at_number (length l) l) journal_is ∙ last_there r.journal (event_of r.state s)

  pub event_is : (e : Event) → at_number done.number q.journal ≡ Some e → event_of r.state s ≡ e
  event_is e there = same_inside (sym last_holds ∙ ap (λ (n : ℕ). at_number n q.journal) (sym h.2) ∙ there)

  pub step_is : (e : Event) → at_number done.number q.journal ≡ Some e → step_of e ≡ s
  step_is e there = subst (λ (x : Event). step_of x ≡ s) (event_is e there) (step_named r.state s)

  -- a fact about the last event
  pub of_last : (Is : Event → Type 0) → IsAt q.journal (length q.journal) Is → Is (event_of r.state s)
  of_last Is at = grown_last r q s Is h.1 at

  pub grows_by : (Is : Event → Type 0) → Is (event_of r.state s) → Grows r q Is
  grows_by Is i = grown r q s Is h.1 i

arrival_of : (frame : List ℕ) (e : Event) → step_of e ≡ step.Arrive frame → ((f : List ℕ) (kept : Bool) → e ≡ event.Arrive f kept → ⊥) → ⊥
arrival_of frame (event.Invoke c t o a) s none = cc
arrival_of frame (event.Enter c t attempt a) s none = cc
arrival_of frame (event.Burst context c burst count end acts a failure) s none = cc
arrival_of frame (event.Stage stage answers released) s none = cc
arrival_of frame (event.Arrive f kept) s none = none f kept refl

pub not_arrival : (r q : PartRun) (frame : List ℕ) (done : StepDone) (e : Event) → IsStepped r (step.Arrive frame) (Ok done) q → at_number done.number q.journal ≡ Some e
    → ((f : List ℕ) (kept : Bool) → e ≡ event.Arrive f kept → ⊥) → ⊥
not_arrival r q frame done e h there none = arrival_of frame e (step_is r q (step.Arrive frame) done h e there) none

arrives : (frame f : List ℕ) (kept : Bool) (e : Event) → step_of e ≡ step.Arrive frame → e ≡ event.Arrive f kept → IsArrive frame kept e
arrives frame f kept e s is =
    let named : step.Arrive f ≡ step.Arrive frame = ap step_of (sym is) ∙ s in
    subst (IsArrive frame kept) (sym is) (frame_of named, refl)
  where
    frame_of : step.Arrive f ≡ step.Arrive frame → f ≡ frame
    frame_of n = cc

pub arrive_gives : (r q : PartRun) (frame f : List ℕ) (kept : Bool) (done : StepDone) (e : Event) → IsStepped r (step.Arrive frame) (Ok done) q
    → at_number done.number q.journal ≡ Some e → e ≡ event.Arrive f kept → Grows r q (IsArrive frame kept)
arrive_gives r q frame f kept done e h there is =
    grows_by r q (step.Arrive frame) done h (IsArrive frame kept)
    (subst (IsArrive frame kept) (sym (event_is r q (step.Arrive frame) done h e there)) (arrives frame f kept e (step_is r q (step.Arrive frame) done h e there) is))

pub arrive_full : (r q : PartRun) (frame : List ℕ) (e : StepRefused) → IsKept q → same_class r.state.spec.class class.Net ≡ true → 1 ≤ length frame → length frame ≤ 64
    → e ≡ refusal.NotEnabled → IsStepped r (step.Arrive frame) (Err e) q → (q ≡ r) × (r.state.arrived ≡ 100000)
arrive_full r q frame e kept net some fits is h =
    let n = not_enabled r q (step.Arrive frame) e is h in
    let k : IsKept r = subst IsKept n.1 kept in
    (n.1, too_many_arrivals r.state.spec r.journal r.state k.valid k.run k.state frame net some fits n.0)

pub settle_gives : (r q : PartRun) (s : Step) (done : StepDone) → IsStepped r s (Ok done) q → next_any r.state ≡ Some s → Grows r q IsOther
settle_gives r q s done h n = grows_by r q s done h IsOther (event_other r.state s (any_own r.state s n))

pub refuses : (r : PartRun) (thread : ℕ) (o : Option ℕ) (e : DeskRefused) → IsKept r → thread < 16 → can_invoke r.state thread ≡ false
    → o ≡ call_number (call_of_thread thread r.state.log.pending) → o ≡ None → HasNoneOpen r.state thread × (r.state.log.count ≡ 100000)
refuses r thread o e k low no' is none = too_many_calls r.state.spec r.journal r.state k.valid k.run k.state thread low no' (sym is ∙ none)

pub invoked_last : (r q : PartRun) (thread : ℕ) (o : Op) (done : StepDone) → IsStepped r (step.Invoke thread o) (Ok done) q
    → (done.number ≡ length q.journal) × IsAt q.journal done.number Invokes
invoked_last r q thread o done h = (
  h.2,
  record {
    event = event_of r.state (step.Invoke thread o);
    there = ap (λ (n : ℕ). at_number n q.journal) h.2 ∙ last_holds r q (step.Invoke thread o) done h;
    is = invocation (event_of r.state (step.Invoke thread o)) (step_named r.state (step.Invoke thread o));
  },
)
  where
    invocation : (e : Event) → step_of e ≡ step.Invoke thread o → Invokes e
    invocation (event.Invoke c t p a) s = tt
    invocation (event.Enter c t attempt a) s = cc
    invocation (event.Burst context c burst count end acts a failure) s = cc
    invocation (event.Stage stage answers released) s = cc
    invocation (event.Arrive f kept) s = cc

pub invoke_gives : (r q : PartRun) (thread : ℕ) (o : Op) (done : StepDone) (p : Progress) → IsKept r → IsStepped r (step.Invoke thread o) (Ok done) q
    → InvokedGives q.journal thread p → InvokeGives r q thread o (Ok p)
invoke_gives r q thread o done (progress.Answered receipt) k h g =
    let s : Step = step.Invoke thread o in
    let last = of_last r q s done h (λ e. Numbers receipt.call e × IsReply receipt.call receipt.answer e) g.2 in (
      grows_by r q s done h (λ e. IsInvoke receipt.call thread o e × IsReply receipt.call receipt.answer e)
          (invoke_is receipt.call thread o (event_of r.state s) (step_named r.state s) last.0, last.1),
      g.0,
      g.1,
    )
invoke_gives r q thread o done (progress.Open w) k h g =
    let s : Step = step.Invoke thread o in
    let last = of_last r q s done h (λ e. Numbers w.call e × (answer_at w.call e ≡ None)) g.4 in
    let opened : HasOpen (state_after r.state s) thread w.call =
    opened_after r.state thread w.call o (tied_at r.state.spec r.journal r.state k.valid k.run k.state) h.0 last.0 last.1 in (
      grows_by r q s done h (IsInvoke w.call thread o) (invoke_is w.call thread o (event_of r.state s) (step_named r.state s) last.0),
      g.0,
      g.1,
      (
        subst (λ (n : ℕ). HasOpen q.state n w.call) (sym g.1) (subst (λ (x : PartRun). HasOpen x.state thread w.call) (sym h.1) opened),
        g.2,
        g.3,
      ),
    )

pub go_on_gives : (r q : PartRun) (w : Waiting) (s : Step) (done : StepDone) (p : Progress) → IsKept r → IsGoingOn r w → IsOwn s
    → IsStepped r s (Ok done) q → ReachedGives q.journal (record w { looked = done.number }) p → GoOnGives r q w (Ok p)
go_on_gives r q w s done (progress.Answered receipt) k waits own h g = (
  grows_by r q s done h (λ e. IsOther e × IsReply w.call receipt.answer e) (event_other r.state s own, of_last r q s done h (IsReply w.call receipt.answer) g.3),
  g.0,
  g.1,
  g.2,
)
go_on_gives r q w s done (progress.Open next) k waits own h g =
    let silent : answer_at w.call (event_of r.state s) ≡ None = of_last r q s done h (λ e. answer_at w.call e ≡ None) g.1 in
    let stays : HasOpen (state_after r.state s) w.thread w.call =
    open_after r.state s w.thread w.call (tied_at r.state.spec r.journal r.state k.valid k.run k.state) h.0 waits.0 silent in
    let here : HasOpen q.state w.thread w.call = subst (λ (x : PartRun). HasOpen x.state w.thread w.call) (sym h.1) stays in
    let same : next ≡ record w { looked = done.number } = g.0 in (
      grows_by r q s done h IsOther (event_other r.state s own),
      (ap (λ (x : Waiting). x.call) same, ap (λ (x : Waiting). x.thread) same, ap (λ (x : Waiting). x.at_invoke) same),
      subst (IsWaitingFor q) (sym same) (here, h.2, waits.1),
    )

-- the first answer after the events that were looked at
module _ (r : PartRun) (events : List Event) (looked call position : ℕ) (same : events ≡ r.journal) (first : answered_from (looked + 1) call (drop looked events) ≡ Some position) where
  first_there : (looked < position) × ((e : Event) × (at_number position r.journal ≡ Some e) × (is_some (answer_at call e) ≡ true))
  first_there = answer_there looked call position r.journal (ap (λ (l : List Event). answered_from (looked + 1) call (drop looked l)) (sym same) ∙ first)

  pub look_position : (0 < position) × (position ≤ length r.journal)
  look_position = low_at position r.journal first_there.1.0 first_there.1.1

  pub look_answers : (e : Event) → at_number position r.journal ≡ Some e → is_some (answer_at call e) ≡ true
  look_answers e there = subst (λ (x : Event). is_some (answer_at call x) ≡ true) (same_inside (sym first_there.1.1 ∙ there)) first_there.1.2

pub look_gives : (r : PartRun) (events : List Event) (w : Waiting) (receipt : Receipt) (position : ℕ) (e : Event) → events ≡ r.journal
    → answered_from (w.looked + 1) w.call (drop w.looked events) ≡ Some position → at_number position r.journal ≡ Some e
    → receipt.call ≡ w.call → receipt.at_invoke ≡ w.at_invoke → receipt.at_reply ≡ position → answer_at w.call e ≡ Some receipt.answer
    → LookGives r.journal w (Ok receipt)
look_gives r events w receipt position e same first there call invoke reply answer' = (
  call,
  invoke,
  subst (λ (n : ℕ). w.looked < n) (sym reply) (first_there r events w.looked w.call position same first).0,
  subst (λ (n : ℕ). IsAt r.journal n (IsReply w.call receipt.answer)) (sym reply) (record { event = e; there = there; is = answer' }),
)

some_open : (p : PartState) (thread : ℕ) (pending : List CallEntry) → IsSome (call_of_thread thread pending) → pending ≡ [] → ⊥
some_open p thread [] h e = absurd (true≢false (sym h))
some_open p thread (c ∷ pending) h e = cc

-- the part has a next step while a call is open
pub some_next : (p : PartState) (thread : ℕ) → IsSome (call_of_thread thread p.log.pending) → p.log.pending ≡ [] → ⊥
some_next p thread h e = some_open p thread p.log.pending h e

pub open_some : (p : PartState) (thread call : ℕ) → HasOpen p thread call → IsSome (call_of_thread thread p.log.pending)
open_some p thread call h = subst IsSome (sym h.open_one) refl

-- an open call was invoked
pub not_invoked : (r : PartRun) (thread call : ℕ) (events : List Event) → IsKept r → events ≡ r.journal → call_number (call_of_thread thread r.state.log.pending) ≡ Some call
    → list_any (is_invocation call thread) events ≡ false → ⊥
not_invoked r thread call events k same n none =
    let here : HasOpen (state_of r.state.spec r.journal) thread call = subst (λ (p : PartState). HasOpen p thread call) k.state (number_open r.state thread call n) in
    both_tests (list_any (is_invocation call thread) events)
    (ap (list_any (is_invocation call thread)) same ∙ was_invoked r.state.spec r.journal thread call k.valid k.run here) none

pub refused_invoke : (r q : PartRun) (thread : ℕ) (o : Op) (e : StepRefused) → e ≡ refusal.NotEnabled → IsStepped r (step.Invoke thread o) (Err e) q
    → can_invoke q.state thread ≡ false
unfolding enabled
refused_invoke r q thread o e is h =
    let n = not_enabled r q (step.Invoke thread o) e is h in
    subst (λ (x : PartRun). can_invoke x.state thread ≡ false) (sym n.1) n.0
