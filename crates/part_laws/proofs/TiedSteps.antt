use Rattle.std.proofs.Common.{◌≡◌, ℕ, ◌+◌, ◌-◌, ◌<◌, ◌≤◌, ◌&&◌, nat_lt, not, is_none, Bool, true, false, Option, Some, None, List, [], ◌∷◌, ◌++◌, length, map, slice_index, slice_set, refl, sym, ap, ◌∙◌, subst, arith, true≢false}
use Rattle.std.specs.List.{AllByRecursion}
use Rattle.std.proofs.lemmas.Bool.{and_parts, not-true}
use Rattle.nook_data.specs.declared.classes.Admit.{Admit}
use Rattle.nook_data.specs.declared.classes.Admit.TheVariants as admits
use Rattle.nook_data.specs.declared.calls.Answer.{Answer}
use Rattle.nook_data.specs.declared.calls.CallEntry.{CallEntry}
use Rattle.nook_data.specs.declared.steps.Event.{Event}
use Rattle.nook_data.specs.declared.steps.Event.TheVariants as event
use Rattle.nook_data.specs.declared.steps.Mode.{Mode}
use Rattle.nook_data.specs.declared.steps.Mode.TheVariants as mode
use Rattle.nook_data.specs.declared.calls.Op.{Op}
use Rattle.nook_data.specs.declared.machine.Context.{Context}
use Rattle.machine_defs.specs.Burst.{burst}
use Rattle.part_defs.specs.Calls.{Stepped, after_invoke, invoked_with, answer_in, queue_in, after_enter, after_admit}
use Rattle.nook_data.specs.Classes.{static_check, admit}
use Rattle.nook_data.specs.Frames.{tail_of}
use Rattle.part_defs.specs.Domain.{context_of, entered_domain, entry_context, arguments_of}
use Rattle.part_defs.specs.Log.{with_call, with_answered_call, after_entering, after_answering, is_call, call_of_thread}
use Rattle.part_defs.specs.Log.{is_blocked}
use Rattle.part_defs.proofs.PartCases.{change_entry, entered_by, entered_call, invoked_by, new_entry}
use Rattle.part_defs.specs.State.{DomainState, PartState}
use Rattle.part_defs.specs.Steps.{is_running, is_ready, can_invoke, can_enter, after_arrival}
use Rattle.machine_defs.proofs.BurstKeeps.{split}
use Rattle.part_laws.proofs.EntriesFit.{filter_fits}
use Rattle.part_laws.proofs.RunsDetermined.{found_thread}
use Rattle.part_laws.proofs.StepsFit.{all_push, all_map}
use Rattle.part_laws.proofs.CrossingFit.{found_fits}
use Rattle.part_laws.proofs.TiedCalls.{context_set_same, context_set_other, SameBut, set_same_but, rising_filter, rising_map, rising_push, rising_more, apart_filter, apart_map, apart_push, one_entered, without_call, inside_left, call_left, calls_left, AreThreads, removed_left, entered_left, pushed_left}
use Rattle.part_laws.proofs.TiedCrossing.{spent, left, failure_price, all_weaker, goes_on_some}
use Rattle.part_laws.specs.Fit.{IsFitCall, IsFit}
use Rattle.part_laws.specs.Tied.{GoesOn, IsRunningCall, IsTiedCall, IsDriven, IsTied}

-- Each step keeps calls, contexts and mode consistent; what it costs.

-- what an event costs
abbrev pub price : ℕ → Event → ℕ
price threads (event.Invoke call thread o answer) = 34
price threads (event.Burst context call burst count e acts answer failure) = failure_price threads failure
price threads (event.Arrive frame kept) = 1
price threads _ = 0

-- the thread that an event invokes passes the test
abbrev pub InvokesIn : (ℕ → Bool) → Event → Type 0
InvokesIn test (event.Invoke call thread o answer) = test thread ≡ true
InvokesIn test _ = Unit {0}

pub record StepTied (threads : ℕ) (p : PartState) (t : Stepped) : Type 0 where
  pub tied : IsTied t.state
  pub cost : 1 + left threads t.state ≤ left threads p + price threads t.event
  pub calls : (test : ℕ → Bool) → AllByRecursion (λ d. test d.thread ≡ true) p.log.pending → InvokesIn test t.event
      → AllByRecursion (λ d. test d.thread ≡ true) t.state.log.pending

pub threads_of_fit : (p : PartState) → IsFit p → AreThreads p.log.pending
threads_of_fit p f = all_weaker (IsFitCall p.spec.class p.spec.blocks) (λ c. c.thread < 16) p.log.pending (λ c k. k.thread) f.log.calls

-- Invoke

new_tied : (m : Mode) (thread number : ℕ) (o : Op) (p : PartState) (failures : ℕ) (contexts : List (Option Context))
    → answer_in m thread o p ≡ None → IsTiedCall m failures contexts (new_entry number thread o)
new_tied (mode.Boot s) thread number o p failures contexts h = (omega arith, λ e. refl)
new_tied mode.Running thread number o p failures contexts h = (omega arith, λ e. omega arith, λ e. absurd (true≢false (sym e)))
new_tied (mode.Recovering s) thread number o p failures contexts h = (omega arith, λ e. refl)
new_tied (mode.Dead collected) thread number o p failures contexts h = cc

logged_tied : (threads : ℕ) (p : PartState) (thread : ℕ) (o : Op) (a : Option Answer) (queue : List (List ℕ)) → IsTied p
    → is_none (call_of_thread thread p.log.pending) ≡ true
    → (a ≡ None → IsTiedCall p.mode p.failures p.domain.contexts (new_entry (p.log.count + 1) thread o))
    → StepTied threads p (invoked_with p thread o a queue)
unfolding with_call with_answered_call
logged_tied threads p thread o None queue t free new =
    let l : calls_left p.domain.contexts (p.log.pending ++ new_entry (p.log.count + 1) thread o ∷ [])
    ≡ calls_left p.domain.contexts p.log.pending + 33 = pushed_left p.domain.contexts p.log.pending (new_entry (p.log.count + 1) thread o) in
    record {
      tied = record {
        rising = rising_push 0 p.log.count thread o p.log.pending (omega arith) t.rising;
        apart = apart_push thread (p.log.count + 1) o p.log.pending free t.apart;
        calls = all_push (IsTiedCall p.mode p.failures p.domain.contexts) p.log.pending (new_entry (p.log.count + 1) thread o) t.calls (new refl);
        driven = t.driven;
        stages = t.stages;
        limit = t.limit;
        within = t.within;
      };
      cost = omega arith;
      calls = λ test all mine. all_push (λ d. test d.thread ≡ true) p.log.pending (new_entry (p.log.count + 1) thread o) all mine;
    }
logged_tied threads p thread o (Some a) queue t free new = record {
  tied = record {
    rising = rising_more 0 p.log.count p.log.pending t.rising;
    apart = t.apart;
    calls = t.calls;
    driven = t.driven;
    stages = t.stages;
    limit = t.limit;
    within = t.within;
  };
  cost = omega arith;
  calls = λ test all mine. all;
}

invoke_tied_by : (threads : ℕ) (p : PartState) (thread : ℕ) (o : Op) (r : Option Answer) → IsTied p
    → is_none (call_of_thread thread p.log.pending) ≡ true → StepTied threads p (invoked_by p thread o r)
invoke_tied_by threads p thread o None t free =
    logged_tied threads p thread o (answer_in p.mode thread o p) (queue_in p.mode o p.queue) t free
    (λ e. new_tied p.mode thread (p.log.count + 1) o p p.failures p.domain.contexts e)
invoke_tied_by threads p thread o (Some a) t free =
    logged_tied threads p thread o (Some a) p.queue t free (λ e. some_none e)
  where
    some_none : {G : Type 0} → Some a ≡ None → G
    some_none e = cc

pub invoke_tied : (threads : ℕ) (p : PartState) (thread : ℕ) (o : Op) → IsTied p → can_invoke p thread ≡ true → StepTied threads p (after_invoke thread o p)
unfolding after_invoke
invoke_tied threads p thread o t e =
    invoke_tied_by threads p thread o (static_check p.spec.class p.spec.blocks o) t
    (and_parts (nat_lt thread 16) (is_none (call_of_thread thread p.log.pending))
    (and_parts (nat_lt thread 16 && is_none (call_of_thread thread p.log.pending)) (nat_lt p.log.count 100000) e).0).1

-- Enter

pub running_is : (m : Mode) → is_running m ≡ true → m ≡ mode.Running
running_is mode.Running h = refl
running_is (mode.Boot s) h = absurd (true≢false (sym h))
running_is (mode.Recovering s) h = absurd (true≢false (sym h))
running_is (mode.Dead collected) h = absurd (true≢false (sym h))

same_all : (t : ℕ) (contexts : List (Option Context)) → SameBut t contexts contexts
same_all t contexts j h e = refl

held_call_left : (contexts : List (Option Context)) (c : CallEntry) → c.inside ≡ false → call_left contexts c ≡ 33
held_call_left contexts c h = ap (λ (i : Bool). inside_left i (context_of c.thread contexts)) h

answered_tied : (threads : ℕ) (p : PartState) (thread : ℕ) (c : CallEntry) (queue : List (List ℕ)) (e : Event) → IsFit p → IsTied p
    → call_of_thread thread p.log.pending ≡ Some c → c.inside ≡ false → price threads e ≡ 0
    → StepTied threads p (record { state = record p { log = after_answering c.call p.log; queue = queue }; event = e })
unfolding after_answering
answered_tied threads p thread c queue e f t found held free =
    let l : calls_left p.domain.contexts (without_call c.call p.log.pending) + call_left p.domain.contexts c ≤ calls_left p.domain.contexts p.log.pending =
    removed_left thread p.domain.contexts p.domain.contexts p.log.pending c (same_all thread p.domain.contexts) (threads_of_fit p f) t.apart found in
    let h : call_left p.domain.contexts c ≡ 33 = held_call_left p.domain.contexts c held in
    record {
      tied = record {
        rising = rising_filter (λ z. not (is_call c.call z)) 0 p.log.count p.log.pending t.rising;
        apart = apart_filter (λ z. not (is_call c.call z)) p.log.pending t.apart;
        calls = filter_fits (IsTiedCall p.mode p.failures p.domain.contexts) _ p.log.pending t.calls;
        driven = t.driven;
        stages = t.stages;
        limit = t.limit;
        within = t.within;
      };
      cost = omega arith;
      calls = λ test all mine. filter_fits (λ d. test d.thread ≡ true) _ p.log.pending all;
    }

entered_fields : (call : ℕ) (c : CallEntry) → ((change_entry call entered_call c).call ≡ c.call) × ((change_entry call entered_call c).thread ≡ c.thread)
entered_fields call c = split (is_call call c)
    (λ e. rw e (refl, refl))
    (λ e. rw e (refl, refl))

threads_all_both : (P : CallEntry → Type 0) (xs : List CallEntry) → AreThreads xs → AllByRecursion P xs → AllByRecursion (λ x. (x.thread < 16) × P x) xs
threads_all_both P [] a l = tt
threads_all_both P (x ∷ xs) a l = ((a.0, l.0), threads_all_both P xs a.1 l.1)

inside_tied : (threads : ℕ) (p : PartState) (thread : ℕ) (c : CallEntry) (x : Context) (d : DomainState) (e : Event) → IsFit p → IsTied p
    → p.mode ≡ mode.Running → call_of_thread thread p.log.pending ≡ Some c → c.inside ≡ false → price threads e ≡ 0
    → d.contexts ≡ slice_set p.domain.contexts thread (Some x) → x.bursts ≡ 0
    → StepTied threads p (record { state = record p { log = after_entering c.call p.log; domain = d }; event = e })
unfolding after_entering
inside_tied threads p thread c x d e f t running found held free ctx fresh =
    let th : AreThreads p.log.pending = threads_of_fit p f in
    let same : c.thread ≡ thread = found_thread thread p.log.pending c found in
    let low : c.thread < 16 = found_fits (λ z. z.thread < 16) _ p.log.pending c th found in
    let s : SameBut thread p.domain.contexts d.contexts = subst (λ cs. SameBut thread p.domain.contexts cs) (sym ctx) (set_same_but thread p.domain.contexts (Some x)) in
    let here : context_of thread d.contexts ≡ Some x =
    ap (context_of thread) ctx ∙ context_set_same p.domain.contexts thread (Some x) (within thread (length p.domain.contexts) (low' thread c.thread same low) f.domain.contexts) in
    let shadow : context_of 16 d.contexts ≡ context_of 16 p.domain.contexts =
    ap (context_of 16) ctx ∙ context_set_other p.domain.contexts thread 16 (Some x) (apart thread (low' thread c.thread same low)) in
    let was : AllByRecursion (IsRunningCall p.failures p.domain.contexts) p.log.pending =
    subst (λ m. AllByRecursion (IsTiedCall m p.failures p.domain.contexts) p.log.pending) running t.calls in
    let now : AllByRecursion (IsRunningCall p.failures d.contexts) (map (change_entry c.call entered_call) p.log.pending) =
    one_entered (λ z. (z.thread < 16) × IsRunningCall p.failures p.domain.contexts z) (IsRunningCall p.failures d.contexts) entered_call thread 0 p.log.count p.log.pending c
    (λ z other h. (h.1.0, h.1.1, λ inside. subst GoesOn (sym (s z.thread h.0 other)) (h.1.2 inside)))
    (λ h. let a : c.attempts ≤ p.failures = h.1.1 held in (
      omega arith,
      λ i. absurd (true≢false i),
      λ i. goes_on_some (context_of c.thread d.contexts) x (ap (λ (k : ℕ). context_of k d.contexts) same ∙ here) (omega arith),
    ))
    t.rising t.apart found (threads_all_both (IsRunningCall p.failures p.domain.contexts) p.log.pending th was) in
    let before : call_left p.domain.contexts c ≡ 33 = held_call_left p.domain.contexts c held in
    let after : call_left d.contexts (entered_call c) ≡ 32 - x.bursts =
    ap (inside_left true) (ap (λ (k : ℕ). context_of k d.contexts) same ∙ here) in
    let l : calls_left d.contexts (map (change_entry c.call entered_call) p.log.pending) + 1 ≤ calls_left p.domain.contexts p.log.pending =
    entered_left thread 1 0 p.log.count p.domain.contexts d.contexts entered_call p.log.pending c s th t.apart t.rising found (omega arith) in
    let sp : spent (context_of 16 d.contexts) ≡ spent (context_of 16 p.domain.contexts) = ap spent shadow in
    record {
      tied = record {
        rising = rising_map (change_entry c.call entered_call) 0 p.log.count p.log.pending (λ z. (entered_fields c.call z).0) t.rising;
        apart = apart_map (change_entry c.call entered_call) p.log.pending (λ z. (entered_fields c.call z).1) t.apart;
        calls = subst (λ m. AllByRecursion (IsTiedCall m p.failures d.contexts) (map (change_entry c.call entered_call) p.log.pending)) (sym running) now;
        driven = subst (λ o. IsDriven p.mode o) (sym shadow) t.driven;
        stages = t.stages;
        limit = t.limit;
        within = t.within;
      };
      cost = rw sp (omega arith);
      calls = λ test all mine. all_map (λ z. test z.thread ≡ true) (change_entry c.call entered_call) p.log.pending
          (λ z h. ap test (entered_fields c.call z).1 ∙ h) all;
    }
  where
    within : (t n : ℕ) → t < 16 → n ≡ 17 → t < n
    within t n h e = omega arith

    low' : (t k : ℕ) → k ≡ t → k < 16 → t < 16
    low' t k e h = omega arith

    apart : (t : ℕ) → t < 16 → 16 ≡ t → ⊥
    apart t h e = omega arith

admitted_tied : (threads : ℕ) (p : PartState) (thread : ℕ) (c : CallEntry) (a : Admit) → IsFit p → IsTied p → p.mode ≡ mode.Running
    → call_of_thread thread p.log.pending ≡ Some c → c.inside ≡ false → StepTied threads p (after_admit p c a)
unfolding entered_domain
admitted_tied threads p thread c (admits.Reply a) f t running found held = answered_tied threads p thread c p.queue _ f t found held refl
admitted_tied threads p thread c admits.TakeFrame f t running found held = answered_tied threads p thread c (tail_of p.queue) _ f t found held refl
admitted_tied threads p thread c (admits.Enter index) f t running found held =
    inside_tied threads p thread c (entry_context (slice_index p.domain.starts index) c.thread (arguments_of c.thread c.op))
    (entered_domain c.thread index c.op p.domain) _ f t running found held refl
    (ap (λ (k : ℕ). slice_set p.domain.contexts k (Some (entry_context (slice_index p.domain.starts index) c.thread (arguments_of c.thread c.op))))
    (found_thread thread p.log.pending c found)) refl

enter_tied_by : (threads : ℕ) (p : PartState) (thread : ℕ) (o : Option CallEntry) → IsFit p → IsTied p → p.mode ≡ mode.Running
    → call_of_thread thread p.log.pending ≡ o → is_ready p o ≡ true → StepTied threads p (entered_by p thread o)
enter_tied_by threads p thread None f t running found ready = absurd (true≢false (sym ready))
enter_tied_by threads p thread (Some c) f t running found ready =
    admitted_tied threads p thread c (admit p.spec.class thread c.op p.log.holder (length p.queue)) f t running found
    (not-true c.inside (and_parts (not c.inside) (not (is_blocked p.spec.class c p.log.pending)) ready).0)

pub enter_tied : (threads : ℕ) (p : PartState) (thread : ℕ) → IsFit p → IsTied p → can_enter p thread ≡ true → StepTied threads p (after_enter thread p)
unfolding after_enter
enter_tied threads p thread f t e =
    let parts = and_parts (is_running p.mode) (is_ready p (call_of_thread thread p.log.pending)) e in
    enter_tied_by threads p thread (call_of_thread thread p.log.pending) f t (running_is p.mode parts.0) refl parts.1

-- Arrive

pub arrive_tied : (threads : ℕ) (p : PartState) (frame : List ℕ) → IsTied p → StepTied threads p (after_arrival frame p)
unfolding after_arrival
arrive_tied threads p frame t = record {
  tied = record {
    rising = t.rising;
    apart = t.apart;
    calls = t.calls;
    driven = t.driven;
    stages = t.stages;
    limit = t.limit;
    within = t.within;
  };
  cost = omega arith;
  calls = λ test all mine. all;
}
