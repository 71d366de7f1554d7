use Rattle.std.proofs.Common.{◌≡◌, ◌≢◌, ℕ, zero, suc, ◌+◌, ◌-◌, ◌*◌, ◌<◌, ◌≤◌, ◌==◌, not, Bool, true, false, Option, Some, None, Result, Ok, Err, List, [], ◌∷◌, length, slice_index, slice_set, refl, sym, ap, ◌∙◌, subst, arith, true≢false, eqb-true}
use Rattle.std.specs.List.{AllByRecursion}
use Rattle.std.proofs.lemmas.Bool.{eqb-false, ne_eqb}
use Rattle.nook_data.specs.declared.classes.Accept.{Accept}
use Rattle.nook_data.specs.declared.classes.Accept.TheVariants as accepts
use Rattle.nook_data.specs.declared.calls.CallEntry.{CallEntry}
use Rattle.nook_data.specs.declared.steps.End.{End}
use Rattle.nook_data.specs.declared.steps.FailCause.{FailCause}
use Rattle.nook_data.specs.declared.steps.Mode.{Mode}
use Rattle.nook_data.specs.declared.steps.Mode.TheVariants as mode
use Rattle.nook_data.specs.declared.calls.Op.{Op}
use Rattle.nook_data.specs.declared.calls.Op.TheVariants as op
use Rattle.nook_data.specs.declared.steps.Stage.{Stage}
use Rattle.nook_data.specs.declared.steps.Stage.TheVariants as stage
use Rattle.nook_data.specs.declared.machine.BadParam.{BadParam}
use Rattle.nook_data.specs.declared.machine.BurstEnd.{BurstEnd}
use Rattle.nook_data.specs.declared.machine.BurstEnd.TheVariants as ends
use Rattle.nook_data.specs.declared.machine.Context.{Context}
use Rattle.nook_data.specs.declared.machine.Service.{Service}
use Rattle.nook_data.specs.Classes.{accept}
use Rattle.part_defs.specs.Crossing.{Crossed, fails, failed_crossing, goes_on, is_last, heap_start, next_stage}
use Rattle.part_defs.specs.Crossing.{next_mode, is_accepted, closes_call, after_crossing, noted_set}
use Rattle.part_defs.specs.Domain.{context_of, result_set, left_domain, noted, first_argument, second_argument}
use Rattle.part_defs.specs.Log.{call_of_thread, is_call, after_acknowledging, after_answering, queue_after, next_replay}
use Rattle.part_defs.specs.Log.{replay_after}
use Rattle.part_defs.proofs.PartCases.{bursts_of, no_context, replay_stream, reply_by, serve_by, with_result}
use Rattle.machine_defs.specs.Services.{Served, checked, served}
use Rattle.part_defs.specs.Stages.{mode_after}
use Rattle.part_defs.specs.State.{DomainState, CallLog, PartState}
use Rattle.machine_defs.proofs.BurstKeeps.{split}
use Rattle.part_laws.proofs.EntriesFit.{filter_fits}
use Rattle.part_laws.proofs.TiedCalls.{context_set_same, context_set_other, SameBut, set_same_but, rising_filter, apart_filter, one_removed, without_call, inside_left, call_left, calls_left, AreThreads, same_calls_left, one_less, removed_left}
use Rattle.part_laws.specs.Tied.{IsRising, AreApart, GoesOn, is_stop, IsAwayCall, IsRunningCall, IsTiedCall, is_driving_stage, is_driving, IsDriven, IsFitStage, IsFitMode, IsTied}

-- How many events a part may still have without a new call or a failure: those of its open calls, and those of the
-- shadow, when a given number of threads have open calls.

abbrev pub stage_left : ℕ → Stage → ℕ
stage_left threads stage.Stop = 33 * threads + 203
stage_left threads stage.Collect = 202
stage_left threads stage.Reset = 201
stage_left threads stage.Load = 200
stage_left threads stage.Init = 199
stage_left threads (stage.ReplaySet key value) = 1 + 33 * (5 - key)
stage_left threads stage.ReplayOpen = 34
stage_left threads stage.Resume = 1

abbrev pub mode_left : ℕ → Mode → ℕ
mode_left threads (mode.Boot s) = stage_left threads s
mode_left threads mode.Running = 0
mode_left threads (mode.Recovering s) = stage_left threads s
mode_left threads (mode.Dead false) = 202
mode_left threads (mode.Dead true) = 0

-- what the shadow's call has used of its stage
abbrev pub spent : Option Context → ℕ
spent None = 0
spent (Some x) = 1 + x.bursts

abbrev pub left : ℕ → PartState → ℕ
left threads p = calls_left p.domain.contexts p.log.pending + (mode_left threads p.mode - spent (context_of 16 p.domain.contexts))

-- what a failure adds
abbrev pub round : ℕ → ℕ
round threads = 33 * threads + 203

abbrev pub failure_price : ℕ → Option FailCause → ℕ
failure_price threads None = 0
failure_price threads (Some cause) = round threads

-- what holds after a crossing
pub record CrossTied (threads : ℕ) (p : PartState) (c : Crossed) : Type 0 where
  pub tied : IsTied c.state
  pub cost : left threads c.state ≤ left threads p + failure_price threads c.failure
  pub calls : (test : ℕ → Bool) → AllByRecursion (λ d. test d.thread ≡ true) p.log.pending
      → AllByRecursion (λ d. test d.thread ≡ true) c.state.log.pending

-- lists

pub all_weaker : {X : Type 0} (P Q : X → Type 0) (xs : List X) → ((x : X) → P x → Q x) → AllByRecursion P xs → AllByRecursion Q xs
all_weaker P Q [] h all = tt
all_weaker P Q (x ∷ xs) h all = (h x all.0, all_weaker P Q xs h all.1)

pub not_sixteen : (pending : List CallEntry) → AreThreads pending → AllByRecursion (λ d. (d.thread == 16) ≡ false) pending
not_sixteen pending th = all_weaker (λ d. d.thread < 16) (λ d. (d.thread == 16) ≡ false) pending (λ d h. ne_eqb d.thread 16 (λ e. apart d.thread h e)) th
  where
    apart : (t : ℕ) → t < 16 → t ≡ 16 → ⊥
    apart t h e = omega arith

pub driven_none : (m : Mode) (o : Option Context) → o ≡ None → IsDriven m o
driven_none m o e = subst (λ x. IsDriven m x) (sym e) tt

-- failures

record IsFailing (p : PartState) : Type 0 where
  rising : IsRising 0 p.log.count p.log.pending
  apart : AreApart p.log.pending
  threads : AreThreads p.log.pending
  attempts : AllByRecursion (λ d. d.attempts ≤ p.failures + 1) p.log.pending
  within : p.failures ≤ p.spec.limit
  contexts : length p.domain.contexts ≡ 17

failed_tied : (t : ℕ) (p : PartState) (e : End) (cause : FailCause) → IsFailing p → CrossTied t p (failed_crossing p e cause)
unfolding fails noted
failed_tied t p e cause f =
    let freed : context_of 16 (slice_set p.domain.contexts 16 no_context) ≡ None =
    context_set_same p.domain.contexts 16 no_context (sixteen (length p.domain.contexts) f.contexts) in
    let same : calls_left (slice_set p.domain.contexts 16 no_context) p.log.pending ≡ calls_left p.domain.contexts p.log.pending =
    same_calls_left 16 p.domain.contexts (slice_set p.domain.contexts 16 no_context) p.log.pending
    (set_same_but 16 p.domain.contexts no_context) f.threads (not_sixteen p.log.pending f.threads) in
    let spent_none : spent (context_of 16 (slice_set p.domain.contexts 16 no_context)) ≡ 0 = ap spent freed in
    let w : p.failures ≤ p.spec.limit = f.within in
    record {
      tied = record {
        rising = f.rising;
        apart = f.apart;
        calls = all_weaker (λ d. d.attempts ≤ p.failures + 1) (IsAwayCall stage.Stop (p.failures + 1)) p.log.pending
            (λ d h. (h, λ s. absurd (true≢false s))) f.attempts;
        driven = driven_none (mode.Recovering stage.Stop) _ freed;
        stages = tt;
        limit = omega arith;
        within = λ s. absurd (true≢false s);
      };
      cost = omega arith;
      calls = λ test all. all;
    }
  where
    sixteen : (n : ℕ) → n ≡ 17 → 16 < n
    sixteen n h = omega arith

-- A burst of an application's call

abbrev pub IsLoose : ℕ → ℕ → List (Option Context) → CallEntry → Type 0
IsLoose t failures contexts d =
    (d.attempts ≤ failures + 1) × (d.inside ≡ false → d.attempts ≤ failures)
    × (d.inside ≡ true → (d.thread == t) ≡ false → GoesOn (context_of d.thread contexts))

-- the part after a burst of a thread's call, before its crossing
pub record IsCallBurst (t : ℕ) (p : PartState) (c : CallEntry) (y : Context) : Type 0 where
  pub running : p.mode ≡ mode.Running
  pub rising : IsRising 0 p.log.count p.log.pending
  pub apart : AreApart p.log.pending
  pub threads : AreThreads p.log.pending
  pub found : call_of_thread t p.log.pending ≡ Some c
  pub inside : c.inside ≡ true
  pub thread : c.thread ≡ t
  pub below : t < 16
  pub context : context_of t p.domain.contexts ≡ Some y
  pub bursts : y.bursts ≤ 32
  pub loose : AllByRecursion (IsLoose t p.failures p.domain.contexts) p.log.pending
  pub shadow : context_of 16 p.domain.contexts ≡ None
  pub within : p.failures ≤ p.spec.limit
  pub contexts : length p.domain.contexts ≡ 17

call_failing : (t : ℕ) (p : PartState) (c : CallEntry) (y : Context) → IsCallBurst t p c y → IsFailing p
call_failing t p c y b = record {
  rising = b.rising;
  apart = b.apart;
  threads = b.threads;
  attempts = all_weaker (IsLoose t p.failures p.domain.contexts) (λ d. d.attempts ≤ p.failures + 1) p.log.pending (λ d h. h.0) b.loose;
  within = b.within;
  contexts = b.contexts;
}

pub goes_on_some : (o : Option Context) (y : Context) → o ≡ Some y → y.bursts ≤ 31 → GoesOn o
goes_on_some o y e h = subst GoesOn (sym e) h

-- a call continues when its context changes without a burst
call_goes_on : (threads t : ℕ) (p : PartState) (c : CallEntry) (y y' : Context) (d : DomainState) (queue : List (List ℕ)) (e : End)
    → IsCallBurst t p c y → SameBut t p.domain.contexts d.contexts → context_of t d.contexts ≡ Some y' → y'.bursts ≡ y.bursts
    → y.bursts ≤ 31 → context_of 16 d.contexts ≡ None
    → CrossTied threads p (goes_on (record p { domain = d; queue = queue }) e)
call_goes_on threads t p c y y' d queue e b s ctx bursts early shadow =
    let w : p.failures ≤ p.spec.limit = b.within in
    let running' : AllByRecursion (IsRunningCall p.failures d.contexts) p.log.pending =
    all_weaker (λ x. (x.thread < 16) × IsLoose t p.failures p.domain.contexts x) (IsRunningCall p.failures d.contexts) p.log.pending
    (λ x h. (h.1.0, h.1.1, λ inside. going x h.0 (h.1.2 inside)))
    (all_both p.log.pending b.threads b.loose) in
    let cost' : calls_left d.contexts p.log.pending + 0 ≤ calls_left p.domain.contexts p.log.pending =
    one_less t 0 p.domain.contexts d.contexts p.log.pending c s b.threads b.apart b.found same_left' in
    let sp : spent (context_of 16 d.contexts) ≡ spent (context_of 16 p.domain.contexts) = ap spent (shadow ∙ sym b.shadow) in
    record {
      tied = record {
        rising = b.rising;
        apart = b.apart;
        calls = subst (λ m. AllByRecursion (IsTiedCall m p.failures d.contexts) p.log.pending) (sym b.running) running';
        driven = driven_none p.mode _ shadow;
        stages = subst IsFitMode (sym b.running) tt;
        limit = omega arith;
        within = λ m. w;
      };
      cost = rw sp (omega arith);
      calls = λ test all. all;
    }
  where
    all_both : (xs : List CallEntry) → AllByRecursion (λ x. x.thread < 16) xs → AllByRecursion (IsLoose t p.failures p.domain.contexts) xs
        → AllByRecursion (λ x. (x.thread < 16) × IsLoose t p.failures p.domain.contexts x) xs
    all_both [] a l = tt
    all_both (x ∷ xs) a l = ((a.0, l.0), all_both xs a.1 l.1)

    going : (x : CallEntry) → x.thread < 16 → ((x.thread == t) ≡ false → GoesOn (context_of x.thread p.domain.contexts))
        → GoesOn (context_of x.thread d.contexts)
    going x low h = split (x.thread == t)
        (λ here. goes_on_some (context_of x.thread d.contexts) y' (ap (λ (k : ℕ). context_of k d.contexts) (eqb-true x.thread t here) ∙ ctx) (omega arith))
        (λ other. subst GoesOn (sym (s x.thread low other)) (h other))

    same_left' : call_left d.contexts c + 0 ≤ call_left p.domain.contexts c
    same_left' =
        let after : call_left d.contexts c ≡ 32 - y'.bursts =
        ap (λ (i : Bool). inside_left i (context_of c.thread d.contexts)) b.inside
        ∙ ap (inside_left true) (ap (λ (k : ℕ). context_of k d.contexts) b.thread ∙ ctx) in
        let before : call_left p.domain.contexts c ≡ 32 - y.bursts =
        ap (λ (i : Bool). inside_left i (context_of c.thread p.domain.contexts)) b.inside
        ∙ ap (inside_left true) (ap (λ (k : ℕ). context_of k p.domain.contexts) b.thread ∙ b.context) in
        omega arith

-- a call is answered
call_closed : (threads t : ℕ) (p : PartState) (c : CallEntry) (y : Context) (d : DomainState) (x : Crossed)
    → IsCallBurst t p c y → SameBut t p.domain.contexts d.contexts → context_of 16 d.contexts ≡ None
    → x.state ≡ record p { domain = d; log = after_answering c.call (after_acknowledging c.thread c.op p.log); queue = queue_after c.op p.queue }
    → x.failure ≡ None → CrossTied threads p x
unfolding after_answering after_acknowledging
call_closed threads t p c y d x b s shadow state quiet =
    let w : p.failures ≤ p.spec.limit = b.within in
    let q : PartState = record p { domain = d; log = after_answering c.call (after_acknowledging c.thread c.op p.log); queue = queue_after c.op p.queue } in
    let running' : AllByRecursion (IsRunningCall p.failures d.contexts) (without_call c.call p.log.pending) =
    one_removed (λ z. (z.thread < 16) × IsLoose t p.failures p.domain.contexts z) (IsRunningCall p.failures d.contexts) t p.log.pending c
    (λ z other h. (h.1.0, h.1.1, λ inside. subst GoesOn (sym (s z.thread h.0 other)) (h.1.2 inside other)))
    b.apart b.found (all_both p.log.pending b.threads b.loose) in
    let cost' : calls_left d.contexts (without_call c.call p.log.pending) + call_left p.domain.contexts c ≤ calls_left p.domain.contexts p.log.pending =
    removed_left t p.domain.contexts d.contexts p.log.pending c s b.threads b.apart b.found in
    let sp : spent (context_of 16 d.contexts) ≡ spent (context_of 16 p.domain.contexts) = ap spent (shadow ∙ sym b.shadow) in
    let tied' : IsTied q = record {
      rising = rising_filter (λ z. not (is_call c.call z)) 0 p.log.count p.log.pending b.rising;
      apart = apart_filter (λ z. not (is_call c.call z)) p.log.pending b.apart;
      calls = subst (λ m. AllByRecursion (IsTiedCall m p.failures d.contexts) (without_call c.call p.log.pending)) (sym b.running) running';
      driven = driven_none p.mode _ shadow;
      stages = subst IsFitMode (sym b.running) tt;
      limit = omega arith;
      within = λ m. w;
    } in
    let left' : left threads q ≤ left threads p = rw sp (omega arith) in
    let left'' : left threads x.state ≡ left threads q = ap (left threads) state in
    record {
      tied = subst IsTied (sym state) tied';
      cost = rw quiet (omega arith);
      calls = λ test all. subst (λ z. AllByRecursion (λ e. test e.thread ≡ true) z.log.pending) (sym state)
          (filter_fits (λ e. test e.thread ≡ true) _ p.log.pending all);
    }
  where
    all_both : (xs : List CallEntry) → AllByRecursion (λ x. x.thread < 16) xs → AllByRecursion (IsLoose t p.failures p.domain.contexts) xs
        → AllByRecursion (λ x. (x.thread < 16) × IsLoose t p.failures p.domain.contexts x) xs
    all_both [] a l = tt
    all_both (x ∷ xs) a l = ((a.0, l.0), all_both xs a.1 l.1)

noted_set_contexts : (o : Op) (d : DomainState) → (noted_set o d).contexts ≡ d.contexts
unfolding noted
noted_set_contexts (op.Set key value) d = refl
noted_set_contexts _ d = refl

closed_contexts : (o : Op) (t : ℕ) (d : DomainState) → (noted_set o (left_domain t d)).contexts ≡ slice_set d.contexts t no_context
unfolding left_domain
closed_contexts o t d = noted_set_contexts o (left_domain t d)

closes_tied : (threads t : ℕ) (p : PartState) (c : CallEntry) (y : Context) (x : Crossed) → IsCallBurst t p c y
    → x.state ≡ closes_call c p → x.failure ≡ None → CrossTied threads p x
unfolding closes_call
closes_tied threads t p c y x b state quiet =
    let d : DomainState = noted_set c.op (left_domain c.thread p.domain) in
    let e : d.contexts ≡ slice_set p.domain.contexts t no_context =
    closed_contexts c.op c.thread p.domain ∙ ap (λ (k : ℕ). slice_set p.domain.contexts k no_context) b.thread in
    call_closed threads t p c y d x b
    (subst (λ cs. SameBut t p.domain.contexts cs) (sym e) (set_same_but t p.domain.contexts no_context))
    (ap (context_of 16) e ∙ context_set_other p.domain.contexts t 16 no_context (apart t b.below) ∙ b.shadow)
    state quiet
  where
    apart : (t : ℕ) → t < 16 → 16 ≡ t → ⊥
    apart t h e = omega arith

with_result_set : (word : ℕ) (o : Option Context) (y : Context) → o ≡ Some y
    → (y' : Context) × (with_result word o ≡ Some y') × (y'.bursts ≡ y.bursts)
with_result_set word o y e =
    (record y { cpu = record y.cpu { registers = slice_set y.cpu.registers 1 word } }, ap (with_result word) e, refl)

early_bursts : (t : ℕ) (p : PartState) (y : Context) → context_of t p.domain.contexts ≡ Some y → y.bursts ≤ 32 → is_last t p ≡ false
    → y.bursts ≤ 31
early_bursts t p y ctx low early =
    let e : bursts_of (context_of t p.domain.contexts) ≡ y.bursts = ap bursts_of ctx in
    let n : bursts_of (context_of t p.domain.contexts) ≢ 32 = eqb-false (bursts_of (context_of t p.domain.contexts)) 32 early in
    omega arith

call_served : (threads t number : ℕ) (p : PartState) (c : CallEntry) (y : Context) (r : Result Service BadParam) → IsCallBurst t p c y
    → y.bursts ≤ 31 → CrossTied threads p (serve_by number t p r)
unfolding result_set
call_served threads t number p c y (Err bad) b early = failed_tied threads p _ _ (call_failing t p c y b)
call_served threads t number p c y (Ok s) b early =
    let v : Served = served (heap_start p) s p.domain.memory p.domain.entries p.queue in
    let r = with_result_set v.answer (context_of t p.domain.contexts) y b.context in
    let d : DomainState = result_set t v.answer (record p.domain { memory = v.memory; entries = v.entries }) in
    call_goes_on threads t p c y r.0 d v.queue _ b
    (set_same_but t p.domain.contexts (with_result v.answer (context_of t p.domain.contexts)))
    (context_set_same p.domain.contexts t (with_result v.answer (context_of t p.domain.contexts)) (within t (length p.domain.contexts) b.below b.contexts) ∙ r.1)
    r.2 early
    (context_set_other p.domain.contexts t 16 (with_result v.answer (context_of t p.domain.contexts)) (apart t b.below) ∙ b.shadow)
  where
    apart : (t : ℕ) → t < 16 → 16 ≡ t → ⊥
    apart t h e = omega arith

    within : (t n : ℕ) → t < 16 → n ≡ 17 → t < n
    within t n h e = omega arith

call_reply : (threads t status : ℕ) (p : PartState) (c : CallEntry) (y : Context) (r : Accept) → IsCallBurst t p c y
    → CrossTied threads p (reply_by c status p r)
call_reply threads t status p c y accepts.Take b = closes_tied threads t p c y _ b refl refl
call_reply threads t status p c y (accepts.IoError block) b = closes_tied threads t p c y _ b refl refl
call_reply threads t status p c y (accepts.Fail cause) b = failed_tied threads p _ _ (call_failing t p c y b)

pub call_crossed : (threads t : ℕ) (e : BurstEnd) (p : PartState) (c : CallEntry) (y : Context) → IsCallBurst t p c y
    → CrossTied threads p (after_crossing t e p)
unfolding after_crossing
call_crossed threads t (ends.Trap cause) p c y b = failed_tied threads p _ _ (call_failing t p c y b)
call_crossed threads t (ends.Kcall number) p c y b = split (is_last t p)
    (λ last. rw last (failed_tied threads p _ _ (call_failing t p c y b)))
    (λ early. rw early (call_served threads t number p c y
    (checked number (first_argument t p.domain) (second_argument t p.domain) p.spec.class p.domain.entries) b (early_bursts t p y b.context b.bursts early)))
call_crossed threads t ends.Pause p c y b = split (is_last t p)
    (λ last. rw last (failed_tied threads p _ _ (call_failing t p c y b)))
    (λ early. rw early (call_goes_on threads t p c y y p.domain p.queue _ b (λ j h e. refl) b.context refl (early_bursts t p y b.context b.bursts early) b.shadow))
call_crossed threads t (ends.Reply status) p c y b =
    rw (ne_eqb t 16 (λ e. apart t b.below e), b.found) (call_reply threads t status p c y (accept c.op status) b)
  where
    apart : (t : ℕ) → t < 16 → t ≡ 16 → ⊥
    apart t h e = omega arith

-- A burst of the shadow's call

-- the part after a burst of the shadow's call, before its crossing
pub record IsOwnBurst (p : PartState) (y : Context) : Type 0 where
  pub driving : is_driving p.mode ≡ true
  pub rising : IsRising 0 p.log.count p.log.pending
  pub apart : AreApart p.log.pending
  pub threads : AreThreads p.log.pending
  pub context : context_of 16 p.domain.contexts ≡ Some y
  pub bursts : y.bursts ≤ 32
  pub calls : AllByRecursion (λ d. (d.attempts ≤ p.failures) × (d.inside ≡ false)) p.log.pending
  pub stages : IsFitMode p.mode
  pub within : p.failures ≤ p.spec.limit
  pub contexts : length p.domain.contexts ≡ 17

own_failing : (p : PartState) (y : Context) → IsOwnBurst p y → IsFailing p
own_failing p y b = record {
  rising = b.rising;
  apart = b.apart;
  threads = b.threads;
  attempts = all_weaker (λ d. (d.attempts ≤ p.failures) × (d.inside ≡ false)) (λ d. d.attempts ≤ p.failures + 1) p.log.pending
      (λ d h. let a : d.attempts ≤ p.failures = h.0 in omega arith) b.calls;
  within = b.within;
  contexts = b.contexts;
}

pub away_calls : (m : Mode) (failures : ℕ) (contexts : List (Option Context)) (pending : List CallEntry) → is_driving m ≡ true
    → AllByRecursion (λ d. (d.attempts ≤ failures) × (d.inside ≡ false)) pending → AllByRecursion (IsTiedCall m failures contexts) pending
away_calls (mode.Boot s) failures contexts pending h all =
    all_weaker (λ d. (d.attempts ≤ failures) × (d.inside ≡ false)) (IsAwayCall s failures) pending (λ d k. (k.0, λ e. k.1)) all
away_calls (mode.Recovering s) failures contexts pending h all =
    all_weaker (λ d. (d.attempts ≤ failures) × (d.inside ≡ false)) (IsAwayCall s failures) pending (λ d k. (k.0, λ e. k.1)) all
away_calls mode.Running failures contexts pending h all = absurd (true≢false (sym h))
away_calls (mode.Dead collected) failures contexts pending h all = absurd (true≢false (sym h))

pub same_left_sixteen : (before after : List (Option Context)) (pending : List CallEntry) → SameBut 16 before after → AreThreads pending
    → calls_left after pending ≡ calls_left before pending
same_left_sixteen before after pending s th = same_calls_left 16 before after pending s th (not_sixteen pending th)

own_goes_on : (threads : ℕ) (p : PartState) (y y' : Context) (d : DomainState) (queue : List (List ℕ)) (e : End)
    → IsOwnBurst p y → SameBut 16 p.domain.contexts d.contexts → context_of 16 d.contexts ≡ Some y' → y'.bursts ≡ y.bursts
    → y.bursts ≤ 31 → CrossTied threads p (goes_on (record p { domain = d; queue = queue }) e)
own_goes_on threads p y y' d queue e b s ctx bursts early =
    let w : p.failures ≤ p.spec.limit = b.within in
    let cost' : calls_left d.contexts p.log.pending ≡ calls_left p.domain.contexts p.log.pending =
    same_left_sixteen p.domain.contexts d.contexts p.log.pending s b.threads in
    let a : spent (context_of 16 d.contexts) ≡ 1 + y'.bursts = ap spent ctx in
    let a' : spent (context_of 16 p.domain.contexts) ≡ 1 + y.bursts = ap spent b.context in
    let low : y'.bursts ≤ 31 = omega arith in
    record {
      tied = record {
        rising = b.rising;
        apart = b.apart;
        calls = away_calls p.mode p.failures d.contexts p.log.pending b.driving b.calls;
        driven = subst (λ o. IsDriven p.mode o) (sym ctx) (low, b.driving);
        stages = b.stages;
        limit = omega arith;
        within = λ m. w;
      };
      cost = omega arith;
      calls = λ test all. all;
    }

own_served : (threads number : ℕ) (p : PartState) (y : Context) (r : Result Service BadParam) → IsOwnBurst p y
    → y.bursts ≤ 31 → CrossTied threads p (serve_by number 16 p r)
unfolding result_set
own_served threads number p y (Err bad) b early = failed_tied threads p _ _ (own_failing p y b)
own_served threads number p y (Ok s) b early =
    let v : Served = served (heap_start p) s p.domain.memory p.domain.entries p.queue in
    let r = with_result_set v.answer (context_of 16 p.domain.contexts) y b.context in
    let d : DomainState = result_set 16 v.answer (record p.domain { memory = v.memory; entries = v.entries }) in
    own_goes_on threads p y r.0 d v.queue _ b
    (set_same_but 16 p.domain.contexts (with_result v.answer (context_of 16 p.domain.contexts)))
    (context_set_same p.domain.contexts 16 (with_result v.answer (context_of 16 p.domain.contexts)) (within (length p.domain.contexts) b.contexts) ∙ r.1)
    r.2 early
  where
    within : (n : ℕ) → n ≡ 17 → 16 < n
    within n e = omega arith

-- the stage after a replay

record IsNext (threads most : ℕ) (s : Stage) : Type 0 where
  away : is_stop s ≡ false
  fit : IsFitStage s
  cost : stage_left threads s ≤ most

stream_next : (threads : ℕ) (holder : Option ℕ) → IsNext threads 34 (replay_stream holder)
stream_next threads None = record { away = refl; fit = tt; cost = omega arith }
stream_next threads (Some t) = record { away = refl; fit = tt; cost = omega arith }

more_next : (threads most more : ℕ) (s : Stage) → most ≤ more → IsNext threads most s → IsNext threads more s
more_next threads most more s h n = let c : stage_left threads s ≤ most = n.cost in record { away = n.away; fit = n.fit; cost = omega arith }

key_next : (threads key more : ℕ) (config defaults : List ℕ) (holder : Option ℕ) → key + more ≡ 4
    → IsNext threads (1 + 33 * (5 - key)) (next_replay key more config defaults holder)
key_next threads key zero config defaults holder h = more_next threads 34 (1 + 33 * (5 - key)) (replay_stream holder) (omega arith) (stream_next threads holder)
key_next threads key (suc more) config defaults holder h = split (slice_index config key == slice_index defaults key)
    (λ same. rw same (more_next threads (1 + 33 * (5 - (key + 1))) (1 + 33 * (5 - key)) (next_replay (key + 1) more config defaults holder) (omega arith)
    (key_next threads (key + 1) more config defaults holder (omega arith))))
    (λ other. rw other (record { away = refl; fit = omega arith; cost = omega arith }))

replay_next : (threads : ℕ) (s : Stage) (log : CallLog) → is_driving_stage s ≡ true → IsFitStage s
    → IsNext threads (stage_left threads s - 33) (replay_after s log)
unfolding replay_after
replay_next threads stage.Init log d f = key_next threads 0 4 log.config log.defaults log.holder refl
replay_next threads (stage.ReplaySet key value) log d f =
    more_next threads (1 + 33 * (5 - (key + 1))) (1 + 33 * (5 - key) - 33) _ (omega arith)
    (key_next threads (key + 1) (3 - key) log.config log.defaults log.holder (omega arith))
replay_next threads stage.ReplayOpen log d f = record { away = refl; fit = tt; cost = omega arith }
replay_next threads stage.Stop log d f = absurd (true≢false (sym d))
replay_next threads stage.Collect log d f = absurd (true≢false (sym d))
replay_next threads stage.Reset log d f = absurd (true≢false (sym d))
replay_next threads stage.Load log d f = absurd (true≢false (sym d))
replay_next threads stage.Resume log d f = absurd (true≢false (sym d))

pub driving_left : (threads : ℕ) (s : Stage) → is_driving_stage s ≡ true → IsFitStage s → 34 ≤ stage_left threads s
driving_left threads stage.Init d f = omega arith
driving_left threads (stage.ReplaySet key value) d f = omega arith
driving_left threads stage.ReplayOpen d f = omega arith
driving_left threads stage.Stop d f = absurd (true≢false (sym d))
driving_left threads stage.Collect d f = absurd (true≢false (sym d))
driving_left threads stage.Reset d f = absurd (true≢false (sym d))
driving_left threads stage.Load d f = absurd (true≢false (sym d))
driving_left threads stage.Resume d f = absurd (true≢false (sym d))

-- a replay or Resume follows a stage that drives the driver
pub mode_after_drive : (s : Stage) (log : CallLog) → is_driving_stage s ≡ true
    → mode_after s log (mode.Recovering s) ≡ mode.Recovering (replay_after s log)
mode_after_drive stage.Init log d = refl
mode_after_drive (stage.ReplaySet key value) log d = refl
mode_after_drive stage.ReplayOpen log d = refl
mode_after_drive stage.Stop log d = absurd (true≢false (sym d))
mode_after_drive stage.Collect log d = absurd (true≢false (sym d))
mode_after_drive stage.Reset log d = absurd (true≢false (sym d))
mode_after_drive stage.Load log d = absurd (true≢false (sym d))
mode_after_drive stage.Resume log d = absurd (true≢false (sym d))

record IsNextMode (threads : ℕ) (m : Mode) (failures limit : ℕ) (contexts : List (Option Context)) (pending : List CallEntry) (q : Mode) : Type 0 where
  calls : AllByRecursion (IsTiedCall q failures contexts) pending
  fit : IsFitMode q
  cost : mode_left threads q + 33 ≤ mode_left threads m

next_mode_ok : (threads : ℕ) (m : Mode) (p : PartState) (limit : ℕ) (contexts : List (Option Context)) (pending : List CallEntry)
    → is_driving m ≡ true → IsFitMode m → AllByRecursion (λ d. (d.attempts ≤ p.failures) × (d.inside ≡ false)) pending
    → IsNextMode threads m p.failures limit contexts pending (next_mode m p)
next_mode_ok threads (mode.Boot s) p limit contexts pending d f all =
    let l : 34 ≤ stage_left threads s = driving_left threads s d f in
    record {
      calls = all_weaker (λ d. (d.attempts ≤ p.failures) × (d.inside ≡ false)) (IsAwayCall stage.Resume p.failures) pending (λ d k. (k.0, λ e. k.1)) all;
      fit = tt;
      cost = omega arith;
    }
next_mode_ok threads (mode.Recovering s) p limit contexts pending d f all =
    let n : IsNext threads (stage_left threads s - 33) (replay_after s p.log) = replay_next threads s p.log d f in
    let c : stage_left threads (replay_after s p.log) ≤ stage_left threads s - 33 = n.cost in
    let l : 34 ≤ stage_left threads s = driving_left threads s d f in
    subst (IsNextMode threads (mode.Recovering s) p.failures limit contexts pending) (sym (mode_after_drive s p.log d)) (record {
      calls = all_weaker (λ d. (d.attempts ≤ p.failures) × (d.inside ≡ false)) (IsAwayCall (replay_after s p.log) p.failures) pending (λ d k. (k.0, λ e. k.1)) all;
      fit = n.fit;
      cost = omega arith;
    })
next_mode_ok threads mode.Running p limit contexts pending d f all = absurd (true≢false (sym d))
next_mode_ok threads (mode.Dead collected) p limit contexts pending d f all = absurd (true≢false (sym d))

own_replied : (threads : ℕ) (p : PartState) (y : Context) (e : End) → IsOwnBurst p y → CrossTied threads p (goes_on (next_stage p) e)
unfolding next_stage left_domain
own_replied threads p y e b =
    let w : p.failures ≤ p.spec.limit = b.within in
    let contexts : List (Option Context) = slice_set p.domain.contexts 16 no_context in
    let freed : context_of 16 contexts ≡ None = context_set_same p.domain.contexts 16 no_context (within (length p.domain.contexts) b.contexts) in
    let n : IsNextMode threads p.mode p.failures p.spec.limit contexts p.log.pending (next_mode p.mode p) =
    next_mode_ok threads p.mode p p.spec.limit contexts p.log.pending b.driving b.stages b.calls in
    let cost' : calls_left contexts p.log.pending ≡ calls_left p.domain.contexts p.log.pending =
    same_left_sixteen p.domain.contexts contexts p.log.pending (set_same_but 16 p.domain.contexts no_context) b.threads in
    let a : spent (context_of 16 contexts) ≡ 0 = ap spent freed in
    let a' : spent (context_of 16 p.domain.contexts) ≡ 1 + y.bursts = ap spent b.context in
    let low : y.bursts ≤ 32 = b.bursts in
    let c : mode_left threads (next_mode p.mode p) + 33 ≤ mode_left threads p.mode = n.cost in
    record {
      tied = record {
        rising = b.rising;
        apart = b.apart;
        calls = n.calls;
        driven = driven_none (next_mode p.mode p) _ freed;
        stages = n.fit;
        limit = omega arith;
        within = λ m. w;
      };
      cost = omega arith;
      calls = λ test all. all;
    }
  where
    within : (n : ℕ) → n ≡ 17 → 16 < n
    within n e = omega arith

pub own_crossed : (threads : ℕ) (e : BurstEnd) (p : PartState) (y : Context) → IsOwnBurst p y → CrossTied threads p (after_crossing 16 e p)
unfolding after_crossing
own_crossed threads (ends.Trap cause) p y b = failed_tied threads p _ _ (own_failing p y b)
own_crossed threads (ends.Kcall number) p y b = split (is_last 16 p)
    (λ last. rw last (failed_tied threads p _ _ (own_failing p y b)))
    (λ early. rw early (own_served threads number p y
    (checked number (first_argument 16 p.domain) (second_argument 16 p.domain) p.spec.class p.domain.entries) b (early_bursts 16 p y b.context b.bursts early)))
own_crossed threads ends.Pause p y b = split (is_last 16 p)
    (λ last. rw last (failed_tied threads p _ _ (own_failing p y b)))
    (λ early. rw early (own_goes_on threads p y y p.domain p.queue _ b (λ j h e. refl) b.context refl (early_bursts 16 p y b.context b.bursts early)))
own_crossed threads (ends.Reply status) p y b = split (is_accepted status p)
    (λ yes'. rw yes' (own_replied threads p y _ b))
    (λ no'. rw no' (failed_tied threads p _ _ (own_failing p y b)))
