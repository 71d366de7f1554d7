-- The number of a thread's open call after a step: an invocation sets it, and an answer clears it.
use Rattle.std.proofs.Common.{◌≡◌, ◌⊎◌, inl, inr, ℕ, ◌+◌, ◌<◌, ◌≤◌, ◌==◌, ◌&&◌, nat_lt, not, is_none, is_some, if◌then◌else◌, Bool, true, false, Option, Some, None, Result, Ok, Err, List, [], ◌∷◌, ◌++◌, map, filter, refl, sym, ap, ◌∙◌, subst, arith, true≢false}
use Rattle.std.specs.List.{AllByRecursion}
use Rattle.std.proofs.lemmas.Bool.{eqb-true, eq-eqb, ne_eqb}
use Rattle.nook_data.specs.declared.classes.Accept.{Accept}
use Rattle.nook_data.specs.declared.classes.Accept.TheVariants as accepts
use Rattle.nook_data.specs.declared.classes.Admit.{Admit}
use Rattle.nook_data.specs.declared.classes.Admit.TheVariants as admits
use Rattle.nook_data.specs.declared.calls.Answer.{Answer}
use Rattle.nook_data.specs.declared.calls.CallEntry.{CallEntry}
use Rattle.nook_data.specs.declared.steps.Event.{Event}
use Rattle.nook_data.specs.declared.steps.Event.TheVariants as event
use Rattle.nook_data.specs.declared.calls.Op.{Op}
use Rattle.nook_data.specs.declared.calls.Op.TheVariants as op
use Rattle.nook_data.specs.declared.steps.Stage.{Stage}
use Rattle.nook_data.specs.declared.steps.Stage.TheVariants as stage
use Rattle.nook_data.specs.declared.steps.Step.{Step}
use Rattle.nook_data.specs.declared.steps.Step.TheVariants as step
use Rattle.nook_data.specs.declared.machine.BadParam.{BadParam}
use Rattle.nook_data.specs.declared.machine.BurstEnd.{BurstEnd}
use Rattle.nook_data.specs.declared.machine.BurstEnd.TheVariants as ends
use Rattle.nook_data.specs.declared.machine.Service.{Service}
use Rattle.part_defs.specs.Calls.{Stepped, after_invoke, invoked_with, answer_in, queue_in, after_enter, after_admit}
use Rattle.nook_data.specs.Classes.{static_check, admit, accept}
use Rattle.part_defs.specs.Crossing.{Crossed, fails, is_last, is_accepted, next_stage, shadow_replied, closes_call}
use Rattle.part_defs.specs.Crossing.{call_replied, after_crossing}
use Rattle.part_defs.specs.Domain.{domain_burst}
use Rattle.part_defs.specs.Log.{is_call, call_of_thread, with_call, with_answered_call, after_entering, after_answering}
use Rattle.part_defs.specs.Log.{after_acknowledging, held_call, is_held, shadow_answer, queue_after, with_answer}
use Rattle.part_defs.specs.Log.{stop_answers, gone_answers}
use Rattle.part_defs.proofs.PartCases.{change_entry, entered_by, entered_call, invoked_by, new_entry, reply_by}
use Rattle.part_defs.proofs.PartCases.{serve_by, stage_by, with_burst}
use Rattle.nook_data.specs.Answers.{one_answer}
use Rattle.nook_data.specs.Answers.{answer_at, answer_among}
use Rattle.part_defs.specs.Stages.{stage_due, is_given_up, stops, gives_up_part, collects, resets, loads_image, inits}
use Rattle.part_defs.specs.Stages.{replays_set, replays_open, resumes, stage_done, stage_stepped}
use Rattle.part_defs.specs.State.{PartState}
use Rattle.part_defs.specs.Steps.{enabled, stepped, burst_stepped, served_number, after_arrival}
use Rattle.machine_defs.specs.BurstFaults.{faults_of_burst}
use Rattle.part_laws.proofs.Answered.{AnswersCall, Shows, crossed_shows, no_call, none_below, shadow_says}
use Rattle.machine_defs.proofs.BurstKeeps.{split}
use Rattle.part_laws.specs.Tied.{IsRising, AreApart, IsTied}
use Rattle.nook_data.proofs.Options.{none_is_some, same_inside}

-- the number of a thread's open call
abbrev pub number : ℕ → List CallEntry → Option ℕ
number t [] = None
number t (c ∷ calls) = if c.thread == t then Some c.call else number t calls

-- an answer to the call clears it
abbrev pub pending_number : (ℕ → Option Answer) → Option ℕ → Option ℕ
pending_number f None = None
pending_number f (Some call) = if is_some (f call) then None else Some call

-- an invocation by the thread sets it
abbrev pub started_number : ℕ → Event → Option ℕ → Option ℕ
started_number t (event.Invoke call thread o answer) w = if thread == t then Some call else w
started_number t _ w = w

abbrev unless : ℕ → Option ℕ → Option ℕ
unless call None = None
unless call (Some c) = if c == call then None else Some c

abbrev or_else : Option ℕ → Option ℕ → Option ℕ
or_else None other = other
or_else (Some c) other = Some c

-- ---- the list of open calls

apart_none : (t : ℕ) (c : CallEntry) (calls : List CallEntry) → AllByRecursion (λ d. (d.thread == c.thread) ≡ false) calls → (c.thread == t) ≡ true
    → number t calls ≡ None
apart_none t c [] all e = refl
apart_none t c (d ∷ calls) all e =
    let same : c.thread ≡ t = eqb-true c.thread t e in
    let other : (d.thread == t) ≡ false = ap (λ n. d.thread == n) (sym same) ∙ all.0 in
    rw other (apart_none t c calls all.1 e)

-- one call is no longer open
removed : (t call : ℕ) (calls : List CallEntry) → AreApart calls → number t (filter (λ d. not (is_call call d)) calls) ≡ unless call (number t calls)
removed t call [] apart = refl
removed t call (c ∷ calls) apart = split (c.call == call)
    (λ it. split (c.thread == t)
    (λ mine. rw (it, mine, removed t call calls apart.1, apart_none t c calls apart.0 mine, it) refl)
    (λ other. rw (it, other) (removed t call calls apart.1)))
    (λ no. split (c.thread == t)
    (λ mine. rw (no, mine, no) refl)
    (λ other. rw (no, other) (removed t call calls apart.1)))

-- calls change, but keep their numbers and threads
renamed : (f : CallEntry → CallEntry) (t : ℕ) (calls : List CallEntry) → ((c : CallEntry) → (f c).call ≡ c.call) → ((c : CallEntry) → (f c).thread ≡ c.thread)
    → number t (map f calls) ≡ number t calls
renamed f t [] a b = refl
renamed f t (c ∷ calls) a b = rw (b c, a c, renamed f t calls a b) refl

-- one more call
pushed : (t : ℕ) (calls : List CallEntry) (c : CallEntry) → number t (calls ++ c ∷ []) ≡ or_else (number t calls) (if c.thread == t then Some c.call else None)
pushed t [] c = refl
pushed t (d ∷ calls) c = split (d.thread == t)
    (λ mine. rw mine refl)
    (λ other. rw other (pushed t calls c))

-- an open call has one of the numbers assigned so far
above : (t low count m : ℕ) (calls : List CallEntry) → IsRising low count calls → number t calls ≡ Some m → (low < m) × (m ≤ count)
above t low count m [] r h = none_is_some h
above t low count m (c ∷ calls) r h = split (c.thread == t)
    (λ mine.
    let same : c.call ≡ m = same_inside (rw mine at h) in
    (subst (λ n. low < n) same r.0, subst (λ n. n ≤ count) same r.1))
    (λ other.
    let more = above t c.call count m calls r.2 (rw other at h) in
    let first : low < c.call = r.0 in
    let next : c.call < m = more.0 in
    (omega arith, more.1))

-- the open call of a thread has its number
pub number_found : (t : ℕ) (calls : List CallEntry) (c : CallEntry) → call_of_thread t calls ≡ Some c → number t calls ≡ Some c.call
number_found t [] c h = none_is_some h
number_found t (d ∷ calls) c h = split (d.thread == t)
    (λ mine. rw mine (ap {B = Option ℕ} (λ (x : CallEntry). Some x.call) (same_inside (rw mine at h))))
    (λ other. rw other (number_found t calls c (rw other at h)))

pub none_found : (t : ℕ) (calls : List CallEntry) → is_none (call_of_thread t calls) ≡ true → number t calls ≡ None
none_found t [] h = refl
none_found t (d ∷ calls) h = split (d.thread == t)
    (λ mine. absurd (true≢false (sym (rw mine at h))))
    (λ other. rw other (none_found t calls (rw other at h)))

pub found_none : (t : ℕ) (calls : List CallEntry) → number t calls ≡ None → is_none (call_of_thread t calls) ≡ true
found_none t [] h = refl
found_none t (d ∷ calls) h = split (d.thread == t)
    (λ mine. none_is_some (sym (rw mine at h)))
    (λ other. rw other (found_none t calls (rw other at h)))

-- ---- nothing is answered

silent : (f : ℕ → Option Answer) (w : Option ℕ) → ((call : ℕ) → f call ≡ None) → w ≡ pending_number f w
silent f None h = refl
silent f (Some call) h = rw (h call) refl

-- one call is answered
one_reported : (c : ℕ) (a : Answer) (w : Option ℕ) → unless c w ≡ pending_number (λ call. answer_among call (one_answer c (Some a))) w
one_reported c a None = refl
one_reported c a (Some m) = split (c == m)
    (λ e. let s : m ≡ c = sym (eqb-true c m e) in rw (e, eq-eqb m c s) refl)
    (λ e. rw (e, ne_eqb m c (λ s. true≢false (sym (eq-eqb c m (sym s)) ∙ e))) refl)

-- ---- Invoke

invoked_number : (p : PartState) (t thread : ℕ) (o : Op) (a : Option Answer) (queue : List (List ℕ)) → IsTied p → number thread p.log.pending ≡ None
    → number t (invoked_with p thread o a queue).state.log.pending
    ≡ pending_number (λ call. answer_among call (one_answer (p.log.count + 1) a)) (if thread == t then Some (p.log.count + 1) else number t p.log.pending)
unfolding with_call with_answered_call
invoked_number p t thread o None queue tied free =
    pushed t p.log.pending (new_entry (p.log.count + 1) thread o)
    ∙ split (thread == t)
    (λ mine. rw (mine, ap (λ n. number n p.log.pending) (sym (eqb-true thread t mine)) ∙ free) (silent _ _ (λ call. no_call call (p.log.count + 1))))
    (λ other. rw other (last (number t p.log.pending) ∙ silent _ _ (λ call. no_call call (p.log.count + 1))))
  where
    last : (w : Option ℕ) → or_else w None ≡ w
    last None = refl
    last (Some c) = refl
invoked_number p t thread o (Some a) queue tied free = split (thread == t)
    (λ mine. rw (mine, eq-eqb (p.log.count + 1) (p.log.count + 1) refl) (ap (λ n. number n p.log.pending) (sym (eqb-true thread t mine)) ∙ free))
    (λ other. rw other (old (number t p.log.pending) refl))
  where
    old : (w : Option ℕ) → number t p.log.pending ≡ w → w ≡ pending_number (λ call. answer_among call (one_answer (p.log.count + 1) (Some a))) w
    old None e = refl
    old (Some m) e =
        let low : m ≤ p.log.count = (above t 0 p.log.count m p.log.pending tied.rising e).1 in
        rw (ne_eqb (p.log.count + 1) m (λ s. past m low s)) refl
      where
        past : (m : ℕ) → m ≤ p.log.count → p.log.count + 1 ≡ m → ⊥
        past m l s = omega arith

abbrev pub Says : PartState → ℕ → Stepped → Type 0
Says p t turn = number t turn.state.log.pending ≡ pending_number (λ call. answer_at call turn.event) (started_number t turn.event (number t p.log.pending))

invoke_says : (p : PartState) (t thread : ℕ) (o : Op) → IsTied p → number thread p.log.pending ≡ None → Says p t (after_invoke thread o p)
unfolding after_invoke
invoke_says p t thread o tied free = by_check (static_check p.spec.class p.spec.blocks o)
  where
    by_check : (a : Option Answer) → Says p t (invoked_by p thread o a)
    by_check None = invoked_number p t thread o (answer_in p.mode thread o p) (queue_in p.mode o p.queue) tied free
    by_check (Some a) = invoked_number p t thread o (Some a) p.queue tied free

-- ---- Enter

enter_says : (p : PartState) (t thread : ℕ) → IsTied p → Says p t (after_enter thread p)
unfolding after_enter after_answering after_entering
enter_says p t thread tied = by_call (call_of_thread thread p.log.pending)
  where
    by_answer : (c : CallEntry) (a : Admit) → Says p t (after_admit p c a)
    by_answer c (admits.Reply a) = removed t c.call p.log.pending tied.apart ∙ one_reported c.call a (number t p.log.pending)
    by_answer c admits.TakeFrame = removed t c.call p.log.pending tied.apart ∙ one_reported c.call _ (number t p.log.pending)
    by_answer c (admits.Enter index) =
        renamed (change_entry c.call entered_call) t p.log.pending (λ d. split (is_call c.call d) (λ e. rw e refl) (λ e. rw e refl))
        (λ d. split (is_call c.call d) (λ e. rw e refl) (λ e. rw e refl))
        ∙ silent _ (number t p.log.pending) (λ call. no_call call c.call)

    by_call : (o : Option CallEntry) → Says p t (entered_by p thread o)
    by_call None = silent _ (number t p.log.pending) (λ call. no_call call 0)
    by_call (Some c) = by_answer c (admit p.spec.class thread c.op p.log.holder _)

-- ---- Burst

burst_by : (context : ℕ) (p q : PartState) (t : ℕ) (x : Crossed) → IsTied p → q.log ≡ p.log → Shows context q x
    → number t x.state.log.pending ≡ pending_number (λ call. answer_among call (one_answer (served_number context p) x.answer)) (number t p.log.pending)
burst_by context p q t x tied same (inl h) =
    ap (number t) (h.1 ∙ ap (λ l. l.pending) same)
    ∙ silent (λ call. answer_among call (one_answer (served_number context p) None)) (number t p.log.pending) (λ call. no_call call (served_number context p))
    ∙ ap (λ a. pending_number (λ call. answer_among call (one_answer (served_number context p) a)) (number t p.log.pending)) (sym h.0)
burst_by context p q t x tied same (inr h) =
    let found : call_of_thread context p.log.pending ≡ Some h.c = ap (λ l. call_of_thread context l.pending) (sym same) ∙ h.found in
    let served : served_number context p ≡ h.c.call = rw (h.other, found) refl in
    ap (number t) (h.closed ∙ ap (λ l. filter (λ d. not (is_call h.c.call d)) l.pending) same)
    ∙ removed t h.c.call p.log.pending tied.apart ∙ one_reported h.c.call h.a (number t p.log.pending)
    ∙ ap (λ n. pending_number (λ call. answer_among call (one_answer n (Some h.a))) (number t p.log.pending)) (sym served)
    ∙ ap (λ a. pending_number (λ call. answer_among call (one_answer (served_number context p) a)) (number t p.log.pending)) (sym h.reported)

burst_says : (p : PartState) (t context : ℕ) → IsTied p → Says p t (burst_stepped context p)
unfolding burst_stepped
burst_says p t context tied =
    let b = domain_burst context (faults_of_burst (p.bursts + 1) p.spec.faults) p.domain in
    let q = with_burst b.domain p in
    burst_by context p q t (after_crossing context b.ending q) tied refl (crossed_shows context b.ending q)

-- ---- Stage

-- an answer to a call with another number
reported_past : (k : ℕ) (a : Answer) (answers : List (ℕ × Answer)) (w : Option ℕ) → ((m : ℕ) → w ≡ Some m → k < m)
    → pending_number (λ call. answer_among call answers) w ≡ pending_number (λ call. answer_among call ((k, a) ∷ answers)) w
reported_past k a answers None h = refl
reported_past k a answers (Some m) h = rw (ne_eqb k m (λ e. apart k m (h m refl) e)) refl
  where
    apart : (k m : ℕ) → k < m → k ≡ m → ⊥
    apart k m l e = omega arith

stop_says : (t low count : ℕ) (calls : List CallEntry) (config : List ℕ) (holder : Option ℕ) (queue : List (List ℕ)) → IsRising low count calls → AreApart calls
    → number t (filter (λ c. is_held c.op) calls) ≡ pending_number (λ call. answer_among call (stop_answers calls config holder queue)) (number t calls)
stop_says t low count [] config holder queue r apart = refl
stop_says t low count (c ∷ calls) config holder queue r apart =
    by_shadow (shadow_says c.op c.thread config holder queue) (stop_says t c.call count calls config holder (queue_after c.op queue) r.2 apart.1)
  where
    not_again : (c.thread == t) ≡ true → number t (filter (λ c. is_held c.op) calls) ≡ pending_number (λ call. answer_among call (stop_answers calls config holder (queue_after c.op queue))) (number t calls)
        → number t (filter (λ c. is_held c.op) calls) ≡ None
    not_again mine more = more ∙ ap (pending_number _) (apart_none t c calls apart.0 mine)

    by_shadow : ((is_held c.op ≡ true) × (shadow_answer c.op c.thread config holder stage.Stop queue ≡ None))
        ⊎ ((is_held c.op ≡ false) × ((a : Answer) × (shadow_answer c.op c.thread config holder stage.Stop queue ≡ Some a)))
        → number t (filter (λ c. is_held c.op) calls) ≡ pending_number (λ call. answer_among call (stop_answers calls config holder (queue_after c.op queue))) (number t calls)
        → number t (filter (λ c. is_held c.op) (c ∷ calls)) ≡ pending_number (λ call. answer_among call (stop_answers (c ∷ calls) config holder queue)) (number t (c ∷ calls))
    by_shadow (inl h) more = split (c.thread == t)
        (λ mine. rw (h.0, h.1, mine, none_below c.call c.call count calls config holder (queue_after c.op queue) r.2 (omega arith)) refl)
        (λ other. rw (h.0, h.1, other) more)
    by_shadow (inr h) more = split (c.thread == t)
        (λ mine. rw (h.0, h.1.1, mine, eq-eqb c.call c.call refl) (not_again mine more))
        (λ other. rw (h.0, h.1.1, other)
        (more ∙ reported_past c.call h.1.0 (stop_answers calls config holder (queue_after c.op queue)) (number t calls) (λ m e. (above t c.call count m calls r.2 e).0)))

gone_found : (failures t m : ℕ) (calls : List CallEntry) → number t calls ≡ Some m → is_some (answer_among m (gone_answers failures calls)) ≡ true
gone_found failures t m [] h = none_is_some h
gone_found failures t m (c ∷ calls) h = split (c.call == m)
    (λ it. rw it refl)
    (λ no. split (c.thread == t)
    (λ mine. absurd (true≢false (sym (eq-eqb c.call m (same_inside (rw mine at h))) ∙ no)))
    (λ other. rw no (gone_found failures t m calls (rw other at h))))

gone_says : (failures t : ℕ) (calls : List CallEntry) (w : Option ℕ) → number t calls ≡ w → None ≡ pending_number (λ call. answer_among call (gone_answers failures calls)) w
gone_says failures t calls None h = refl
gone_says failures t calls (Some m) h = rw (gone_found failures t m calls h) refl

quiet : (p : PartState) (t : ℕ) → number t p.log.pending ≡ pending_number (λ call. None) (number t p.log.pending)
quiet p t = silent (λ call. None) (number t p.log.pending) (λ call. refl)

stage_says : (p : PartState) (t : ℕ) → IsTied p → Says p t (stage_stepped p)
unfolding stage_stepped stops gives_up_part collects resets loads_image inits replays_set replays_open resumes
stage_says p t tied = by_due (stage_due p.mode)
  where
    at_stop : (b : Bool) → is_given_up p ≡ b → Says p t (stage_done stage.Stop p)
    at_stop true e = rw e (gone_says p.failures t p.log.pending (number t p.log.pending) refl)
    at_stop false e = rw e
        (renamed held_call t (filter (λ c. is_held c.op) p.log.pending) (λ c. refl) (λ c. refl)
        ∙ stop_says t 0 p.log.count p.log.pending p.log.config p.log.holder p.queue tied.rising tied.apart)

    by_due : (o : Option Stage) → Says p t (stage_by p o)
    by_due None = quiet p t
    by_due (Some stage.Stop) = at_stop (is_given_up p) refl
    by_due (Some stage.Collect) = quiet p t
    by_due (Some stage.Reset) = quiet p t
    by_due (Some stage.Load) = quiet p t
    by_due (Some stage.Init) = quiet p t
    by_due (Some (stage.ReplaySet key value)) = quiet p t
    by_due (Some stage.ReplayOpen) = quiet p t
    by_due (Some stage.Resume) = quiet p t

-- ---- any step

and_part : (a b c : Bool) → (a && b && c) ≡ true → b ≡ true
and_part true true c h = refl
and_part true false c h = absurd (true≢false (sym h))
and_part false b c h = absurd (true≢false (sym h))

pub step_says : (p : PartState) (s : Step) (t : ℕ) → IsTied p → enabled p s ≡ true → Says p t (stepped p s)
unfolding stepped enabled after_arrival
step_says p (step.Invoke thread o) t tied may =
    invoke_says p t thread o tied
    (none_found thread p.log.pending (and_part (nat_lt thread 16) (is_none (call_of_thread thread p.log.pending)) (nat_lt p.log.count 100000) may))
step_says p (step.Enter thread) t tied may = enter_says p t thread tied
step_says p (step.Burst context) t tied may = burst_says p t context tied
step_says p step.Stage t tied may = stage_says p t tied
step_says p (step.Arrive frame) t tied may = quiet p t
