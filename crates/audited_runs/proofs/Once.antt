-- A call is answered once in a run.
use Rattle.std.proofs.Common.{◌≡◌, ℕ, zero, suc, ◌+◌, ◌<◌, ◌==◌, ◌&&◌, nat_le, not, is_some, Bool, true, false, Option, Some, None, List, [], ◌∷◌, ◌++◌, slice_get, refl, sym, ap, ◌∙◌, subst, arith, inl, inr, ◌⊎◌, eqb-true, eq-eqb, true≢false}
use Rattle.std.specs.List.{find}
use Rattle.std.proofs.lemmas.Bool.{and_left, and_right, cases_order, lt-leb}
use Rattle.desk_like.specs.Desks.{IsReply, IsAt}
use Rattle.part_defs.specs.Calls.{after_admit, answer_in, after_enter, after_invoke}
use Rattle.nook_data.specs.Classes.{admit, static_check}
use Rattle.part_defs.specs.Crossing.{Crossed, after_crossing}
use Rattle.part_defs.specs.Domain.{domain_burst}
use Rattle.part_defs.specs.Log.{call_of_thread, gone_answers, is_call, open_call, queue_after, shadow_answer}
use Rattle.part_defs.specs.Log.{stop_answers, with_answer}
use Rattle.part_defs.proofs.PartCases.{entered_by, invoked_by, is_of_thread, stage_by, with_burst}
use Rattle.nook_data.specs.Answers.{one_answer}
use Rattle.part_defs.specs.Runs.{IsRun, IsRunFrom, event_of, state_after, state_from, state_of, step_of}
use Rattle.nook_data.specs.Answers.{answer_among, answer_at}
use Rattle.part_defs.specs.Views.CallLogs.{answered_at, answered_from}
use Rattle.part_defs.specs.Stages.{collects, gives_up_part, inits, is_given_up, loads_image, replays_open, replays_set}
use Rattle.part_defs.specs.Stages.{resets, resumes, stage_done, stage_due, stage_stepped, stops}
use Rattle.part_defs.specs.State.{CallLog, PartState}
use Rattle.part_defs.specs.Steps.{after_arrival, burst_stepped, opening, served_number, stepped}
use Rattle.machine_defs.specs.BurstFaults.{faults_of_burst}
use Rattle.nook_data.specs.declared.classes.Admit.{Admit}
use Rattle.nook_data.specs.declared.classes.Admit.TheVariants as admits
use Rattle.nook_data.specs.declared.calls.Answer.{Answer}
use Rattle.nook_data.specs.declared.calls.CallEntry.{CallEntry}
use Rattle.nook_data.specs.declared.steps.Event.{Event}
use Rattle.nook_data.specs.declared.calls.Op.{Op}
use Rattle.nook_data.specs.declared.scenario.PartSpec.{PartSpec}
use Rattle.nook_data.specs.declared.steps.Stage.{Stage}
use Rattle.nook_data.specs.declared.steps.Stage.TheVariants as stage
use Rattle.nook_data.specs.declared.steps.Step.{Step}
use Rattle.nook_data.specs.declared.steps.Step.TheVariants as step
use Rattle.part_laws.proofs.Answered.{AnswersCall, crossed_shows, run_answered}
use Rattle.part_laws.proofs.Indices.{split}
use Rattle.part_laws.specs.Answered.{is_answered}
use Rattle.part_laws.specs.Fit.{IsFitSpec}
use Rattle.nook_data.proofs.Options.{none_is_some, same_inside}

-- ---- an event answers no call that was answered before

-- the call is open, or its number was not assigned yet
abbrev IsNotDone : CallLog → ℕ → Type 0
IsNotDone log call = is_answered log call ≡ false

open_not_done : (log : CallLog) (call : ℕ) → is_some (open_call call log.pending) ≡ true → IsNotDone log call
open_not_done log call h = and_right (nat_le 1 call && nat_le call log.count) (not (is_some (open_call call log.pending))) (ap not h)

find_other : {X : Type 0} (p q : X → Bool) (xs : List X) (x : X) → find p xs ≡ Some x → q x ≡ true → is_some (find q xs) ≡ true
find_other p q [] x h k = none_is_some h
find_other p q (y ∷ xs) x h k = split (q y)
    (λ e. rw (find, e) refl)
    (λ e. split (p y)
    (λ f. absurd (true≢false (sym (subst (λ z. q z ≡ true) (sym (same_inside (rw (find, f) at h))) k) ∙ e)))
    (λ f. rw (find, e) (find_other p q xs x (rw (find, f) at h) k)))

-- an answer, found by the number of its call
numbered_is : (call c : ℕ) (a : Option Answer) (x : Answer) → answer_among call (one_answer c a) ≡ Some x → (c ≡ call) × (a ≡ Some x)
numbered_is call c None x h = none_is_some h
numbered_is call c (Some a) x h = split (c == call)
    (λ e. (eqb-true c call e, rw e at h))
    (λ e. none_is_some (rw e at h))

thread_not_done : (log : CallLog) (thread call : ℕ) (c : CallEntry) → call_of_thread thread log.pending ≡ Some c → c.call ≡ call → IsNotDone log call
thread_not_done log thread call c h e = open_not_done log call (find_other (is_of_thread thread) (is_call call) log.pending c h (eq-eqb c.call call e))

invoke_not_done : (log : CallLog) (call : ℕ) → log.count + 1 ≡ call → IsNotDone log call
invoke_not_done log call e =
    and_left (nat_le 1 call && nat_le call log.count) (not (is_some (open_call call log.pending)))
    (and_right (nat_le 1 call) (nat_le call log.count) (lt-leb call log.count (omega arith)))

among_stop : (n : ℕ) (calls : List CallEntry) (config : List ℕ) (holder : Option ℕ) (queue : List (List ℕ)) (x : Answer)
    → answer_among n (stop_answers calls config holder queue) ≡ Some x → is_some (open_call n calls) ≡ true
among_stop n [] config holder queue x h = none_is_some h
among_stop n (c ∷ calls) config holder queue x h = split (c.call == n)
    (λ it. rw (find, it) refl)
    (λ no. rw (find, no) (by_shadow (shadow_answer c.op c.thread config holder stage.Stop queue) no
    (λ e. among_stop n calls config holder (queue_after c.op queue) x e) h))
  where
    rest : List (ℕ × Answer)
    rest = stop_answers calls config holder (queue_after c.op queue)

    by_shadow : (o : Option Answer) → (c.call == n) ≡ false → (answer_among n rest ≡ Some x → is_some (open_call n calls) ≡ true)
        → answer_among n (with_answer c.call o rest) ≡ Some x → is_some (open_call n calls) ≡ true
    by_shadow None other more e = more e
    by_shadow (Some a) other more e = more (rw other at e)

among_gone : (failures n : ℕ) (calls : List CallEntry) (x : Answer) → answer_among n (gone_answers failures calls) ≡ Some x → is_some (open_call n calls) ≡ true
among_gone failures n [] x h = none_is_some h
among_gone failures n (c ∷ calls) x h = split (c.call == n)
    (λ it. rw (find, it) refl)
    (λ no. rw (find, no) (among_gone failures n calls x (rw no at h)))

-- ---- each step

invoked_answers : (p : PartState) (thread : ℕ) (o : Op) (call : ℕ) (x : Answer) → answer_at call (after_invoke thread o p).event ≡ Some x → IsNotDone p.log call
unfolding after_invoke
invoked_answers p thread o call x h = by_check (static_check p.spec.class p.spec.blocks o) h
  where
    by_check : (a : Option Answer) → answer_at call (invoked_by p thread o a).event ≡ Some x → IsNotDone p.log call
    by_check None e = invoke_not_done p.log call (numbered_is call (p.log.count + 1) (answer_in p.mode thread o p) x e).0
    by_check (Some a) e = invoke_not_done p.log call (numbered_is call (p.log.count + 1) (Some a) x e).0

entered_answers : (p : PartState) (thread call : ℕ) (x : Answer) → answer_at call (after_enter thread p).event ≡ Some x → IsNotDone p.log call
unfolding after_enter
entered_answers p thread call x h = by_call (call_of_thread thread p.log.pending) refl h
  where
    by_admit : (c : CallEntry) → call_of_thread thread p.log.pending ≡ Some c → (a : Admit) → answer_at call (after_admit p c a).event ≡ Some x → IsNotDone p.log call
    by_admit c e (admits.Reply a) k = thread_not_done p.log thread call c e (numbered_is call c.call (Some _) x k).0
    by_admit c e admits.TakeFrame k = thread_not_done p.log thread call c e (numbered_is call c.call (Some _) x k).0
    by_admit c e (admits.Enter index) k = thread_not_done p.log thread call c e (numbered_is call c.call None x k).0

    by_call : (o : Option CallEntry) → call_of_thread thread p.log.pending ≡ o → answer_at call (entered_by p thread o).event ≡ Some x → IsNotDone p.log call
    by_call None e k = none_is_some (numbered_is call 0 None x k).1
    by_call (Some c) e k = by_admit c e (admit p.spec.class thread c.op p.log.holder _) k

crossed_answers : (context : ℕ) (p q : PartState) (x : Crossed) (call : ℕ) (a : Answer) → q.log ≡ p.log
    → (((x.answer ≡ None) × (x.state.log.pending ≡ q.log.pending)) ⊎ AnswersCall context q x)
    → answer_among call (one_answer (served_number context p) x.answer) ≡ Some a → IsNotDone p.log call
crossed_answers context p q x call a same (inl none) h = none_is_some (sym none.0 ∙ (numbered_is call (served_number context p) x.answer a h).1)
crossed_answers context p q x call a same (inr s) h =
    let found : call_of_thread context p.log.pending ≡ Some s.c = ap (λ (l : CallLog). call_of_thread context l.pending) (sym same) ∙ s.found in
    let served : served_number context p ≡ s.c.call = rw (s.other, found) refl in
    thread_not_done p.log context call s.c found (sym served ∙ (numbered_is call (served_number context p) x.answer a h).0)

burst_answers : (p : PartState) (context call : ℕ) (a : Answer) → answer_at call (burst_stepped context p).event ≡ Some a → IsNotDone p.log call
unfolding burst_stepped
burst_answers p context call a h =
    let b = domain_burst context (faults_of_burst (p.bursts + 1) p.spec.faults) p.domain in
    let q = with_burst b.domain p in
    crossed_answers context p q (after_crossing context b.ending q) call a refl (crossed_shows context b.ending q) h

stage_answers : (p : PartState) (call : ℕ) (x : Answer) → answer_at call (stage_stepped p).event ≡ Some x → IsNotDone p.log call
unfolding stage_stepped stops gives_up_part collects resets loads_image inits replays_set replays_open resumes
stage_answers p call x h = by_due (stage_due p.mode) h
  where
    at_stop : (b : Bool) → is_given_up p ≡ b → answer_at call (stage_done stage.Stop p).event ≡ Some x → IsNotDone p.log call
    at_stop true e k = open_not_done p.log call (among_gone p.failures call p.log.pending x (rw e at k))
    at_stop false e k = open_not_done p.log call (among_stop call p.log.pending p.log.config p.log.holder p.queue x (rw e at k))

    by_due : (o : Option Stage) → answer_at call (stage_by p o).event ≡ Some x → IsNotDone p.log call
    by_due None k = none_is_some k
    by_due (Some stage.Stop) k = at_stop (is_given_up p) refl k
    by_due (Some stage.Collect) k = none_is_some k
    by_due (Some stage.Reset) k = none_is_some k
    by_due (Some stage.Load) k = none_is_some k
    by_due (Some stage.Init) k = none_is_some k
    by_due (Some (stage.ReplaySet key value)) k = none_is_some k
    by_due (Some stage.ReplayOpen) k = none_is_some k
    by_due (Some stage.Resume) k = none_is_some k

step_answers : (p : PartState) (s : Step) (call : ℕ) (x : Answer) → answer_at call (event_of p s) ≡ Some x → IsNotDone p.log call
unfolding stepped after_arrival
step_answers p (step.Invoke thread o) call x h = invoked_answers p thread o call x h
step_answers p (step.Enter thread) call x h = entered_answers p thread call x h
step_answers p (step.Burst context) call x h = burst_answers p context call x h
step_answers p step.Stage call x h = stage_answers p call x h
step_answers p (step.Arrive frame) call x h = none_is_some h

-- ---- a run

-- a journal's prefix before an event
record IsCut (journal : List Event) (m : ℕ) (e : Event) : Type 0 where
  front : List Event
  back : List Event
  is : journal ≡ front ++ e ∷ back
  same : (k : ℕ) → k < m → slice_get front k ≡ slice_get journal k

cut_at : (journal : List Event) (m : ℕ) (e : Event) → slice_get journal m ≡ Some e → IsCut journal m e
cut_at [] m e h = none_is_some h
cut_at (x ∷ journal) zero e h =
    record { front = []; back = journal; is = ap {B = List Event} (λ y. y ∷ journal) (same_inside h); same = λ k l. absurd (omega arith) }
cut_at (x ∷ journal) (suc m) e h =
    let c : IsCut journal m e = cut_at journal m e h in
    record { front = x ∷ c.front; back = c.back; is = ap {B = List Event} (λ ys. x ∷ ys) c.is; same = λ k l. by_position c.front c.same k l }
  where
    by_position : (front : List Event) → ((k : ℕ) → k < m → slice_get front k ≡ slice_get journal k) → (k : ℕ) → k < suc m
        → slice_get (x ∷ front) k ≡ slice_get (x ∷ journal) k
    by_position front same zero l = refl
    by_position front same (suc k) l = same k (omega arith)

run_cut : (p : PartState) (front : List Event) (e : Event) (back : List Event) → IsRunFrom p (front ++ e ∷ back)
    → IsRunFrom p front × (event_of (state_from p front) (step_of e) ≡ e)
unfolding IsRunFrom state_from
run_cut p [] e back r = (tt, r.1)
run_cut p (x ∷ front) e back r =
    let more = run_cut (state_after p (step_of x)) front e back r.2 in
    ((r.0, r.1, more.0), more.1)

answered_in : (index call : ℕ) (journal : List Event) (k : ℕ) (e : Event) (a : Answer) → slice_get journal k ≡ Some e → answer_at call e ≡ Some a
    → is_some (answered_from index call journal) ≡ true
answered_in index call [] k e a at h = none_is_some at
answered_in index call (x ∷ journal) zero e a at h =
    let here : answer_at call x ≡ Some a = ap (answer_at call) (same_inside at) ∙ h in
    rw here refl
answered_in index call (x ∷ journal) (suc k) e a at h = split (is_some (answer_at call x))
    (λ it. rw it refl)
    (λ no. rw no (answered_in (index + 1) call journal k e a at h))

-- no second event answers a call
not_again : (spec : PartSpec) (journal : List Event) (call k m : ℕ) (e x : Event) (a b : Answer) → IsFitSpec spec → IsRun spec journal → k < m
    → slice_get journal k ≡ Some e → answer_at call e ≡ Some a → slice_get journal m ≡ Some x → answer_at call x ≡ Some b → ⊥
not_again spec journal call k m e x a b fit run l at h at' h' =
    let c : IsCut journal m x = cut_at journal m x at' in
    let r = run_cut (opening spec) c.front x c.back (subst (IsRunFrom (opening spec)) c.is run) in
    let reported : is_some (answered_at c.front call) ≡ true = answered_in 1 call c.front k e a (c.same k l ∙ at) h in
    let done : is_answered (state_of spec c.front).log call ≡ true = sym (run_answered spec c.front fit r.0 call) ∙ reported in
    let not_done : is_answered (state_of spec c.front).log call ≡ false =
    step_answers (state_of spec c.front) (step_of x) call b (ap (answer_at call) r.1 ∙ h') in
    true≢false (sym done ∙ not_done)

pub answered_once : (spec : PartSpec) (journal : List Event) (call q r : ℕ) (a b : Answer) → IsFitSpec spec → IsRun spec journal
    → IsAt journal q (IsReply call a) → IsAt journal r (IsReply call b) → a ≡ b
answered_once spec journal call zero r a b fit run x y = none_is_some x.there
answered_once spec journal call (suc k) zero a b fit run x y = none_is_some y.there
answered_once spec journal call (suc k) (suc m) a b fit run x y = by_order (cases_order k m)
  where
    by_order : (k ≡ m) ⊎ ((k < m) ⊎ (m < k)) → a ≡ b
    by_order (inl e) =
        let same : x.event ≡ y.event = same_inside (sym x.there ∙ ap (slice_get journal) e ∙ y.there) in
        same_inside (sym x.is ∙ ap (answer_at call) same ∙ y.is)
    by_order (inr (inl l)) = absurd (not_again spec journal call k m x.event y.event a b fit run l x.there x.is y.there y.is)
    by_order (inr (inr l)) = absurd (not_again spec journal call m k y.event x.event b a fit run l y.there y.is x.there x.is)
