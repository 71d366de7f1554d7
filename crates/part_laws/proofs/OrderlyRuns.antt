-- Every run is orderly, which follows from what each step of a part does to its open calls.
use Rattle.std.proofs.Common.{◌≡◌, ◌⊎◌, inl, inr, ℕ, ◌+◌, ◌&&◌, not, Bool, true, false, Option, Some, None, Result, Ok, Err, List, [], ◌∷◌, ◌++◌, length, filter, sym, refl, ap, ◌∙◌, subst, arith}
use Rattle.std.specs.Prelude.{◌==◌}
use Rattle.nook_data.specs.declared.classes.Accept.{Accept}
use Rattle.nook_data.specs.declared.classes.Accept.TheVariants as accepts
use Rattle.nook_data.specs.declared.classes.Admit.{Admit}
use Rattle.nook_data.specs.declared.classes.Admit.TheVariants as admits
use Rattle.nook_data.specs.declared.calls.Answer.{Answer}
use Rattle.nook_data.specs.declared.calls.CallEntry.{CallEntry}
use Rattle.nook_data.specs.declared.steps.Event.{Event}
use Rattle.nook_data.specs.declared.steps.Event.TheVariants as event
use Rattle.nook_data.specs.declared.calls.Op.{Op}
use Rattle.nook_data.specs.declared.scenario.PartSpec.{PartSpec}
use Rattle.nook_data.specs.declared.steps.Stage.{Stage}
use Rattle.nook_data.specs.declared.steps.Stage.TheVariants as stage
use Rattle.nook_data.specs.declared.steps.Step.{Step}
use Rattle.nook_data.specs.declared.steps.Step.TheVariants as step
use Rattle.nook_data.specs.declared.machine.BadParam.{BadParam}
use Rattle.nook_data.specs.declared.machine.BurstEnd.{BurstEnd}
use Rattle.nook_data.specs.declared.machine.BurstEnd.TheVariants as ends
use Rattle.nook_data.specs.declared.machine.Service.{Service}
use Rattle.part_defs.specs.Calls.{after_admit, answer_in, after_enter, after_invoke, invoked_with, queue_in}
use Rattle.nook_data.specs.Classes.{accept, static_check}
use Rattle.part_defs.specs.Crossing.{Crossed, call_replied, closes_call, after_crossing, fails, is_accepted, is_last}
use Rattle.part_defs.specs.Crossing.{next_stage, shadow_replied}
use Rattle.part_defs.specs.Domain.{DomainBurst, domain_burst}
use Rattle.part_defs.specs.Log.{after_acknowledging, after_answering, call_of_thread, after_entering, gone_answers}
use Rattle.part_defs.specs.Log.{is_call, with_answered_call, opening_log, stop_answers, with_call}
use Rattle.part_defs.proofs.PartCases.{burst_event, entered_by, invoked_by, new_entry, number_of_call, reply_by}
use Rattle.part_defs.proofs.PartCases.{serve_by, stage_by, with_burst}
use Rattle.part_defs.specs.Runs.{IsRun, IsRunFrom, event_of, state_after, step_of}
use Rattle.part_defs.specs.Stages.{collects, gives_up_part, inits, is_given_up, loads_image, replays_open, replays_set}
use Rattle.part_defs.specs.Stages.{resets, resumes, stage_done, stage_due, stage_stepped, stops}
use Rattle.part_defs.specs.State.{CallLog, PartState}
use Rattle.part_defs.specs.Steps.{after_arrival, burst_stepped, can_burst, enabled, is_inside, is_ready, is_running}
use Rattle.part_defs.specs.Steps.{opening, served_number, stepped}
use Rattle.machine_defs.specs.BurstFaults.{faults_of_burst}
use Rattle.part_laws.proofs.Indices.{split}
use Rattle.nook_data.specs.Answers.{one_answer}
use Rattle.part_laws.specs.Orderly.{AreOwn, IsCrossing, IsFitting, IsOfCall, IsOrderlyFrom, flags_after, is_open, is_reported, kept_from}
use Rattle.part_laws.proofs.Numbers.{AreOpen, Has, RisesFrom, found_has, gone_keeps, gone_own, has_open, length_kept, length_push, numbers_answered, numbers_entered, numbers_of, numbers_push, opened, opened_kept, opened_push, opened_rises, opened_shut, stop_keeps, stop_own}
use Rattle.part_laws.proofs.Picked.{kept_new, kept_none}

-- the flags say which calls are open
record Flagged (flags : List Bool) (log : CallLog) : Type 0 where
  pub numbers : numbers_of log.pending ≡ opened 1 flags
  pub count : log.count ≡ length flags

-- a step's event fits, and the flags follow it
record Follows (flags : List Bool) (log : CallLog) (e : Event) : Type 0 where
  pub fits : IsFitting flags e
  pub flagged : Flagged (flags_after flags e) log

-- nothing is answered, and the same calls are open
flagged_same : (flags : List Bool) (a b : CallLog) → Flagged flags a → numbers_of b.pending ≡ numbers_of a.pending → b.count ≡ a.count
    → Flagged (kept_from 1 [] flags) b
flagged_same flags a b f n c = record {
  numbers = n ∙ f.numbers ∙ ap (opened 1) (sym (kept_none 1 flags));
  count = c ∙ f.count ∙ ap length (sym (kept_none 1 flags));
}

flagged_answered : (flags : List Bool) (call : ℕ) (x : Answer) (a b : CallLog) → Flagged flags a
    → b.pending ≡ filter (λ d. not (is_call call d)) a.pending → b.count ≡ a.count → Flagged (kept_from 1 ((call, x) ∷ []) flags) b
flagged_answered flags call x a b f p c = record {
  numbers = ap numbers_of p ∙ numbers_answered call x a.pending flags f.numbers;
  count = c ∙ f.count ∙ sym (length_kept ((call, x) ∷ []) 1 flags);
}

open_calls : (flags : List Bool) (log : CallLog) → Flagged flags log → AreOpen flags log.pending
open_calls flags log f n h = has_open n 1 flags (subst (Has n) f.numbers h)

open_found : (flags : List Bool) (log : CallLog) (thread : ℕ) (c : CallEntry) → Flagged flags log → call_of_thread thread log.pending ≡ Some c
    → is_open c.call 1 flags ≡ true
open_found flags log thread c f h = open_calls flags log f c.call (found_has thread log.pending c h)

log_rises : (flags : List Bool) (log : CallLog) → Flagged flags log → RisesFrom 1 (numbers_of log.pending)
log_rises flags log f = subst (RisesFrom 1) (sym f.numbers) (opened_rises 1 flags)

-- ---- invocations

invoke_held : (flags : List Bool) (log : CallLog) (thread : ℕ) (o : Op) → Flagged flags log
    → Follows flags (with_call thread o log) (event.Invoke (log.count + 1) thread o None)
unfolding with_call
invoke_held flags log thread o f = record {
  fits = let c = f.count in omega arith;
  flagged = record {
    numbers = numbers_push log.pending (new_entry (log.count + 1) thread o)
        ∙ ap (λ l. l ++ (log.count + 1) ∷ []) f.numbers
        ∙ ap (λ n. opened 1 flags ++ n ∷ []) (let c = f.count in omega arith)
        ∙ sym (opened_push 1 flags)
        ∙ ap (opened 1) (sym (kept_none 1 (flags ++ true ∷ [])));
    count = let c = f.count in
        let l = length_push flags true in
        let k = length_kept [] 1 (flags ++ true ∷ []) in
        omega arith;
  };
}

invoke_at_once : (flags : List Bool) (log : CallLog) (thread : ℕ) (o : Op) (a : Answer) → Flagged flags log
    → Follows flags (with_answered_call log) (event.Invoke (log.count + 1) thread o (Some a))
unfolding with_answered_call
invoke_at_once flags log thread o a f = record {
  fits = let c = f.count in omega arith;
  flagged = subst (λ l. Flagged l (with_answered_call log)) (sym (kept_new 1 flags a) ∙ ap (λ n. kept_from 1 ((n, a) ∷ []) (flags ++ true ∷ [])) (let c = f.count in omega arith))
      (record {
        numbers = f.numbers ∙ sym (opened_shut 1 flags);
        count = let c = f.count in let l = length_push flags false in omega arith;
      });
}

invoke_logged : (flags : List Bool) (p : PartState) (thread : ℕ) (o : Op) (a : Option Answer) (queue : List (List ℕ)) → Flagged flags p.log
    → Follows flags (invoked_with p thread o a queue).state.log (invoked_with p thread o a queue).event
invoke_logged flags p thread o None queue f = invoke_held flags p.log thread o f
invoke_logged flags p thread o (Some a) queue f = invoke_at_once flags p.log thread o a f

invoke_follows : (flags : List Bool) (p : PartState) (thread : ℕ) (o : Op) (a : Option Answer) → Flagged flags p.log
    → Follows flags (invoked_by p thread o a).state.log (invoked_by p thread o a).event
invoke_follows flags p thread o None f = invoke_logged flags p thread o (answer_in p.mode thread o p) (queue_in p.mode o p.queue) f
invoke_follows flags p thread o (Some a) f = invoke_logged flags p thread o (Some a) p.queue f

-- ---- entries

admit_follows : (flags : List Bool) (p : PartState) (c : CallEntry) (a : Admit) → Flagged flags p.log → is_open c.call 1 flags ≡ true
    → Follows flags (after_admit p c a).state.log (after_admit p c a).event
unfolding after_answering after_entering
admit_follows flags p c (admits.Reply a) f h = record { fits = h; flagged = flagged_answered flags c.call a p.log (after_answering c.call p.log) f refl refl }
admit_follows flags p c admits.TakeFrame f h = record { fits = h; flagged = flagged_answered flags c.call _ p.log (after_answering c.call p.log) f refl refl }
admit_follows flags p c (admits.Enter index) f h = record {
  fits = h;
  flagged = flagged_same flags p.log (after_entering c.call p.log) f (numbers_entered c.call p.log.pending) refl;
}

second_true : (a b : Bool) → (a && b) ≡ true → b ≡ true
second_true true b e = e
second_true false b e = absurd cc

enter_follows : (flags : List Bool) (p : PartState) (thread : ℕ) (o : Option CallEntry) → call_of_thread thread p.log.pending ≡ o
    → is_ready p o ≡ true → Flagged flags p.log → Follows flags (entered_by p thread o).state.log (entered_by p thread o).event
enter_follows flags p thread None e r f = absurd cc
enter_follows flags p thread (Some c) e r f = admit_follows flags p c _ f (open_found flags p.log thread c f e)

-- ---- bursts

-- a crossing answers the call of its context
pub record ClosesCall (context : ℕ) (p : PartState) (x : Crossed) : Type 0 where
  pub c : CallEntry
  pub a : Answer
  pub other : (context == 16) ≡ false
  pub found : call_of_thread context p.log.pending ≡ Some c
  pub reported : x.answer ≡ Some a
  pub closed : x.state.log.pending ≡ filter (λ d. not (is_call c.call d)) p.log.pending
  pub count : x.state.log.count ≡ p.log.count

-- or nothing
pub record ClosesNone (p : PartState) (x : Crossed) : Type 0 where
  pub reported : x.answer ≡ None
  pub pending : x.state.log.pending ≡ p.log.pending
  pub count : x.state.log.count ≡ p.log.count

abbrev pub Crosses : ℕ → PartState → Crossed → Type 0
Crosses context p x = IsCrossing x.end x.answer x.failure × (ClosesNone p x ⊎ ClosesCall context p x)

none_closed : (p : PartState) (x : Crossed) → x.answer ≡ None → x.state.log.pending ≡ p.log.pending → x.state.log.count ≡ p.log.count
    → ClosesNone p x
none_closed p x t n c = record { reported = t; pending = n; count = c }

serve_crosses : (number context : ℕ) (p : PartState) (r : Result Service BadParam) → Crosses context p (serve_by number context p r)
unfolding fails
serve_crosses number context p (Err bad) = (tt, inl (none_closed p (serve_by number context p (Err bad)) refl refl refl))
serve_crosses number context p (Ok s) = (tt, inl (none_closed p (serve_by number context p (Ok s)) refl refl refl))

reply_crosses : (status context : ℕ) (p : PartState) (o : Option CallEntry) → (context == 16) ≡ false → call_of_thread context p.log.pending ≡ o
    → Crosses context p (call_replied status p o)
unfolding fails closes_call after_answering after_acknowledging
reply_crosses status context p None e h = (tt, inl (none_closed p (call_replied status p None) refl refl refl))
reply_crosses status context p (Some c) e h = by_accept (accept c.op status)
  where
    by_accept : (a : Accept) → Crosses context p (reply_by c status p a)
    by_accept accepts.Take = (tt, inr (record { c = c; a = _; other = e; found = h; reported = refl; closed = refl; count = refl }))
    by_accept (accepts.IoError block) = (tt, inr (record { c = c; a = _; other = e; found = h; reported = refl; closed = refl; count = refl }))
    by_accept (accepts.Fail cause) = (tt, inl (none_closed p (reply_by c status p (accepts.Fail cause)) refl refl refl))

shadow_crosses : (status context : ℕ) (p : PartState) → Crosses context p (shadow_replied status p)
unfolding fails next_stage
shadow_crosses status context p = split (is_accepted status p)
    (λ e. rw e (tt, inl (record { reported = refl; pending = refl; count = refl })))
    (λ e. rw e (tt, inl (record { reported = refl; pending = refl; count = refl })))

pub crossing_crosses : (context : ℕ) (e : BurstEnd) (p : PartState) → Crosses context p (after_crossing context e p)
unfolding after_crossing fails
crossing_crosses context (ends.Trap cause) p = (tt, inl (record { reported = refl; pending = refl; count = refl }))
crossing_crosses context (ends.Kcall number) p = split (is_last context p)
    (λ e. rw e (tt, inl (record { reported = refl; pending = refl; count = refl })))
    (λ e. rw e (serve_crosses number context p _))
crossing_crosses context ends.Pause p = split (is_last context p)
    (λ e. rw e (tt, inl (record { reported = refl; pending = refl; count = refl })))
    (λ e. rw e (tt, inl (record { reported = refl; pending = refl; count = refl })))
crossing_crosses context (ends.Reply status) p = split (context == 16)
    (λ e. rw e (shadow_crosses status context p))
    (λ e. rw e (reply_crosses status context p (call_of_thread context p.log.pending) e refl))

-- a burst that may be done belongs to the shadow's own call or to an open one
burst_of_call : (flags : List Bool) (p : PartState) (context : ℕ) → Flagged flags p.log → can_burst p context ≡ true
    → IsOfCall (served_number context p) flags
burst_of_call flags p context f h = split (context == 16)
    (λ e. inl (rw e refl))
    (λ e. by_call e (call_of_thread context p.log.pending) refl (second_true (is_running p.mode) (is_inside (call_of_thread context p.log.pending)) (rw e at h)))
  where
    by_call : (context == 16) ≡ false → (o : Option CallEntry) → call_of_thread context p.log.pending ≡ o
        → is_inside (call_of_thread context p.log.pending) ≡ true → IsOfCall (served_number context p) flags
    by_call e None i k = let n : is_inside None ≡ true = subst (λ o. is_inside o ≡ true) i k in absurd cc
    by_call e (Some c) i k = inr (rw e (rw i (open_found flags p.log context c f i)))

pub served_is : (context : ℕ) (p : PartState) (c : CallEntry) → (context == 16) ≡ false → call_of_thread context p.log.pending ≡ Some c
    → served_number context p ≡ c.call
served_is context p c n e = rw n (ap number_of_call e)

-- what a burst answers
answers_follow : (flags : List Bool) (context : ℕ) (p : PartState) (x : Crossed) → Flagged flags p.log → ClosesNone p x ⊎ ClosesCall context p x
    → AreOwn flags (one_answer (served_number context p) x.answer)
    × Flagged (kept_from 1 (one_answer (served_number context p) x.answer) flags) x.state.log
answers_follow flags context p x f (inl k) =
    subst (λ a. AreOwn flags (one_answer (served_number context p) a)
    × Flagged (kept_from 1 (one_answer (served_number context p) a) flags) x.state.log) (sym k.reported)
    (tt, flagged_same flags p.log x.state.log f (ap numbers_of k.pending) k.count)
answers_follow flags context p x f (inr k) =
    subst (λ a. AreOwn flags (one_answer (served_number context p) a)
    × Flagged (kept_from 1 (one_answer (served_number context p) a) flags) x.state.log) (sym k.reported)
    (subst (λ n. AreOwn flags ((n, k.a) ∷ []) × Flagged (kept_from 1 ((n, k.a) ∷ []) flags) x.state.log)
    (sym (served_is context p k.c k.other k.found))
    ((open_found flags p.log context k.c f k.found, refl, tt), flagged_answered flags k.c.call k.a p.log x.state.log f k.closed k.count))

burst_follows : (flags : List Bool) (context : ℕ) (p : PartState) (b : DomainBurst) → Flagged flags p.log → can_burst p context ≡ true
    → Follows flags (burst_event context p b (after_crossing context b.ending (with_burst b.domain p))).state.log
    (burst_event context p b (after_crossing context b.ending (with_burst b.domain p))).event
burst_follows flags context p b f h =
    let x : Crossed = after_crossing context b.ending (with_burst b.domain p) in
    let crosses : Crosses context (with_burst b.domain p) x = crossing_crosses context b.ending (with_burst b.domain p) in
    let reported = answers_follow flags context (with_burst b.domain p) x f crosses.1 in
    record { fits = (burst_of_call flags p context f h, reported.0, crosses.0); flagged = reported.1 }

-- ---- stages

plain_stage : (flags : List Bool) (log : CallLog) → Flagged flags log → Flagged (kept_from 1 [] flags) log
plain_stage flags log f = flagged_same flags log log f refl refl

stop_follows : (flags : List Bool) (p : PartState) → Flagged flags p.log → Follows flags (stops p).state.log (stops p).event
unfolding stops
stop_follows flags p f =
    let answers = stop_answers p.log.pending p.log.config p.log.holder p.queue in
    record {
      fits = (tt, stop_own 1 flags p.log.pending p.log.config p.log.holder p.queue (log_rises flags p.log f) (open_calls flags p.log f));
      flagged = record {
        numbers = sym (stop_keeps 1 p.log.pending p.log.config p.log.holder p.queue (log_rises flags p.log f))
            ∙ ap (filter (λ n. not (is_reported answers n))) f.numbers ∙ sym (opened_kept answers 1 flags);
        count = f.count ∙ sym (length_kept answers 1 flags);
      };
    }

give_up_follows : (flags : List Bool) (p : PartState) → Flagged flags p.log → Follows flags (gives_up_part p).state.log (gives_up_part p).event
unfolding gives_up_part
give_up_follows flags p f =
    let answers = gone_answers p.failures p.log.pending in
    record {
      fits = (tt, gone_own 1 p.failures flags p.log.pending (log_rises flags p.log f) (open_calls flags p.log f));
      flagged = record {
        numbers = sym (gone_keeps 1 p.failures p.log.pending (log_rises flags p.log f))
            ∙ ap (filter (λ n. not (is_reported answers n))) f.numbers ∙ sym (opened_kept answers 1 flags);
        count = f.count ∙ sym (length_kept answers 1 flags);
      };
    }

done_follows : (flags : List Bool) (s : Stage) (p : PartState) → Flagged flags p.log → Follows flags (stage_done s p).state.log (stage_done s p).event
unfolding collects resets loads_image inits replays_set replays_open resumes
done_follows flags stage.Stop p f = split (is_given_up p)
    (λ e. rw e (give_up_follows flags p f))
    (λ e. rw e (stop_follows flags p f))
done_follows flags stage.Collect p f = record { fits = (refl, tt); flagged = plain_stage flags p.log f }
done_follows flags stage.Reset p f = record { fits = (refl, tt); flagged = plain_stage flags p.log f }
done_follows flags stage.Load p f = record { fits = (refl, tt); flagged = plain_stage flags p.log f }
done_follows flags stage.Init p f = record { fits = (refl, tt); flagged = plain_stage flags p.log f }
done_follows flags (stage.ReplaySet key value) p f = record { fits = (refl, tt); flagged = plain_stage flags p.log f }
done_follows flags stage.ReplayOpen p f = record { fits = (refl, tt); flagged = plain_stage flags p.log f }
done_follows flags stage.Resume p f = record { fits = (refl, tt); flagged = plain_stage flags p.log f }

stage_follows : (flags : List Bool) (p : PartState) (o : Option Stage) → Flagged flags p.log → Follows flags (stage_by p o).state.log (stage_by p o).event
stage_follows flags p None f = record { fits = (refl, tt); flagged = plain_stage flags p.log f }
stage_follows flags p (Some s) f = done_follows flags s p f

-- ---- steps and runs

step_follows : (flags : List Bool) (p : PartState) (s : Step) → Flagged flags p.log → enabled p s ≡ true
    → Follows flags (state_after p s).log (event_of p s)
unfolding enabled stepped after_invoke after_enter burst_stepped stage_stepped after_arrival
step_follows flags p (step.Invoke thread o) f h = invoke_follows flags p thread o (static_check p.spec.class p.spec.blocks o) f
step_follows flags p (step.Enter thread) f h = enter_follows flags p thread (call_of_thread thread p.log.pending) refl
    (second_true (is_running p.mode) (is_ready p (call_of_thread thread p.log.pending)) h) f
step_follows flags p (step.Burst context) f h =
    burst_follows flags context p (domain_burst context (faults_of_burst (p.bursts + 1) p.spec.faults) p.domain) f h
step_follows flags p step.Stage f h = stage_follows flags p (stage_due p.mode) f
step_follows flags p (step.Arrive frame) f h = record { fits = tt; flagged = plain_stage flags p.log f }

orderly_from : (flags : List Bool) (p : PartState) (events : List Event) → Flagged flags p.log → IsRunFrom p events → IsOrderlyFrom flags events
unfolding IsRunFrom
orderly_from flags p [] f r = tt
orderly_from flags p (e ∷ events) f r =
    let s : Follows flags (state_after p (step_of e)).log e =
    subst (Follows flags (state_after p (step_of e)).log) r.1 (step_follows flags p (step_of e) f r.0) in
    (s.fits, orderly_from (flags_after flags e) (state_after p (step_of e)) events s.flagged r.2)

none_flagged : (spec : PartSpec) → Flagged [] (opening spec).log
unfolding opening opening_log
none_flagged spec = record { numbers = refl; count = refl }

pub run_orderly : (spec : PartSpec) (journal : List Event) → IsRun spec journal → IsOrderlyFrom [] journal
run_orderly spec journal r = orderly_from [] (opening spec) journal (none_flagged spec) r
