-- Each step of a part leaves open only calls that their own thread invoked and that nothing has answered.
use Rattle.std.proofs.Common.{◌≡◌, ◌⊎◌, ℕ, ◌+◌, ◌<◌, ◌≤◌, Bool, true, false, cond, Option, Some, None, List, [], ◌∷◌, filter, find, subst, sym, refl, ap, ◌∙◌, inl, inr, arith, eqb-true}
use Rattle.std.specs.Prelude.{if◌then◌else◌, ◌==◌}
use Rattle.std.specs.List.{AllByRecursion}
use Rattle.std.proofs.lemmas.Bool.Decides.{nat_tests}
use Rattle.nook_data.specs.declared.classes.Admit.{Admit}
use Rattle.nook_data.specs.declared.classes.Admit.TheVariants as admits
use Rattle.nook_data.specs.declared.calls.Answer.{Answer}
use Rattle.nook_data.specs.declared.calls.CallEntry.{CallEntry}
use Rattle.nook_data.specs.declared.machine.Act.{Act}
use Rattle.nook_data.specs.declared.calls.Answer.TheVariants as answer
use Rattle.nook_data.specs.declared.steps.End.{End}
use Rattle.nook_data.specs.declared.entries.Entry.{Entry}
use Rattle.nook_data.specs.declared.steps.FailCause.{FailCause}
use Rattle.nook_data.specs.declared.steps.Event.{Event}
use Rattle.nook_data.specs.declared.steps.Event.TheVariants as event
use Rattle.nook_data.specs.declared.calls.Op.{Op}
use Rattle.nook_data.specs.declared.calls.Op.TheVariants as op
use Rattle.nook_data.specs.declared.steps.Stage.{Stage}
use Rattle.nook_data.specs.declared.steps.Stage.TheVariants as stage
use Rattle.nook_data.specs.declared.steps.Step.{Step}
use Rattle.nook_data.specs.declared.steps.Step.TheVariants as step
use Rattle.part_defs.specs.Calls.{after_admit, answer_in, queue_in, after_enter, after_invoke, invoked_with}
use Rattle.nook_data.specs.Classes.{static_check}
use Rattle.part_defs.specs.Crossing.{Crossed, after_crossing}
use Rattle.nook_data.specs.Frames.{head_of}
use Rattle.part_defs.specs.Domain.{DomainBurst, domain_burst}
use Rattle.machine_defs.specs.Entries.{released}
use Rattle.part_defs.specs.Log.{after_answering, call_of_thread, after_entering, gone_answers, held_call, is_held}
use Rattle.part_defs.specs.Log.{queue_after, shadow_answer, stop_answers, with_answer}
use Rattle.part_defs.specs.Views.CallLogs.{IsNumbered}
use Rattle.part_defs.proofs.PartCases.{burst_event, change_entry, entered_by, entered_call, invoked_by, is_of_thread}
use Rattle.part_defs.proofs.PartCases.{stage_by, with_burst}
use Rattle.part_defs.specs.Runs.{IsRunFrom, event_of, state_after, state_from, step_of}
use Rattle.nook_data.specs.Answers.{answer_among}
use Rattle.part_defs.specs.Stages.{collects, gives_up_part, inits, is_given_up, loads_image, replays_open, replays_set}
use Rattle.part_defs.specs.Stages.{resets, resumes, stage_done, stage_due, stage_stepped, stops}
use Rattle.part_defs.specs.State.{PartState}
use Rattle.part_defs.specs.Steps.{after_arrival, burst_stepped, served_number, stepped}
use Rattle.machine_defs.specs.BurstFaults.{faults_of_burst}
use Rattle.part_laws.proofs.CallNumbers.{AllOpen, CameFrom, HasEntry, InvokesAbove, KeepsCall, Quiet, Silent, LogStepped, all_bounds, none_call, numbered_bound, numbered_filter, numbered_map, open_both, open_filter, open_has, open_itself, open_map, open_weaker, other_call, small_calls, stepped_answered, stepped_at_once, stepped_changed, stepped_open, stepped_same}
use Rattle.part_laws.proofs.OrderlyRuns.{ClosesCall, ClosesNone, crossing_crosses, served_is}
use Rattle.part_laws.proofs.Indices.{split}

above_one : (a b : ℕ) (e : Event) → a ≤ b → InvokesAbove b e → InvokesAbove a e
above_one a b (event.Invoke c t o answer) l h = omega arith
above_one a b (event.Enter c t attempt answer) l h = tt
above_one a b (event.Burst context c burst count end acts answer failure) l h = tt
above_one a b (event.Stage s answers released) l h = tt
above_one a b (event.Arrive frame kept) l h = tt

above_more : (a b : ℕ) (events : List Event) → a ≤ b → AllByRecursion (InvokesAbove b) events → AllByRecursion (InvokesAbove a) events
above_more a b [] l h = tt
above_more a b (e ∷ events) l h = (above_one a b e l h.0, above_more a b events l h.1)

if_other : {X : Type 0} (n m : ℕ) (x y : X) → (n ≡ m → ⊥) → (if n == m then x else y) ≡ y
if_other n m x y h = grind (arith, nat_tests)

-- an answer to another call is skipped
skipped : (call c : ℕ) (a : Option Answer) (answers : List (ℕ × Answer)) → (c ≡ call → ⊥) → answer_among call answers ≡ None → answer_among call (with_answer c a answers) ≡ None
skipped call c None answers n h = h
skipped call c (Some a) answers n h = if_other c call (Some a) (answer_among call answers) n ∙ h

-- ---- invocations

invoke_logged : (p : PartState) (thread : ℕ) (o : Op) (a : Option Answer) (queue : List (List ℕ)) → IsNumbered 0 p.log.count p.log.pending
    → LogStepped p.log (invoked_with p thread o a queue).state.log (invoked_with p thread o a queue).event
invoke_logged p thread o None queue h = stepped_open p.log thread o h
invoke_logged p thread o (Some a) queue h = stepped_at_once p.log thread o a h

invoke_by : (p : PartState) (thread : ℕ) (o : Op) (a : Option Answer) → IsNumbered 0 p.log.count p.log.pending → LogStepped p.log (invoked_by p thread o a).state.log (invoked_by p thread o a).event
invoke_by p thread o None h = invoke_logged p thread o (answer_in p.mode thread o p) (queue_in p.mode o p.queue) h
invoke_by p thread o (Some a) h = invoke_logged p thread o (Some a) p.queue h

-- ---- entries

abbrev or_entry : CallEntry → Option CallEntry → CallEntry
or_entry x None = x
or_entry x (Some y) = y

pub found_has : (thread : ℕ) (xs : List CallEntry) (c : CallEntry) → call_of_thread thread xs ≡ Some c → HasEntry xs c.call thread
found_has thread [] c h = absurd cc
found_has thread (x ∷ xs) c h = by_test (x.thread == thread) refl (found_has thread xs c)
  where
    by_test : (b : Bool) → (x.thread == thread) ≡ b → (call_of_thread thread xs ≡ Some c → HasEntry xs c.call thread) → HasEntry (x ∷ xs) c.call thread
    by_test true q later =
        let e : x ≡ c = ap (or_entry x) (sym (ap (λ b. cond b (Some x) (find (is_of_thread thread) xs)) q) ∙ h) in
        inl (ap (λ (y : CallEntry). y.call) e, eqb-true x.thread thread q)
    by_test false q later = inr (later (sym (ap (λ b. cond b (Some x) (find (is_of_thread thread) xs)) q) ∙ h))

enters_keep : (call : ℕ) → KeepsCall (change_entry call entered_call)
enters_keep call x = elim (x.call == call) as (λ b. ((if b then entered_call x else x).call ≡ x.call) × ((if b then entered_call x else x).thread ≡ x.thread)) [ true ↦ (refl, refl) | false ↦ (refl, refl) ]

enter_silent : (call thread attempt : ℕ) → Silent (event.Enter call thread attempt None)
enter_silent call thread attempt = (λ c t. (none_call c call, tt), λ n. tt)

admit_law : (p : PartState) (c : CallEntry) (a : Admit) → IsNumbered 0 p.log.count p.log.pending → c.call ≤ p.log.count → LogStepped p.log (after_admit p c a).state.log (after_admit p c a).event
unfolding after_answering after_entering
admit_law p c (admits.Reply a) h l =
    stepped_answered p.log (after_answering c.call p.log) (event.Enter c.call c.thread (c.attempts + 1) (Some a)) c.call h l refl refl (λ d t n. (other_call d c.call (Some a) n, tt)) (λ n. tt)
admit_law p c admits.TakeFrame h l =
    stepped_answered p.log (after_answering c.call p.log) (after_admit p c admits.TakeFrame).event c.call h l refl refl (λ d t n. (other_call d c.call (Some (answer.Frame (head_of p.queue))) n, tt)) (λ n. tt)
admit_law p c (admits.Enter index) h l =
    stepped_changed p.log (after_entering c.call p.log) (event.Enter c.call c.thread (c.attempts + 1) None) (change_entry c.call entered_call) (enters_keep c.call) h refl refl (enter_silent c.call c.thread (c.attempts + 1))

enter_by : (p : PartState) (thread : ℕ) (o : Option CallEntry) → call_of_thread thread p.log.pending ≡ o → IsNumbered 0 p.log.count p.log.pending → LogStepped p.log (entered_by p thread o).state.log (entered_by p thread o).event
enter_by p thread None e h = stepped_same p.log p.log (event.Enter 0 thread 0 None) h refl refl (enter_silent 0 thread 0)
enter_by p thread (Some c) e h =
    admit_law p c _ h (open_has (λ d t. d ≤ p.log.count) p.log.pending c.call thread (small_calls p.log.count p.log.pending h) (found_has thread p.log.pending c e))

-- ---- bursts

burst_silent : (context call burst count : ℕ) (e : End) (acts : List Act) (f : Option FailCause) → Silent (event.Burst context call burst count e acts None f)
burst_silent context call burst count e acts f = (λ c t. (none_call c call, tt), λ n. tt)

-- a crossing does not change the open calls, or answers the context's own call
burst_by : (context : ℕ) (p : PartState) (b : DomainBurst) (x : Crossed) → IsNumbered 0 p.log.count p.log.pending
    → ClosesNone (with_burst b.domain p) x ⊎ ClosesCall context (with_burst b.domain p) x
    → LogStepped p.log (burst_event context p b x).state.log (burst_event context p b x).event
burst_by context p b x h (inl k) =
    stepped_same p.log x.state.log (burst_event context p b x).event h k.pending k.count
    (subst (λ a. Silent (event.Burst context (served_number context p) (p.bursts + 1) b.count x.end b.acts a x.failure)) (sym k.reported)
    (burst_silent context (served_number context p) (p.bursts + 1) b.count x.end b.acts x.failure))
burst_by context p b x h (inr k) =
    let served = served_is context p k.c k.other k.found in
    stepped_answered p.log x.state.log (burst_event context p b x).event k.c.call h
    (open_has (λ d t. d ≤ p.log.count) p.log.pending k.c.call context (small_calls p.log.count p.log.pending h)
    (found_has context p.log.pending k.c k.found)) k.closed k.count
    (λ d t n. (other_call d (served_number context p) x.answer (λ q. n (sym served ∙ q)), tt)) (λ n. tt)

-- ---- stages

answers_above : (low count call : ℕ) (xs : List CallEntry) (config : List ℕ) (holder : Option ℕ) (queue : List (List ℕ)) → IsNumbered low count xs → call ≤ low → answer_among call (stop_answers xs config holder queue) ≡ None
answers_above low count call [] config holder queue h l = refl
answers_above low count call (x ∷ xs) config holder queue h l =
    let rest = answers_above x.call count call xs config holder (queue_after x.op queue) h.1 (let m = h.0 in omega arith) in
    skipped call x.call (shadow_answer x.op x.thread config holder stage.Stop queue) (stop_answers xs config holder (queue_after x.op queue)) (λ e. absurd (let m = h.0 in omega arith)) rest

answers_below : (low count call : ℕ) (xs : List CallEntry) (config : List ℕ) (holder : Option ℕ) (queue : List (List ℕ)) → IsNumbered low count xs → count < call → answer_among call (stop_answers xs config holder queue) ≡ None
answers_below low count call [] config holder queue h l = refl
answers_below low count call (x ∷ xs) config holder queue h l =
    let rest = answers_below x.call count call xs config holder (queue_after x.op queue) h.1 l in
    let bound = numbered_bound x.call count xs h.1 in
    skipped call x.call (shadow_answer x.op x.thread config holder stage.Stop queue) (stop_answers xs config holder (queue_after x.op queue)) (λ e. absurd (omega arith)) rest

kept_open : (o : Op) (thread : ℕ) (config : List ℕ) (holder : Option ℕ) (s : Stage) (queue : List (List ℕ)) → is_held o ≡ true → shadow_answer o thread config holder s queue ≡ None
unfolding shadow_answer
kept_open (op.Read first count) thread config holder s queue h = refl
kept_open (op.Write first words) thread config holder s queue h = refl
kept_open (op.Send frame) thread config holder s queue h = absurd cc
kept_open op.Recv thread config holder s queue h = absurd cc
kept_open op.Open thread config holder s queue h = absurd cc
kept_open (op.Play samples) thread config holder s queue h = absurd cc
kept_open op.Close thread config holder s queue h = refl
kept_open (op.Get key) thread config holder s queue h = absurd cc
kept_open (op.Set key value) thread config holder s queue h = refl

kept_unanswered : (low count : ℕ) (xs : List CallEntry) (config : List ℕ) (holder : Option ℕ) (queue : List (List ℕ)) → IsNumbered low count xs
    → AllOpen (λ c t. answer_among c (stop_answers xs config holder queue) ≡ None) (filter (λ c. is_held c.op) xs)
kept_unanswered low count [] config holder queue h = tt
kept_unanswered low count (x ∷ xs) config holder queue h =
    by_test (is_held x.op) refl
    (open_weaker (λ c t. (x.call < c) × (answer_among c (stop_answers xs config holder (queue_after x.op queue)) ≡ None)) (λ c t. answer_among c (stop_answers (x ∷ xs) config holder queue) ≡ None) (filter (λ c. is_held c.op) xs)
    (λ c t k. skipped c x.call (shadow_answer x.op x.thread config holder stage.Stop queue) (stop_answers xs config holder (queue_after x.op queue)) (λ e. absurd (let m = k.0 in omega arith)) k.1)
    (open_both (λ c t. x.call < c) (λ c t. answer_among c (stop_answers xs config holder (queue_after x.op queue)) ≡ None) (filter (λ c. is_held c.op) xs)
    (open_filter (λ c t. x.call < c) (λ c. is_held c.op) xs (above xs (all_bounds x.call count xs h.1)))
    (kept_unanswered x.call count xs config holder (queue_after x.op queue) h.1)))
  where
    above : (ys : List CallEntry) → AllByRecursion (λ y. (x.call < y.call) × (y.call ≤ count)) ys → AllOpen (λ c t. x.call < c) ys
    above [] k = tt
    above (y ∷ ys) k = (k.0.0, above ys k.1)

    by_test : (b : Bool) → is_held x.op ≡ b → AllOpen (λ c t. answer_among c (stop_answers (x ∷ xs) config holder queue) ≡ None) (filter (λ c. is_held c.op) xs)
        → AllOpen (λ c t. answer_among c (stop_answers (x ∷ xs) config holder queue) ≡ None) (cond (is_held x.op) (x ∷ filter (λ c. is_held c.op) xs) (filter (λ c. is_held c.op) xs))
    by_test false q r = subst (λ b. AllOpen (λ c t. answer_among c (stop_answers (x ∷ xs) config holder queue) ≡ None) (cond b (x ∷ filter (λ c. is_held c.op) xs) (filter (λ c. is_held c.op) xs))) (sym q) r
    by_test true q r =
        subst (λ b. AllOpen (λ c t. answer_among c (stop_answers (x ∷ xs) config holder queue) ≡ None) (cond b (x ∷ filter (λ c. is_held c.op) xs) (filter (λ c. is_held c.op) xs))) (sym q) (
          ap (λ a. answer_among x.call (with_answer x.call a (stop_answers xs config holder (queue_after x.op queue)))) (kept_open x.op x.thread config holder stage.Stop queue q)
              ∙ answers_above x.call count x.call xs config holder (queue_after x.op queue) h.1 (omega arith),
          r,
        )

held_keeps : KeepsCall held_call
held_keeps x = (refl, refl)

stop_law : (p : PartState) → IsNumbered 0 p.log.count p.log.pending → LogStepped p.log (stops p).state.log (stops p).event
unfolding stops
stop_law p h =
    let kept = filter (λ c. is_held c.op) p.log.pending in
    let answers = stop_answers p.log.pending p.log.config p.log.holder p.queue in
    let e : Event = event.Stage stage.Stop answers [] in
    record {
      numbered = numbered_map held_call 0 p.log.count kept held_keeps (numbered_filter (λ c. is_held c.op) 0 p.log.count p.log.pending h);
      more = omega arith;
      fresh = tt;
      quiet = open_map (λ c t. Quiet c t e × CameFrom p.log c t) held_call kept held_keeps
          (open_weaker (λ c t. (answer_among c answers ≡ None) × HasEntry p.log.pending c t) (λ c t. Quiet c t e × CameFrom p.log c t) kept (λ c t k. ((k.0, tt), inl k.1))
          (open_both (λ c t. answer_among c answers ≡ None) (λ c t. HasEntry p.log.pending c t) kept
          (kept_unanswered 0 p.log.count p.log.pending p.log.config p.log.holder p.queue h)
          (open_filter (λ c t. HasEntry p.log.pending c t) (λ c. is_held c.op) p.log.pending (open_itself p.log.pending))));
      beyond = λ c t l. (answers_below 0 p.log.count c p.log.pending p.log.config p.log.holder p.queue h l, tt);
    }

gone_below : (failures low count call : ℕ) (xs : List CallEntry) → IsNumbered low count xs → count < call → answer_among call (gone_answers failures xs) ≡ None
gone_below failures low count call [] h l = refl
gone_below failures low count call (x ∷ xs) h l =
    let bound = numbered_bound x.call count xs h.1 in
    skipped call x.call (Some (answer.Gone failures)) (gone_answers failures xs) (λ e. absurd (omega arith)) (gone_below failures x.call count call xs h.1 l)

give_up_law : (p : PartState) → IsNumbered 0 p.log.count p.log.pending → LogStepped p.log (gives_up_part p).state.log (gives_up_part p).event
unfolding gives_up_part
give_up_law p h = record {
  numbered = omega arith;
  more = omega arith;
  fresh = tt;
  quiet = tt;
  beyond = λ c t l. (gone_below p.failures 0 p.log.count c p.log.pending h l, tt);
}

stage_silent : (s : Stage) (entries : List Entry) → Silent (event.Stage s [] entries)
stage_silent s entries = (λ c t. (refl, tt), λ n. tt)

done_law : (s : Stage) (p : PartState) → IsNumbered 0 p.log.count p.log.pending → LogStepped p.log (stage_done s p).state.log (stage_done s p).event
unfolding collects resets loads_image inits replays_set replays_open resumes
done_law stage.Stop p h = split (is_given_up p)
    (λ e. rw e (give_up_law p h))
    (λ e. rw e (stop_law p h))
done_law stage.Collect p h = stepped_same p.log p.log (collects p).event h refl refl (stage_silent stage.Collect (released p.domain.entries))
done_law stage.Reset p h = stepped_same p.log p.log (resets p).event h refl refl (stage_silent stage.Reset [])
done_law stage.Load p h = stepped_same p.log p.log (loads_image p).event h refl refl (stage_silent stage.Load [])
done_law stage.Init p h = stepped_same p.log p.log (inits p).event h refl refl (stage_silent stage.Init [])
done_law (stage.ReplaySet key value) p h = stepped_same p.log p.log (replays_set key value p).event h refl refl (stage_silent (stage.ReplaySet key value) [])
done_law stage.ReplayOpen p h = stepped_same p.log p.log (replays_open p).event h refl refl (stage_silent stage.ReplayOpen [])
done_law stage.Resume p h = stepped_same p.log p.log (resumes p).event h refl refl (stage_silent stage.Resume [])

stage_by_law : (p : PartState) (o : Option Stage) → IsNumbered 0 p.log.count p.log.pending → LogStepped p.log (stage_by p o).state.log (stage_by p o).event
stage_by_law p None h = stepped_same p.log p.log (event.Stage stage.Resume [] []) h refl refl (stage_silent stage.Resume [])
stage_by_law p (Some s) h = done_law s p h

-- ---- any step, and runs

step_law : (p : PartState) (s : Step) → IsNumbered 0 p.log.count p.log.pending → LogStepped p.log (state_after p s).log (event_of p s)
unfolding stepped after_invoke after_enter burst_stepped stage_stepped after_arrival
step_law p (step.Invoke thread o) h = invoke_by p thread o (static_check p.spec.class p.spec.blocks o) h
step_law p (step.Enter thread) h = enter_by p thread (call_of_thread thread p.log.pending) refl h
step_law p (step.Burst context) h =
    let b = domain_burst context (faults_of_burst (p.bursts + 1) p.spec.faults) p.domain in
    burst_by context p b (after_crossing context b.ending (with_burst b.domain p)) h
    (crossing_crosses context b.ending (with_burst b.domain p)).1
step_law p step.Stage h = stage_by_law p (stage_due p.mode) h
step_law p (step.Arrive frame) h = stepped_same p.log p.log (event_of p (step.Arrive frame)) h refl refl (λ c t. (refl, tt), λ n. tt)

-- a call that is open after a run was not answered in it, and was invoked only for its thread
abbrev OpenAfter : PartState → List Event → Type 0
OpenAfter p events =
    IsNumbered 0 (state_from p events).log.count (state_from p events).log.pending
    × AllOpen (λ c t. AllByRecursion (Quiet c t) events × CameFrom p.log c t) (state_from p events).log.pending

pub open_after : (p : PartState) (events : List Event) → IsNumbered 0 p.log.count p.log.pending → IsRunFrom p events → OpenAfter p events
unfolding IsRunFrom state_from
open_after p [] h r = (h, open_weaker (λ c t. HasEntry p.log.pending c t) (λ c t. Unit {0} × CameFrom p.log c t) p.log.pending (λ c t k. (tt, inl k)) (open_itself p.log.pending))
open_after p (e ∷ events) h r =
    let q = state_after p (step_of e) in
    let s : LogStepped p.log q.log e = subst (λ x. LogStepped p.log q.log x) r.1 (step_law p (step_of e) h) in
    let rest = open_after q events s.numbered r.2 in (
      rest.0,
      open_weaker (λ c t. AllByRecursion (Quiet c t) events × CameFrom q.log c t) (λ c t. AllByRecursion (Quiet c t) (e ∷ events) × CameFrom p.log c t) (state_from q events).log.pending
          (λ c t k. came c t s k.0 k.1) rest.1,
    )
  where
    came : (c t : ℕ) → LogStepped p.log (state_after p (step_of e)).log e → AllByRecursion (Quiet c t) events → CameFrom (state_after p (step_of e)).log c t → AllByRecursion (Quiet c t) (e ∷ events) × CameFrom p.log c t
    came c t s quiet (inl k) = let f = open_has (λ c t. Quiet c t e × CameFrom p.log c t) (state_after p (step_of e)).log.pending c t s.quiet k in ((f.0, quiet), f.1)
    came c t s quiet (inr l) = ((s.beyond c t l, quiet), inr (let m = s.more in omega arith))

-- invocations after a state have higher numbers than those before
pub fresh_after : (p : PartState) (events : List Event) → IsNumbered 0 p.log.count p.log.pending → IsRunFrom p events → AllByRecursion (InvokesAbove p.log.count) events
unfolding IsRunFrom state_from
fresh_after p [] h r = tt
fresh_after p (e ∷ events) h r =
    let q = state_after p (step_of e) in
    let s : LogStepped p.log q.log e = subst (λ x. LogStepped p.log q.log x) r.1 (step_law p (step_of e) h) in
    (s.fresh, above_more p.log.count q.log.count events s.more (fresh_after q events s.numbered r.2))
