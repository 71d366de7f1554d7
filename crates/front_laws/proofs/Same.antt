-- A part with other faults takes the same steps, as long as its bursts are the same.
use Rattle.std.proofs.Common.{◌≡◌, ℕ, ◌+◌, ◌==◌, Option, Some, None, Result, Ok, Err, List, [], ◌∷◌, length, refl, sym, ap, subst, ◌∙◌}
use Rattle.nook_data.specs.Classes.{accept, admit, static_check}
use Rattle.nook_data.specs.declared.calls.Answer.{Answer}
use Rattle.nook_data.specs.declared.calls.CallEntry.{CallEntry}
use Rattle.nook_data.specs.declared.calls.Op.{Op}
use Rattle.nook_data.specs.declared.calls.Op.TheVariants as op
use Rattle.nook_data.specs.declared.classes.Accept.{Accept}
use Rattle.nook_data.specs.declared.classes.Accept.TheVariants as accepts
use Rattle.nook_data.specs.declared.classes.Admit.{Admit}
use Rattle.nook_data.specs.declared.classes.Admit.TheVariants as admits
use Rattle.nook_data.specs.declared.machine.BadParam.{BadParam}
use Rattle.nook_data.specs.declared.machine.BurstEnd.{BurstEnd}
use Rattle.nook_data.specs.declared.machine.BurstEnd.TheVariants as ends
use Rattle.nook_data.specs.declared.machine.Service.{Service}
use Rattle.nook_data.specs.declared.scenario.Fault.{Fault}
use Rattle.nook_data.specs.declared.scenario.PartSpec.{PartSpec}
use Rattle.nook_data.specs.declared.steps.Event.{Event}
use Rattle.nook_data.specs.declared.steps.Mode.{Mode}
use Rattle.nook_data.specs.declared.steps.Mode.TheVariants as mode
use Rattle.nook_data.specs.declared.steps.Stage.{Stage}
use Rattle.nook_data.specs.declared.steps.Stage.TheVariants as stage
use Rattle.nook_data.specs.declared.steps.Step.{Step}
use Rattle.nook_data.specs.declared.steps.Step.TheVariants as step
use Rattle.guard_defs.specs.Guard.{with_own}
use Rattle.machine_defs.proofs.BurstKeeps.{split}
use Rattle.machine_defs.specs.BurstFaults.{faults_of_burst}
use Rattle.machine_defs.specs.Services.{checked}
use Rattle.part_defs.proofs.PartCases.{burst_event, burst_step, entered_by, invoked_by, reply_by, serve_by, stage_by, with_burst}
use Rattle.part_defs.specs.Calls.{Stepped, after_admit, after_enter, after_invoke}
use Rattle.part_defs.specs.Crossing.{Crossed, accepted_crossing, after_crossing, call_replied, closes_call, fails, is_accepted, is_last, next_mode, next_stage}
use Rattle.part_defs.specs.Crossing.{reply_answer, shadow_replied}
use Rattle.part_defs.specs.Domain.{DomainBurst, domain_burst, first_argument, opening_domain, second_argument}
use Rattle.part_defs.specs.Log.{call_of_thread}
use Rattle.part_defs.specs.Runs.{IsRunFrom, event_of, state_after, state_from, step_of}
use Rattle.part_defs.specs.Stages.{collects, gives_up_part, inits, is_given_up, loads_image, replays_open, replays_set, resets}
use Rattle.part_defs.specs.Stages.{resumes, stage_done, stage_due, stage_stepped, stops}
use Rattle.part_defs.specs.State.{PartState}
use Rattle.part_defs.specs.Steps.{after_arrival, burst_stepped, enabled, opening, stepped}
use Rattle.front_laws.specs.Fronts.{IsSameRun, with_faults}

-- a step of a part with other faults: the part after it has them too, and the event is the same
abbrev pub carried : List Fault → Stepped → Stepped
carried faults t = record t { state = with_own faults t.state }

abbrev crossed_with : List Fault → Crossed → Crossed
crossed_with faults c = record c { state = with_own faults c.state }

-- invocations and entries

invoke_same : (faults : List Fault) (p : PartState) (thread : ℕ) (o : Op) (r : Option Answer)
    → invoked_by (with_own faults p) thread o r ≡ carried faults (invoked_by p thread o r)
invoke_same faults p thread o None = by_mode p.mode
  where
    by_mode : (m : Mode) → invoked_by (with_own faults (record p { mode = m })) thread o None
        ≡ carried faults (invoked_by (record p { mode = m }) thread o None)
    by_mode (mode.Boot s) = refl
    by_mode mode.Running = refl
    by_mode (mode.Recovering s) = refl
    by_mode (mode.Dead c) = refl
invoke_same faults p thread o (Some a) = refl

admit_same : (faults : List Fault) (p : PartState) (c : CallEntry) (a : Admit)
    → after_admit (with_own faults p) c a ≡ carried faults (after_admit p c a)
admit_same faults p c (admits.Reply a) = refl
admit_same faults p c admits.TakeFrame = refl
admit_same faults p c (admits.Enter index) = refl

enter_same : (faults : List Fault) (p : PartState) (thread : ℕ) (o : Option CallEntry)
    → entered_by (with_own faults p) thread o ≡ carried faults (entered_by p thread o)
enter_same faults p thread None = refl
enter_same faults p thread (Some c) = admit_same faults p c (admit p.spec.class thread c.op p.log.holder (length p.queue))

-- crossings

serve_same : (faults : List Fault) (number context : ℕ) (p : PartState) (r : Result Service BadParam)
    → serve_by number context (with_own faults p) r ≡ crossed_with faults (serve_by number context p r)
unfolding fails
serve_same faults number context p (Err bad) = refl
serve_same faults number context p (Ok s) = refl

answer_same : (faults : List Fault) (o : Op) (thread : ℕ) (p : PartState) → reply_answer o thread (with_own faults p) ≡ reply_answer o thread p
answer_same faults (op.Read first count) thread p = refl
answer_same faults (op.Write first words) thread p = refl
answer_same faults (op.Send frame) thread p = refl
answer_same faults op.Recv thread p = refl
answer_same faults op.Open thread p = refl
answer_same faults (op.Play samples) thread p = refl
answer_same faults op.Close thread p = refl
answer_same faults (op.Get key) thread p = refl
answer_same faults (op.Set key value) thread p = refl

reply_same : (faults : List Fault) (c : CallEntry) (status : ℕ) (p : PartState) (r : Accept)
    → reply_by c status (with_own faults p) r ≡ crossed_with faults (reply_by c status p r)
unfolding fails closes_call
reply_same faults c status p accepts.Take =
    ap (λ (a : Answer). accepted_crossing c status a (with_own faults p)) (answer_same faults c.op c.thread p)
reply_same faults c status p (accepts.IoError block) = refl
reply_same faults c status p (accepts.Fail cause) = refl

call_reply_same : (faults : List Fault) (status : ℕ) (p : PartState) (o : Option CallEntry)
    → call_replied status (with_own faults p) o ≡ crossed_with faults (call_replied status p o)
call_reply_same faults status p None = refl
call_reply_same faults status p (Some c) = reply_same faults c status p (accept c.op status)

next_mode_same : (faults : List Fault) (p : PartState) (m : Mode) → next_mode m (with_own faults p) ≡ next_mode m p
next_mode_same faults p (mode.Boot s) = refl
next_mode_same faults p mode.Running = refl
next_mode_same faults p (mode.Recovering s) = refl
next_mode_same faults p (mode.Dead c) = refl

next_stage_same : (faults : List Fault) (p : PartState) → next_stage (with_own faults p) ≡ with_own faults (next_stage p)
unfolding next_stage
next_stage_same faults p = rw (next_mode_same faults p p.mode) refl

shadow_same : (faults : List Fault) (status : ℕ) (p : PartState)
    → shadow_replied status (with_own faults p) ≡ crossed_with faults (shadow_replied status p)
unfolding fails
shadow_same faults status p = split (is_accepted status p)
    (λ e. rw e (rw (next_stage_same faults p) refl))
    (λ e. rw e refl)

crossing_same : (faults : List Fault) (context : ℕ) (e : BurstEnd) (p : PartState)
    → after_crossing context e (with_own faults p) ≡ crossed_with faults (after_crossing context e p)
unfolding after_crossing fails
crossing_same faults context (ends.Trap cause) p = refl
crossing_same faults context (ends.Kcall number) p = split (is_last context p)
    (λ last. rw last refl)
    (λ early. rw early (serve_same faults number context p
    (checked number (first_argument context p.domain) (second_argument context p.domain) p.spec.class p.domain.entries)))
crossing_same faults context ends.Pause p = split (is_last context p) (λ last. rw last refl) (λ early. rw early refl)
crossing_same faults context (ends.Reply status) p = split (context == 16)
    (λ own. rw own (shadow_same faults status p))
    (λ other. rw other (call_reply_same faults status p (call_of_thread context p.log.pending)))

-- bursts and stages

pub burst_same : (faults : List Fault) (context : ℕ) (p : PartState) (b : DomainBurst)
    → burst_step context (with_own faults p) b ≡ carried faults (burst_step context p b)
burst_same faults context p b = ap (burst_event context p b) (crossing_same faults context b.ending (with_burst b.domain p))

stage_same : (faults : List Fault) (p : PartState) (s : Stage) → stage_done s (with_own faults p) ≡ carried faults (stage_done s p)
unfolding stops gives_up_part collects resets loads_image inits replays_set replays_open resumes
stage_same faults p stage.Stop = split (is_given_up p) (λ e. rw e refl) (λ e. rw e refl)
stage_same faults p stage.Collect = refl
stage_same faults p stage.Reset = refl
stage_same faults p stage.Load = refl
stage_same faults p stage.Init = refl
stage_same faults p (stage.ReplaySet key value) = refl
stage_same faults p stage.ReplayOpen = refl
stage_same faults p stage.Resume = refl

stage_by_same : (faults : List Fault) (p : PartState) (o : Option Stage) → stage_by (with_own faults p) o ≡ carried faults (stage_by p o)
stage_by_same faults p None = refl
stage_by_same faults p (Some s) = stage_same faults p s

-- if the step is a burst, it is the same with these faults
abbrev pub IsSameBurst : List Fault → PartState → Step → Type 0
IsSameBurst faults p (step.Burst context) = domain_burst context (faults_of_burst (p.bursts + 1) faults) p.domain
    ≡ domain_burst context (faults_of_burst (p.bursts + 1) p.spec.faults) p.domain
IsSameBurst faults p s = Unit {0}

pub step_same : (faults : List Fault) (p : PartState) (s : Step) → IsSameBurst faults p s
    → stepped (with_own faults p) s ≡ carried faults (stepped p s)
unfolding stepped after_invoke after_enter burst_stepped stage_stepped after_arrival
step_same faults p (step.Invoke thread o) h = invoke_same faults p thread o (static_check p.spec.class p.spec.blocks o)
step_same faults p (step.Enter thread) h = enter_same faults p thread (call_of_thread thread p.log.pending)
step_same faults p (step.Burst context) h =
    ap (burst_step context (with_own faults p)) h
    ∙ burst_same faults context p (domain_burst context (faults_of_burst (p.bursts + 1) p.spec.faults) p.domain)
step_same faults p step.Stage h = stage_by_same faults p (stage_due p.mode)
step_same faults p (step.Arrive frame) h = refl

pub enabled_same : (faults : List Fault) (p : PartState) (s : Step) → enabled (with_own faults p) s ≡ enabled p s
unfolding enabled
enabled_same faults p (step.Invoke thread o) = refl
enabled_same faults p (step.Enter thread) = refl
enabled_same faults p (step.Burst context) = refl
enabled_same faults p step.Stage = refl
enabled_same faults p (step.Arrive frame) = refl

pub event_same : (faults : List Fault) (p : PartState) (s : Step) → IsSameBurst faults p s
    → event_of (with_own faults p) s ≡ event_of p s
event_same faults p s h = ap (λ (t : Stepped). t.event) (step_same faults p s h)

pub after_same : (faults : List Fault) (p : PartState) (s : Step) → IsSameBurst faults p s
    → state_after (with_own faults p) s ≡ with_own faults (state_after p s)
after_same faults p s h = ap (λ (t : Stepped). t.state) (step_same faults p s h)

-- runs

-- each burst of the events is the same with these faults
unfoldable pub AreSameBursts : List Fault → PartState → List Event → Type 0
AreSameBursts faults p [] = Unit {0}
AreSameBursts faults p (e ∷ events) = IsSameBurst faults p (step_of e) × AreSameBursts faults (state_after p (step_of e)) events

pub from_same : (faults : List Fault) (p : PartState) (events : List Event) → AreSameBursts faults p events
    → state_from (with_own faults p) events ≡ with_own faults (state_from p events)
unfolding state_from AreSameBursts
from_same faults p [] h = refl
from_same faults p (e ∷ events) h =
    ap (λ (q : PartState). state_from q events) (after_same faults p (step_of e) h.0)
    ∙ from_same faults (state_after p (step_of e)) events h.1

pub run_there : (faults : List Fault) (p : PartState) (events : List Event) → AreSameBursts faults p events
    → IsRunFrom p events → IsRunFrom (with_own faults p) events
unfolding IsRunFrom AreSameBursts
run_there faults p [] h r = tt
run_there faults p (e ∷ events) h r = (
  enabled_same faults p (step_of e) ∙ r.0,
  event_same faults p (step_of e) h.0 ∙ r.1,
  subst (λ (q : PartState). IsRunFrom q events) (sym (after_same faults p (step_of e) h.0))
      (run_there faults (state_after p (step_of e)) events h.1 r.2),
)

pub run_back : (faults : List Fault) (p : PartState) (events : List Event) → AreSameBursts faults p events
    → IsRunFrom (with_own faults p) events → IsRunFrom p events
unfolding IsRunFrom AreSameBursts
run_back faults p [] h r = tt
run_back faults p (e ∷ events) h r = (
  sym (enabled_same faults p (step_of e)) ∙ r.0,
  sym (event_same faults p (step_of e) h.0) ∙ r.1,
  run_back faults (state_after p (step_of e)) events h.1
      (subst (λ (q : PartState). IsRunFrom q events) (after_same faults p (step_of e) h.0) r.2),
)

pub opening_with : (faults : List Fault) (spec : PartSpec) → opening (with_faults faults spec) ≡ with_own faults (opening spec)
unfolding opening opening_domain
opening_with faults spec = refl

pub same_run : (spec : PartSpec) (faults : List Fault) (events : List Event) → AreSameBursts faults (opening spec) events
    → IsSameRun spec faults events
same_run spec faults events h = record {
  there = λ r. subst (λ (q : PartState). IsRunFrom q events) (sym (opening_with faults spec)) (run_there faults (opening spec) events h r);
  back = λ r. run_back faults (opening spec) events h (subst (λ (q : PartState). IsRunFrom q events) (opening_with faults spec) r);
  state = ap (λ (q : PartState). state_from q events) (opening_with faults spec) ∙ from_same faults (opening spec) events h;
}
