use Rattle.std.proofs.Common.{◌≡◌, ℕ, true, Option, Some, None, List, [], ◌∷◌, ◌++◌, map, length, refl, sym, ap, ◌∙◌, eqb-true}
use Rattle.std.specs.List.{find}
use Rattle.nook_data.specs.declared.classes.Admit.{Admit}
use Rattle.nook_data.specs.declared.classes.Admit.TheVariants as admits
use Rattle.nook_data.specs.declared.calls.Answer.{Answer}
use Rattle.nook_data.specs.declared.calls.CallEntry.{CallEntry}
use Rattle.nook_data.specs.declared.steps.Event.{Event}
use Rattle.nook_data.specs.declared.calls.Op.{Op}
use Rattle.nook_data.specs.declared.steps.Stage.{Stage}
use Rattle.nook_data.specs.declared.steps.Stage.TheVariants as stage
use Rattle.nook_data.specs.declared.steps.Step.{Step}
use Rattle.nook_data.specs.declared.steps.Step.TheVariants as step
use Rattle.part_defs.specs.Calls.{after_invoke, after_enter, after_admit}
use Rattle.nook_data.specs.Classes.{static_check, admit}
use Rattle.part_defs.specs.Log.{call_of_thread}
use Rattle.part_defs.proofs.PartCases.{entered_by, invoked_by, is_of_thread, stage_by}
use Rattle.part_defs.specs.Runs.{step_of, event_of, state_after, state_from, IsRunFrom}
use Rattle.part_defs.specs.Stages.{is_given_up, stops, gives_up_part, collects, resets, loads_image, inits, replays_set}
use Rattle.part_defs.specs.Stages.{replays_open, resumes, stage_done, stage_due, stage_stepped}
use Rattle.part_defs.specs.State.{PartState}
use Rattle.part_defs.specs.Steps.{enabled, burst_stepped, after_arrival, stepped}
use Rattle.machine_defs.proofs.BurstKeeps.{split}
use Rattle.part_laws.specs.Determined.{events_made, state_made}

-- A run is determined by its steps.

-- an event names the step that makes it

pub found_thread : (thread : ℕ) (pending : List CallEntry) (c : CallEntry) → call_of_thread thread pending ≡ Some c → c.thread ≡ thread
found_thread thread [] c h = cc
found_thread thread (d ∷ pending) c h = split (is_of_thread thread d)
    (λ here. same (rw (here, find) at h) here)
    (λ later. found_thread thread pending c (rw (later, find) at h))
  where
    same : Some d ≡ Some c → is_of_thread thread d ≡ true → c.thread ≡ thread
    same e t = let s : d ≡ c = cc in ap (λ (x : CallEntry). x.thread) (sym s) ∙ eqb-true d.thread thread t

invoke_named : (p : PartState) (thread : ℕ) (o : Op) (r : Option Answer) → step_of (invoked_by p thread o r).event ≡ step.Invoke thread o
invoke_named p thread o None = refl
invoke_named p thread o (Some a) = refl

admitted_named : (p : PartState) (c : CallEntry) (a : Admit) → step_of (after_admit p c a).event ≡ step.Enter c.thread
admitted_named p c (admits.Reply a) = refl
admitted_named p c admits.TakeFrame = refl
admitted_named p c (admits.Enter index) = refl

enter_named : (p : PartState) (thread : ℕ) (o : Option CallEntry) → call_of_thread thread p.log.pending ≡ o
    → step_of (entered_by p thread o).event ≡ step.Enter thread
enter_named p thread None e = refl
enter_named p thread (Some c) e =
    admitted_named p c (admit p.spec.class thread c.op p.log.holder (length p.queue))
    ∙ ap {B = Step} (λ (t : ℕ). step.Enter t) (found_thread thread p.log.pending c e)

stage_named : (p : PartState) (s : Stage) → step_of (stage_done s p).event ≡ step.Stage
unfolding stops gives_up_part collects resets loads_image inits replays_set replays_open resumes
stage_named p stage.Stop = split (is_given_up p) (λ e. rw e) (λ e. rw e)
stage_named p stage.Collect = refl
stage_named p stage.Reset = refl
stage_named p stage.Load = refl
stage_named p stage.Init = refl
stage_named p (stage.ReplaySet key value) = refl
stage_named p stage.ReplayOpen = refl
stage_named p stage.Resume = refl

stage_by_named : (p : PartState) (o : Option Stage) → step_of (stage_by p o).event ≡ step.Stage
stage_by_named p None = refl
stage_by_named p (Some s) = stage_named p s

pub step_named : (p : PartState) (s : Step) → step_of (event_of p s) ≡ s
unfolding stepped after_invoke after_enter burst_stepped stage_stepped after_arrival
step_named p (step.Invoke thread o) = invoke_named p thread o (static_check p.spec.class p.spec.blocks o)
step_named p (step.Enter thread) = enter_named p thread (call_of_thread thread p.log.pending) refl
step_named p (step.Burst context) = refl
step_named p step.Stage = stage_by_named p (stage_due p.mode)
step_named p (step.Arrive frame) = refl

-- a run is what its steps make

pub run_made : (p : PartState) (events : List Event) → IsRunFrom p events
    → (events ≡ events_made p (map step_of events)) × (state_from p events ≡ state_made p (map step_of events))
unfolding IsRunFrom state_from events_made state_made
run_made p [] r = (refl, refl)
run_made p (e ∷ events) r =
    let more = run_made (state_after p (step_of e)) events r.2 in (
      ap {B = List Event} (λ x. x ∷ events) (sym r.1)
          ∙ ap {B = List Event} (λ xs. event_of p (step_of e) ∷ xs) more.0,
      more.1,
    )

pub same_steps_same_run : (p : PartState) (a b : List Event) → IsRunFrom p a → IsRunFrom p b → map step_of a ≡ map step_of b
    → (a ≡ b) × (state_from p a ≡ state_from p b)
same_steps_same_run p a b ra rb e =
    let ma = run_made p a ra in
    let mb = run_made p b rb in (
      ma.0 ∙ ap (events_made p) e ∙ sym mb.0,
      ma.1 ∙ ap (state_made p) e ∙ sym mb.1,
    )

-- one more step

pub run_more : (p : PartState) (events : List Event) (s : Step) → IsRunFrom p events → enabled (state_from p events) s ≡ true
    → IsRunFrom p (events ++ event_of (state_from p events) s ∷ [])
unfolding IsRunFrom state_from
run_more p [] s r e =
    let n : step_of (event_of p s) ≡ s = step_named p s in
    (ap (enabled p) n ∙ e, ap (event_of p) n, tt)
run_more p (x ∷ events) s r e = (r.0, r.1, run_more (state_after p (step_of x)) events s r.2 e)

pub state_more : (p : PartState) (events : List Event) (s : Step)
    → state_from p (events ++ event_of (state_from p events) s ∷ []) ≡ state_after (state_from p events) s
unfolding state_from
state_more p [] s = ap (state_after p) (step_named p s)
state_more p (x ∷ events) s = state_more (state_after p (step_of x)) events s
