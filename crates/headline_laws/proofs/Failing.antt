use Rattle.std.proofs.Common.{◌≡◌, ℕ, ◌+◌, ◌==◌, if◌then◌else◌, is_some, Bool, true, false, Option, Some, None, Result, Ok, Err, refl, ap, ◌∙◌}
use Rattle.nook_data.specs.declared.calls.CallEntry.{CallEntry}
use Rattle.nook_data.specs.declared.classes.Accept.{Accept}
use Rattle.nook_data.specs.declared.classes.Accept.TheVariants as accepts
use Rattle.nook_data.specs.declared.machine.BadParam.{BadParam}
use Rattle.nook_data.specs.declared.machine.BurstEnd.{BurstEnd}
use Rattle.nook_data.specs.declared.machine.BurstEnd.TheVariants as ends
use Rattle.nook_data.specs.declared.machine.Service.{Service}
use Rattle.nook_data.specs.declared.steps.End.TheVariants as end
use Rattle.nook_data.specs.declared.steps.Event.{Event}
use Rattle.nook_data.specs.declared.steps.Event.TheVariants as event
use Rattle.nook_data.specs.declared.steps.FailCause.TheVariants as fail
use Rattle.nook_data.specs.declared.steps.Mode.TheVariants as mode
use Rattle.nook_data.specs.declared.steps.Stage.TheVariants as stage
use Rattle.nook_data.specs.Classes.{accept}
use Rattle.machine_defs.specs.BurstFaults.{faults_of_burst}
use Rattle.machine_defs.specs.Services.{checked}
use Rattle.part_defs.specs.Crossing.{Crossed, after_crossing, call_replied, failed_crossing, fails, goes_on, is_accepted}
use Rattle.part_defs.specs.Crossing.{is_last, kernel_call, next_stage, refused_service, shadow_fault, shadow_replied}
use Rattle.part_defs.specs.Crossing.{stage_in}
use Rattle.part_defs.specs.Domain.{domain_burst, first_argument, second_argument}
use Rattle.part_defs.specs.Log.{call_of_thread}
use Rattle.part_defs.proofs.PartCases.{reply_by, serve_by, with_burst}
use Rattle.part_defs.specs.Runs.{event_of, state_after, step_of}
use Rattle.part_defs.specs.State.{PartState}
use Rattle.part_defs.specs.Steps.{burst_stepped, stepped}
use Rattle.part_laws.specs.Bound.{carries_failure}

-- A failure begins a recovery.

-- a crossing that fails leads to Stop
abbrev StopsAtFailure : Crossed → Type 0
StopsAtFailure c = is_some c.failure ≡ true → c.state.mode ≡ mode.Recovering stage.Stop

either_stops : (b : Bool) (x y : Crossed) → StopsAtFailure x → StopsAtFailure y → StopsAtFailure (if b then x else y)
either_stops true x y h k = h
either_stops false x y h k = k

served_stops : (number context : ℕ) (p : PartState) (r : Result Service BadParam)
    → StopsAtFailure (serve_by number context p r)
unfolding fails
served_stops number context p (Err bad) f = refl
served_stops number context p (Ok s) f = absurd cc

reply_stops : (status : ℕ) (p : PartState) (o : Option CallEntry) → StopsAtFailure (call_replied status p o)
unfolding fails
reply_stops status p None f = absurd cc
reply_stops status p (Some c) f = by_accept (accept c.op status) f
  where
    by_accept : (a : Accept) → StopsAtFailure (reply_by c status p a)
    by_accept accepts.Take f = absurd cc
    by_accept (accepts.IoError block) f = absurd cc
    by_accept (accepts.Fail cause) f = refl

crossed_stops : (context : ℕ) (e : BurstEnd) (p : PartState) → StopsAtFailure (after_crossing context e p)
unfolding after_crossing fails
crossed_stops context (ends.Trap cause) p = λ f. refl
crossed_stops context (ends.Kcall number) p =
    either_stops (is_last context p) (failed_crossing p (refused_service number context p) fail.TooManyCrossings)
    (kernel_call number context p) (λ f. refl)
    (served_stops number context p
    (checked number (first_argument context p.domain) (second_argument context p.domain) p.spec.class
    p.domain.entries))
crossed_stops context ends.Pause p =
    either_stops (is_last context p) (failed_crossing p end.Pause fail.TooManyCrossings) (goes_on p end.Pause)
    (λ f. refl) (λ f. absurd cc)
crossed_stops context (ends.Reply status) p =
    either_stops (context == 16) (shadow_replied status p)
    (call_replied status p (call_of_thread context p.log.pending))
    (either_stops (is_accepted status p) (goes_on (next_stage p) (end.Reply status))
    (failed_crossing p (end.Reply status) (shadow_fault status (stage_in p.mode))) (λ f. absurd cc) (λ f. refl))
    (reply_stops status p (call_of_thread context p.log.pending))

-- the event says whether its crossing failed
pub failure_stops : (p : PartState) (e : Event) → event_of p (step_of e) ≡ e → carries_failure e ≡ true
    → (state_after p (step_of e)).mode ≡ mode.Recovering stage.Stop
unfolding stepped burst_stepped
failure_stops p (event.Burst context call burst count end acts a failure) same failed =
    let b = domain_burst context (faults_of_burst (p.bursts + 1) p.spec.faults) p.domain in
    crossed_stops context b.ending (with_burst b.domain p) (ap carries_failure same ∙ failed)
failure_stops p (event.Invoke call t o a) same failed = absurd cc
failure_stops p (event.Enter call t attempt a) same failed = absurd cc
failure_stops p (event.Stage s answers released) same failed = absurd cc
failure_stops p (event.Arrive frame kept) same failed = absurd cc
