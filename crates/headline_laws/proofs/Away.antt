use Rattle.std.proofs.Common.{◌≡◌, ℕ, zero, suc, ◌+◌, ◌-◌, ◌*◌, ◌<◌, ◌≤◌, ◌==◌, not, is_some, if◌then◌else◌, cond}
use Rattle.std.proofs.Common.{count_by, Bool, true, false, Option, Some, None, Result, Ok, Err, List, [], ◌∷◌, length}
use Rattle.std.proofs.Common.{slice_index, slice_set, refl, sym, ap, ◌∙◌, subst, arith, true≢false, eqb-true}
use Rattle.std.specs.List.{AllByRecursion}
use Rattle.std.proofs.lemmas.Bool.{and_parts}
use Rattle.std.proofs.lemmas.List.{length-set}
use Rattle.nook_data.specs.declared.calls.Answer.{Answer}
use Rattle.nook_data.specs.declared.calls.Op.{Op}
use Rattle.nook_data.specs.declared.entries.Entry.{Entry}
use Rattle.nook_data.specs.declared.steps.End.{End}
use Rattle.nook_data.specs.declared.steps.Event.{Event}
use Rattle.nook_data.specs.declared.steps.Event.TheVariants as event
use Rattle.nook_data.specs.declared.steps.FailCause.{FailCause}
use Rattle.nook_data.specs.declared.steps.Mode.{Mode}
use Rattle.nook_data.specs.declared.steps.Mode.TheVariants as mode
use Rattle.nook_data.specs.declared.steps.Stage.{Stage}
use Rattle.nook_data.specs.declared.steps.Stage.TheVariants as stage
use Rattle.nook_data.specs.declared.steps.Step.{Step}
use Rattle.nook_data.specs.declared.steps.Step.TheVariants as step
use Rattle.nook_data.specs.declared.scenario.Fault.{Fault}
use Rattle.nook_data.specs.declared.machine.BadParam.{BadParam}
use Rattle.nook_data.specs.declared.machine.BurstEnd.{BurstEnd}
use Rattle.nook_data.specs.declared.machine.BurstEnd.TheVariants as ends
use Rattle.nook_data.specs.declared.machine.Context.{Context}
use Rattle.nook_data.specs.declared.machine.Service.{Service}
use Rattle.nook_data.specs.Classes.{static_check}
use Rattle.machine_defs.specs.Burst.{Burst, burst}
use Rattle.machine_defs.specs.BurstFaults.{faults_of_burst}
use Rattle.machine_defs.specs.Services.{Served, checked, served}
use Rattle.machine_defs.proofs.BurstKeeps.{split}
use Rattle.part_defs.specs.Calls.{Stepped, after_invoke}
use Rattle.part_defs.specs.Crossing.{Crossed, after_crossing, failed_crossing, goes_on, heap_start, is_accepted}
use Rattle.part_defs.specs.Crossing.{is_last}
use Rattle.part_defs.specs.Crossing.{next_mode, next_stage}
use Rattle.part_defs.specs.Domain.{after_burst, collected_domain, context_of, domain_burst, entered_domain}
use Rattle.part_defs.specs.Domain.{first_argument}
use Rattle.part_defs.specs.Domain.{left_domain, loaded_domain, machine_of, plainly_entered, result_set, second_argument}
use Rattle.part_defs.specs.Domain.{stopped_domain}
use Rattle.part_defs.specs.Log.{call_of_thread, next_replay, replay_after}
use Rattle.part_defs.proofs.PartCases.{burst_by, burst_step, bursts_of, invoked_by, no_context, replay_stream, serve_by}
use Rattle.part_defs.proofs.PartCases.{with_burst, with_result}
use Rattle.part_defs.specs.Runs.{IsRunFrom, event_of, state_after, step_of}
use Rattle.part_defs.specs.Stages.{collects, gives_up_part, inits, is_given_up, loads_image, replays_open, replays_set}
use Rattle.part_defs.specs.Stages.{resets, resumes, stage_due, stage_step, stage_stepped, stops}
use Rattle.part_defs.specs.State.{CallLog, DomainState, PartState}
use Rattle.part_defs.specs.Steps.{after_arrival, burst_stepped, can_burst, enabled, is_driven, is_inside, is_ready}
use Rattle.part_defs.specs.Steps.{is_running, stepped}
use Rattle.part_laws.proofs.RunBound.{count_more}
use Rattle.part_laws.proofs.Stages.{with_mode}
use Rattle.part_laws.proofs.StepsFit.{fit_after}
use Rattle.part_laws.proofs.TiedBursts.{tied_after}
use Rattle.part_laws.proofs.TiedCalls.{context_set_same}
use Rattle.part_laws.proofs.TiedCrossing.{mode_after_drive}
use Rattle.part_laws.specs.Bound.{carries_failure, is_burst}
use Rattle.part_laws.specs.Fit.{IsFit}
use Rattle.part_laws.specs.Tied.{IsDriven, IsFitMode, IsFitStage, IsTied, is_driving, is_driving_stage}
use Rattle.headline_laws.proofs.BurstBounds.{burst_bounded}
use Rattle.headline_laws.specs.Recoveries.{IsShadows, IsShort, is_away, is_stage, turns_of, while_away}

-- How many stages and how many bursts of the shadow remain while the driver is away.

-- ---- what remains at a stage

abbrev stages_from : Stage → ℕ
stages_from stage.Stop = 11
stages_from stage.Collect = 10
stages_from stage.Reset = 9
stages_from stage.Load = 8
stages_from stage.Init = 7
stages_from (stage.ReplaySet key value) = 2 + (4 - key)
stages_from stage.ReplayOpen = 2
stages_from stage.Resume = 1

abbrev bursts_from : Stage → ℕ
bursts_from (stage.ReplaySet key value) = 32 * (5 - key)
bursts_from stage.ReplayOpen = 32
bursts_from stage.Resume = 0
bursts_from _ = 192

abbrev stages_in : Mode → ℕ
stages_in (mode.Boot s) = stages_from s
stages_in mode.Running = 0
stages_in (mode.Recovering s) = stages_from s
stages_in (mode.Dead collected) = 0

abbrev bursts_in : Mode → ℕ
bursts_in (mode.Boot s) = bursts_from s
bursts_in mode.Running = 0
bursts_in (mode.Recovering s) = bursts_from s
bursts_in (mode.Dead collected) = 0

-- the stage of a call of the shadow has begun
abbrev begun : Option Context → ℕ
begun None = 0
begun (Some x) = 1

abbrev stages_left : PartState → ℕ
stages_left p = stages_in p.mode - begun (context_of 16 p.domain.contexts)

abbrev bursts_left : PartState → ℕ
bursts_left p = bursts_in p.mode - bursts_of (context_of 16 p.domain.contexts)

-- nothing is counted after a failure
abbrev unless : Bool → ℕ → ℕ
unless true n = 0
unless false n = n

-- a step reduces what remains by what it does
record Shortens (p : PartState) (t : Stepped) : Type 0 where
  stages : cond (is_stage t.event) 1 0 + unless (carries_failure t.event) (stages_left t.state) ≤ stages_left p
  bursts : cond (is_burst t.event) 1 0 + unless (carries_failure t.event) (bursts_left t.state) ≤ bursts_left p

-- after a crossing of the shadow's call no more remains than before
record Keeps (stages bursts : ℕ) (c : Crossed) : Type 0 where
  stages' : unless (is_some c.failure) (stages_left c.state) ≤ stages
  bursts' : unless (is_some c.failure) (bursts_left c.state) ≤ bursts

-- ---- the stage after a replay

record IsNext (stages bursts : ℕ) (s : Stage) : Type 0 where
  stages' : stages_from s ≤ stages
  bursts' : bursts_from s ≤ bursts

stream_next : (holder : Option ℕ) → IsNext 2 32 (replay_stream holder)
stream_next None = record { stages' = omega arith; bursts' = omega arith }
stream_next (Some t) = record { stages' = omega arith; bursts' = omega arith }

more_next : (a b c d : ℕ) (s : Stage) → a ≤ c → b ≤ d → IsNext a b s → IsNext c d s
more_next a b c d s h k n =
    let x : stages_from s ≤ a = n.stages' in
    let y : bursts_from s ≤ b = n.bursts' in
    record { stages' = omega arith; bursts' = omega arith }

key_next : (key more : ℕ) (config defaults : List ℕ) (holder : Option ℕ) → key + more ≡ 4
    → IsNext (2 + (4 - key)) (32 * (5 - key)) (next_replay key more config defaults holder)
key_next key zero config defaults holder h =
    more_next 2 32 (2 + (4 - key)) (32 * (5 - key)) (replay_stream holder) (omega arith) (omega arith)
    (stream_next holder)
key_next key (suc more) config defaults holder h = split (slice_index config key == slice_index defaults key)
    (λ same. rw same (more_next (2 + (4 - (key + 1))) (32 * (5 - (key + 1))) (2 + (4 - key)) (32 * (5 - key))
    (next_replay (key + 1) more config defaults holder) (omega arith) (omega arith)
    (key_next (key + 1) more config defaults holder (omega arith))))
    (λ other. rw other (record { stages' = omega arith; bursts' = omega arith }))

replay_next : (s : Stage) (log : CallLog) → is_driving_stage s ≡ true → IsFitStage s
    → IsNext (stages_from s - 1) (bursts_from s - 32) (replay_after s log)
unfolding replay_after
replay_next stage.Init log d f = key_next 0 4 log.config log.defaults log.holder refl
replay_next (stage.ReplaySet key value) log d f =
    more_next (2 + (4 - (key + 1))) (32 * (5 - (key + 1))) (2 + (4 - key) - 1) (32 * (5 - key) - 32) _
    (omega arith) (omega arith)
    (key_next (key + 1) (3 - key) log.config log.defaults log.holder (omega arith))
replay_next stage.ReplayOpen log d f = record { stages' = omega arith; bursts' = omega arith }
replay_next stage.Stop log d f = absurd (true≢false (sym d))
replay_next stage.Collect log d f = absurd (true≢false (sym d))
replay_next stage.Reset log d f = absurd (true≢false (sym d))
replay_next stage.Load log d f = absurd (true≢false (sym d))
replay_next stage.Resume log d f = absurd (true≢false (sym d))

record IsDriving (s : Stage) : Type 0 where
  stages' : 2 ≤ stages_from s
  bursts' : 32 ≤ bursts_from s

driving_stage : (s : Stage) → is_driving_stage s ≡ true → IsFitStage s → IsDriving s
driving_stage stage.Init d f = record { stages' = omega arith; bursts' = omega arith }
driving_stage (stage.ReplaySet key value) d f = record { stages' = omega arith; bursts' = omega arith }
driving_stage stage.ReplayOpen d f = record { stages' = omega arith; bursts' = omega arith }
driving_stage stage.Stop d f = absurd (true≢false (sym d))
driving_stage stage.Collect d f = absurd (true≢false (sym d))
driving_stage stage.Reset d f = absurd (true≢false (sym d))
driving_stage stage.Load d f = absurd (true≢false (sym d))
driving_stage stage.Resume d f = absurd (true≢false (sym d))

driving_mode : (m : Mode) → is_driving m ≡ true → IsFitMode m → (2 ≤ stages_in m) × (32 ≤ bursts_in m)
driving_mode (mode.Boot s) d f = let k = driving_stage s d f in (k.stages', k.bursts')
driving_mode (mode.Recovering s) d f = let k = driving_stage s d f in (k.stages', k.bursts')
driving_mode mode.Running d f = absurd (true≢false (sym d))
driving_mode (mode.Dead collected) d f = absurd (true≢false (sym d))

next_mode_left : (m : Mode) (p : PartState) → is_driving m ≡ true → IsFitMode m
    → (stages_in (next_mode m p) ≤ stages_in m - 1) × (bursts_in (next_mode m p) ≤ bursts_in m - 32)
next_mode_left (mode.Boot s) p d f =
    let k = driving_stage s d f in
    let a : 2 ≤ stages_from s = k.stages' in
    (omega arith, omega arith)
next_mode_left (mode.Recovering s) p d f =
    let n = replay_next s p.log d f in
    subst (λ (q : Mode). (stages_in q ≤ stages_from s - 1) × (bursts_in q ≤ bursts_from s - 32))
    (sym (mode_after_drive s p.log d))
    (n.stages', n.bursts')
next_mode_left mode.Running p d f = absurd (true≢false (sym d))
next_mode_left (mode.Dead collected) p d f = absurd (true≢false (sym d))

-- ---- a burst of the shadow's call

-- the part after the burst, before its crossing
record IsOwn (p : PartState) (y : Context) : Type 0 where
  driving : is_driving p.mode ≡ true
  stages : IsFitMode p.mode
  context : context_of 16 p.domain.contexts ≡ Some y
  bursts : y.bursts ≤ 32
  contexts : length p.domain.contexts ≡ 17

failed_keeps : (stages bursts : ℕ) (p : PartState) (e : End) (cause : FailCause)
    → Keeps stages bursts (failed_crossing p e cause)
failed_keeps stages bursts p e cause = record { stages' = omega arith; bursts' = omega arith }

goes_on_keeps : (p q : PartState) (e : End) (y y' : Context) → q.mode ≡ p.mode
    → context_of 16 p.domain.contexts ≡ Some y
    → context_of 16 q.domain.contexts ≡ Some y' → y'.bursts ≡ y.bursts
    → Keeps (stages_left p) (bursts_left p) (goes_on q e)
goes_on_keeps p q e y y' same was is bursts =
    let a : begun (context_of 16 p.domain.contexts) ≡ 1 = ap begun was in
    let a' : begun (context_of 16 q.domain.contexts) ≡ 1 = ap begun is in
    let b : bursts_of (context_of 16 p.domain.contexts) ≡ y.bursts = ap bursts_of was in
    let b' : bursts_of (context_of 16 q.domain.contexts) ≡ y'.bursts = ap bursts_of is in
    let s : stages_in q.mode ≡ stages_in p.mode = ap stages_in same in
    let m : bursts_in q.mode ≡ bursts_in p.mode = ap bursts_in same in
    record { stages' = omega arith; bursts' = omega arith }

with_result_set : (word : ℕ) (o : Option Context) (y : Context) → o ≡ Some y
    → (y' : Context) × (with_result word o ≡ Some y') × (y'.bursts ≡ y.bursts)
with_result_set word o y e =
    (record y { cpu = record y.cpu { registers = slice_set y.cpu.registers 1 word } }, ap (with_result word) e, refl)

shadow_position : (n : ℕ) → n ≡ 17 → 16 < n
shadow_position n e = omega arith

served_keeps : (number : ℕ) (p : PartState) (y : Context) (r : Result Service BadParam) → IsOwn p y
    → Keeps (stages_left p) (bursts_left p) (serve_by number 16 p r)
unfolding result_set
served_keeps number p y (Err bad) b = failed_keeps (stages_left p) (bursts_left p) p _ _
served_keeps number p y (Ok s) b =
    let v : Served = served (heap_start p) s p.domain.memory p.domain.entries p.queue in
    let r = with_result_set v.answer (context_of 16 p.domain.contexts) y b.context in
    let d : DomainState = result_set 16 v.answer (record p.domain { memory = v.memory; entries = v.entries }) in
    goes_on_keeps p (record p { domain = d; queue = v.queue }) _ y r.0 refl b.context
    (context_set_same p.domain.contexts 16 (with_result v.answer (context_of 16 p.domain.contexts))
    (shadow_position (length p.domain.contexts) b.contexts) ∙ r.1)
    r.2

replied_keeps : (p : PartState) (y : Context) (e : End) → IsOwn p y
    → Keeps (stages_left p) (bursts_left p) (goes_on (next_stage p) e)
unfolding next_stage left_domain
replied_keeps p y e b =
    let freed : context_of 16 (slice_set p.domain.contexts 16 no_context) ≡ None =
    context_set_same p.domain.contexts 16 no_context (shadow_position (length p.domain.contexts) b.contexts) in
    let n = next_mode_left p.mode p b.driving b.stages in
    let s : stages_in (next_mode p.mode p) ≤ stages_in p.mode - 1 = n.0 in
    let m : bursts_in (next_mode p.mode p) ≤ bursts_in p.mode - 32 = n.1 in
    let a : begun (context_of 16 p.domain.contexts) ≡ 1 = ap begun b.context in
    let a' : bursts_of (context_of 16 p.domain.contexts) ≡ y.bursts = ap bursts_of b.context in
    let c : begun (context_of 16 (slice_set p.domain.contexts 16 no_context)) ≡ 0 = ap begun freed in
    let c' : bursts_of (context_of 16 (slice_set p.domain.contexts 16 no_context)) ≡ 0 = ap bursts_of freed in
    let low : y.bursts ≤ 32 = b.bursts in
    record { stages' = omega arith; bursts' = omega arith }

crossed_keeps : (e : BurstEnd) (p : PartState) (y : Context) → IsOwn p y
    → Keeps (stages_left p) (bursts_left p) (after_crossing 16 e p)
unfolding after_crossing
crossed_keeps (ends.Trap cause) p y b = failed_keeps (stages_left p) (bursts_left p) p _ _
crossed_keeps (ends.Kcall number) p y b = split (is_last 16 p)
    (λ last. rw last (failed_keeps (stages_left p) (bursts_left p) p _ _))
    (λ early. rw early (served_keeps number p y
    (checked number (first_argument 16 p.domain) (second_argument 16 p.domain) p.spec.class p.domain.entries) b))
crossed_keeps ends.Pause p y b = split (is_last 16 p)
    (λ last. rw last (failed_keeps (stages_left p) (bursts_left p) p _ _))
    (λ early. rw early (goes_on_keeps p p _ y y refl b.context b.context refl))
crossed_keeps (ends.Reply status) p y b = split (is_accepted status p)
    (λ yes'. rw yes' (replied_keeps p y _ b))
    (λ no'. rw no' (failed_keeps (stages_left p) (bursts_left p) p _ _))

own_burst : (p : PartState) (x : Context) (b : Burst) → IsFit p → IsTied p → context_of 16 p.domain.contexts ≡ Some x
    → x.bursts ≤ 31
    → is_driving p.mode ≡ true → Shortens p (burst_step 16 p (after_burst 16 x b p.domain))
own_burst p x b f t ctx low driving =
    let y : Context = record { cpu = b.machine.cpu; bursts = x.bursts + 1 } in
    let contexts : List (Option Context) = slice_set p.domain.contexts 16 (Some y) in
    let p' : PartState = with_burst (after_burst 16 x b p.domain).domain p in
    let here : context_of 16 contexts ≡ Some y =
    context_set_same p.domain.contexts 16 (Some y) (shadow_position (length p.domain.contexts) f.domain.contexts) in
    let own : IsOwn p' y = record {
      driving = driving;
      stages = t.stages;
      context = here;
      bursts = omega arith;
      contexts = length-set p.domain.contexts 16 (Some y) ∙ f.domain.contexts;
    } in
    let c : Crossed = after_crossing 16 b.ending p' in
    let k = crossed_keeps b.ending p' y own in
    let ks : unless (is_some c.failure) (stages_left c.state) ≤ stages_left p' = k.stages' in
    let kb : unless (is_some c.failure) (bursts_left c.state) ≤ bursts_left p' = k.bursts' in
    let enough = driving_mode p.mode driving t.stages in
    let many : 32 ≤ bursts_in p.mode = enough.1 in
    let a : begun (context_of 16 contexts) ≡ 1 = ap begun here in
    let a' : bursts_of (context_of 16 contexts) ≡ x.bursts + 1 = ap bursts_of here in
    let d : begun (context_of 16 p.domain.contexts) ≡ 1 = ap begun ctx in
    let d' : bursts_of (context_of 16 p.domain.contexts) ≡ x.bursts = ap bursts_of ctx in
    record { stages = omega arith; bursts = omega arith }

own_burst_by : (p : PartState) (faults : List Fault) (o : Option Context) → IsFit p → IsTied p
    → context_of 16 p.domain.contexts ≡ o
    → is_some o ≡ true → IsDriven p.mode o → Shortens p (burst_step 16 p (burst_by 16 faults p.domain o))
own_burst_by p faults None f t ctx some driven = absurd (true≢false (sym some))
own_burst_by p faults (Some x) f t ctx some driven =
    own_burst p x (burst p.domain.entries faults (machine_of x p.domain)) f t ctx driven.0 driven.1

shadow_burst : (p : PartState) (faults : List Fault) → IsFit p → IsTied p → is_driven p ≡ true
    → Shortens p (burst_step 16 p (domain_burst 16 faults p.domain))
unfolding domain_burst
shadow_burst p faults f t some = own_burst_by p faults (context_of 16 p.domain.contexts) f t refl some t.driven

-- no other burst may be taken
away_runs : (m : Mode) → is_away m ≡ true → is_running m ≡ true → ⊥
away_runs (mode.Boot s) a r = absurd cc
away_runs mode.Running a r = absurd cc
away_runs (mode.Recovering s) a r = absurd cc
away_runs (mode.Dead collected) a r = absurd cc

burst_shortens : (context : ℕ) (p : PartState) → IsFit p → IsTied p → is_away p.mode ≡ true → can_burst p context ≡ true
    → Shortens p (burst_stepped context p)
unfolding burst_stepped
burst_shortens context p f t away e = split (context == 16)
    (λ own.
    let same : context ≡ 16 = eqb-true context 16 own in
    subst (λ k. Shortens p (burst_step k p (domain_burst k (faults_of_burst (p.bursts + 1) p.spec.faults) p.domain)))
    (sym same)
    (shadow_burst p (faults_of_burst (p.bursts + 1) p.spec.faults) f t (rw own at e)))
    (λ other.
    let parts = and_parts (is_running p.mode) (is_inside (call_of_thread context p.log.pending)) (rw other at e) in
    absurd (away_runs p.mode away parts.0))

-- ---- stages

still : (p q : PartState) (s : Stage) (answers : List (ℕ × Answer)) (released : List Entry)
    → context_of 16 p.domain.contexts ≡ None
    → context_of 16 q.domain.contexts ≡ None → 1 + stages_in q.mode ≤ stages_in p.mode
    → bursts_in q.mode ≤ bursts_in p.mode
    → Shortens p (stage_step s q answers released)
still p q s answers released was is less few =
    let a : begun (context_of 16 p.domain.contexts) ≡ 0 = ap begun was in
    let b : bursts_of (context_of 16 p.domain.contexts) ≡ 0 = ap bursts_of was in
    let c : begun (context_of 16 q.domain.contexts) ≡ 0 = ap begun is in
    let d : bursts_of (context_of 16 q.domain.contexts) ≡ 0 = ap bursts_of is in
    record { stages = omega arith; bursts = omega arith }

begins : (p q : PartState) (s : Stage) (x : Context) → context_of 16 p.domain.contexts ≡ None
    → length p.domain.contexts ≡ 17
    → q.domain.contexts ≡ slice_set p.domain.contexts 16 (Some x) → x.bursts ≡ 0 → q.mode ≡ p.mode
    → 1 ≤ stages_in p.mode
    → Shortens p (stage_step s q [] [])
begins p q s x was room sets fresh same enough =
    let is : context_of 16 q.domain.contexts ≡ Some x =
    ap (context_of 16) sets
    ∙ context_set_same p.domain.contexts 16 (Some x) (shadow_position (length p.domain.contexts) room) in
    let a : begun (context_of 16 p.domain.contexts) ≡ 0 = ap begun was in
    let b : bursts_of (context_of 16 p.domain.contexts) ≡ 0 = ap bursts_of was in
    let c : begun (context_of 16 q.domain.contexts) ≡ 1 = ap begun is in
    let d : bursts_of (context_of 16 q.domain.contexts) ≡ x.bursts = ap bursts_of is in
    let e : stages_in q.mode ≡ stages_in p.mode = ap stages_in same in
    let f : bursts_in q.mode ≡ bursts_in p.mode = ap bursts_in same in
    record { stages = omega arith; bursts = omega arith }

stop_shortens : (p : PartState) → stages_in p.mode ≡ 11 → bursts_in p.mode ≡ 192
    → context_of 16 p.domain.contexts ≡ None
    → Shortens p (if is_given_up p then gives_up_part p else stops p)
unfolding gives_up_part stops stopped_domain
stop_shortens p s b free = by_test (is_given_up p)
  where
    by_test : (given : Bool) → Shortens p (if given then gives_up_part p else stops p)
    by_test true = still p (gives_up_part p).state stage.Stop _ [] free refl (omega arith) (omega arith)
    by_test false = still p (stops p).state stage.Stop _ [] free refl (omega arith) (omega arith)

stage_shortens : (m : Mode) (p : PartState) → is_away m ≡ true → IsFitMode m → length p.domain.contexts ≡ 17
    → context_of 16 p.domain.contexts ≡ None → Shortens (with_mode m p) (stage_stepped (with_mode m p))
unfolding stage_stepped collects collected_domain resets loads_image loaded_domain inits replays_set replays_open
    resumes plainly_entered entered_domain
stage_shortens mode.Running p a f l free = absurd cc
stage_shortens (mode.Dead collected) p a f l free = absurd cc
stage_shortens (mode.Boot stage.Stop) p a f l free = stop_shortens (with_mode (mode.Boot stage.Stop) p) refl refl free
stage_shortens (mode.Recovering stage.Stop) p a f l free =
    stop_shortens (with_mode (mode.Recovering stage.Stop) p) refl refl free
stage_shortens (mode.Boot stage.Collect) p a f l free =
    still (with_mode (mode.Boot stage.Collect) p) _ stage.Collect _ _ free free (omega arith) (omega arith)
stage_shortens (mode.Recovering stage.Collect) p a f l free =
    still (with_mode (mode.Recovering stage.Collect) p) _ stage.Collect _ _ free free (omega arith) (omega arith)
stage_shortens (mode.Boot stage.Reset) p a f l free =
    still (with_mode (mode.Boot stage.Reset) p) _ stage.Reset _ _ free free (omega arith) (omega arith)
stage_shortens (mode.Recovering stage.Reset) p a f l free =
    still (with_mode (mode.Recovering stage.Reset) p) _ stage.Reset _ _ free free (omega arith) (omega arith)
stage_shortens (mode.Boot stage.Load) p a f l free =
    still (with_mode (mode.Boot stage.Load) p) _ stage.Load _ _ free free (omega arith) (omega arith)
stage_shortens (mode.Recovering stage.Load) p a f l free =
    still (with_mode (mode.Recovering stage.Load) p) _ stage.Load _ _ free free (omega arith) (omega arith)
stage_shortens (mode.Boot stage.Init) p a f l free =
    begins (with_mode (mode.Boot stage.Init) p) _ stage.Init _ free l refl refl refl (omega arith)
stage_shortens (mode.Recovering stage.Init) p a f l free =
    begins (with_mode (mode.Recovering stage.Init) p) _ stage.Init _ free l refl refl refl (omega arith)
stage_shortens (mode.Boot (stage.ReplaySet key value)) p a f l free =
    begins (with_mode (mode.Boot (stage.ReplaySet key value)) p) _ (stage.ReplaySet key value) _ free l
    refl refl refl (omega arith)
stage_shortens (mode.Recovering (stage.ReplaySet key value)) p a f l free =
    begins (with_mode (mode.Recovering (stage.ReplaySet key value)) p) _ (stage.ReplaySet key value) _ free l
    refl refl refl (omega arith)
stage_shortens (mode.Boot stage.ReplayOpen) p a f l free =
    begins (with_mode (mode.Boot stage.ReplayOpen) p) _ stage.ReplayOpen _ free l refl refl refl (omega arith)
stage_shortens (mode.Recovering stage.ReplayOpen) p a f l free =
    begins (with_mode (mode.Recovering stage.ReplayOpen) p) _ stage.ReplayOpen _ free l refl refl refl (omega arith)
stage_shortens (mode.Boot stage.Resume) p a f l free =
    still (with_mode (mode.Boot stage.Resume) p) _ stage.Resume _ _ free free (omega arith) (omega arith)
stage_shortens (mode.Recovering stage.Resume) p a f l free =
    still (with_mode (mode.Recovering stage.Resume) p) _ stage.Resume _ _ free free (omega arith) (omega arith)

free_shadow : (o : Option Context) → not (is_some o) ≡ true → o ≡ None
free_shadow None h = refl
free_shadow (Some x) h = absurd (true≢false (sym h))

-- ---- every step

invoke_shortens : (p : PartState) (t : ℕ) (o : Op) (r : Option Answer) → Shortens p (invoked_by p t o r)
invoke_shortens p t o None = record { stages = omega arith; bursts = omega arith }
invoke_shortens p t o (Some a) = record { stages = omega arith; bursts = omega arith }

step_shortens : (p : PartState) (s : Step) → IsFit p → IsTied p → is_away p.mode ≡ true → enabled p s ≡ true
    → Shortens p (stepped p s)
unfolding enabled stepped after_invoke after_arrival
step_shortens p (step.Invoke thread o) f t away e =
    invoke_shortens p thread o (static_check p.spec.class p.spec.blocks o)
step_shortens p (step.Enter thread) f t away e =
    absurd (away_runs p.mode away
    (and_parts (is_running p.mode) (is_ready p (call_of_thread thread p.log.pending)) e).0)
step_shortens p (step.Burst context) f t away e = burst_shortens context p f t away e
step_shortens p step.Stage f t away e =
    stage_shortens p.mode p away t.stages f.domain.contexts
    (free_shadow (context_of 16 p.domain.contexts) (and_parts (is_some (stage_due p.mode)) (not (is_driven p)) e).1)
step_shortens p (step.Arrive frame) f t away e = record { stages = omega arith; bursts = omega arith }

-- ---- the events while the driver is away

counts_from : (p : PartState) (events : List Event) → IsFit p → IsTied p → IsRunFrom p events
    → (count_by is_stage (while_away p events) ≤ stages_left p)
    × (count_by is_burst (while_away p events) ≤ bursts_left p)
unfolding IsRunFrom while_away
counts_from p [] f t r = (omega arith, omega arith)
counts_from p (e ∷ events) f t r = split (is_away p.mode)
    (λ away.
    let q : PartState = state_after p (step_of e) in
    let k = step_shortens p (step_of e) f t away r.0 in
    let ks : cond (is_stage e) 1 0 + unless (carries_failure e) (stages_left q) ≤ stages_left p =
    subst (λ (x : Event). cond (is_stage x) 1 0 + unless (carries_failure x) (stages_left q) ≤ stages_left p) r.1
    k.stages in
    let kb : cond (is_burst e) 1 0 + unless (carries_failure e) (bursts_left q) ≤ bursts_left p =
    subst (λ (x : Event). cond (is_burst x) 1 0 + unless (carries_failure x) (bursts_left q) ≤ bursts_left p) r.1
    k.bursts in
    let more = counts_from q events (fit_after p (step_of e) f r.0) (tied_after p (step_of e) f t r.0) r.2 in
    rw away (by_failure (carries_failure e) q ks kb more))
    (λ here. rw here (omega arith, omega arith))
  where
    by_failure : (b : Bool) (q : PartState) → cond (is_stage e) 1 0 + unless b (stages_left q) ≤ stages_left p
        → cond (is_burst e) 1 0 + unless b (bursts_left q) ≤ bursts_left p
        → (count_by is_stage (while_away q events) ≤ stages_left q)
        × (count_by is_burst (while_away q events) ≤ bursts_left q)
        → (count_by is_stage (e ∷ (if b then [] else while_away q events)) ≤ stages_left p)
        × (count_by is_burst (e ∷ (if b then [] else while_away q events)) ≤ bursts_left p)
    by_failure true q ks kb more =
        let s : count_by is_stage (e ∷ []) ≡ cond (is_stage e) 1 0 + 0 = count_more is_stage e [] in
        let b : count_by is_burst (e ∷ []) ≡ cond (is_burst e) 1 0 + 0 = count_more is_burst e [] in
        (omega arith, omega arith)
    by_failure false q ks kb more =
        let s : count_by is_stage (e ∷ while_away q events)
        ≡ cond (is_stage e) 1 0 + count_by is_stage (while_away q events) =
        count_more is_stage e (while_away q events) in
        let b : count_by is_burst (e ∷ while_away q events)
        ≡ cond (is_burst e) 1 0 + count_by is_burst (while_away q events) =
        count_more is_burst e (while_away q events) in
        let ms : count_by is_stage (while_away q events) ≤ stages_left q = more.0 in
        let mb : count_by is_burst (while_away q events) ≤ bursts_left q = more.1 in
        (omega arith, omega arith)

-- the instructions of an event
domain_turns : (context : ℕ) (faults : List Fault) (d : DomainState) → (domain_burst context faults d).count ≤ 4096
unfolding domain_burst
domain_turns context faults d = by_context (context_of context d.contexts)
  where
    by_context : (o : Option Context) → (burst_by context faults d o).count ≤ 4096
    by_context None = omega arith
    by_context (Some x) = (burst_bounded d.entries faults (machine_of x d)).turns

event_turns : (p : PartState) (e : Event) → event_of p (step_of e) ≡ e → turns_of e ≤ 4096
unfolding stepped burst_stepped
event_turns p (event.Invoke call t o a) same = omega arith
event_turns p (event.Enter call t attempt a) same = omega arith
event_turns p (event.Burst context call burst count end acts a failure) same =
    let n : (domain_burst context (faults_of_burst (p.bursts + 1) p.spec.faults) p.domain).count ≡ count =
    ap turns_of same in
    let few : (domain_burst context (faults_of_burst (p.bursts + 1) p.spec.faults) p.domain).count ≤ 4096 =
    domain_turns context (faults_of_burst (p.bursts + 1) p.spec.faults) p.domain in
    omega arith
event_turns p (event.Stage s answers released) same = omega arith
event_turns p (event.Arrive frame kept) same = omega arith

-- no call enters, and no other burst may be taken
event_shadows : (p : PartState) (e : Event) → is_away p.mode ≡ true → enabled p (step_of e) ≡ true → IsShadows e
unfolding enabled
event_shadows p (event.Invoke call t o a) away may = tt
event_shadows p (event.Enter call t attempt a) away may =
    away_runs p.mode away (and_parts (is_running p.mode) (is_ready p (call_of_thread t p.log.pending)) may).0
event_shadows p (event.Burst context call burst count end acts a failure) away may = split (context == 16)
    (λ own. eqb-true context 16 own)
    (λ other. absurd (away_runs p.mode away
    (and_parts (is_running p.mode) (is_inside (call_of_thread context p.log.pending)) (rw other at may)).0))
event_shadows p (event.Stage s answers released) away may = tt
event_shadows p (event.Arrive frame kept) away may = tt

-- what holds of each event while the driver is away
each_away : (P : Event → Type 0)
    → ((p : PartState) (e : Event) → is_away p.mode ≡ true → enabled p (step_of e) ≡ true
    → event_of p (step_of e) ≡ e → P e)
    → (p : PartState) (events : List Event) → IsRunFrom p events → AllByRecursion P (while_away p events)
unfolding IsRunFrom while_away
each_away P holds p [] r = tt
each_away P holds p (e ∷ events) r =
    by_away (is_away p.mode) (carries_failure e) refl (each_away P holds (state_after p (step_of e)) events r.2)
  where
    q : PartState
    q = state_after p (step_of e)

    by_away : (away failed : Bool) → is_away p.mode ≡ away → AllByRecursion P (while_away q events)
        → AllByRecursion P (if away then e ∷ (if failed then [] else while_away q events) else [])
    by_away false failed same more = tt
    by_away true true same more = (holds p e same r.0 r.1, tt)
    by_away true false same more = (holds p e same r.0 r.1, more)

-- ---- the bound

few_from : (s : Stage) → (stages_from s ≤ 11) × (bursts_from s ≤ 192)
few_from stage.Stop = (omega arith, omega arith)
few_from stage.Collect = (omega arith, omega arith)
few_from stage.Reset = (omega arith, omega arith)
few_from stage.Load = (omega arith, omega arith)
few_from stage.Init = (omega arith, omega arith)
few_from (stage.ReplaySet key value) = (omega arith, omega arith)
few_from stage.ReplayOpen = (omega arith, omega arith)
few_from stage.Resume = (omega arith, omega arith)

few_in : (m : Mode) → (stages_in m ≤ 11) × (bursts_in m ≤ 192)
few_in (mode.Boot s) = few_from s
few_in mode.Running = (omega arith, omega arith)
few_in (mode.Recovering s) = few_from s
few_in (mode.Dead collected) = (omega arith, omega arith)

pub short_away : (p : PartState) (events : List Event) → IsFit p → IsTied p → IsRunFrom p events
    → IsShort (while_away p events)
short_away p events f t r =
    let k = counts_from p events f t r in
    let s : count_by is_stage (while_away p events) ≤ stages_left p = k.0 in
    let b : count_by is_burst (while_away p events) ≤ bursts_left p = k.1 in
    let few = few_in p.mode in
    let fs : stages_in p.mode ≤ 11 = few.0 in
    let fb : bursts_in p.mode ≤ 192 = few.1 in
    record {
      stages = omega arith;
      bursts = omega arith;
      turns = each_away (λ e. turns_of e ≤ 4096) (λ p e away may same. event_turns p e same) p events r;
      shadows = each_away IsShadows (λ p e away may same. event_shadows p e away may) p events r;
    }
