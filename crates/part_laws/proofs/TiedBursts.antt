use Rattle.std.proofs.Common.{◌≡◌, ℕ, ◌+◌, ◌-◌, ◌*◌, ◌<◌, ◌≤◌, ◌==◌, not, is_some, Bool, true, false, Option, Some, None, List, [], ◌∷◌, length, map, replicate, slice_set, refl, sym, ap, ◌∙◌, subst, arith, true≢false, eqb-true}
use Rattle.std.specs.List.{filter, AllByRecursion}
use Rattle.std.proofs.lemmas.Bool.{and_parts, ltb-false}
use Rattle.nook_data.specs.declared.calls.CallEntry.{CallEntry}
use Rattle.nook_data.specs.declared.steps.Event.{Event}
use Rattle.nook_data.specs.declared.scenario.Fault.{Fault}
use Rattle.nook_data.specs.declared.steps.Mode.{Mode}
use Rattle.nook_data.specs.declared.steps.Mode.TheVariants as mode
use Rattle.nook_data.specs.declared.calls.Op.TheVariants as op
use Rattle.nook_data.specs.declared.steps.Stage.{Stage}
use Rattle.nook_data.specs.declared.steps.Stage.TheVariants as stage
use Rattle.nook_data.specs.declared.steps.Step.{Step}
use Rattle.nook_data.specs.declared.steps.Step.TheVariants as step
use Rattle.nook_data.specs.declared.machine.Context.{Context}
use Rattle.machine_defs.specs.Burst.{Burst, burst}
use Rattle.nook_data.specs.Classes.{init_address, open_point, set_position}
use Rattle.part_defs.specs.Crossing.{after_crossing}
use Rattle.part_defs.specs.Domain.{context_of, machine_of, after_burst, domain_burst, entered_domain, plainly_entered}
use Rattle.part_defs.specs.Domain.{stopped_domain, collected_domain, loaded_domain}
use Rattle.part_defs.specs.Log.{held_call, call_of_thread, is_held}
use Rattle.part_defs.proofs.PartCases.{burst_by, burst_step, no_context, stage_by, stop_calls, with_burst}
use Rattle.part_defs.specs.Stages.{stage_due, with_stage, is_given_up, stops, gives_up_part, collects, with_reset}
use Rattle.part_defs.specs.Stages.{resets, loads_image, inits, replays_set, replays_open, resumes, stage_done}
use Rattle.part_defs.specs.Stages.{stage_stepped}
use Rattle.part_defs.specs.State.{DomainState, PartState}
use Rattle.part_defs.specs.Steps.{enabled, is_running, is_driven, is_inside, can_burst, can_stage, burst_stepped}
use Rattle.part_defs.specs.Steps.{stepped}
use Rattle.machine_defs.specs.BurstFaults.{faults_of_burst}
use Rattle.machine_defs.proofs.BurstKeeps.{split}
use Rattle.part_laws.proofs.EntriesFit.{filter_fits}
use Rattle.part_laws.proofs.RunsDetermined.{found_thread}
use Rattle.part_laws.proofs.StepsFit.{all_map}
use Rattle.part_laws.proofs.CrossingFit.{found_fits}
use Rattle.part_laws.proofs.TiedCalls.{context_set_same, context_set_other, SameBut, set_same_but, rising_filter, rising_map, apart_filter, apart_map, inside_left, call_left, calls_left, AreThreads, one_less, held_left}
use Rattle.part_laws.proofs.TiedCrossing.{stage_left, mode_left, spent, left, CrossTied, all_weaker, driven_none, IsCallBurst, IsLoose, call_crossed, IsOwnBurst, own_crossed, away_calls, same_left_sixteen, driving_left}
use Rattle.part_laws.specs.Fit.{IsFit}
use Rattle.part_laws.specs.Tied.{GoesOn, is_stop, IsAwayCall, IsRunningCall, IsTiedCall, is_driving_stage, is_driving, IsDriven, IsFitStage, IsFitMode, may_exceed, IsTied}
use Rattle.std.proofs.lemmas.List.{length-set}
use Rattle.part_laws.proofs.TiedSteps.{price, StepTied, threads_of_fit, running_is, invoke_tied, enter_tied, arrive_tied}
use Rattle.nook_data.proofs.Options.{none_is_some, same_inside}

-- Bursts and stages keep calls, contexts and mode consistent, and so does every step.

-- a burst of a thread's call

loose_calls : (t failures : ℕ) (before after : List (Option Context)) (pending : List CallEntry) → SameBut t before after → AreThreads pending
    → AllByRecursion (IsRunningCall failures before) pending → AllByRecursion (IsLoose t failures after) pending
loose_calls t failures before after [] s th all = tt
loose_calls t failures before after (d ∷ pending) s th all = (
  (all.0.0, all.0.1, λ inside other. subst GoesOn (sym (s d.thread th.0 other)) (all.0.2 inside)),
  loose_calls t failures before after pending s th.1 all.1,
)

burst_call : (threads t : ℕ) (p : PartState) (c : CallEntry) (x : Context) (b : Burst) → IsFit p → IsTied p → p.mode ≡ mode.Running
    → call_of_thread t p.log.pending ≡ Some c → c.inside ≡ true → context_of t p.domain.contexts ≡ Some x → x.bursts ≤ 31
    → StepTied threads p (burst_step t p (after_burst t x b p.domain))
burst_call threads t p c x b f tied running found inside ctx low =
    let th : AreThreads p.log.pending = threads_of_fit p f in
    let same : c.thread ≡ t = found_thread t p.log.pending c found in
    let below : c.thread < 16 = found_fits (λ z. z.thread < 16) _ p.log.pending c th found in
    let below' : t < 16 = omega arith in
    let y : Context = record { cpu = b.machine.cpu; bursts = x.bursts + 1 } in
    let contexts : List (Option Context) = slice_set p.domain.contexts t (Some y) in
    let p' : PartState = with_burst (after_burst t x b p.domain).domain p in
    let here : context_of t contexts ≡ Some y = context_set_same p.domain.contexts t (Some y) (within t (length p.domain.contexts) below' f.domain.contexts) in
    let shadow : context_of 16 p.domain.contexts ≡ None = free_shadow p.mode (context_of 16 p.domain.contexts) running tied.driven in
    let shadow' : context_of 16 contexts ≡ None = context_set_other p.domain.contexts t 16 (Some y) (apart t below') ∙ shadow in
    let was : AllByRecursion (IsRunningCall p.failures p.domain.contexts) p.log.pending =
    subst (λ m. AllByRecursion (IsTiedCall m p.failures p.domain.contexts) p.log.pending) running tied.calls in
    let burst' : IsCallBurst t p' c y = record {
      running = running;
      rising = tied.rising;
      apart = tied.apart;
      threads = th;
      found = found;
      inside = inside;
      thread = same;
      below = below';
      context = here;
      bursts = omega arith;
      loose = loose_calls t p.failures p.domain.contexts contexts p.log.pending (set_same_but t p.domain.contexts (Some y)) th was;
      shadow = shadow';
      within = tied.within (subst (λ m. may_exceed m ≡ false) (sym running) refl);
      contexts = lengths t y;
    } in
    let k : CrossTied threads p' (after_crossing t b.ending p') = call_crossed threads t b.ending p' c y burst' in
    let after : call_left contexts c ≡ 32 - y.bursts =
    ap (λ (i : Bool). inside_left i (context_of c.thread contexts)) inside ∙ ap (inside_left true) (ap (λ (n : ℕ). context_of n contexts) same ∙ here) in
    let before : call_left p.domain.contexts c ≡ 32 - x.bursts =
    ap (λ (i : Bool). inside_left i (context_of c.thread p.domain.contexts)) inside
    ∙ ap (inside_left true) (ap (λ (n : ℕ). context_of n p.domain.contexts) same ∙ ctx) in
    let less : calls_left contexts p.log.pending + 1 ≤ calls_left p.domain.contexts p.log.pending =
    one_less t 1 p.domain.contexts contexts p.log.pending c (set_same_but t p.domain.contexts (Some y)) th tied.apart found (omega arith) in
    let sp : spent (context_of 16 contexts) ≡ 0 = ap spent shadow' in
    let sp' : spent (context_of 16 p.domain.contexts) ≡ 0 = ap spent shadow in
    let cost : left threads p' + 1 ≤ left threads p = omega arith in
    let kc = k.cost in
    record {
      tied = k.tied;
      cost = omega arith;
      calls = λ test all mine. k.calls test all;
    }
  where
    within : (t n : ℕ) → t < 16 → n ≡ 17 → t < n
    within t n h e = omega arith

    apart : (t : ℕ) → t < 16 → 16 ≡ t → ⊥
    apart t h e = omega arith

    lengths : (i : ℕ) (y : Context) → length (slice_set p.domain.contexts i (Some y)) ≡ 17
    lengths i y = length-set p.domain.contexts i (Some y) ∙ f.domain.contexts

    free_shadow : (m : Mode) (o : Option Context) → m ≡ mode.Running → IsDriven m o → o ≡ None
    free_shadow m None e h = refl
    free_shadow m (Some x) e h = absurd (true≢false (sym h.1 ∙ ap is_driving e))

burst_call_by : (threads t : ℕ) (p : PartState) (c : CallEntry) (faults : List Fault) (o : Option Context) → IsFit p → IsTied p → p.mode ≡ mode.Running
    → call_of_thread t p.log.pending ≡ Some c → c.inside ≡ true → context_of t p.domain.contexts ≡ o → GoesOn o
    → StepTied threads p (burst_step t p (burst_by t faults p.domain o))
burst_call_by threads t p c faults None f tied running found inside ctx goes = absurd goes
burst_call_by threads t p c faults (Some x) f tied running found inside ctx goes =
    burst_call threads t p c x (burst p.domain.entries faults (machine_of x p.domain)) f tied running found inside ctx goes

burst_found : (threads t : ℕ) (p : PartState) (o : Option CallEntry) (faults : List Fault) → IsFit p → IsTied p → p.mode ≡ mode.Running
    → call_of_thread t p.log.pending ≡ o → is_inside o ≡ true → StepTied threads p (burst_step t p (domain_burst t faults p.domain))
unfolding domain_burst
burst_found threads t p None faults f tied running found inside = absurd (true≢false (sym inside))
burst_found threads t p (Some c) faults f tied running found inside =
    let was : AllByRecursion (IsRunningCall p.failures p.domain.contexts) p.log.pending =
    subst (λ m. AllByRecursion (IsTiedCall m p.failures p.domain.contexts) p.log.pending) running tied.calls in
    let one : IsRunningCall p.failures p.domain.contexts c = found_fits (IsRunningCall p.failures p.domain.contexts) _ p.log.pending c was found in
    let goes : GoesOn (context_of t p.domain.contexts) =
    subst (λ k. GoesOn (context_of k p.domain.contexts)) (found_thread t p.log.pending c found) (one.2 inside) in
    burst_call_by threads t p c faults (context_of t p.domain.contexts) f tied running found inside refl goes

-- a burst of the shadow's call

driving_not_stop : (s : Stage) → is_driving_stage s ≡ true → is_stop s ≡ false
driving_not_stop stage.Stop h = absurd (true≢false (sym h))
driving_not_stop _ h = refl

driving_calls : (m : Mode) (failures : ℕ) (contexts : List (Option Context)) (pending : List CallEntry) → is_driving m ≡ true
    → AllByRecursion (IsTiedCall m failures contexts) pending
    → AllByRecursion (λ d. (d.attempts ≤ failures) × (d.inside ≡ false)) pending
driving_calls (mode.Boot s) failures contexts pending h all =
    all_weaker (IsAwayCall s failures) (λ d. (d.attempts ≤ failures) × (d.inside ≡ false)) pending (λ d k. (k.0, k.1 (driving_not_stop s h))) all
driving_calls (mode.Recovering s) failures contexts pending h all =
    all_weaker (IsAwayCall s failures) (λ d. (d.attempts ≤ failures) × (d.inside ≡ false)) pending (λ d k. (k.0, k.1 (driving_not_stop s h))) all
driving_calls mode.Running failures contexts pending h all = absurd (true≢false (sym h))
driving_calls (mode.Dead collected) failures contexts pending h all = absurd (true≢false (sym h))

driving_within : (m : Mode) → is_driving m ≡ true → may_exceed m ≡ false
driving_within (mode.Boot s) h = driving_not_stop s h
driving_within (mode.Recovering s) h = driving_not_stop s h
driving_within mode.Running h = refl
driving_within (mode.Dead collected) h = absurd (true≢false (sym h))

driving_mode_left : (threads : ℕ) (m : Mode) → is_driving m ≡ true → IsFitMode m → 34 ≤ mode_left threads m
driving_mode_left threads (mode.Boot s) h f = driving_left threads s h f
driving_mode_left threads (mode.Recovering s) h f = driving_left threads s h f
driving_mode_left threads mode.Running h f = absurd (true≢false (sym h))
driving_mode_left threads (mode.Dead collected) h f = absurd (true≢false (sym h))

burst_own : (threads : ℕ) (p : PartState) (x : Context) (b : Burst) → IsFit p → IsTied p
    → context_of 16 p.domain.contexts ≡ Some x → x.bursts ≤ 31 → is_driving p.mode ≡ true
    → StepTied threads p (burst_step 16 p (after_burst 16 x b p.domain))
burst_own threads p x b f tied ctx low driving =
    let th : AreThreads p.log.pending = threads_of_fit p f in
    let y : Context = record { cpu = b.machine.cpu; bursts = x.bursts + 1 } in
    let contexts : List (Option Context) = slice_set p.domain.contexts 16 (Some y) in
    let p' : PartState = with_burst (after_burst 16 x b p.domain).domain p in
    let here : context_of 16 contexts ≡ Some y = context_set_same p.domain.contexts 16 (Some y) (within (length p.domain.contexts) f.domain.contexts) in
    let burst' : IsOwnBurst p' y = record {
      driving = driving;
      rising = tied.rising;
      apart = tied.apart;
      threads = th;
      context = here;
      bursts = omega arith;
      calls = driving_calls p.mode p.failures p.domain.contexts p.log.pending driving tied.calls;
      stages = tied.stages;
      within = tied.within (driving_within p.mode driving);
      contexts = length-set p.domain.contexts 16 (Some y) ∙ f.domain.contexts;
    } in
    let k : CrossTied threads p' (after_crossing 16 b.ending p') = own_crossed threads b.ending p' y burst' in
    let same : calls_left contexts p.log.pending ≡ calls_left p.domain.contexts p.log.pending =
    same_left_sixteen p.domain.contexts contexts p.log.pending (set_same_but 16 p.domain.contexts (Some y)) th in
    let sp : spent (context_of 16 contexts) ≡ 1 + (x.bursts + 1) = ap spent here in
    let sp' : spent (context_of 16 p.domain.contexts) ≡ 1 + x.bursts = ap spent ctx in
    let enough : 34 ≤ mode_left threads p.mode = driving_mode_left threads p.mode driving tied.stages in
    let cost : left threads p' + 1 ≤ left threads p = omega arith in
    let kc = k.cost in
    record {
      tied = k.tied;
      cost = omega arith;
      calls = λ test all mine. k.calls test all;
    }
  where
    within : (n : ℕ) → n ≡ 17 → 16 < n
    within n e = omega arith

burst_own_by : (threads : ℕ) (p : PartState) (faults : List Fault) (o : Option Context) → IsFit p → IsTied p
    → context_of 16 p.domain.contexts ≡ o → is_some o ≡ true → IsDriven p.mode o → StepTied threads p (burst_step 16 p (burst_by 16 faults p.domain o))
burst_own_by threads p faults None f tied ctx some driven = absurd (true≢false (sym some))
burst_own_by threads p faults (Some x) f tied ctx some driven =
    burst_own threads p x (burst p.domain.entries faults (machine_of x p.domain)) f tied ctx driven.0 driven.1

burst_sixteen : (threads : ℕ) (p : PartState) (faults : List Fault) → IsFit p → IsTied p → is_driven p ≡ true
    → StepTied threads p (burst_step 16 p (domain_burst 16 faults p.domain))
unfolding domain_burst
burst_sixteen threads p faults f tied some = burst_own_by threads p faults (context_of 16 p.domain.contexts) f tied refl some tied.driven

burst_tied : (threads context : ℕ) (p : PartState) → IsFit p → IsTied p → can_burst p context ≡ true → StepTied threads p (burst_stepped context p)
unfolding burst_stepped
burst_tied threads context p f tied e = split (context == 16)
    (λ own.
    let same : context ≡ 16 = eqb-true context 16 own in
    subst (λ k. StepTied threads p (burst_step k p (domain_burst k (faults_of_burst (p.bursts + 1) p.spec.faults) p.domain))) (sym same)
    (burst_sixteen threads p (faults_of_burst (p.bursts + 1) p.spec.faults) f tied (rw own at e)))
    (λ other.
    let parts = and_parts (is_running p.mode) (is_inside (call_of_thread context p.log.pending)) (rw other at e) in
    burst_found threads context p (call_of_thread context p.log.pending) (faults_of_burst (p.bursts + 1) p.spec.faults) f tied
    (running_is p.mode parts.0) refl parts.1)

-- Stages

abbrev is_collect : Stage → Bool
is_collect stage.Collect = true
is_collect _ = false

due_left : (threads : ℕ) (m : Mode) (s : Stage) → stage_due m ≡ Some s → mode_left threads m ≡ stage_left threads s
due_left threads (mode.Boot x) s h = ap (stage_left threads) (same_inside h)
due_left threads mode.Running s h = none_is_some h
due_left threads (mode.Recovering x) s h = ap (stage_left threads) (same_inside h)
due_left threads (mode.Dead false) s h = ap (stage_left threads) (same_inside h)
due_left threads (mode.Dead true) s h = none_is_some h

due_calls : (m : Mode) (s : Stage) (failures : ℕ) (contexts : List (Option Context)) (pending : List CallEntry) → stage_due m ≡ Some s
    → AllByRecursion (IsTiedCall m failures contexts) pending → AllByRecursion (IsAwayCall s failures) pending
due_calls (mode.Boot x) s failures contexts pending h all = subst (λ z. AllByRecursion (IsAwayCall z failures) pending) (same_inside h) all
due_calls mode.Running s failures contexts pending h all = none_is_some h
due_calls (mode.Recovering x) s failures contexts pending h all = subst (λ z. AllByRecursion (IsAwayCall z failures) pending) (same_inside h) all
due_calls (mode.Dead collected) s failures contexts pending h all =
    all_weaker (λ d. ⊥) (IsAwayCall s failures) pending (λ d k. absurd k) all

due_driving : (m : Mode) (s : Stage) → stage_due m ≡ Some s → is_driving_stage s ≡ true → is_driving m ≡ true
due_driving (mode.Boot x) s h d = ap is_driving_stage (same_inside h) ∙ d
due_driving mode.Running s h d = none_is_some h
due_driving (mode.Recovering x) s h d = ap is_driving_stage (same_inside h) ∙ d
due_driving (mode.Dead false) s h d = absurd (true≢false (sym d ∙ sym (ap is_driving_stage (same_inside h))))
due_driving (mode.Dead true) s h d = none_is_some h

due_within : (m : Mode) (s : Stage) → stage_due m ≡ Some s → is_stop s ≡ false → is_collect s ≡ false → may_exceed m ≡ false
due_within (mode.Boot x) s h a b = ap is_stop (same_inside h) ∙ a
due_within mode.Running s h a b = refl
due_within (mode.Recovering x) s h a b = ap is_stop (same_inside h) ∙ a
due_within (mode.Dead false) s h a b = absurd (true≢false (ap is_collect (same_inside h) ∙ b))
due_within (mode.Dead true) s h a b = none_is_some h

record IsMoved (threads failures : ℕ) (m q : Mode) (s : Stage) : Type 0 where
  calls : (before after : List (Option Context)) (pending : List CallEntry) → AllByRecursion (IsTiedCall m failures before) pending
      → AllByRecursion (IsTiedCall q failures after) pending
  fit : IsFitMode q
  cost : mode_left threads q ≤ stage_left threads s
  within : may_exceed q ≡ false → may_exceed m ≡ false

away_moved : (x s : Stage) (failures : ℕ) (pending : List CallEntry) → is_stop x ≡ false
    → AllByRecursion (IsAwayCall x failures) pending → AllByRecursion (IsAwayCall s failures) pending
away_moved x s failures pending h all = all_weaker (IsAwayCall x failures) (IsAwayCall s failures) pending (λ d k. (k.0, λ e. k.1 h)) all

moved : (threads failures : ℕ) (m : Mode) (s next : Stage) → stage_due m ≡ Some s → is_stop s ≡ false → is_collect s ≡ false
    → IsFitStage next → IsMoved threads failures m (with_stage next m) next
moved threads failures (mode.Boot x) s next h a b f =
    let n : is_stop x ≡ false = ap is_stop (same_inside h) ∙ a in
    record { calls = λ before after pending all. away_moved x next failures pending n all; fit = f; cost = omega arith; within = λ e. n }
moved threads failures (mode.Recovering x) s next h a b f =
    let n : is_stop x ≡ false = ap is_stop (same_inside h) ∙ a in
    record { calls = λ before after pending all. away_moved x next failures pending n all; fit = f; cost = omega arith; within = λ e. n }
moved threads failures mode.Running s next h a b f = none_is_some h
moved threads failures (mode.Dead false) s next h a b f = absurd (true≢false (ap is_collect (same_inside h) ∙ b))
moved threads failures (mode.Dead true) s next h a b f = none_is_some h

collect_moved : (threads failures : ℕ) (m : Mode) → stage_due m ≡ Some stage.Collect → IsMoved threads failures m (with_stage stage.Reset m) stage.Reset
collect_moved threads failures (mode.Boot x) h =
    let n : is_stop x ≡ false = ap is_stop (same_inside h) in
    record { calls = λ before after pending all. away_moved x stage.Reset failures pending n all; fit = tt; cost = omega arith; within = λ e. n }
collect_moved threads failures (mode.Recovering x) h =
    let n : is_stop x ≡ false = ap is_stop (same_inside h) in
    record { calls = λ before after pending all. away_moved x stage.Reset failures pending n all; fit = tt; cost = omega arith; within = λ e. n }
collect_moved threads failures mode.Running h = none_is_some h
collect_moved threads failures (mode.Dead false) h =
    record { calls = λ before after pending all. all; fit = tt; cost = omega arith; within = λ e. absurd (true≢false e) }
collect_moved threads failures (mode.Dead true) h = none_is_some h

moved_step : (threads : ℕ) (p : PartState) (s next : Stage) (q : Mode) (d : DomainState) (e : Event) → IsTied p
    → context_of 16 p.domain.contexts ≡ None → d.contexts ≡ p.domain.contexts → stage_due p.mode ≡ Some s
    → stage_left threads next + 1 ≤ stage_left threads s → IsMoved threads p.failures p.mode q next → price threads e ≡ 0
    → StepTied threads p (record { state = record p { domain = d; mode = q }; event = e })
moved_step threads p s next q d e t free same due less mv cheap =
    let was : mode_left threads p.mode ≡ stage_left threads s = due_left threads p.mode s due in
    let c : mode_left threads q ≤ stage_left threads next = mv.cost in
    let free' : context_of 16 d.contexts ≡ None = ap (context_of 16) same ∙ free in
    let calls' : calls_left d.contexts p.log.pending ≡ calls_left p.domain.contexts p.log.pending =
    ap (λ (cs : List (Option Context)). calls_left cs p.log.pending) same in
    let a : spent (context_of 16 d.contexts) ≡ 0 = ap spent free' in
    let b : spent (context_of 16 p.domain.contexts) ≡ 0 = ap spent free in
    record {
      tied = record {
        rising = t.rising;
        apart = t.apart;
        calls = mv.calls p.domain.contexts d.contexts p.log.pending t.calls;
        driven = driven_none q _ free';
        stages = mv.fit;
        limit = t.limit;
        within = λ h. t.within (mv.within h);
      };
      cost = omega arith;
      calls = λ test all mine. all;
    }

driven_step : (threads : ℕ) (p : PartState) (s : Stage) (x : Context) (d : DomainState) (e : Event) → IsFit p → IsTied p
    → context_of 16 p.domain.contexts ≡ None → d.contexts ≡ slice_set p.domain.contexts 16 (Some x) → x.bursts ≡ 0
    → stage_due p.mode ≡ Some s → is_driving_stage s ≡ true → price threads e ≡ 0
    → StepTied threads p (record { state = record p { domain = d }; event = e })
driven_step threads p s x d e f t free ctx fresh due driving' cheap =
    let driving : is_driving p.mode ≡ true = due_driving p.mode s due driving' in
    let here : context_of 16 d.contexts ≡ Some x =
    ap (context_of 16) ctx ∙ context_set_same p.domain.contexts 16 (Some x) (within (length p.domain.contexts) f.domain.contexts) in
    let same : calls_left d.contexts p.log.pending ≡ calls_left p.domain.contexts p.log.pending =
    same_left_sixteen p.domain.contexts d.contexts p.log.pending
    (subst (λ cs. SameBut 16 p.domain.contexts cs) (sym ctx) (set_same_but 16 p.domain.contexts (Some x))) (threads_of_fit p f) in
    let a : spent (context_of 16 d.contexts) ≡ 1 + x.bursts = ap spent here in
    let b : spent (context_of 16 p.domain.contexts) ≡ 0 = ap spent free in
    let enough : 34 ≤ mode_left threads p.mode = driving_mode_left threads p.mode driving t.stages in
    let low : x.bursts ≤ 31 = omega arith in
    record {
      tied = record {
        rising = t.rising;
        apart = t.apart;
        calls = away_calls p.mode p.failures d.contexts p.log.pending driving
            (driving_calls p.mode p.failures p.domain.contexts p.log.pending driving t.calls);
        driven = subst (λ o. IsDriven p.mode o) (sym here) (low, driving);
        stages = t.stages;
        limit = t.limit;
        within = t.within;
      };
      cost = omega arith;
      calls = λ test all mine. all;
    }
  where
    within : (n : ℕ) → n ≡ 17 → 16 < n
    within n e = omega arith

resume_calls : (failures : ℕ) (contexts : List (Option Context)) (pending : List CallEntry)
    → AllByRecursion (IsAwayCall stage.Resume failures) pending → AllByRecursion (IsRunningCall failures contexts) pending
resume_calls failures contexts pending all =
    all_weaker (IsAwayCall stage.Resume failures) (IsRunningCall failures contexts) pending
    (λ d k. let a : d.attempts ≤ failures = k.0 in
    (omega arith, λ e. a, λ i. absurd (true≢false (sym i ∙ k.1 refl)))) all

resume_step : (threads : ℕ) (p : PartState) → IsTied p → context_of 16 p.domain.contexts ≡ None → stage_due p.mode ≡ Some stage.Resume
    → StepTied threads p (resumes p)
unfolding resumes
resume_step threads p t free due =
    let was : mode_left threads p.mode ≡ 1 = due_left threads p.mode stage.Resume due in
    let b : spent (context_of 16 p.domain.contexts) ≡ 0 = ap spent free in
    record {
      tied = record {
        rising = t.rising;
        apart = t.apart;
        calls = resume_calls p.failures p.domain.contexts p.log.pending
            (due_calls p.mode stage.Resume p.failures p.domain.contexts p.log.pending due t.calls);
        driven = driven_none mode.Running _ free;
        stages = tt;
        limit = t.limit;
        within = λ h. t.within (due_within p.mode stage.Resume due refl refl);
      };
      cost = omega arith;
      calls = λ test all mine. all;
    }

held_calls : (failures : ℕ) (pending : List CallEntry) → AllByRecursion (IsAwayCall stage.Stop failures) pending
    → AllByRecursion (IsAwayCall stage.Collect failures) (map held_call pending)
held_calls failures [] all = tt
held_calls failures (c ∷ pending) all = ((all.0.0, λ e. refl), held_calls failures pending all.1)

stop_step : (threads : ℕ) (p : PartState) → IsTied p → length p.log.pending ≤ threads → context_of 16 p.domain.contexts ≡ None
    → stage_due p.mode ≡ Some stage.Stop → is_given_up p ≡ false → StepTied threads p (stops p)
unfolding stops stopped_domain
stop_step threads p t few free due going =
    let was : mode_left threads p.mode ≡ stage_left threads stage.Stop = due_left threads p.mode stage.Stop due in
    let b : spent (context_of 16 p.domain.contexts) ≡ 0 = ap spent free in
    let away : AllByRecursion (IsAwayCall stage.Stop p.failures) p.log.pending =
    due_calls p.mode stage.Stop p.failures p.domain.contexts p.log.pending due t.calls in
    let low : p.failures ≤ p.spec.limit = ltb-false p.spec.limit p.failures going in
    let l : calls_left (replicate 17 no_context) (stop_calls p.log.pending) ≤ 33 * length p.log.pending =
    held_left (replicate 17 no_context) (λ c. is_held c.op) p.log.pending in
    record {
      tied = record {
        rising = rising_map held_call 0 p.log.count (filter (λ c. is_held c.op) p.log.pending) (λ c. refl)
            (rising_filter (λ c. is_held c.op) 0 p.log.count p.log.pending t.rising);
        apart = apart_map held_call (filter (λ c. is_held c.op) p.log.pending) (λ c. refl)
            (apart_filter (λ c. is_held c.op) p.log.pending t.apart);
        calls = held_calls p.failures (filter (λ c. is_held c.op) p.log.pending)
            (filter_fits (IsAwayCall stage.Stop p.failures) (λ c. is_held c.op) p.log.pending away);
        driven = tt;
        stages = tt;
        limit = t.limit;
        within = λ h. low;
      };
      cost = omega arith;
      calls = λ test all mine. all_map (λ c. test c.thread ≡ true) held_call (filter (λ c. is_held c.op) p.log.pending) (λ c h. h)
          (filter_fits (λ c. test c.thread ≡ true) (λ c. is_held c.op) p.log.pending all);
    }

give_up_step : (threads : ℕ) (p : PartState) → IsTied p → context_of 16 p.domain.contexts ≡ None
    → stage_due p.mode ≡ Some stage.Stop → StepTied threads p (gives_up_part p)
unfolding gives_up_part stopped_domain
give_up_step threads p t free due =
    let was : mode_left threads p.mode ≡ stage_left threads stage.Stop = due_left threads p.mode stage.Stop due in
    let b : spent (context_of 16 p.domain.contexts) ≡ 0 = ap spent free in
    record {
      tied = record {
        rising = tt;
        apart = tt;
        calls = tt;
        driven = tt;
        stages = tt;
        limit = t.limit;
        within = λ h. absurd (true≢false h);
      };
      cost = omega arith;
      calls = λ test all mine. tt;
    }

stage_done_tied : (threads : ℕ) (p : PartState) (s : Stage) → IsFit p → IsTied p → length p.log.pending ≤ threads
    → context_of 16 p.domain.contexts ≡ None → stage_due p.mode ≡ Some s → StepTied threads p (stage_done s p)
unfolding collects collected_domain resets loads_image loaded_domain inits plainly_entered replays_set entered_domain replays_open
stage_done_tied threads p stage.Stop f t few free due = split (is_given_up p)
    (λ e. rw e (give_up_step threads p t free due))
    (λ e. rw e (stop_step threads p t few free due e))
stage_done_tied threads p stage.Collect f t few free due =
    moved_step threads p stage.Collect stage.Reset (with_stage stage.Reset p.mode) (collected_domain p.domain) _ t free refl due (omega arith)
    (collect_moved threads p.failures p.mode due) refl
stage_done_tied threads p stage.Reset f t few free due =
    moved_step threads p stage.Reset stage.Load (with_stage stage.Load p.mode) (with_reset p.log.defaults p.domain) _ t free refl due (omega arith)
    (moved threads p.failures p.mode stage.Reset stage.Load due refl refl tt) refl
stage_done_tied threads p stage.Load f t few free due =
    moved_step threads p stage.Load stage.Init (with_stage stage.Init p.mode) (loaded_domain p.spec.image p.domain) _ t free refl due (omega arith)
    (moved threads p.failures p.mode stage.Load stage.Init due refl refl tt) refl
stage_done_tied threads p stage.Init f t few free due =
    driven_step threads p stage.Init _ (plainly_entered 16 init_address p.domain) _ f t free refl refl due refl refl
stage_done_tied threads p (stage.ReplaySet key value) f t few free due =
    driven_step threads p (stage.ReplaySet key value) _ (entered_domain 16 (set_position p.spec.class) (op.Set key value) p.domain) _ f t free refl refl due refl refl
stage_done_tied threads p stage.ReplayOpen f t few free due =
    driven_step threads p stage.ReplayOpen _ (plainly_entered 16 open_point p.domain) _ f t free refl refl due refl refl
stage_done_tied threads p stage.Resume f t few free due = resume_step threads p t free due

stage_tied_by : (threads : ℕ) (p : PartState) (o : Option Stage) → IsFit p → IsTied p → length p.log.pending ≤ threads
    → context_of 16 p.domain.contexts ≡ None → stage_due p.mode ≡ o → is_some o ≡ true → StepTied threads p (stage_by p o)
stage_tied_by threads p None f t few free due some = absurd (true≢false (sym some))
stage_tied_by threads p (Some s) f t few free due some = stage_done_tied threads p s f t few free due

not_some : {X : Type 0} (o : Option X) → not (is_some o) ≡ true → o ≡ None
not_some None h = refl
not_some (Some x) h = absurd (true≢false (sym h))

stage_tied : (threads : ℕ) (p : PartState) → IsFit p → IsTied p → length p.log.pending ≤ threads → can_stage p ≡ true
    → StepTied threads p (stage_stepped p)
unfolding stage_stepped
stage_tied threads p f t few e =
    let parts = and_parts (is_some (stage_due p.mode)) (not (is_driven p)) e in
    stage_tied_by threads p (stage_due p.mode) f t few (not_some (context_of 16 p.domain.contexts) parts.1) refl parts.0

-- every step

pub step_tied : (threads : ℕ) (p : PartState) (s : Step) → IsFit p → IsTied p → length p.log.pending ≤ threads → enabled p s ≡ true
    → StepTied threads p (stepped p s)
unfolding enabled stepped
step_tied threads p (step.Invoke thread o) f t few e = invoke_tied threads p thread o t e
step_tied threads p (step.Enter thread) f t few e = enter_tied threads p thread f t e
step_tied threads p (step.Burst context) f t few e = burst_tied threads context p f t e
step_tied threads p step.Stage f t few e = stage_tied threads p f t few e
step_tied threads p (step.Arrive frame) f t few e = arrive_tied threads p frame t

pub tied_after : (p : PartState) (s : Step) → IsFit p → IsTied p → enabled p s ≡ true → IsTied (stepped p s).state
tied_after p s f t e = (step_tied (length p.log.pending) p s f t (omega arith) e).tied
