use Rattle.std.proofs.Common.{◌≡◌, ℕ, ◌-◌, nat_lt, true, false, None, Some, List, [], ◌∷◌, ◌++◌, take, sym, ap, subst}
use Rattle.std.proofs.Common.{◌∙◌}
use Rattle.nook_data.specs.declared.calls.Answer.{Answer}
use Rattle.nook_data.specs.declared.entries.Entry.{Entry}
use Rattle.nook_data.specs.declared.steps.Event.{Event}
use Rattle.nook_data.specs.declared.steps.Event.TheVariants as event
use Rattle.nook_data.specs.declared.steps.Mode.TheVariants as mode
use Rattle.nook_data.specs.declared.steps.Stage.TheVariants as stage
use Rattle.nook_data.specs.declared.scenario.PartSpec.{PartSpec}
use Rattle.nook_data.specs.declared.verdicts.Break.{Break}
use Rattle.nook_data.specs.Valid.{IsValidPart}
use Rattle.machine_defs.specs.Devices.{medium_of}
use Rattle.promise_defs.specs.Contract.{first_break, known_first}
use Rattle.promise_defs.specs.Ideal.{Ideal}
use Rattle.part_defs.specs.Runs.{IsRun, IsRunFrom, state_after, state_from, state_of, step_of}
use Rattle.part_defs.specs.State.{PartState}
use Rattle.part_defs.specs.Steps.{opening}
use Rattle.part_laws.proofs.Counts.{run_measured}
use Rattle.part_laws.proofs.DeviceStays.{run_spec}
use Rattle.part_laws.proofs.Indices.{split}
use Rattle.part_laws.proofs.ReadAloud.{kept_agrees, kept_licensed, kept_shows_one_run}
use Rattle.part_laws.proofs.RunBound.{run_bound}
use Rattle.part_laws.proofs.RunProgress.{progress}
use Rattle.part_laws.proofs.StepsFit.{run_collecting, run_isolated}
use Rattle.part_laws.proofs.TiedBursts.{tied_after}
use Rattle.part_laws.proofs.ValidFits.{valid_fits}
use Rattle.part_laws.specs.Bound.{carries_failure, failures_of, is_burst}
use Rattle.part_laws.specs.Facts.{is_dead}
use Rattle.part_laws.specs.Fit.{IsFitSpec}
use Rattle.part_laws.specs.Recovery.{Gone, IsKeptRun, ShowsDevice}
use Rattle.headline_laws.proofs.Away.{short_away}
use Rattle.headline_laws.proofs.Durable.{kept_durable}
use Rattle.headline_laws.proofs.Failing.{failure_stops}
use Rattle.headline_laws.proofs.FirstBreak.{before_break, broken_at}
use Rattle.headline_laws.proofs.Fronts.{IsFrontOf, front_of, state_parts}
use Rattle.headline_laws.proofs.GivenUp.{dead_gone, given_up_from, gives_up, gone_bursts}
use Rattle.headline_laws.proofs.Limits.{stop_by_limit}
use Rattle.headline_laws.proofs.MediumStays.{medium_after, medium_stays}
use Rattle.headline_laws.proofs.Returning.{away_returns}
use Rattle.headline_laws.specs.Durable.{IsDurable}
use Rattle.headline_laws.specs.GivenUp.{IsGivingUp}
use Rattle.headline_laws.specs.Headline.{IsSafe, IsTransparent}

-- The laws of parts combined into one.

kept_transparent : (spec : PartSpec) (journal : List Event) → IsKeptRun spec journal → IsTransparent spec journal
kept_transparent spec journal kept = record {
  class_run = kept_shows_one_run spec journal kept;
  licensed = kept_licensed spec journal kept;
  agrees = λ device shown. kept_agrees spec journal device kept shown;
  durable = λ device shown. kept_durable spec journal device kept shown;
}

-- the part after one more event
one_further : (p : PartState) (front : List Event) (e : Event)
    → state_from p (front ++ e ∷ []) ≡ state_after (state_from p front) (step_of e)
unfolding state_from
one_further p front e = state_parts p front (e ∷ [])

-- the event that gives a part up
giving_up_in : (spec : PartSpec) (front back : List Event) (e : Event) → IsFitSpec spec
    → IsFrontOf spec front (e ∷ back)
    → is_dead (state_of spec front).mode ≡ false → is_dead (state_of spec (front ++ e ∷ [])).mode ≡ true
    → IsGivingUp (state_of spec front) (failures_of front) e
unfolding IsRunFrom
giving_up_in spec front back e fits f alive dead =
    let p : PartState = state_of spec front in
    let now : is_dead (state_after p (step_of e)).mode ≡ true =
    ap (λ (q : PartState). is_dead q.mode) (sym (one_further (opening spec) front e)) ∙ dead in
    subst (λ (n : ℕ). IsGivingUp p n e) (run_measured spec front fits f.run).failures
    (subst (λ (x : Event). IsGivingUp p p.failures x) f.more.1 (gives_up p (step_of e) alive now))

-- an event that carries a failure
failing_in : (spec : PartSpec) (front back : List Event) (e : Event) → IsFrontOf spec front (e ∷ back)
    → carries_failure e ≡ true → (state_of spec (front ++ e ∷ [])).mode ≡ mode.Recovering stage.Stop
unfolding IsRunFrom
failing_in spec front back e f failed =
    ap (λ (q : PartState). q.mode) (one_further (opening spec) front e)
    ∙ failure_stops (state_of spec front) e f.more.1 failed

-- a Stop
limit_in : (spec : PartSpec) (front back : List Event) (answers : List (ℕ × Answer)) (released : List Entry)
    → IsFitSpec spec → IsFrontOf spec front (event.Stage stage.Stop answers released ∷ back)
    → is_dead (state_of spec (front ++ event.Stage stage.Stop answers released ∷ [])).mode
    ≡ nat_lt spec.limit (failures_of front)
unfolding IsRunFrom
limit_in spec front back answers released fits f =
    let p : PartState = state_of spec front in
    ap (λ (q : PartState). is_dead q.mode)
    (one_further (opening spec) front (event.Stage stage.Stop answers released))
    ∙ stop_by_limit p answers released f.more.0 f.more.1
    ∙ ap (λ (s : PartSpec). nat_lt s.limit p.failures) (run_spec spec front f.run)
    ∙ ap (nat_lt spec.limit) (run_measured spec front fits f.run).failures

-- the medium of a part that was given up
remains_in : (spec : PartSpec) (journal front back : List Event) (e : Event) (device : Ideal) → IsFitSpec spec
    → IsFrontOf spec front (e ∷ back) → journal ≡ front ++ e ∷ back
    → first_break spec.class spec.blocks front ≡ None
    → is_dead (state_of spec front).mode ≡ false → is_dead (state_of spec (front ++ e ∷ [])).mode ≡ true
    → ShowsDevice spec front device
    → IsDurable (state_of spec front).log.pending device.blocks (medium_of (state_of spec journal).domain.device)
unfolding IsRunFrom state_from
remains_in spec journal front back e device fits f parts kept alive dead shown =
    let p : PartState = state_of spec front in
    let q : PartState = state_after p (step_of e) in
    let gone : Gone q = dead_gone q (tied_after p (step_of e) f.fit f.tied f.more.0)
    (ap (λ (x : PartState). is_dead x.mode) (sym (one_further (opening spec) front e)) ∙ dead) in
    let stopped : is_burst e ≡ false = ap is_burst (giving_up_in spec front back e fits f alive dead) in
    let same : medium_of (state_of spec journal).domain.device ≡ medium_of p.domain.device =
    ap (λ (l : List Event). medium_of (state_of spec l).domain.device) parts
    ∙ ap (λ (x : PartState). medium_of x.domain.device) (state_parts (opening spec) front (e ∷ back))
    ∙ medium_stays q back gone f.more.2 ∙ medium_after p e stopped in
    subst (IsDurable p.log.pending device.blocks) (sym same)
    (kept_durable spec front device (record { run = f.run; contract = kept; alive = alive }) shown)

pub run_safe : (spec : PartSpec) (journal : List Event) → IsValidPart spec → IsRun spec journal → IsSafe spec journal
run_safe spec journal valid run =
    let fits : IsFitSpec spec = valid_fits spec valid in
    record {
      run = run;
      isolated = run_isolated spec journal fits run;
      collecting = run_collecting spec journal fits run;
      bounded = run_bound spec journal fits run;
      failing = λ front back e parts failed.
          failing_in spec front back e (front_of spec journal front (e ∷ back) fits run parts) failed;
      recovery = λ front back parts.
          let f = front_of spec journal front back fits run parts in
          short_away (state_of spec front) back f.fit f.tied f.more;
      fronts = λ front back parts kept alive.
          let f = front_of spec journal front back fits run parts in
          kept_transparent spec front (record { run = f.run; contract = kept; alive = alive });
      giving_up = λ front back e parts alive dead.
          giving_up_in spec front back e fits (front_of spec journal front (e ∷ back) fits run parts) alive dead;
      given_up = λ front back parts dead.
          let f = front_of spec journal front back fits run parts in
          given_up_from spec (failures_of front) (state_of spec front) back
          (dead_gone (state_of spec front) f.tied dead)
          (run_spec spec front f.run) (run_measured spec front fits f.run).failures f.more;
      remains = λ front back e parts kept alive dead device shown.
          remains_in spec journal front back e device fits (front_of spec journal front (e ∷ back) fits run parts)
          parts kept alive dead shown;
      limit = λ front back answers released parts.
          limit_in spec front back answers released fits
          (front_of spec journal front (event.Stage stage.Stop answers released ∷ back) fits run parts);
      failures = (run_measured spec journal fits run).few_failures;
      progress = λ front back parts.
          let f = front_of spec journal front back fits run parts in progress (state_of spec front) f.fit f.tied;
      returning = λ front back parts away. away_returns (state_of spec front) away;
    }

-- a part in which a burst may be taken was not given up
burst_alive : (spec : PartSpec) (front back : List Event) (e : Event) → IsFrontOf spec front (e ∷ back)
    → is_burst e ≡ true
    → is_dead (state_of spec front).mode ≡ false
unfolding IsRunFrom
burst_alive spec front back (event.Burst context call burst count end acts a failure) f b =
    split (is_dead (state_of spec front).mode)
    (λ dead. absurd (gone_bursts (state_of spec front) context (dead_gone (state_of spec front) f.tied dead) f.more.0))
    (λ alive. alive)
burst_alive spec front back (event.Invoke call t o a) f b = absurd cc
burst_alive spec front back (event.Enter call t attempt a) f b = absurd cc
burst_alive spec front back (event.Stage s answers released) f b = absurd cc
burst_alive spec front back (event.Arrive frame kept) f b = absurd cc

-- in the events before the first break the applications saw the never-failing device
pub transparent_before : (spec : PartSpec) (journal : List Event) (b : Break) → IsValidPart spec → IsRun spec journal
    → first_break spec.class spec.blocks journal ≡ Some b → IsTransparent spec (take (b.event - 1) journal)
unfolding first_break
transparent_before spec journal b valid run broken =
    let x = broken_at 1 (known_first spec.class spec.blocks) journal b broken in
    let f = front_of spec journal x.front (x.event ∷ x.back) (valid_fits spec valid) run x.parts in
    subst (IsTransparent spec) (sym (before_break spec.class spec.blocks journal b x))
    (kept_transparent spec x.front
    (record { run = f.run; contract = x.kept; alive = burst_alive spec x.front x.back x.event f x.burst }))
