-- A journal that does not reach a fault is a run with it exactly if it is one without it.
use Rattle.std.proofs.Common.{◌≡◌, ◌≤◌, ◌<◌, ℕ, ◌+◌, ◌==◌, Bool, true, false, cond, Option, Some, None, List, [], ◌∷◌, ◌++◌, refl, sym, ap, subst, ◌∙◌, arith}
use Rattle.std.proofs.lemmas.Bool.{eqb-true}
use Rattle.nook_data.specs.declared.machine.Context.{Context}
use Rattle.nook_data.specs.declared.scenario.Fault.{Fault}
use Rattle.nook_data.specs.declared.scenario.PartSpec.{PartSpec}
use Rattle.nook_data.specs.declared.steps.Event.{Event}
use Rattle.nook_data.specs.declared.steps.Event.TheVariants as event
use Rattle.nook_data.specs.declared.steps.Step.{Step}
use Rattle.nook_data.specs.declared.steps.Step.TheVariants as step
use Rattle.machine_defs.proofs.BurstKeeps.{split}
use Rattle.machine_defs.specs.Burst.{Burst, burst}
use Rattle.machine_defs.specs.BurstFaults.{faults_of_burst}
use Rattle.part_defs.proofs.PartCases.{burst_by}
use Rattle.part_defs.specs.Domain.{after_burst, context_of, domain_burst, machine_of}
use Rattle.part_defs.specs.Runs.{event_of, state_after, step_of}
use Rattle.part_defs.specs.State.{PartState}
use Rattle.part_defs.specs.Steps.{opening}
use Rattle.part_laws.proofs.Counts.{step_counted}
use Rattle.part_laws.proofs.DeviceStays.{spec_after}
use Rattle.part_laws.proofs.RunBound.{count_more}
use Rattle.part_laws.proofs.RunsDetermined.{step_named}
use Rattle.part_laws.specs.Bound.{bursts_of_journal, is_burst}
use Rattle.guard_defs.specs.Every.{turns_made}
use Rattle.front_laws.specs.Fronts.{IsPast, IsPastFrom, IsSameRun, IsUnreached, put_after}
use Rattle.front_laws.proofs.Ordered.{other_burst, own_burst}
use Rattle.front_laws.proofs.Past.{burst_past}
use Rattle.front_laws.proofs.Same.{AreSameBursts, IsSameBurst, same_run}

-- a burst with a fault that it does not reach

in_context : (f : Fault) (context : ℕ) (p : PartState) (o : Option Context) → turns_made p o ≤ f.after
    → burst_by context (put_after f (faults_of_burst (p.bursts + 1) p.spec.faults)) p.domain o
    ≡ burst_by context (faults_of_burst (p.bursts + 1) p.spec.faults) p.domain o
in_context f context p None h = refl
in_context f context p (Some x) h =
    ap (λ (b : Burst). after_burst context x b p.domain)
    (burst_past f p.domain.entries (faults_of_burst (p.bursts + 1) p.spec.faults) (machine_of x p.domain) h)

pub following_same : (f : Fault) (context : ℕ) (p : PartState) → turns_made p (context_of context p.domain.contexts) ≤ f.after
    → domain_burst context (put_after f (faults_of_burst (p.bursts + 1) p.spec.faults)) p.domain
    ≡ domain_burst context (faults_of_burst (p.bursts + 1) p.spec.faults) p.domain
unfolding domain_burst
following_same f context p h = in_context f context p (context_of context p.domain.contexts) h

pub past_same : (f : Fault) (p : PartState) (s : Step) → IsPast f p s → IsSameBurst (p.spec.faults ++ f ∷ []) p s
past_same f p (step.Invoke thread o) h = tt
past_same f p (step.Enter thread) h = tt
past_same f p step.Stage h = tt
past_same f p (step.Arrive frame) h = tt
past_same f p (step.Burst context) h = split (f.burst == (p.bursts + 1))
    (λ own. ap (λ (faults : List Fault). domain_burst context faults p.domain) (own_burst (p.bursts + 1) p.spec.faults f own)
    ∙ following_same f context p (h (sym (eqb-true f.burst (p.bursts + 1) own))))
    (λ other. ap (λ (faults : List Fault). domain_burst context faults p.domain) (other_burst (p.bursts + 1) p.spec.faults f other))

-- the events that do not reach it

pub past_bursts : (f : Fault) (own : List Fault) (p : PartState) (events : List Event) → p.spec.faults ≡ own → IsPastFrom f p events
    → AreSameBursts (own ++ f ∷ []) p events
unfolding IsPastFrom AreSameBursts
past_bursts f own p [] same h = tt
past_bursts f own p (e ∷ events) same h = (
  subst (λ (faults : List Fault). IsSameBurst (faults ++ f ∷ []) p (step_of e)) same (past_same f p (step_of e) h.0),
  past_bursts f own (state_after p (step_of e)) events (ap (λ (spec : PartSpec). spec.faults) (spec_after p (step_of e)) ∙ same) h.1,
)

pub opening_faults : (spec : PartSpec) → (opening spec).spec.faults ≡ spec.faults
unfolding opening
opening_faults spec = refl

pub unreached : (spec : PartSpec) (f : Fault) (events : List Event) → IsUnreached f spec events
    → IsSameRun spec (spec.faults ++ f ∷ []) events
unreached spec f events h =
    same_run spec (spec.faults ++ f ∷ []) events (past_bursts f spec.faults (opening spec) events (opening_faults spec) h)

-- a fault of a later burst is not reached

abbrev pub is_burst_step : Step → Bool
is_burst_step (step.Burst context) = true
is_burst_step s = false

burst_flag : (e : Event) → is_burst e ≡ is_burst_step (step_of e)
burst_flag (event.Invoke call thread o answer) = refl
burst_flag (event.Enter call thread attempt answer) = refl
burst_flag (event.Burst context call burst count e acts answer failure) = refl
burst_flag (event.Stage s answers released) = refl
burst_flag (event.Arrive frame kept) = refl

-- a step's burst is counted
pub bursts_after : (p : PartState) (s : Step) → (state_after p s).bursts ≡ p.bursts + cond (is_burst_step s) 1 0
bursts_after p s =
    (step_counted p s).bursts' ∙ ap (λ (b : Bool). p.bursts + cond b 1 0) (burst_flag (event_of p s) ∙ ap is_burst_step (step_named p s))

pub later_step : (f : Fault) (p : PartState) (s : Step) → p.bursts + cond (is_burst_step s) 1 0 < f.burst → IsPast f p s
later_step f p (step.Invoke thread o) h = tt
later_step f p (step.Enter thread) h = tt
later_step f p step.Stage h = tt
later_step f p (step.Arrive frame) h = tt
later_step f p (step.Burst context) h = λ same. absurd (omega arith)

later_from : (f : Fault) (p : PartState) (events : List Event) → p.bursts + bursts_of_journal events < f.burst → IsPastFrom f p events
unfolding IsPastFrom
later_from f p [] h = tt
later_from f p (e ∷ events) h =
    let sum : bursts_of_journal (e ∷ events) ≡ cond (is_burst e) 1 0 + bursts_of_journal events = count_more is_burst e events in
    let flag : ◌≡◌ {A = ℕ} (cond (is_burst e) 1 0) (cond (is_burst_step (step_of e)) 1 0) = ap (λ (b : Bool). cond b 1 0) (burst_flag e) in
    let more : (state_after p (step_of e)).bursts ≡ p.bursts + cond (is_burst_step (step_of e)) 1 0 = bursts_after p (step_of e) in
    (later_step f p (step_of e) (omega arith), later_from f (state_after p (step_of e)) events (omega arith))

opening_bursts : (spec : PartSpec) → (opening spec).bursts ≡ 0
unfolding opening
opening_bursts spec = refl

pub later_fault : (spec : PartSpec) (f : Fault) (events : List Event) → bursts_of_journal events < f.burst
    → IsSameRun spec (spec.faults ++ f ∷ []) events
later_fault spec f events h =
    let z : (opening spec).bursts ≡ 0 = opening_bursts spec in
    unreached spec f events (later_from f (opening spec) events (omega arith))
