-- The guard's trap of a burst follows from what is found of its deeds and its instructions.
use Rattle.std.proofs.Common.{◌≡◌, ◌+◌, ℕ, Option, Some, None, List, [], ◌∷◌, fold, refl, sym, ap, subst, ◌∙◌}
use Rattle.contract_monitor.specs.Monitors.{Monitored, Represents}
use Rattle.contract_monitor.specs.Wrong.{call_in, first_wrong, wrong_among, wrong_at, wrong_of}
use Rattle.contract_monitor.specs.declared.wrong.WrongDeed.{WrongDeed}
use Rattle.front_laws.proofs.GuardStep.{first_wrong_deed}
use Rattle.front_laws.specs.Guarded.{IsFirstWrong}
use Rattle.guard_defs.specs.Deeds.{deeds_before, deeds_in}
use Rattle.guard_defs.specs.Guard.{guard_clause, guard_trap, trap_for, turns_in}
use Rattle.guard_defs.specs.Turns.{turns_before}
use Rattle.guard_point.specs.Placing.{stop_before, turns_by}
use Rattle.guard_point.specs.Stopping.{IsStop, StopsBurst}
use Rattle.machine_defs.specs.BurstFaults.{faults_of_burst}
use Rattle.nook_data.specs.declared.classes.Class.{Class}
use Rattle.nook_data.specs.declared.clause.Clause.{Clause}
use Rattle.nook_data.specs.declared.devices.DeviceState.{DeviceState}
use Rattle.nook_data.specs.declared.entries.Entry.{Entry}
use Rattle.nook_data.specs.declared.machine.Context.{Context}
use Rattle.nook_data.specs.declared.scenario.Fault.{Fault}
use Rattle.nook_data.specs.declared.scenario.FaultKind.TheVariants as fault
use Rattle.nook_data.specs.declared.steps.Event.{Event}
use Rattle.nook_data.specs.declared.steps.Step.TheVariants as step
use Rattle.part_defs.specs.Domain.{context_of, machine_of}
use Rattle.part_defs.specs.Runs.{event_of}
use Rattle.part_defs.specs.State.{DomainState, PartState}
use Rattle.part_defs.specs.Steps.{burst_stepped, served_number, stepped}
use Rattle.promise_defs.specs.Contract.{Deed, Known, broken, first_break, known_after, known_first}

-- ---- a burst's event

call_is : (context : ℕ) (p : PartState) → call_in (event_of p (step.Burst context)) ≡ served_number context p
unfolding stepped burst_stepped
call_is context p = refl

-- the trap before a burst's deed, by the burst's part
abbrev trap_at : ℕ → PartState → WrongDeed → Fault
trap_at context p w = record {
  burst = p.bursts + 1;
  after = turns_by w.index (faults_of_burst (p.bursts + 1) p.spec.faults) p.domain (context_of context p.domain.contexts);
  kind = fault.Trap;
}

stop_is : (context : ℕ) (p : PartState) (w : WrongDeed) →
    stop_before w (event_of p (step.Burst context)) p.spec.faults p.domain ≡ Some (trap_at context p w, w.clause)
unfolding stepped burst_stepped
stop_is context p w = refl

turns_same : (p : PartState) (index : ℕ) (o : Option Context) →
    turns_in p index o ≡ turns_by index (faults_of_burst (p.bursts + 1) p.spec.faults) p.domain o
turns_same p index None = refl
turns_same p index (Some x) = refl

-- the first wrong deed of a burst that breaks a clause
wrong_is : (context : ℕ) (p : PartState) (k : Known) (clause : Clause) (more : List Clause)
    → broken k (event_of p (step.Burst context)) ≡ clause ∷ more
    → (reported : Clause) × (guard_clause context p k ≡ Some reported)
    × (first_wrong k (event_of p (step.Burst context))
    ≡ wrong_at (deeds_before (served_number context p) k (deeds_in (event_of p (step.Burst context)))) (Some reported))
wrong_is context p k clause more h =
    let e : Event = event_of p (step.Burst context) in
    let call : ℕ = served_number context p in
    let ds : List Deed = deeds_in e in
    let first : IsFirstWrong call k ds = first_wrong_deed context p k clause more h in (
      first.clause,
      first.reported,
      ap (λ (cs : List Clause). wrong_of cs (wrong_among (call_in e) k ds)) h
          ∙ ap (λ (n : ℕ). wrong_among n k ds) (call_is context p)
          ∙ ap (wrong_at (deeds_before call k ds)) first.reported,
    )

by_clauses : {X : Type 0} (cs : List Clause) → (cs ≡ [] → X) → ((clause : Clause) (more : List Clause) → cs ≡ clause ∷ more → X) → X
by_clauses [] none some = none refl
by_clauses (clause ∷ more) none some = some clause more refl

-- ---- what is found

-- the first wrong deed of an event that a monitor reports
abbrev Reports : Monitored → Event → Option WrongDeed → Type 0
Reports m e wrong = (class : Class) (size : ℕ) (events : List Event) → Represents class size events m
    → first_break class size events ≡ None → wrong ≡ first_wrong (fold known_after (known_first class size) events) e

-- it reports no deed
pub nothing_stops : (d : DomainState) (e : Event) (faults : List Fault) (m : Monitored) → Reports m e None → StopsBurst d e faults m None
nothing_stops d e faults m reports = λ p context class size journal ed ef en ee s none.
    let k : Known = fold known_after (known_first class size) journal in
    let own : Event = event_of p (step.Burst context) in
    let reported : None ≡ first_wrong k own = reports class size journal s none ∙ ap (first_wrong k) ee in
    by_clauses (broken k own)
    (λ keeps. ap (λ (cs : List Clause). trap_for cs (guard_trap context p k)) keeps)
    (λ clause more breaks. let w = wrong_is context p k clause more breaks in
    let no : None ≡ wrong_at (deeds_before (served_number context p) k (deeds_in own)) (Some w.0) = reported ∙ w.2 in absurd cc)

stop_made : (context : ℕ) (p : PartState) (k : Known) (w : WrongDeed) (clause reported : Clause) (more : List Clause)
    → broken k (event_of p (step.Burst context)) ≡ clause ∷ more → guard_clause context p k ≡ Some reported
    → w ≡ record { index = deeds_before (served_number context p) k (deeds_in (event_of p (step.Burst context))); clause = reported }
    → IsStop context p k (Some (trap_at context p w, w.clause))
stop_made context p k w clause reported more breaks first is =
    let n : ℕ = deeds_before (served_number context p) k (deeds_in (event_of p (step.Burst context))) in
    let runs : Option Context = context_of context p.domain.contexts in
    let own : List Fault = faults_of_burst (p.bursts + 1) p.spec.faults in
    let index : n ≡ w.index = sym (ap (λ (x : WrongDeed). x.index) is) in
    let after : turns_in p n runs ≡ turns_by w.index own p.domain runs =
    turns_same p n runs ∙ ap (λ (j : ℕ). turns_by j own p.domain runs) index in
    let trap : guard_trap context p k ≡ trap_at context p w =
    ap {B = Fault} (λ (t : ℕ). record { burst = p.bursts + 1; after = t; kind = fault.Trap }) after in (
      ap (λ (cs : List Clause). trap_for cs (guard_trap context p k)) breaks ∙ ap (λ (f : Fault). Some f) trap,
      first ∙ ap (λ (c : Clause). Some c) (sym (ap (λ (x : WrongDeed). x.clause) is)),
    )

-- it reports a deed, and this is the trap before the deed's instruction
pub deed_stops : (d : DomainState) (e : Event) (faults : List Fault) (m : Monitored) (w : WrongDeed) (stop : Option (Fault × Clause))
    → Reports m e (Some w) → stop ≡ stop_before w e faults d → StopsBurst d e faults m stop
deed_stops d e faults m w stop reports is = λ p context class size journal ed ef en ee s none.
    let k : Known = fold known_after (known_first class size) journal in
    let own : Event = event_of p (step.Burst context) in
    let reported : Some w ≡ first_wrong k own = reports class size journal s none ∙ ap (first_wrong k) ee in
    let found : stop ≡ Some (trap_at context p w, w.clause) =
    is ∙ ap (λ (x : Event). stop_before w x faults d) ee ∙ ap (λ (fs : List Fault). stop_before w own fs d) (sym ef)
    ∙ ap (stop_before w own p.spec.faults) (sym ed) ∙ stop_is context p w in
    subst (IsStop context p k) (sym found)
    (by_clauses (broken k own)
    (λ keeps. let no : Some w ≡ None = reported ∙ ap (λ (cs : List Clause). wrong_of cs (wrong_among (call_in own) k (deeds_in own))) keeps in absurd cc)
    (λ clause more breaks. let first = wrong_is context p k clause more breaks in
    let same : Some w ≡ wrong_at (deeds_before (served_number context p) k (deeds_in own)) (Some first.0) = reported ∙ first.2 in
    stop_made context p k w clause first.0 more breaks first.1 cc))

-- ---- the instructions before a deed

-- a burst of a detached domain
pub turns_apart : (index n : ℕ) (x : Context) (faults : List Fault) (d : DomainState) (words : List ℕ) (entries : List Entry) (device : DeviceState)
    → words ≡ d.memory → entries ≡ d.entries → device ≡ d.device
    → n ≡ turns_before index entries faults (record { cpu = x.cpu; memory = words; device = device })
    → n ≡ turns_before index d.entries faults (machine_of x d)
turns_apart index n x faults d words entries device m e v h = rw (← m, ← e, ← v) h
