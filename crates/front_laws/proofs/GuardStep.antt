-- A step under the guard.
use Rattle.std.proofs.Common.{◌≡◌, ◌≤◌, ◌<◌, inl, inr, ℕ, ◌+◌, ◌==◌, true, false, nat_lt, Option, Some, None, List, [], ◌∷◌, ◌++◌, length, take, map, refl, sym, ap, ◌∙◌, arith, length-append, append-nil}
use Rattle.std.proofs.lemmas.Bool.{eq-eqb, ltb-false, ltb-true}
use Rattle.std.proofs.lemmas.List.{length-map, take-append-le, take-map}
use Rattle.nook_data.specs.declared.calls.Answer.{Answer}
use Rattle.nook_data.specs.declared.clause.Clause.{Clause}
use Rattle.nook_data.specs.declared.machine.Act.{Act}
use Rattle.nook_data.specs.declared.machine.BurstEnd.{BurstEnd}
use Rattle.nook_data.specs.declared.machine.BurstEnd.TheVariants as ends
use Rattle.nook_data.specs.declared.machine.Context.{Context}
use Rattle.nook_data.specs.declared.machine.TrapCause.TheVariants as trap
use Rattle.nook_data.specs.declared.scenario.Fault.{Fault}
use Rattle.nook_data.specs.declared.steps.End.{End}
use Rattle.nook_data.specs.declared.steps.End.TheVariants as end
use Rattle.nook_data.specs.declared.steps.Event.{Event}
use Rattle.nook_data.specs.declared.steps.Event.TheVariants as event
use Rattle.nook_data.specs.declared.steps.FailCause.{FailCause}
use Rattle.nook_data.specs.declared.steps.FailCause.TheVariants as fail
use Rattle.nook_data.specs.declared.steps.Step.TheVariants as step
use Rattle.guard_defs.specs.Deeds.{deeds_before, deeds_in}
use Rattle.guard_defs.specs.Guard.{guard_trap, guarded, trap_for, turns_in, with_own, with_trap}
use Rattle.guard_defs.specs.Turns.{acts_within, turns_before, turns_of}
use Rattle.machine_defs.proofs.BurstKeeps.{split}
use Rattle.machine_defs.specs.Burst.{Burst, burst}
use Rattle.machine_defs.specs.BurstFaults.{faults_of_burst}
use Rattle.part_defs.proofs.PartCases.{burst_by, burst_event, burst_step, with_burst}
use Rattle.part_defs.specs.Crossing.{Crossed, after_crossing, is_last}
use Rattle.part_defs.specs.Domain.{DomainBurst, after_burst, context_of, domain_burst, machine_of}
use Rattle.part_defs.specs.Runs.{event_of}
use Rattle.part_defs.specs.State.{PartState}
use Rattle.part_defs.specs.Steps.{burst_stepped, served_number, stepped}
use Rattle.promise_defs.specs.Contract.{Deed, Known, acts, broken, crossing_deeds}
use Rattle.front_laws.specs.Fronts.{IsCutShort, put_after}
use Rattle.front_laws.specs.Guarded.{IsFirstWrong, IsStopped, acts_in, broken_by}
use Rattle.front_laws.proofs.Deeds.{first_wrong, front_broken, some_broken}
use Rattle.front_laws.proofs.Ordered.{burst_rises, own_burst}
use Rattle.front_laws.proofs.Past.{burst_cut, turns_high}
use Rattle.front_laws.proofs.Within.{HasDeed, deed_kept, deed_reached, is_crossing}

-- deeds of a crossing

few_deeds : (e : End) (a : Option Answer) (failure : Option FailCause) → length (crossing_deeds e a failure) ≤ 1
few_deeds (end.Service number first second None moved) a failure = split (number == 6) (λ e. rw e (omega arith)) (λ e. rw e (omega arith))
few_deeds (end.Service number first second (Some result) moved) a failure = split (number == 6) (λ e. rw e (omega arith)) (λ e. rw e (omega arith))
few_deeds (end.Reply status) (Some a) None = omega arith
few_deeds (end.Reply status) (Some a) (Some cause) = omega arith
few_deeds (end.Reply status) None None = omega arith
few_deeds (end.Reply status) None (Some cause) = omega arith
few_deeds end.Pause a failure = omega arith
few_deeds end.Trap a failure = omega arith

abbrev pub deeds_across : Crossed → List Deed
deeds_across c = crossing_deeds c.end c.answer c.failure

no_crossing : (context : ℕ) (e : BurstEnd) (p : PartState) → is_crossing e ≡ false → deeds_across (after_crossing context e p) ≡ []
unfolding after_crossing
no_crossing context (ends.Trap cause) p h = refl
no_crossing context (ends.Kcall number) p h = let no : true ≡ false = h in absurd cc
no_crossing context ends.Pause p h = split (is_last context p) (λ e. rw e refl) (λ e. rw e refl)
no_crossing context (ends.Reply status) p h = let no : true ≡ false = h in absurd cc

-- a step of a burst, by what runs in its context

abbrev pub own_faults : PartState → List Fault
own_faults p = faults_of_burst (p.bursts + 1) p.spec.faults

abbrev pub crossed : ℕ → PartState → DomainBurst → Crossed
crossed context p b = after_crossing context b.ending (with_burst b.domain p)

pub event_is : (context : ℕ) (p : PartState) → event_of p (step.Burst context)
    ≡ (burst_step context p (burst_by context (own_faults p) p.domain (context_of context p.domain.contexts))).event
unfolding stepped burst_stepped domain_burst
event_is context p = refl

-- the deeds of a burst's event
abbrev pub step_deeds : ℕ → PartState → DomainBurst → List Deed
step_deeds context p b = map acts b.acts ++ deeds_across (crossed context p b)

-- if nothing runs, there is no deed
pub none_breaks : (context : ℕ) (p : PartState) (k : Known) → context_of context p.domain.contexts ≡ None
    → broken k (event_of p (step.Burst context)) ≡ []
none_breaks context p k none =
    ap (broken k) (event_is context p ∙ ap (λ (o : Option Context). (burst_step context p (burst_by context (own_faults p) p.domain o)).event) none)
    ∙ ap (broken_by (served_number context p) k) (no_crossing context ends.Pause (with_burst p.domain p) refl)
    ∙ front_broken 0 (served_number context p) k [] (omega arith)

trap_event : (context : ℕ) (p : PartState) (b : DomainBurst) → b.ending ≡ ends.Trap trap.Injected
    → (burst_step context p b).event
    ≡ event.Burst context (served_number context p) (p.bursts + 1) b.count end.Trap b.acts None (Some (fail.Trap trap.Injected))
unfolding after_crossing
trap_event context p b h = ap (λ (e : BurstEnd). (burst_event context p b (after_crossing context e (with_burst b.domain p))).event) h

pub has_deed : (context : ℕ) (p : PartState) (d : DomainBurst) (b : Burst) (n : ℕ) → d.acts ≡ b.acts → d.ending ≡ b.ending
    → n < length (step_deeds context p d) → HasDeed n b
has_deed context p d b n ea ee h = split (nat_lt n (length b.acts))
    (λ e. inl (ltb-true n (length b.acts) e))
    (λ e. inr (split (is_crossing b.ending) (λ is. is)
    (λ never. let low : length b.acts ≤ n = ltb-false n (length b.acts) e in
    let none : deeds_across (crossed context p d) ≡ [] = no_crossing context d.ending (with_burst d.domain p) (ap is_crossing ee ∙ never) in
    let same : length (step_deeds context p d) ≡ length b.acts =
    ap (λ (ds : List Deed). length (map acts d.acts ++ ds)) none ∙ ap length (append-nil (map acts d.acts)) ∙ length-map d.acts acts ∙ ap length ea in
    absurd (omega arith))))

-- the event of a burst that the guard's trap ends
abbrev stop_event : ℕ → PartState → ℕ → List Act → Event
stop_event context p count done =
    event.Burst context (served_number context p) (p.bursts + 1) count end.Trap done None (Some (fail.Trap trap.Injected))

few_before : (n : ℕ) (done : List Act) (across : List Deed) → n < length (map acts done ++ across) → length across ≤ 1 → n ≤ length done
few_before n done across h few =
    let sum : length (map acts done ++ across) ≡ length (map acts done) + length across = length-append (map acts done) across in
    let same : length (map acts done) ≡ length done = length-map done acts in
    omega arith

front_deeds : (n : ℕ) (done : List Act) (across : List Deed) → n ≤ length done → map acts (take n done) ++ [] ≡ take n (map acts done ++ across)
front_deeds n done across h =
    let same : length (map acts done) ≡ length done = length-map done acts in
    append-nil (map acts (take n done)) ∙ sym (take-map acts n done) ∙ sym (take-append-le n (map acts done) across (omega arith))

pub guard_is : (context : ℕ) (p : PartState) (k : Known) (clause : Clause) (more : List Clause)
    → broken k (event_of p (step.Burst context)) ≡ clause ∷ more
    → guarded p k (step.Burst context) ≡ with_own (p.spec.faults ++ guard_trap context p k ∷ []) p
unfolding guarded
guard_is context p k clause more h = ap (λ (cs : List Clause). with_trap (trap_for cs (guard_trap context p k)) p) h

stopped_with : (context : ℕ) (p : PartState) (k : Known) (x : Context) (clause : Clause) (more : List Clause)
    → context_of context p.domain.contexts ≡ Some x → broken k (event_of p (step.Burst context)) ≡ clause ∷ more → IsStopped context p k
stopped_with context p k x clause more runs breaks =
    let e : Event = event_of p (step.Burst context) in
    let call : ℕ = served_number context p in
    let made : Burst = burst p.domain.entries (own_faults p) (machine_of x p.domain) in
    let d : DomainBurst = after_burst context x made p.domain in
    let same : e ≡ (burst_step context p d).event =
    event_is context p ∙ ap (λ (o : Option Context). (burst_step context p (burst_by context (own_faults p) p.domain o)).event) runs in
    let ds : List Deed = step_deeds context p d in
    let n : ℕ = deeds_before call k ds in
    let en : deeds_before call k (deeds_in e) ≡ n = ap (λ (y : Event). deeds_before call k (deeds_in y)) same in
    let less : n < length ds = some_broken call k ds clause more (ap (broken k) (sym same) ∙ breaks) in
    let has : HasDeed n made = has_deed context p d made n refl refl less in
    let few : n ≤ length made.acts = few_before n made.acts (deeds_across (crossed context p d)) less
    (few_deeds (crossed context p d).end (crossed context p d).answer (crossed context p d).failure) in
    let f : Fault = guard_trap context p k in
    let q : PartState = with_own (p.spec.faults ++ f ∷ []) p in
    let ea : f.after ≡ turns_before n p.domain.entries (own_faults p) (machine_of x p.domain) =
    ap (λ (j : ℕ). turns_in p j (context_of context p.domain.contexts)) en ∙ ap (turns_in p n) runs in
    let reached : turns_before n p.domain.entries (own_faults p) (machine_of x p.domain) < turns_of p.domain.entries (own_faults p) (machine_of x p.domain) =
    deed_reached n p.domain.entries (own_faults p) (machine_of x p.domain) has in
    let b : Burst = burst p.domain.entries (put_after f (own_faults p)) (machine_of x p.domain) in
    let cut : IsCutShort f.after (acts_within f.after p.domain.entries (own_faults p) (machine_of x p.domain)) b =
    burst_cut f p.domain.entries (own_faults p) (machine_of x p.domain) refl (burst_rises (p.bursts + 1) p.spec.faults) (omega arith) in
    let kept : b.acts ≡ take n made.acts =
    cut.acts_of_turns ∙ ap (λ (t : ℕ). acts_within t p.domain.entries (own_faults p) (machine_of x p.domain)) ea
    ∙ deed_kept n p.domain.entries (own_faults p) (machine_of x p.domain) has in
    let rest_after : own_faults q ≡ put_after f (own_faults p) =
    own_burst (p.bursts + 1) p.spec.faults f (eq-eqb (p.bursts + 1) (p.bursts + 1) refl) in
    let d' : DomainBurst = after_burst context x b p.domain in
    let made' : event_of q (step.Burst context) ≡ (burst_step context q d').event =
    event_is context q
    ∙ ap (λ (faults : List Fault). (burst_step context q (burst_by context faults p.domain (context_of context p.domain.contexts))).event) rest_after
    ∙ ap (λ (o : Option Context). (burst_step context q (burst_by context (put_after f (own_faults p)) p.domain o)).event) runs in
    let acts_kept : take n made.acts ≡ take (deeds_before call k (deeds_in e)) (acts_in e) =
    ap (λ (j : ℕ). take j made.acts) (sym en) ∙ ap (λ (y : Event). take (deeds_before call k (deeds_in e)) (acts_in y)) (sym same) in
    let event_made : event_of q (step.Burst context) ≡ stop_event context p f.after (take n made.acts) =
    made' ∙ trap_event context q d' cut.ending
    ∙ ap (λ (c : ℕ). stop_event context p c b.acts) cut.count ∙ ap (λ (a : List Act). stop_event context p f.after a) kept in
    let g : guarded p k (step.Burst context) ≡ q = guard_is context p k clause more breaks in
    record {
      made = ap (λ (r : PartState). event_of r (step.Burst context)) g ∙ event_made ∙ ap (λ (a : List Act). stop_event context p f.after a) acts_kept;
      kept = ap (λ (r : PartState). broken k (event_of r (step.Burst context))) g ∙ ap (broken k) event_made
          ∙ ap (broken_by call k) (front_deeds n made.acts (deeds_across (crossed context p d)) few)
          ∙ front_broken n call k ds (omega arith);
      within = less_than f.after _ _ ea reached (turns_high 4096 p.domain.entries (own_faults p) (machine_of x p.domain) []);
    }
  where
    less_than : (a b c : ℕ) → a ≡ b → b < c → c ≤ 4096 → a < 4096
    less_than a b c e h l = omega arith

pub stopped : (context : ℕ) (p : PartState) (k : Known) (clause : Clause) (more : List Clause)
    → broken k (event_of p (step.Burst context)) ≡ clause ∷ more → IsStopped context p k
stopped context p k clause more breaks = by_context (context_of context p.domain.contexts) refl
  where
    by_context : (o : Option Context) → context_of context p.domain.contexts ≡ o → IsStopped context p k
    by_context (Some x) runs = stopped_with context p k x clause more runs breaks
    by_context None none = let no : [] ≡ clause ∷ more = sym (none_breaks context p k none) ∙ breaks in absurd cc

-- the deed that the trap prevents
pub first_wrong_deed : (context : ℕ) (p : PartState) (k : Known) (clause : Clause) (more : List Clause)
    → broken k (event_of p (step.Burst context)) ≡ clause ∷ more
    → IsFirstWrong (served_number context p) k (deeds_in (event_of p (step.Burst context)))
first_wrong_deed context p k clause more h =
    let e = event_is context p in
    let ds : List Deed = deeds_in (event_of p (step.Burst context)) in
    first_wrong (served_number context p) k ds
    (some_broken (served_number context p) k ds clause more
    (ap (λ (x : Event). broken_by (served_number context p) k (deeds_in x)) e ∙ ap (broken k) (sym e) ∙ h))
