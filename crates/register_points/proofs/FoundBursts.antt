-- The instructions of a burst that was found in a run say what a fault does in the whole journal.
use Rattle.std.proofs.Common.{◌≡◌, ◌≤◌, ◌+◌, ◌-◌, ◌==◌, ℕ, zero, suc, cond, not, nat_lt, if◌then◌else◌, Bool, true, false, Option, Some, None, List, [], ◌∷◌, filter, length, option_map, position, slice_get, take, refl, sym, ap, subst, ◌∙◌, arith}
use Rattle.std.proofs.lemmas.Bool.{eq-eqb, eqb-true, le-ltb, lt-ltb, ltb-false, ltb-true}
use Rattle.std.specs.List.{list_any, prefix_len}
use Rattle.std.specs.Prelude.{Err, IfOk, Ok, Result}
use Rattle.front_laws.proofs.Unreached.{bursts_after, is_burst_step, opening_faults}
use Rattle.front_laws.specs.Fronts.{put_after}
use Rattle.guard_defs.specs.Every.{put_at}
use Rattle.machine_defs.proofs.BurstKeeps.{split}
use Rattle.machine_defs.specs.Burst.{Burst, burst}
use Rattle.machine_defs.specs.BurstFaults.{faults_of_burst, in_order, is_of_burst}
use Rattle.nook_data.proofs.Options.{none_is_some, same_inside}
use Rattle.nook_data.specs.Types.{Context, Event, Fault, FaultKind, Instr, PartSpec, Scenario, Step}
use Rattle.nook_data.specs.declared.memory.NoMemory.{NoMemory}
use Rattle.nook_data.specs.declared.steps.Event.TheVariants as event
use Rattle.nook_data.specs.declared.steps.Step.TheVariants as step
use Rattle.part_defs.proofs.PartCases.{burst_by}
use Rattle.part_defs.specs.Domain.{after_burst, context_of, domain_burst, machine_of}
use Rattle.part_defs.specs.Runs.{IsRunFrom, event_of, state_after, state_from, step_of}
use Rattle.part_defs.specs.State.{DomainState, PartState}
use Rattle.part_defs.specs.Steps.{opening}
use Rattle.part_laws.proofs.DeviceStays.{spec_after}
use Rattle.register_laws.proofs.MemberRows.{journal_at}
use Rattle.register_laws.specs.Alike.{AreAlikeFrom, IsAlike, with_one}
use Rattle.register_points.proofs.Sound.{IsSoundIn, nothing_said, sound_in}
use Rattle.register_points.specs.Found.{AreKnown, IsSound, has_faults, instrs_found, instrs_of_context}
use Rattle.register_points.specs.Sources.{source_of}
use Rattle.register_points.specs.declared.sources.Source.{Source}
use Rattle.register_points.specs.declared.sources.Source.TheVariants as source
use Rattle.run_defs.specs.Simulation.{RunningPart, Simulation, journals_of}
use Rattle.sim_run.proofs.Ending.{scheduled_once}
use Rattle.sim_run.proofs.Reaching.{seats_of_runs}
use Rattle.sim_run.proofs.Seeking.{burst_numbered}
use Rattle.sim_run.specs.Bursts.{LeadsToBurst, burst_found, found_at, is_burst, shown_burst}
use Rattle.sim_run.specs.Reached.{AreSeatsOf, IsSeatOf}
use Rattle.sim_run.specs.declared.whole_run.FoundBurst.{FoundBurst}

-- ---- the first burst with a number, from a part on

abbrev Shown : Type 0
Shown = DomainState × Event

abbrev found_from : ℕ → PartState → List Event → Option Shown
found_from b p [] = None
found_from b p (e ∷ events) = if is_burst b e then Some (p.domain, e) else found_from b (state_after p (step_of e)) events

abbrev found_by : PartState → List Event → Option ℕ → Option Shown
found_by p journal None = None
found_by p journal (Some k) = option_map (λ e. ((state_from p (take k journal)).domain, e)) (slice_get journal k)

position_here : (b : ℕ) (e : Event) (events : List Event) → is_burst b e ≡ true → position (is_burst b) (e ∷ events) ≡ Some 0
position_here b e events h =
    let n : prefix_len (λ x. not (is_burst b x)) (e ∷ events) ≡ 0 =
    ap (λ x. cond (not x) (1 + prefix_len (λ x. not (is_burst b x)) events) 0) h in
    ap (λ k. cond (nat_lt k (length (e ∷ events))) (Some k) None) n
    ∙ ap (λ x. cond x (Some 0) None) (lt-ltb 0 (length (e ∷ events)) (omega arith))

position_later : (b : ℕ) (e : Event) (events : List Event) → is_burst b e ≡ false
    → position (is_burst b) (e ∷ events) ≡ option_map suc (position (is_burst b) events)
position_later b e events h =
    let k : ℕ = prefix_len (λ x. not (is_burst b x)) events in
    let n : prefix_len (λ x. not (is_burst b x)) (e ∷ events) ≡ suc k =
    ap (λ x. cond (not x) (1 + k) 0) h ∙ one_more k in
    ap (λ j. cond (nat_lt j (length (e ∷ events))) (Some j) None) n
    ∙ by_test k (length events) (nat_lt k (length events)) refl
  where
    one_more : (n : ℕ) → 1 + n ≡ suc n
    one_more n = omega arith

    by_test : (a l : ℕ) (x : Bool) → nat_lt a l ≡ x
        → cond (nat_lt (suc a) (suc l)) (Some (suc a)) None ≡ option_map suc (cond (nat_lt a l) (Some a) None)
    by_test a l true h =
        ap (λ x. cond x (Some (suc a)) None) (lt-ltb (suc a) (suc l) (omega (arith, ltb-true a l h)))
        ∙ ap (λ x. option_map suc (cond x (Some a) None)) (sym h)
    by_test a l false h =
        ap (λ x. cond x (Some (suc a)) None) (le-ltb (suc a) (suc l) (omega (arith, ltb-false a l h)))
        ∙ ap (λ x. option_map suc (cond x (Some a) None)) (sym h)

found_later : (p : PartState) (e : Event) (events : List Event) (o : Option ℕ)
    → found_by p (e ∷ events) (option_map suc o) ≡ found_by (state_after p (step_of e)) events o
unfolding state_from
found_later p e events None = refl
found_later p e events (Some k) = refl

found_here : (p : PartState) (e : Event) (events : List Event) → found_by p (e ∷ events) (Some 0) ≡ Some (p.domain, e)
unfolding state_from
found_here p e events = refl

found_same : (b : ℕ) (p : PartState) (journal : List Event) → found_by p journal (position (is_burst b) journal) ≡ found_from b p journal
found_same b p [] = refl
found_same b p (e ∷ events) = split (is_burst b e)
    (λ h. ap (found_by p (e ∷ events)) (position_here b e events h) ∙ found_here p e events ∙ rw h refl)
    (λ h. ap (found_by p (e ∷ events)) (position_later b e events h)
    ∙ found_later p e events (position (is_burst b) events)
    ∙ found_same b (state_after p (step_of e)) events ∙ rw h refl)

burst_found_same : (b : ℕ) (spec : PartSpec) (journal : List Event)
    → burst_found b (Some spec) (Some journal) ≡ found_from b (opening spec) journal
burst_found_same b spec journal = by_position (position (is_burst b) journal) ∙ found_same b (opening spec) journal
  where
    by_position : (o : Option ℕ) → found_at spec journal o ≡ found_by (opening spec) journal o
    by_position None = refl
    by_position (Some k) = refl

-- ---- the whole journal

-- the burst of an event from a domain is the same with a fault as with another one, or with none
abbrev IsAlikeIn : Fault → Option Fault → DomainState → Event → Type 0
IsAlikeIn f o d (event.Burst context call burst count e acts answer failure) =
    domain_burst context (f ∷ []) d ≡ domain_burst context (with_one o []) d
IsAlikeIn f o d e = Unit {0}

module _ (f : Fault) (o : Option Fault) where
  -- after the fault's burst
  past_step : (p : PartState) (s : Step) → f.burst ≤ p.bursts → IsAlike f o p s
  past_step p (step.Invoke thread op) h = tt
  past_step p (step.Enter thread) h = tt
  past_step p step.Stage h = tt
  past_step p (step.Arrive frame) h = tt
  past_step p (step.Burst context) h = λ same. absurd (omega arith)

  past_from : (p : PartState) (events : List Event) → f.burst ≤ p.bursts → AreAlikeFrom f o p events
  unfolding AreAlikeFrom
  past_from p [] h = tt
  past_from p (e ∷ events) h =
      let more : (state_after p (step_of e)).bursts ≡ p.bursts + cond (is_burst_step (step_of e)) 1 0 = bursts_after p (step_of e) in
      (past_step p (step_of e) h, past_from (state_after p (step_of e)) events (omega arith))

  -- in the burst of the fault
  in_burst : (p : PartState) (e : Event) → faults_of_burst f.burst p.spec.faults ≡ [] → IsAlikeIn f o p.domain e → IsAlike f o p (step_of e)
  in_burst p (event.Invoke call thread op answer) none h = tt
  in_burst p (event.Enter call thread attempt answer) none h = tt
  in_burst p (event.Stage stage answers released) none h = tt
  in_burst p (event.Arrive frame kept) none h = tt
  in_burst p (event.Burst context call burst count e acts answer failure) none h = λ same.
      subst (λ (faults : List Fault). domain_burst context (put_after f faults) p.domain ≡ domain_burst context (with_one o faults) p.domain)
      (sym (ap (λ (n : ℕ). faults_of_burst n p.spec.faults) same ∙ none)) h

  -- in another burst
  other_step : (p : PartState) (e : Event) → event_of p (step_of e) ≡ e → is_burst f.burst e ≡ false → IsAlike f o p (step_of e)
  other_step p (event.Invoke call thread op answer) made h = tt
  other_step p (event.Enter call thread attempt answer) made h = tt
  other_step p (event.Stage stage answers released) made h = tt
  other_step p (event.Arrive frame kept) made h = tt
  other_step p (event.Burst context call burst count e acts answer failure) made h = λ same.
      let named : (p.bursts + 1 == f.burst) ≡ false = burst_numbered p context f.burst p.bursts refl ∙ ap (is_burst f.burst) made ∙ h in
      let wrong : true ≡ false = sym (eq-eqb (p.bursts + 1) f.burst same) ∙ named in absurd cc

  numbered : (p : PartState) (e : Event) → event_of p (step_of e) ≡ e → is_burst f.burst e ≡ true
      → f.burst ≤ p.bursts + cond (is_burst_step (step_of e)) 1 0
  numbered p (event.Invoke call thread op answer) made h = absurd cc
  numbered p (event.Enter call thread attempt answer) made h = absurd cc
  numbered p (event.Stage stage answers released) made h = absurd cc
  numbered p (event.Arrive frame kept) made h = absurd cc
  numbered p (event.Burst context call burst count e acts answer failure) made h =
      let named : (p.bursts + 1 == f.burst) ≡ true = burst_numbered p context f.burst p.bursts refl ∙ ap (is_burst f.burst) made ∙ h in
      let same : p.bursts + 1 ≡ f.burst = eqb-true (p.bursts + 1) f.burst named in omega arith

  alike_from : (p : PartState) (events : List Event) → IsRunFrom p events → faults_of_burst f.burst p.spec.faults ≡ []
      → ((d : DomainState) (e : Event) → found_from f.burst p events ≡ Some (d, e) → IsAlikeIn f o d e) → AreAlikeFrom f o p events
  unfolding AreAlikeFrom IsRunFrom
  alike_from p [] run none all = tt
  alike_from p (e ∷ events) run none all = split (is_burst f.burst e)
      (λ h. let more : (state_after p (step_of e)).bursts ≡ p.bursts + cond (is_burst_step (step_of e)) 1 0 = bursts_after p (step_of e) in
      let low : f.burst ≤ p.bursts + cond (is_burst_step (step_of e)) 1 0 = numbered p e run.1 h in (
        in_burst p e none (all p.domain e (rw h refl)),
        past_from (state_after p (step_of e)) events (omega arith),
      ))
      (λ h. (
        other_step p e run.1 h,
        alike_from (state_after p (step_of e)) events run.2
            (ap (λ (x : PartSpec). faults_of_burst f.burst x.faults) (spec_after p (step_of e)) ∙ none)
            (λ d x found. all d x (rw h found)),
      ))

-- ---- the burst

burst_alike : (context : ℕ) (faults others : List Fault) (d : DomainState) (o : Option Context)
    → ((x : Context) → o ≡ Some x → burst d.entries faults (machine_of x d) ≡ burst d.entries others (machine_of x d))
    → burst_by context faults d o ≡ burst_by context others d o
burst_alike context faults others d None h = refl
burst_alike context faults others d (Some x) h = ap (λ (b : Burst). after_burst context x b d) (h x refl)

domain_alike : (context : ℕ) (faults others : List Fault) (d : DomainState)
    → ((x : Context) → context_of context d.contexts ≡ Some x → burst d.entries faults (machine_of x d) ≡ burst d.entries others (machine_of x d))
    → domain_burst context faults d ≡ domain_burst context others d
unfolding domain_burst
domain_alike context faults others d h = burst_alike context faults others d (context_of context d.contexts) h

-- what a source says of a fault in the burst of an event
abbrev IsSoundEvent : DomainState → Event → ℕ → FaultKind → ℕ → Source → Type 0
IsSoundEvent d e b kind a source.Run = Unit {0}
IsSoundEvent d e b kind a source.Base = IsAlikeIn (put_at b a kind) None d e
IsSoundEvent d e b kind a source.Before = IsAlikeIn (put_at b (a - 1) kind) (Some (put_at b a kind)) d e

context_sound : (d : DomainState) (b a : ℕ) (kind : FaultKind) (context : ℕ) (o : Option Context) (s : Source)
    → context_of context d.contexts ≡ o → source_of (instrs_of_context d o) kind a ≡ s
    → (call number count : ℕ) (end : _) (acts : _) (answer : _) (failure : _)
    → IsSoundEvent d (event.Burst context call number count end acts answer failure) b kind a s
context_sound d b a kind context None s at e call number count end acts answer failure =
    subst (IsSoundEvent d (event.Burst context call number count end acts answer failure) b kind a) (sym (nothing_said kind a) ∙ e) tt
context_sound d b a kind context (Some x) source.Run at e call number count end acts answer failure = tt
context_sound d b a kind context (Some x) source.Base at e call number count end acts answer failure =
    domain_alike context (put_at b a kind ∷ []) [] d (λ y is.
    subst (λ (z : Context). burst d.entries (put_at b a kind ∷ []) (machine_of z d) ≡ burst d.entries [] (machine_of z d))
    (same_inside (sym at ∙ is)) (subst (IsSoundIn d.entries (machine_of x d) b kind a) e (sound_in d.entries (machine_of x d) b a kind)))
context_sound d b a kind context (Some x) source.Before at e call number count end acts answer failure =
    domain_alike context (put_at b (a - 1) kind ∷ []) (put_at b a kind ∷ []) d (λ y is.
    subst (λ (z : Context). burst d.entries (put_at b (a - 1) kind ∷ []) (machine_of z d) ≡ burst d.entries (put_at b a kind ∷ []) (machine_of z d))
    (same_inside (sym at ∙ is)) (subst (IsSoundIn d.entries (machine_of x d) b kind a) e (sound_in d.entries (machine_of x d) b a kind)))

said_none : (d : DomainState) (e : Event) (b a : ℕ) (kind : FaultKind) → IsSoundEvent d e b kind a (source_of [] kind a)
said_none d e b a kind = subst (IsSoundEvent d e b kind a) (sym (nothing_said kind a)) tt

event_sound : (d : DomainState) (e : Event) (b a : ℕ) (kind : FaultKind) → IsSoundEvent d e b kind a (source_of (instrs_found d e) kind a)
event_sound d (event.Burst context call number count end acts answer failure) b a kind =
    context_sound d b a kind context (context_of context d.contexts) (source_of (instrs_of_context d (context_of context d.contexts)) kind a)
    refl refl call number count end acts answer failure
event_sound d (event.Invoke call thread op answer) b a kind = said_none d (event.Invoke call thread op answer) b a kind
event_sound d (event.Enter call thread attempt answer) b a kind = said_none d (event.Enter call thread attempt answer) b a kind
event_sound d (event.Stage stage answers released) b a kind = said_none d (event.Stage stage answers released) b a kind
event_sound d (event.Arrive frame kept) b a kind = said_none d (event.Arrive frame kept) b a kind

-- ---- the scheduled run

faults_none : (b : ℕ) (faults : List Fault) → has_faults b faults ≡ false → faults_of_burst b faults ≡ []
unfolding faults_of_burst
faults_none b faults h = ap in_order (none_left faults h)
  where
    none_left : (xs : List Fault) → list_any (is_of_burst b) xs ≡ false → filter (is_of_burst b) xs ≡ []
    none_left [] e = refl
    none_left (x ∷ xs) e = split (is_of_burst b x)
        (λ i. let wrong : true ≡ false = rw i at e in absurd cc)
        (λ i. let rest : list_any (is_of_burst b) xs ≡ false = rw i at e in rw i (none_left xs rest))

seat_of : (specs : List PartSpec) (seats : List RunningPart) (index : ℕ) (spec : PartSpec) (seat : RunningPart) → AreSeatsOf specs seats
    → slice_get specs index ≡ Some spec → slice_get seats index ≡ Some seat → IsSeatOf spec seat
seat_of [] seats index spec seat are e g = none_is_some e
seat_of (x ∷ specs) [] index spec seat are e g = none_is_some g
seat_of (x ∷ specs) (y ∷ seats) zero spec seat are e g =
    subst (λ (z : RunningPart). IsSeatOf spec z) (same_inside g) (subst (λ (z : PartSpec). IsSeatOf z y) (same_inside e) are.0)
seat_of (x ∷ specs) (y ∷ seats) (suc index) spec seat are e g = seat_of specs seats index spec seat are.1 e g

-- instructions that are not known say nothing
pub none_known : (scenario : Scenario) (index b : ℕ) → AreKnown scenario index b []
none_known scenario index b s spec seat run there at kind a =
    subst (IsSound spec seat.run.journal b kind a) (sym (nothing_said kind a)) tt

-- those that were found say what is right
pub found_known : (scenario : Scenario) (index b : ℕ) (spec : PartSpec) (d : DomainState) (e : Event) (found : Option FoundBurst)
    → slice_get scenario.parts index ≡ Some spec → has_faults b spec.faults ≡ false → LeadsToBurst scenario index b found
    → option_map shown_burst found ≡ Some (d, e) → AreKnown scenario index b (instrs_found d e)
found_known scenario index b spec d e found is no_faults leads shown s spec' seat run there at kind a =
    let same : leads.simulation ≡ s = scheduled_once scenario leads.simulation s leads.scheduled run in
    let one : spec ≡ spec' = same_inside (sym is ∙ there) in
    let seat_is : IsSeatOf spec' seat = seat_of scenario.parts s.parts index spec' seat
    (subst (λ (x : Simulation). AreSeatsOf scenario.parts x.parts) run.reached (seats_of_runs scenario run.steps)) there at in
    let here : Some (d, e) ≡ found_from b (opening spec') seat.run.journal =
    sym shown ∙ leads.same ∙ ap (λ (x : Simulation). burst_found b (slice_get scenario.parts index) (slice_get (journals_of x) index)) same
    ∙ ap (λ x. burst_found b x (slice_get (journals_of s) index)) there
    ∙ ap (burst_found b (Some spec')) (journal_at s.parts index seat at) ∙ burst_found_same b spec' seat.run.journal in
    let none : faults_of_burst b (opening spec').spec.faults ≡ [] =
    ap (faults_of_burst b) (opening_faults spec' ∙ ap (λ (x : PartSpec). x.faults) (sym one)) ∙ faults_none b spec.faults no_faults in
    by_source seat_is here none (source_of (instrs_found d e) kind a) (event_sound d e b a kind)
  where
    all : (f : Fault) (o : Option Fault) → f.burst ≡ b → IsSeatOf spec' seat → Some (d, e) ≡ found_from b (opening spec') seat.run.journal
        → faults_of_burst b (opening spec').spec.faults ≡ [] → IsAlikeIn f o d e → AreAlikeFrom f o (opening spec') seat.run.journal
    all f o number seat_is here none alike = alike_from f o (opening spec') seat.run.journal seat_is.run
        (ap (λ (n : ℕ). faults_of_burst n (opening spec').spec.faults) number ∙ none)
        (λ x y found'. subst (λ (z : Shown). IsAlikeIn f o z.0 z.1)
        (same_inside (here ∙ ap (λ (n : ℕ). found_from n (opening spec') seat.run.journal) (sym number) ∙ found')) alike)

    by_source : IsSeatOf spec' seat → Some (d, e) ≡ found_from b (opening spec') seat.run.journal
        → faults_of_burst b (opening spec').spec.faults ≡ [] → (x : Source) → IsSoundEvent d e b kind a x → IsSound spec' seat.run.journal b kind a x
    by_source seat_is here none source.Run h = tt
    by_source seat_is here none source.Base h = all (put_at b a kind) None refl seat_is here none h
    by_source seat_is here none source.Before h = all (put_at b (a - 1) kind) (Some (put_at b a kind)) refl seat_is here none h

pub found_if_ok : (r : Result (List (Option Instr)) NoMemory) (scenario : Scenario) (index b : ℕ) (spec : PartSpec) (found : FoundBurst)
    (o : Option FoundBurst) → slice_get scenario.parts index ≡ Some spec → has_faults b spec.faults ≡ false → LeadsToBurst scenario index b o
    → o ≡ Some found → IfOk r (λ instrs. instrs ≡ instrs_found found.domain.state found.event) → IfOk r (AreKnown scenario index b)
found_if_ok (Err e) scenario index b spec found o is none leads shown same = tt
found_if_ok (Ok instrs) scenario index b spec found o is none leads shown same =
    subst (AreKnown scenario index b) (sym same)
    (found_known scenario index b spec found.domain.state found.event o is none leads (ap (option_map shown_burst) shown))
