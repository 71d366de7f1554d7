-- The positions in a journal's bursts are those at which one more fault strikes along the part's run.
use Rattle.std.proofs.Common.{◌≡◌, ◌≤◌, ◌<◌, ℕ, ◌+◌, ◌-◌, ◌^◌, Bool, true, false, cond, min, find, filter_map, length, take, take_all, Option, Some, None, List, [], ◌∷◌, ◌++◌, refl, sym, ap, ap₂, subst, ◌∙◌, arith, append_assoc, append-nil}
use Rattle.std.proofs.lemmas.Bool.{eq-eqb, ne_eqb}
use Rattle.std.proofs.lemmas.List.Sums.{fold-append}
use Rattle.std.specs.List.{AllByRecursion, cons_option}
use Rattle.fault_points.specs.Bursts.{burst_points, open_points, positions_by, turns_within, up_to_own}
use Rattle.fault_points.specs.Points.{faults_at}
use Rattle.fault_points.specs.declared.points.BurstPoints.{BurstPoints}
use Rattle.fault_points.proofs.Turns.{counted}
use Rattle.front_laws.proofs.GuardRun.{AreLater, IsTrapOf, traps_later, trap_is}
use Rattle.front_laws.proofs.GuardStep.{stopped}
use Rattle.front_laws.proofs.Unreached.{bursts_after, is_burst_step, opening_faults}
use Rattle.guard_defs.specs.Every.{every_fault, every_fault_guarded, every_from, every_guarded_from, faults_in, faults_of_step, open_turns, turns_made}
use Rattle.guard_defs.specs.Guard.{IsGuardedFrom, IsGuardedRun, guard, guard_trap, guarded, known_at_first, trap_for, traps_from, traps_of, with_first}
use Rattle.machine_defs.specs.BurstFaults.{faults_of_burst, is_of_burst}
use Rattle.nook_data.specs.declared.clause.Clause.{Clause}
use Rattle.nook_data.specs.declared.scenario.Fault.{Fault}
use Rattle.nook_data.specs.declared.scenario.FaultKind.{FaultKind}
use Rattle.nook_data.specs.declared.scenario.PartSpec.{PartSpec}
use Rattle.nook_data.specs.declared.steps.Event.{Event}
use Rattle.nook_data.specs.declared.steps.Event.TheVariants as event
use Rattle.nook_data.specs.declared.steps.Step.{Step}
use Rattle.nook_data.specs.declared.steps.Step.TheVariants as step
use Rattle.part_defs.specs.Domain.{context_of, domain_burst}
use Rattle.part_defs.specs.Runs.{IsRun, IsRunFrom, event_of, state_after, step_of}
use Rattle.part_defs.specs.State.{PartState}
use Rattle.part_defs.specs.Steps.{burst_stepped, opening, stepped}
use Rattle.part_laws.proofs.DeviceStays.{spec_after}
use Rattle.promise_defs.specs.Contract.{Known, broken, known_after}

-- ---- faults of earlier bursts, of later ones, and of this one

abbrev AreBefore : ℕ → List Fault → Type 0
AreBefore bursts faults = AllByRecursion (λ f. f.burst ≤ bursts) faults

before_more : (n m : ℕ) (faults : List Fault) → n ≤ m → AreBefore n faults → AreBefore m faults
before_more n m [] h a = tt
before_more n m (f ∷ faults) h a = (let low : f.burst ≤ n = a.0 in omega arith, before_more n m faults h a.1)

before_too : (n : ℕ) (faults : List Fault) (f : Fault) → AreBefore n faults → f.burst ≤ n → AreBefore n (faults ++ f ∷ [])
before_too n [] f a h = (h, tt)
before_too n (g ∷ faults) f a h = (a.0, before_too n faults f a.1 h)

before_other : (n : ℕ) (f : Fault) → f.burst ≤ n → is_of_burst (n + 1) f ≡ false
before_other n f h = ne_eqb f.burst (n + 1) (λ same. omega arith)

none_later : (n : ℕ) (faults : List Fault) → AreLater n faults → find (is_of_burst n) faults ≡ None
none_later n [] a = refl
none_later n (f ∷ faults) a =
    let other : is_of_burst n f ≡ false = ne_eqb f.burst n (λ same. let more : n < f.burst = a.0 in omega arith) in
    rw other (none_later n faults a.1)

still_within : (n : ℕ) (faults : List Fault) (turns : ℕ) → AreBefore n faults → turns_within faults (n + 1) turns ≡ turns
still_within n [] turns a = refl
still_within n (f ∷ faults) turns a = rw (before_other n f a.0) (still_within n faults turns a.1)

-- the faults of earlier bursts change nothing
own_within : (n : ℕ) (own earlier : List Fault) (turns : ℕ) → AreBefore n earlier
    → turns_within (own ++ earlier) (n + 1) turns ≡ turns_within own (n + 1) turns
own_within n own earlier turns a =
    fold-append (up_to_own (n + 1)) turns own earlier ∙ still_within n earlier (turns_within own (n + 1) turns) a

-- ---- the guard's trap of a step, and those of the steps before and after it

abbrev found : List Fault → Option Fault → List Fault
found earlier None = earlier
found earlier (Some f) = earlier ++ f ∷ []

found_own : (own earlier : List Fault) (p q : PartState) (s : Step) (o : Option Fault) → IsTrapOf p s o q
    → p.spec.faults ≡ own ++ earlier → q.spec.faults ≡ own ++ found earlier o
found_own own earlier p q s None h e = ap (λ (r : PartState). r.spec.faults) h ∙ e
found_own own earlier p q s (Some f) h e =
    ap (λ (r : PartState). r.spec.faults) h.2 ∙ ap (λ (faults : List Fault). faults ++ f ∷ []) e ∙ append_assoc own earlier (f ∷ [])

same_bursts : (p q : PartState) (s : Step) (o : Option Fault) → IsTrapOf p s o q → q.bursts ≡ p.bursts
same_bursts p q s None h = ap (λ (r : PartState). r.bursts) h
same_bursts p q s (Some f) h = ap (λ (r : PartState). r.bursts) h.2

found_before : (earlier : List Fault) (p q : PartState) (s : Step) (o : Option Fault) → IsTrapOf p s o q
    → AreBefore p.bursts earlier → AreBefore (state_after q s).bursts (found earlier o)
found_before earlier p q s None h a =
    let same : q.bursts ≡ p.bursts = same_bursts p q s None h in
    let more : (state_after q s).bursts ≡ q.bursts + cond (is_burst_step s) 1 0 = bursts_after q s in
    before_more p.bursts (state_after q s).bursts earlier (omega arith) a
found_before earlier p q s (Some f) h a =
    let same : q.bursts ≡ p.bursts = same_bursts p q s (Some f) h in
    let more : (state_after q s).bursts ≡ q.bursts + 1 = bursts_after q s ∙ ap (λ (b : Bool). q.bursts + cond b 1 0) h.1 in
    let at : f.burst ≡ p.bursts + 1 = h.0 in
    before_too (state_after q s).bursts earlier f (before_more p.bursts (state_after q s).bursts earlier (omega arith) a) (omega arith)

found_all : (earlier rest : List Fault) (o : Option Fault) → found earlier o ++ rest ≡ earlier ++ with_first o rest
found_all earlier rest None = refl
found_all earlier rest (Some f) = append_assoc earlier (f ∷ []) rest

abbrev IsWithin : Option Fault → Type 0
IsWithin o = (f : Fault) → o ≡ Some f → f.after < 4096

trap_within : (context : ℕ) (p : PartState) (k : Known) → IsWithin (guard p k (step.Burst context))
trap_within context p k = by_clauses (broken k (event_of p (step.Burst context))) refl
  where
    by_clauses : (cs : List Clause) → broken k (event_of p (step.Burst context)) ≡ cs → IsWithin (trap_for cs (guard_trap context p k))
    by_clauses [] none = λ f e. absurd cc
    by_clauses (c ∷ more) some = λ f e.
        let same : guard_trap context p k ≡ f = cc in
        subst (λ (g : Fault). g.after < 4096) same (stopped context p k c more some).within

-- ---- the positions in a step

none_found : (n : ℕ) (earlier rest : List Fault) → AreBefore n earlier → AreLater (n + 1) rest
    → find (is_of_burst (n + 1)) (earlier ++ rest) ≡ None
none_found n [] rest a later = none_later (n + 1) rest later
none_found n (f ∷ earlier) rest a later = rw (before_other n f a.0) (none_found n earlier rest a.1 later)

one_found : (n : ℕ) (earlier rest : List Fault) (f : Fault) → AreBefore n earlier → f.burst ≡ n + 1
    → find (is_of_burst (n + 1)) (earlier ++ f ∷ rest) ≡ Some f
one_found n [] rest f a e = let here : is_of_burst (n + 1) f ≡ true = eq-eqb f.burst (n + 1) e in rw here refl
one_found n (g ∷ earlier) rest f a e = rw (before_other n g a.0) (one_found n earlier rest f a.1 e)

-- by the trap that is found for a burst
open_found : (own earlier rest : List Fault) (p : PartState) (context count : ℕ) (o : Option Fault) → AreBefore p.bursts earlier
    → AreLater (p.bursts + 1) rest → ((f : Fault) → o ≡ Some f → f.burst ≡ p.bursts + 1) → IsWithin o
    → (o ≡ None → turns_within own (p.bursts + 1) count ≡ turns_made p (context_of context p.domain.contexts))
    → open_points own (earlier ++ with_first o rest) (p.bursts + 1) count ≡ open_turns p context o
open_found own earlier rest p context count None a later at within turns =
    ap (λ (x : Option Fault). positions_by x (turns_within own (p.bursts + 1) count)) (none_found p.bursts earlier rest a later) ∙ turns refl
open_found own earlier rest p context count (Some f) a later at within turns =
    let low : f.after < 4096 = within f refl in
    ap (λ (x : Option Fault). positions_by x (turns_within own (p.bursts + 1) count)) (one_found p.bursts earlier rest f a (at f refl))
    ∙ least (f.after + 1) (2 ^ 32 - 1) (omega arith)
  where
    least : (a b : ℕ) → a ≤ b → min a b ≡ a
    least a b h = omega arith

at_burst : (p q : PartState) (s : Step) (o : Option Fault) → IsTrapOf p s o q → (f : Fault) → o ≡ Some f → f.burst ≡ p.bursts + 1
at_burst p q s None h f e = absurd cc
at_burst p q s (Some g) h f e = let same : g ≡ f = cc in ap (λ (x : Fault). x.burst) (sym same) ∙ h.0

-- the count of a burst that no trap ends
own_turns : (own earlier : List Fault) (p q : PartState) (context : ℕ) (o : Option Fault) → IsTrapOf p (step.Burst context) o q
    → p.spec.faults ≡ own ++ earlier → AreBefore p.bursts earlier → o ≡ None
    → turns_within own (p.bursts + 1) (domain_burst context (faults_of_burst (q.bursts + 1) q.spec.faults) q.domain).count
    ≡ turns_made p (context_of context p.domain.contexts)
own_turns own earlier p q context None h e a none =
    let count : ℕ = (domain_burst context (faults_of_burst (p.bursts + 1) p.spec.faults) p.domain).count in
    ap (λ (r : PartState). turns_within own (p.bursts + 1) (domain_burst context (faults_of_burst (r.bursts + 1) r.spec.faults) r.domain).count) h
    ∙ sym (own_within p.bursts own earlier count a)
    ∙ ap (λ (faults : List Fault). turns_within faults (p.bursts + 1) count) (sym e) ∙ counted context p
own_turns own earlier p q context (Some f) h e a none = absurd cc

-- a burst's event, with the positions in its burst
burst_at : (own traps : List Fault) (context : ℕ) (q : PartState) → burst_points own traps (event_of q (step.Burst context))
    ≡ Some (record {
      burst = q.bursts + 1;
      points = open_points own traps (q.bursts + 1) (domain_burst context (faults_of_burst (q.bursts + 1) q.spec.faults) q.domain).count;
    })
unfolding stepped burst_stepped
burst_at own traps context q = refl

-- the faults at a step's positions, and those at the positions in later steps
step_at : (kinds : List FaultKind) (own earlier rest : List Fault) (p q : PartState) (o : Option Fault) (e : Event)
    (more : List BurstPoints) → event_of q (step_of e) ≡ e → IsTrapOf p (step_of e) o q → p.spec.faults ≡ own ++ earlier
    → AreBefore p.bursts earlier → AreLater (state_after q (step_of e)).bursts rest → IsWithin o
    → faults_at kinds (cons_option (burst_points own (earlier ++ with_first o rest) e) more)
    ≡ faults_of_step kinds p o (step_of e) ++ faults_at kinds more
step_at kinds own earlier rest p q o (event.Invoke call thread op answer) more made h faults a later within = refl
step_at kinds own earlier rest p q o (event.Enter call thread attempt answer) more made h faults a later within = refl
step_at kinds own earlier rest p q o (event.Stage stage answers released) more made h faults a later within = refl
step_at kinds own earlier rest p q o (event.Arrive frame kept) more made h faults a later within = refl
step_at kinds own earlier rest p q o (event.Burst context call burst count end acts answer failure) more made h faults a later within =
    let s : Step = step.Burst context in
    let traps : List Fault = earlier ++ with_first o rest in
    let turns : ℕ = (domain_burst context (faults_of_burst (q.bursts + 1) q.spec.faults) q.domain).count in
    let number : q.bursts + 1 ≡ p.bursts + 1 = ap (λ (n : ℕ). n + 1) (same_bursts p q s o h) in
    let after : (state_after q s).bursts ≡ p.bursts + 1 = bursts_after q s ∙ number in
    let points : open_points own traps (q.bursts + 1) turns ≡ open_turns p context o =
    ap (λ (n : ℕ). open_points own traps n turns) number
    ∙ open_found own earlier rest p context turns o a (subst (λ (n : ℕ). AreLater n rest) after later) (at_burst p q s o h) within
    (λ none. own_turns own earlier p q context o h faults a none) in
    ap (λ (x : Option BurstPoints). faults_at kinds (cons_option x more))
    (ap (burst_points own traps) (sym made) ∙ burst_at own traps context q)
    ∙ ap₂ (λ (n k : ℕ). faults_in kinds n 0 k ++ faults_at kinds more) number points

step_within : (p : PartState) (k : Known) (s : Step) → IsWithin (guard p k s)
step_within p k (step.Invoke thread o) = λ f e. absurd cc
step_within p k (step.Enter thread) = λ f e. absurd cc
step_within p k step.Stage = λ f e. absurd cc
step_within p k (step.Arrive frame) = λ f e. absurd cc
step_within p k (step.Burst context) = trap_within context p k

-- ---- whole journals

guarded_from : (kinds : List FaultKind) (own earlier : List Fault) (p : PartState) (k : Known) (events : List Event) → IsGuardedFrom p k events
    → p.spec.faults ≡ own ++ earlier → AreBefore p.bursts earlier
    → faults_at kinds (filter_map (burst_points own (earlier ++ traps_from p k events)) events) ≡ every_guarded_from kinds p k events
unfolding IsGuardedFrom traps_from every_guarded_from
guarded_from kinds own earlier p k [] g e a = refl
guarded_from kinds own earlier p k (e ∷ events) g faults a =
    let s : Step = step_of e in
    let o : Option Fault = guard p k s in
    let q : PartState = guarded p k s in
    let r : PartState = state_after q s in
    let rest : List Fault = traps_from r (known_after k e) events in
    let h : IsTrapOf p s o q = trap_is p k s in
    let more : List BurstPoints = filter_map (burst_points own (earlier ++ with_first o rest)) events in
    step_at kinds own earlier rest p q o e more g.1 h faults a (traps_later r (known_after k e) events) (step_within p k s)
    ∙ ap (λ (later : List Fault). faults_of_step kinds p o s ++ later)
    (ap (λ (traps : List Fault). faults_at kinds (filter_map (burst_points own traps) events)) (sym (found_all earlier rest o))
    ∙ guarded_from kinds own (found earlier o) r (known_after k e) events g.2
    (ap (λ (spec : PartSpec). spec.faults) (spec_after q s) ∙ found_own own earlier p q s o h faults) (found_before earlier p q s o h a))

free_from : (kinds : List FaultKind) (own : List Fault) (p : PartState) (events : List Event) → IsRunFrom p events → p.spec.faults ≡ own
    → faults_at kinds (filter_map (burst_points own []) events) ≡ every_from kinds p events
unfolding IsRunFrom every_from
free_from kinds own p [] g e = refl
free_from kinds own p (e ∷ events) g faults =
    let s : Step = step_of e in
    step_at kinds own [] [] p p None e (filter_map (burst_points own []) events) g.1 refl (faults ∙ sym (append-nil own)) tt tt
    (λ f no. absurd cc)
    ∙ ap (λ (later : List Fault). faults_of_step kinds p None s ++ later)
    (free_from kinds own (state_after p s) events g.2 (ap (λ (spec : PartSpec). spec.faults) (spec_after p s) ∙ faults))

-- what is found for all events of a journal

abbrev ArePoints : PartSpec → List Fault → List Event → ℕ → List BurstPoints → Type 0
ArePoints spec traps journal i points = points ≡ filter_map (burst_points spec.faults traps) (take i journal)

whole : (kinds : List FaultKind) (spec : PartSpec) (traps : List Fault) (journal : List Event) (i : ℕ) (points : List BurstPoints)
    → ArePoints spec traps journal i points → length journal ≤ i
    → faults_at kinds points ≡ faults_at kinds (filter_map (burst_points spec.faults traps) journal)
whole kinds spec traps journal i points e h =
    ap (faults_at kinds) (e ∙ ap (filter_map (burst_points spec.faults traps)) (take_all i journal h))

pub free_points : (spec : PartSpec) (traps : List Fault) (journal : List Event) (i : ℕ) (points : List BurstPoints)
    → ArePoints spec traps journal i points → length journal ≤ i → IsRun spec journal → traps ≡ [] → (kinds : List FaultKind)
    → faults_at kinds points ≡ every_fault kinds spec journal
free_points spec traps journal i points e h run none kinds =
    whole kinds spec traps journal i points e h
    ∙ ap (λ (xs : List Fault). faults_at kinds (filter_map (burst_points spec.faults xs) journal)) none
    ∙ free_from kinds spec.faults (opening spec) journal run (opening_faults spec)

pub guarded_points : (spec : PartSpec) (traps : List Fault) (journal : List Event) (i : ℕ) (points : List BurstPoints)
    → ArePoints spec traps journal i points → length journal ≤ i → IsGuardedRun spec journal → traps ≡ traps_of spec journal
    → (kinds : List FaultKind) → faults_at kinds points ≡ every_fault_guarded kinds spec journal
guarded_points spec traps journal i points e h run own kinds =
    whole kinds spec traps journal i points e h
    ∙ ap (λ (xs : List Fault). faults_at kinds (filter_map (burst_points spec.faults xs) journal)) own
    ∙ guarded_from kinds spec.faults [] (opening spec) (known_at_first spec) journal run
    (opening_faults spec ∙ sym (append-nil spec.faults)) tt
