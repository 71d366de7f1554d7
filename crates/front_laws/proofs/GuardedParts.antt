-- Each part of a guarded run of a scenario has a guarded run.
use Rattle.std.proofs.Common.{◌≡◌, inl, inr, ℕ, zero, suc, true, Option, Some, None, List, [], ◌∷◌, ◌++◌, fold, slice_get, refl, sym, ap, subst, ◌∙◌}
use Rattle.std.specs.List.{AllByRecursion}
use Rattle.nook_data.proofs.Options.{none_is_some, same_inside}
use Rattle.nook_data.specs.declared.scenario.Fault.{Fault}
use Rattle.nook_data.specs.declared.scenario.PartSpec.{PartSpec}
use Rattle.nook_data.specs.declared.scenario.Scenario.{Scenario}
use Rattle.nook_data.specs.declared.steps.Event.{Event}
use Rattle.nook_data.specs.declared.steps.Step.{Step}
use Rattle.guard_defs.specs.Guard.{IsGuardedFrom, IsGuardedRun, guard, guarded, guarded_from, known_at_first, traps_of, with_after, with_own}
use Rattle.guard_defs.specs.GuardedRuns.{guarded_runs, guarded_seat, guarded_taken, known_of}
use Rattle.part_defs.specs.Runs.{event_of, state_after, step_of}
use Rattle.part_defs.specs.State.{PartState}
use Rattle.part_defs.specs.Steps.{enabled, opening}
use Rattle.part_laws.proofs.DeviceStays.{opening_spec, spec_from}
use Rattle.part_laws.proofs.RunsDetermined.{step_named}
use Rattle.promise_defs.specs.Contract.{Known, known_after}
use Rattle.run_defs.specs.Simulation.{Choice, RunningPart, Simulation, begins, choices_of, opening_part, part_after}
use Rattle.run_laws.proofs.Choices.{IsGood, choices_good}
use Rattle.front_laws.specs.Guarded.{guarded_at, known_at}
use Rattle.front_laws.specs.GuardedParts.{IsGuardedPart}
use Rattle.front_laws.proofs.GuardRun.{IsRunWith, IsTrapOf, guarded_run, opening_after, trap_is}
use Rattle.front_laws.proofs.GuardedRuns.{At, IsNextSeat, IsOf, guarded_on, guarded_taken_is, more_of, next_by, trap_more}
use Rattle.front_laws.proofs.Owned.{order_of, pick_of}
use Rattle.front_laws.proofs.Same.{enabled_same}
use Rattle.front_laws.proofs.WholeRuns.{begins_at}

-- one more guarded step

enabled_by : (p q : PartState) (s : Step) (o : Option Fault) → IsTrapOf p s o q → enabled p s ≡ true → enabled q s ≡ true
enabled_by p q s None h may = ap (λ (r : PartState). enabled r s) h ∙ may
enabled_by p q s (Some f) h may = ap (λ (r : PartState). enabled r s) h.2 ∙ enabled_same (p.spec.faults ++ f ∷ []) p s ∙ may

guarded_may : (p : PartState) (k : Known) (s : Step) → enabled p s ≡ true → enabled (guarded p k s) s ≡ true
guarded_may p k s may = enabled_by p (guarded p k s) s (guard p k s) (trap_is p k s) may

-- the event that a guarded step makes
abbrev made : PartState → Known → Step → Event
made p k s = event_of (guarded p k s) s

pub guarded_more : (p : PartState) (k : Known) (events : List Event) (s : Step) → IsGuardedFrom p k events
    → enabled (guarded_from p k events) s ≡ true
    → IsGuardedFrom p k (events ++ made (guarded_from p k events) (fold known_after k events) s ∷ [])
unfolding IsGuardedFrom guarded_from
guarded_more p k [] s g may =
    let named : step_of (made p k s) ≡ s = step_named (guarded p k s) s in (
      subst (λ (x : Step). enabled (guarded p k x) x ≡ true) (sym named) (guarded_may p k s may),
      ap (λ (x : Step). event_of (guarded p k x) x) named,
      tt,
    )
guarded_more p k (e ∷ events) s g may =
    (g.0, g.1, guarded_more (state_after (guarded p k (step_of e)) (step_of e)) (known_after k e) events s g.2 may)

pub guarded_state_more : (p : PartState) (k : Known) (events : List Event) (s : Step)
    → guarded_from p k (events ++ made (guarded_from p k events) (fold known_after k events) s ∷ [])
    ≡ state_after (guarded (guarded_from p k events) (fold known_after k events) s) s
unfolding guarded_from
guarded_state_more p k [] s = ap (λ (x : Step). state_after (guarded p k x) x) (step_named (guarded p k s) s)
guarded_state_more p k (e ∷ events) s = guarded_state_more (state_after (guarded p k (step_of e)) (step_of e)) (known_after k e) events s

-- what a guarded run of a scenario keeps of a part

pub record Follows (spec : PartSpec) (seat : RunningPart) : Type 0 where
  pub run : IsGuardedRun spec seat.run.journal
  pub state : seat.run.state ≡ guarded_at spec seat.run.journal
  pub own : IsOf seat spec

pub known_is : (spec : PartSpec) (seat : RunningPart) → IsOf seat spec → known_of seat ≡ known_at spec seat.run.journal
known_is spec seat is = ap (λ (x : PartSpec). fold known_after (known_at_first x) seat.run.journal) is

-- the part after a guarded step
abbrev stepped_seat : RunningPart → Step → RunningPart
stepped_seat seat s = part_after s (guarded_seat s seat)

follows_step : (spec : PartSpec) (seat : RunningPart) (s : Step) → enabled seat.run.state s ≡ true → Follows spec seat → Follows spec (stepped_seat seat s)
follows_step spec seat s may f =
    let p : PartState = guarded_at spec seat.run.journal in
    let k : Known = known_at spec seat.run.journal in
    let known : known_of seat ≡ k = known_is spec seat f.own in
    let same : made seat.run.state (known_of seat) s ≡ made p k s =
    ap (λ (q : PartState). made q (known_of seat) s) f.state ∙ ap (λ (x : Known). made p x s) known in
    let journal : seat.run.journal ++ made p k s ∷ [] ≡ (stepped_seat seat s).run.journal =
    ap (λ (e : Event). seat.run.journal ++ e ∷ []) (sym same) in
    let run : IsGuardedRun spec (seat.run.journal ++ made p k s ∷ []) =
    guarded_more (opening spec) (known_at_first spec) seat.run.journal s f.run (ap (λ (q : PartState). enabled q s) (sym f.state) ∙ may) in
    let after : state_after (guarded seat.run.state (known_of seat) s) s ≡ state_after (guarded p k s) s =
    ap (λ (q : PartState). state_after (guarded q (known_of seat) s) s) f.state ∙ ap (λ (x : Known). state_after (guarded p x s) s) known in
    record {
      run = subst (IsGuardedRun spec) journal run;
      state = after ∙ sym (guarded_state_more (opening spec) (known_at_first spec) seat.run.journal s) ∙ ap (guarded_at spec) journal;
      own = more_of seat (stepped_seat seat s) spec
          (trap_more seat.run.state (guarded seat.run.state (known_of seat) s) s (guard seat.run.state (known_of seat) s)
          (trap_is seat.run.state (known_of seat) s)) f.own;
    }

-- the choice may be taken

good_at : (s : Simulation) (choices : List Choice) (i : ℕ) (c : Choice) → AllByRecursion (IsGood s.parts s.threads) choices
    → slice_get choices i ≡ Some c → IsGood s.parts s.threads c
good_at s [] i c a h = none_is_some h
good_at s (x ∷ choices) zero c a h = subst (IsGood s.parts s.threads) (same_inside h) a.0
good_at s (x ∷ choices) (suc i) c a h = good_at s choices i c a.1 h

abbrev pub MayTake : Simulation → Option Choice → Type 0
MayTake s None = Unit {0}
MayTake s (Some c) = IsGood s.parts s.threads c

pub may_take : (s : Simulation) (choices : List Choice) (i : ℕ) → AllByRecursion (IsGood s.parts s.threads) choices → MayTake s (slice_get choices i)
may_take s choices i a = by_pick (slice_get choices i) refl
  where
    by_pick : (o : Option Choice) → slice_get choices i ≡ o → MayTake s o
    by_pick None h = tt
    by_pick (Some c) h = good_at s choices i c a h

pub follows_next : (spec : PartSpec) (s : Simulation) (index : ℕ) (seat next : RunningPart) (o : Option Choice) → At s index seat → MayTake s o
    → IsNextSeat seat o index next → Follows spec seat → Follows spec next
follows_next spec s index seat next None at may e f = subst (Follows spec) (sym e) f
follows_next spec s index seat next (Some c) at may (inl e) f = subst (Follows spec) (sym e.1) f
follows_next spec s index seat next (Some c) at may (inr e) f =
    let one : may.seat ≡ seat = same_inside (sym may.at ∙ ap (slice_get s.parts) e.0 ∙ at) in
    subst (Follows spec) (sym e.1)
    (follows_step spec seat c.step (ap (λ (x : RunningPart). enabled x.run.state c.step) (sym one) ∙ may.may) f)

abbrev HasFollowed : PartSpec → Simulation → ℕ → Type 0
HasFollowed spec t index = (later : RunningPart) × At t index later × Follows spec later

followed : (spec : PartSpec) (n : ℕ) (s : Simulation) (index : ℕ) (seat : RunningPart) → At s index seat → Follows spec seat
    → HasFollowed spec (guarded_runs n s) index
unfolding guarded_runs
followed spec zero s index seat at f = (seat, at, f)
followed spec (suc more) s index seat at f =
    by_choices (choices_of s) (choices_good s) (λ x next there follows. followed spec more x index next there follows)
  where
    by_choices : (choices : List Choice) → AllByRecursion (IsGood s.parts s.threads) choices
        → ((x : Simulation) (next : RunningPart) → At x index next → Follows spec next → HasFollowed spec (guarded_runs more x) index)
        → HasFollowed spec (guarded_on more s choices) index
    by_choices [] good again = (seat, at, f)
    by_choices (c ∷ choices) good again =
        let o : Option Choice = pick_of s (c ∷ choices) in
        let next = next_by s index seat (order_of s (c ∷ choices)) o at in
        let there : At (guarded_taken s (c ∷ choices)) index next.0 =
        subst (λ (t : Simulation). At t index next.0) (sym (guarded_taken_is s (c ∷ choices))) next.1 in
        again (guarded_taken s (c ∷ choices)) next.0 there
        (follows_next spec s index seat next.0 o at (may_take s (c ∷ choices) _ good) next.2 f)

pub opening_follows : (spec : PartSpec) → Follows spec (opening_part spec)
unfolding IsGuardedFrom guarded_from opening
opening_follows spec = record { run = tt; state = refl; own = refl }

pub spec_with : (spec : PartSpec) (journal : List Event) → IsGuardedRun spec journal
    → (guarded_at spec journal).spec ≡ with_after (traps_of spec journal) spec
spec_with spec journal run =
    let with : IsRunWith (opening spec) (known_at_first spec) journal = guarded_run (opening spec) (known_at_first spec) journal run in
    ap (λ (q : PartState). q.spec) (sym with.state)
    ∙ spec_from (with_own ((opening spec).spec.faults ++ traps_of spec journal) (opening spec)) journal
    ∙ ap (λ (q : PartState). q.spec) (sym (opening_after spec (traps_of spec journal)))
    ∙ opening_spec (with_after (traps_of spec journal) spec)

pub guarded_part : (scenario : Scenario) (index : ℕ) (steps : ℕ) (spec : PartSpec) (seat : RunningPart)
    → slice_get scenario.parts index ≡ Some spec → slice_get (guarded_runs steps (begins scenario)).parts index ≡ Some seat
    → IsGuardedPart spec seat
guarded_part scenario index steps spec seat at end =
    let f = followed spec steps (begins scenario) index (opening_part spec) (begins_at scenario index spec at) (opening_follows spec) in
    let one : f.0 ≡ seat = same_inside (sym f.1 ∙ end) in
    let g : Follows spec seat = subst (Follows spec) one f.2 in
    record {
      run = g.run;
      state = g.state;
      faults = ap (λ (q : PartState). q.spec) g.state ∙ spec_with spec seat.run.journal g.run;
    }
