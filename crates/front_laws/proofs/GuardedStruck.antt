-- A fault that a part's guarded run does not reach does not change the guarded run of the scenario.
use Rattle.std.proofs.Common.{◌≡◌, ◌⊎◌, ◌≤◌, inl, inr, ℕ, zero, suc, ◌+◌, Option, Some, None, List, [], ◌∷◌, ◌++◌, fold, length, take, drop, option_map, slice_get, refl, sym, ap, subst, ◌∙◌, arith, append_assoc, append-nil, drop_at, take_at, length-append}
use Rattle.std.proofs.lemmas.Bool.{cases_eq}
use Rattle.std.specs.List.{AllByRecursion}
use Rattle.nook_data.proofs.Options.{none_is_some, same_inside}
use Rattle.nook_data.specs.Members.{struck}
use Rattle.nook_data.specs.declared.scenario.Fault.{Fault}
use Rattle.nook_data.specs.declared.scenario.PartSpec.{PartSpec}
use Rattle.nook_data.specs.declared.scenario.Scenario.{Scenario}
use Rattle.nook_data.specs.declared.steps.Event.{Event}
use Rattle.nook_data.specs.declared.steps.Step.{Step}
use Rattle.guard_defs.specs.Guard.{guarded, guarded_from, known_at_first, traps_of, with_own}
use Rattle.guard_defs.specs.GuardedRuns.{IsGuardedSchedule, guarded_runs, guarded_seat, guarded_taken, known_of}
use Rattle.part_defs.specs.Runs.{event_of, state_after, step_of}
use Rattle.part_defs.specs.State.{PartState}
use Rattle.part_defs.specs.Steps.{opening}
use Rattle.part_laws.proofs.RunsDetermined.{step_named}
use Rattle.promise_defs.specs.Contract.{Known, known_after}
use Rattle.run_defs.specs.Schedules.{Order}
use Rattle.run_defs.specs.Simulation.{Choice, RunningPart, Simulation, begins, choices_of, opening_part, part_after, stepped_by}
use Rattle.run_laws.proofs.Choices.{IsGood, choices_good}
use Rattle.front_laws.specs.Guarded.{guarded_at, known_at}
use Rattle.front_laws.specs.GuardedPast.{IsPastGuarded, IsPastGuardedFrom, IsUnreachedGuarded, inserted, inserted_at}
use Rattle.front_laws.specs.Owned.{owned, owning, seat_with, struck_at}
use Rattle.front_laws.proofs.GuardedParts.{Follows, follows_next, known_is, may_take, opening_follows, spec_with}
use Rattle.front_laws.proofs.GuardedPast.{AreEarlier, IsStruckStep, struck_step}
use Rattle.front_laws.proofs.GuardedRuns.{At, IsNextSeat, guarded_by, guarded_on, guarded_taken_is, next_by}
use Rattle.front_laws.proofs.Owned.{IsSameIn, choices_same, get_owning, order_of, pick_of, seat_at, stepped_seat}
use Rattle.front_laws.proofs.Same.{IsSameBurst}
use Rattle.front_laws.proofs.Unreached.{opening_faults}
use Rattle.front_laws.proofs.ValidGuarded.{IsTrapWithin, traps_fit}
use Rattle.front_laws.proofs.WholeRuns.{begins_at, begins_struck, own_burst_same, struck_here, struck_other}

-- the index of the part with the fault

inserted_here : (index count : ℕ) (f : Fault) (faults : List Fault) → inserted_at index count f index faults ≡ inserted count f faults
inserted_here zero count f faults = refl
inserted_here (suc index) count f faults = inserted_here index count f faults

inserted_other : (index count : ℕ) (f : Fault) (n : ℕ) (faults : List Fault) → (n ≡ index → ⊥) → inserted_at index count f n faults ≡ faults
inserted_other zero count f zero faults h = absurd (h refl)
inserted_other zero count f (suc n) faults h = refl
inserted_other (suc index) count f zero faults h = refl
inserted_other (suc index) count f (suc n) faults h = inserted_other index count f n faults (λ e. h (ap suc e))

-- ---- a journal grows at its end

past_back : (f : Fault) (p : PartState) (k : Known) (before events : List Event) → IsPastGuardedFrom f p k (before ++ events)
    → IsPastGuardedFrom f (guarded_from p k before) (fold known_after k before) events
unfolding IsPastGuardedFrom guarded_from
past_back f p k [] events h = h
past_back f p k (e ∷ before) events h =
    past_back f (state_after (guarded p k (step_of e)) (step_of e)) (known_after k e) before events h.1

past_first : (f : Fault) (p : PartState) (k : Known) (e : Event) (events : List Event) → IsPastGuardedFrom f p k (e ∷ events)
    → IsPastGuarded f p k (step_of e)
unfolding IsPastGuardedFrom
past_first f p k e events h = h.0

abbrev Grows : RunningPart → RunningPart → Type 0
Grows seat later = (more : List Event) × (later.run.journal ≡ seat.run.journal ++ more)

grows_by : (seat next : RunningPart) (o : Option Choice) (index : ℕ) → IsNextSeat seat o index next → Grows seat next
grows_by seat next None index e = ([], ap (λ (x : RunningPart). x.run.journal) e ∙ sym (append-nil seat.run.journal))
grows_by seat next (Some c) index (inl e) = ([], ap (λ (x : RunningPart). x.run.journal) e.1 ∙ sym (append-nil seat.run.journal))
grows_by seat next (Some c) index (inr e) =
    (event_of (guarded seat.run.state (known_of seat) c.step) c.step ∷ [], ap (λ (x : RunningPart). x.run.journal) e.1)

grows_on : (a b c : RunningPart) → Grows a b → Grows b c → Grows a c
grows_on a b c (x, ex) (y, ey) = (x ++ y, ey ∙ ap (λ (l : List Event). l ++ y) ex ∙ append_assoc a.run.journal x y)

abbrev HasLater : Simulation → ℕ → RunningPart → Type 0
HasLater t index seat = (later : RunningPart) × At t index later × Grows seat later

there : (s : Simulation) (choices : List Choice) (index : ℕ) (next : RunningPart) → At (guarded_by s (order_of s choices) (pick_of s choices)) index next
    → At (guarded_taken s choices) index next
there s choices index next at = subst (λ (t : Simulation). At t index next) (sym (guarded_taken_is s choices)) at

grown : (n : ℕ) (s : Simulation) (index : ℕ) (seat : RunningPart) → At s index seat → HasLater (guarded_runs n s) index seat
unfolding guarded_runs
grown zero s index seat at = (seat, at, ([], sym (append-nil seat.run.journal)))
grown (suc more) s index seat at = by_choices (choices_of s) (λ x next h. grown more x index next h)
  where
    by_choices : (choices : List Choice)
        → ((x : Simulation) (next : RunningPart) → At x index next → HasLater (guarded_runs more x) index next)
        → HasLater (guarded_on more s choices) index seat
    by_choices [] again = (seat, at, ([], sym (append-nil seat.run.journal)))
    by_choices (c ∷ choices) again =
        let next = next_by s index seat (order_of s (c ∷ choices)) (pick_of s (c ∷ choices)) at in
        let later = again (guarded_taken s (c ∷ choices)) next.0 (there s (c ∷ choices) index next.0 next.1) in
        (later.0, later.1, grows_on seat next.0 later.0 (grows_by seat next.0 (pick_of s (c ∷ choices)) index next.2) later.2)

-- ---- the faults of a part of a guarded run

record HasTraps (count : ℕ) (p : PartState) : Type 0 where
  room : count ≤ length p.spec.faults
  earlier : AreEarlier p.bursts (drop count p.spec.faults)

earlier_traps : (n : ℕ) (faults : List Fault) → AllByRecursion (IsTrapWithin n) faults → AreEarlier n faults
earlier_traps n [] a = tt
earlier_traps n (f ∷ faults) a = (a.0.made, earlier_traps n faults a.1)

has_traps : (spec : PartSpec) (seat : RunningPart) → Follows spec seat → HasTraps (length spec.faults) seat.run.state
has_traps spec seat f =
    let traps : List Fault = traps_of spec seat.run.journal in
    let faults : seat.run.state.spec.faults ≡ spec.faults ++ traps =
    ap (λ (p : PartState). p.spec.faults) f.state ∙ ap (λ (x : PartSpec). x.faults) (spec_with spec seat.run.journal f.run) in
    let sum : length (spec.faults ++ traps) ≡ length spec.faults + length traps = length-append spec.faults traps in
    let all : length seat.run.state.spec.faults ≡ length (spec.faults ++ traps) = ap length faults in
    let fit : AreEarlier (guarded_at spec seat.run.journal).bursts traps =
    earlier_traps (guarded_at spec seat.run.journal).bursts traps
    (traps_fit (guarded_at spec seat.run.journal).bursts (opening spec) (known_at_first spec) seat.run.journal (at_most (guarded_at spec seat.run.journal).bursts)) in
    record {
      room = omega arith;
      earlier = subst (AreEarlier seat.run.state.bursts)
          (sym (ap (drop (length spec.faults)) faults ∙ drop_at spec.faults traps (length spec.faults) refl))
          (subst (λ (p : PartState). AreEarlier p.bursts traps) (sym f.state) fit);
    }
  where
    at_most : (n : ℕ) → n ≤ n
    at_most n = omega arith

-- ---- a step of the simulation

module _ (f : Fault) (index : ℕ) (spec : PartSpec) where
  abbrev change : ℕ → List Fault → List Fault
  change = inserted_at index (length spec.faults) f

  -- a part takes the step under the guard in the same way with the fault
  record IsSameGuarded (i : ℕ) (s : Step) (seat : RunningPart) : Type 0 where
    part : guarded_seat s (seat_at change i seat) ≡ seat_at change i (guarded_seat s seat)
    burst : IsSameIn change i s (Some (guarded_seat s seat))

  guarded_here : (s : Step) (seat : RunningPart) → Follows spec seat → IsPastGuarded f seat.run.state (known_of seat) s → IsSameGuarded index s seat
  guarded_here s seat follows past =
      let has : HasTraps (length spec.faults) seat.run.state = has_traps spec seat follows in
      let p : PartState = seat.run.state in
      let k : Known = known_of seat in
      let one : IsStruckStep (length spec.faults) f p k s = struck_step (length spec.faults) f p k s has.room has.earlier past in
      let faults : change index p.spec.faults ≡ inserted (length spec.faults) f p.spec.faults =
      inserted_here index (length spec.faults) f p.spec.faults in
      let later : change index (guarded p k s).spec.faults ≡ inserted (length spec.faults) f (guarded p k s).spec.faults =
      inserted_here index (length spec.faults) f (guarded p k s).spec.faults in
      record {
        part = ap (λ (q : PartState). record seat { run = record seat.run { state = q } })
            (ap (λ (xs : List Fault). guarded (with_own xs p) k s) faults ∙ one.part
            ∙ ap (λ (xs : List Fault). with_own xs (guarded p k s)) (sym later));
        burst = subst (λ (xs : List Fault). IsSameBurst xs (guarded p k s) s) (sym later) one.same;
      }

  guarded_other : (i : ℕ) (s : Step) (seat : RunningPart) → (i ≡ index → ⊥) → IsSameGuarded i s seat
  guarded_other i s seat n =
      let p : PartState = seat.run.state in
      let k : Known = known_of seat in
      let faults : change i p.spec.faults ≡ p.spec.faults = inserted_other index (length spec.faults) f i p.spec.faults n in
      let later : change i (guarded p k s).spec.faults ≡ (guarded p k s).spec.faults =
      inserted_other index (length spec.faults) f i (guarded p k s).spec.faults n in
      record {
        part = ap (λ (q : PartState). record seat { run = record seat.run { state = q } })
            (ap (λ (xs : List Fault). guarded (with_own xs p) k s) faults ∙ ap (λ (xs : List Fault). with_own xs (guarded p k s)) (sym later));
        burst = subst (λ (xs : List Fault). IsSameBurst xs (guarded p k s) s) (sym later) (own_burst_same (guarded p k s) s);
      }

  guarded_stepped : (s : Simulation) (order : Order) (c : Choice) (x : Option RunningPart)
      → ((seat : RunningPart) → x ≡ Some seat → IsSameGuarded c.part c.step seat)
      → stepped_by (owned change s) order c (option_map (guarded_seat c.step) (option_map (seat_at change c.part) x))
      ≡ owned change (stepped_by s order c (option_map (guarded_seat c.step) x))
  guarded_stepped s order c None h = refl
  guarded_stepped s order c (Some seat) h =
      let one : IsSameGuarded c.part c.step seat = h seat refl in
      ap (λ (y : RunningPart). stepped_by (owned change s) order c (Some y)) one.part
      ∙ stepped_seat change s order c (guarded_seat c.step seat) one.burst

  taken_struck : (s : Simulation) (order : Order) (o : Option Choice)
      → ((c : Choice) (seat : RunningPart) → o ≡ Some c → slice_get s.parts c.part ≡ Some seat → IsSameGuarded c.part c.step seat)
      → guarded_by (owned change s) order o ≡ owned change (guarded_by s order o)
  taken_struck s order None h = refl
  taken_struck s order (Some c) h =
      ap (λ (x : Option RunningPart). stepped_by (owned change s) order c (option_map (guarded_seat c.step) x))
      (get_owning change 0 c.part c.part s.parts (omega arith))
      ∙ guarded_stepped s order c (slice_get s.parts c.part) (λ seat e. h c seat refl e)

  -- the picked step does not reach the fault

  past_here : (s : Step) (seat later : RunningPart) → Follows spec seat → Grows (part_after s (guarded_seat s seat)) later
      → IsUnreachedGuarded f spec later.run.journal → IsPastGuarded f seat.run.state (known_of seat) s
  past_here s seat later follows (more, e) past =
      let ev : Event = event_of (guarded seat.run.state (known_of seat) s) s in
      let whole : IsPastGuardedFrom f (opening spec) (known_at_first spec) (seat.run.journal ++ (ev ∷ more)) =
      subst (IsPastGuardedFrom f (opening spec) (known_at_first spec)) (e ∙ append_assoc seat.run.journal (ev ∷ []) more) past in
      let one : IsPastGuarded f (guarded_at spec seat.run.journal) (known_at spec seat.run.journal) (step_of ev) =
      past_first f (guarded_at spec seat.run.journal) (known_at spec seat.run.journal) ev more
      (past_back f (opening spec) (known_at_first spec) seat.run.journal (ev ∷ more) whole) in
      subst (λ (q : PartState). IsPastGuarded f q (known_of seat) s) (sym follows.state)
      (subst (λ (k : Known). IsPastGuarded f (guarded_at spec seat.run.journal) k s) (sym (known_is spec seat follows.own))
      (subst (IsPastGuarded f (guarded_at spec seat.run.journal) (known_at spec seat.run.journal)) (step_named (guarded seat.run.state (known_of seat) s) s) one))

  pick_same : (s : Simulation) (seat next later : RunningPart) (o : Option Choice) → At s index seat → Follows spec seat
      → IsNextSeat seat o index next → Grows next later → IsUnreachedGuarded f spec later.run.journal
      → (c : Choice) (other : RunningPart) → o ≡ Some c → slice_get s.parts c.part ≡ Some other → IsSameGuarded c.part c.step other
  pick_same s seat next later None at follows is grows past c other e there' = none_is_some e
  pick_same s seat next later (Some d) at follows (inl is) grows past c other e there' =
      let same : d ≡ c = same_inside e in
      guarded_other c.part c.step other (λ here. is.0 (ap (λ (x : Choice). x.part) same ∙ here))
  pick_same s seat next later (Some d) at follows (inr is) grows past c other e there' =
      let same : d ≡ c = same_inside e in
      let here : c.part ≡ index = ap (λ (x : Choice). x.part) (sym same) ∙ is.0 in
      let one : other ≡ seat = same_inside (sym there' ∙ ap (slice_get s.parts) here ∙ at) in
      let after : next ≡ part_after c.step (guarded_seat c.step seat) =
      is.1 ∙ ap (λ (x : Choice). part_after x.step (guarded_seat x.step seat)) same in
      subst (λ (x : RunningPart). IsSameGuarded c.part c.step x) (sym one)
      (subst (λ (i : ℕ). IsSameGuarded i c.step seat) (sym here)
      (guarded_here c.step seat follows
      (past_here c.step seat later follows (subst (λ (x : RunningPart). Grows x later) after grows) past)))

  struck_runs : (n : ℕ) (s : Simulation) (seat later : RunningPart) → At s index seat → Follows spec seat
      → At (guarded_runs n s) index later → IsUnreachedGuarded f spec later.run.journal
      → guarded_runs n (owned change s) ≡ owned change (guarded_runs n s)
  unfolding guarded_runs
  struck_runs zero s seat later at follows end past = refl
  struck_runs (suc more) s seat later at follows end past =
      ap (guarded_on more (owned change s)) (choices_same change s)
      ∙ by_choices (choices_of s) (choices_good s) end (λ x next h g last. struck_runs more x next later h g last past)
    where
      by_choices : (choices : List Choice) → AllByRecursion (IsGood s.parts s.threads) choices → At (guarded_on more s choices) index later
          → ((x : Simulation) (next : RunningPart) → At x index next → Follows spec next → At (guarded_runs more x) index later
          → guarded_runs more (owned change x) ≡ owned change (guarded_runs more x))
          → guarded_on more (owned change s) choices ≡ owned change (guarded_on more s choices)
      by_choices [] good end' again = refl
      by_choices (c ∷ choices) good end' again =
          let o : Option Choice = pick_of s (c ∷ choices) in
          let order : Order = order_of s (c ∷ choices) in
          let next = next_by s index seat order o at in
          let at' : At (guarded_taken s (c ∷ choices)) index next.0 = there s (c ∷ choices) index next.0 next.1 in
          let last = grown more (guarded_taken s (c ∷ choices)) index next.0 at' in
          let one : last.0 ≡ later = same_inside (sym last.1 ∙ end') in
          let grows : Grows next.0 later = subst (Grows next.0) one last.2 in
          let taken : guarded_taken (owned change s) (c ∷ choices) ≡ owned change (guarded_taken s (c ∷ choices)) =
          guarded_taken_is (owned change s) (c ∷ choices)
          ∙ taken_struck s order o (pick_same s seat next.0 later o at follows next.2 grows past)
          ∙ ap (owned change) (sym (guarded_taken_is s (c ∷ choices))) in
          ap (guarded_runs more) taken
          ∙ again (guarded_taken s (c ∷ choices)) next.0 at'
          (follows_next spec s index seat next.0 o at (may_take s (c ∷ choices) _ good) next.2 follows) end'

-- ---- the whole scenario

owning_same : (c d : ℕ → List Fault → List Fault) (n : ℕ) (parts : List RunningPart)
    → ((i j : ℕ) (seat : RunningPart) → j ≡ n + i → slice_get parts i ≡ Some seat → c j seat.run.state.spec.faults ≡ d j seat.run.state.spec.faults)
    → owning c n parts ≡ owning d n parts
owning_same c d n [] h = refl
owning_same c d n (seat ∷ parts) h =
    ap (λ (xs : List RunningPart). seat_with (c n seat.run.state.spec.faults) seat ∷ xs)
    (owning_same c d (n + 1) parts (λ i j x e at. h (suc i) j x (omega arith) at))
    ∙ ap (λ (faults : List Fault). seat_with faults seat ∷ owning d (n + 1) parts) (h zero n seat (omega arith) refl)

inserted_last : (f : Fault) (faults : List Fault) → inserted (length faults) f faults ≡ faults ++ f ∷ []
inserted_last f faults =
    ap (λ (xs : List Fault). take (length faults) xs ++ f ∷ drop (length faults) xs) (sym (append-nil faults))
    ∙ ap (λ (xs : List Fault). xs ++ f ∷ drop (length faults) (faults ++ [])) (take_at faults [] (length faults) refl)
    ∙ ap (λ (xs : List Fault). faults ++ f ∷ xs) (drop_at faults [] (length faults) refl)

begins_inserted : (scenario : Scenario) (index : ℕ) (f : Fault) (spec : PartSpec) → slice_get scenario.parts index ≡ Some spec
    → begins (struck scenario index f) ≡ owned (inserted_at index (length spec.faults) f) (begins scenario)
begins_inserted scenario index f spec at =
    begins_struck scenario index f
    ∙ ap (λ (parts : List RunningPart). record (begins scenario) { parts = parts })
    (owning_same (struck_at index f) (inserted_at index (length spec.faults) f) 0 (begins scenario).parts each)
  where
    own_is : (seat : RunningPart) → slice_get (begins scenario).parts index ≡ Some seat → seat.run.state.spec.faults ≡ spec.faults
    own_is seat h =
        let one : opening_part spec ≡ seat = same_inside (sym (begins_at scenario index spec at) ∙ h) in
        ap (λ (x : RunningPart). x.run.state.spec.faults) (sym one) ∙ opening_faults spec

    here_too : (seat : RunningPart) → seat.run.state.spec.faults ≡ spec.faults
        → struck_at index f index seat.run.state.spec.faults ≡ inserted_at index (length spec.faults) f index seat.run.state.spec.faults
    here_too seat e =
        struck_here index f seat.run.state.spec.faults
        ∙ sym (inserted_here index (length spec.faults) f seat.run.state.spec.faults
        ∙ ap (λ (own : List Fault). inserted (length own) f seat.run.state.spec.faults) (sym e)
        ∙ inserted_last f seat.run.state.spec.faults)

    by_position : (i j : ℕ) (seat : RunningPart) → j ≡ 0 + i → slice_get (begins scenario).parts i ≡ Some seat → (j ≡ index) ⊎ (j ≡ index → ⊥)
        → struck_at index f j seat.run.state.spec.faults ≡ inserted_at index (length spec.faults) f j seat.run.state.spec.faults
    by_position i j seat e h (inr apart) =
        struck_other index f j seat.run.state.spec.faults apart ∙ sym (inserted_other index (length spec.faults) f j seat.run.state.spec.faults apart)
    by_position i j seat e h (inl same) =
        let i_is : i ≡ index = omega arith in
        subst (λ (n : ℕ). struck_at index f n seat.run.state.spec.faults ≡ inserted_at index (length spec.faults) f n seat.run.state.spec.faults)
        (sym same) (here_too seat (own_is seat (ap (slice_get (begins scenario).parts) (sym i_is) ∙ h)))

    each : (i j : ℕ) (seat : RunningPart) → j ≡ 0 + i → slice_get (begins scenario).parts i ≡ Some seat
        → struck_at index f j seat.run.state.spec.faults ≡ inserted_at index (length spec.faults) f j seat.run.state.spec.faults
    each i j seat e h = by_position i j seat e h (cases_eq j index)

pub guarded_same : (scenario : Scenario) (index : ℕ) (f : Fault) (steps : ℕ) (spec : PartSpec) (seat : RunningPart)
    → slice_get scenario.parts index ≡ Some spec → slice_get (guarded_runs steps (begins scenario)).parts index ≡ Some seat
    → IsUnreachedGuarded f spec seat.run.journal
    → guarded_runs steps (begins (struck scenario index f)) ≡ owned (inserted_at index (length spec.faults) f) (guarded_runs steps (begins scenario))
guarded_same scenario index f steps spec seat at end past =
    ap (guarded_runs steps) (begins_inserted scenario index f spec at)
    ∙ struck_runs f index spec steps (begins scenario) (opening_part spec) seat (begins_at scenario index spec at) (opening_follows spec) end past

pub guarded_schedule_same : (scenario : Scenario) (index : ℕ) (f : Fault) (s : Simulation) (spec : PartSpec) (seat : RunningPart)
    → IsGuardedSchedule scenario s → slice_get scenario.parts index ≡ Some spec → slice_get s.parts index ≡ Some seat
    → IsUnreachedGuarded f spec seat.run.journal
    → IsGuardedSchedule (struck scenario index f) (owned (inserted_at index (length spec.faults) f) s)
guarded_schedule_same scenario index f s spec seat run at end past = record {
  steps = run.steps;
  reached = guarded_same scenario index f run.steps spec seat at (ap (λ (x : Simulation). slice_get x.parts index) run.reached ∙ end) past
      ∙ ap (owned (inserted_at index (length spec.faults) f)) run.reached;
  ended = choices_same (inserted_at index (length spec.faults) f) s ∙ run.ended;
}
