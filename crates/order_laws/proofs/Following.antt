-- If the events of journals that fit can be taken in an order, a simulation takes them in that order.
use Rattle.std.proofs.Common.{◌≡◌, ◌⊎◌, inl, inr, ℕ, zero, suc, ◌+◌, ◌<◌, ◌==◌, ◌&&◌, is_none, true, false, Option, Some, None, List, [], ◌∷◌, ◌++◌, length, map, slice_get, slice_index_or, slice_set, refl, sym, ap, ap₂, ◌∙◌, subst, arith, append_assoc, append-nil, ne_eqb, true≢false}
use Rattle.std.proofs.lemmas.Bool.{and_parts}
use Rattle.std.proofs.lemmas.List.{get_or-set_same}
use Rattle.std.proofs.lemmas.List.Elements.{recursion_from_All}
use Rattle.std.specs.List.{AllByRecursion}
use Rattle.std.specs.Option.{option_or}
use Rattle.nook_data.specs.Answers.{answer_at}
use Rattle.nook_data.specs.Valid.{IsValidPart, IsValidScenario}
use Rattle.nook_data.specs.declared.scenario.PartSpec.{PartSpec}
use Rattle.nook_data.specs.declared.scenario.Scenario.{Scenario}
use Rattle.nook_data.specs.declared.scenario.ThreadSpec.{ThreadSpec}
use Rattle.nook_data.specs.declared.steps.Event.{Event}
use Rattle.nook_data.specs.declared.steps.Event.TheVariants as event
use Rattle.nook_data.specs.declared.steps.Step.{Step}
use Rattle.nook_data.specs.declared.steps.Step.TheVariants as step
use Rattle.nook_data.proofs.Options.{none_is_some, same_inside}
use Rattle.part_defs.specs.Log.{opening_log}
use Rattle.part_defs.specs.Runs.{event_of, next_any, next_of_calls, next_recovery, step_of}
use Rattle.part_defs.specs.Steps.{enabled, opening}
use Rattle.part_laws.proofs.Indices.{from_map, get_set, length_map}
use Rattle.part_laws.proofs.RunBound.{opening_tied}
use Rattle.part_laws.proofs.StepsFit.{fit_after, opening_fit}
use Rattle.part_laws.proofs.TiedBursts.{tied_after}
use Rattle.part_laws.proofs.ValidFits.{valid_fits}
use Rattle.part_laws.specs.Fit.{IsFit}
use Rattle.part_laws.specs.Tied.{IsTied}
use Rattle.run_defs.specs.Schedules.{Order, listed}
use Rattle.run_defs.specs.Simulation.{Choice, RunningPart, Simulation, ThreadState, Waiting, arrival, choices_of, journal_of, journals_of, opening_part, opening_thread, part_after}
use Rattle.run_defs.specs.Simulation.{runs, stepped_by, threads_after}
use Rattle.run_defs.proofs.ChoicesInOrder.{choices_in_order, part_choices, thread_choices, with_choice, with_invocation, with_thread}
use Rattle.run_laws.proofs.Numbers.{number, started_number, step_says, pending_number}
use Rattle.run_laws.proofs.Threads.{AreThreadsOf, threads_step}
use Rattle.run_laws.specs.Audit.{Section, are_through, arrival_of, has_nothing, is_complete, opening_section, section_after}
use Rattle.run_laws.specs.Fitting.{AllFit, FitsFrom, IsNext}
use Rattle.order_defs.specs.OneClock.{journal_on}
use Rattle.order_defs.specs.Taking.{IsAllTaken, IsThrough, IsTimely, Leads, MayTake, Taking, after_taking, opening_taking}
use Rattle.order_laws.proofs.Able.{IsAble, able}
use Rattle.order_laws.proofs.Chosen.{Finds, runs_listed}
use Rattle.order_laws.proofs.Ordered.{left_is, none_before}
use Rattle.order_laws.proofs.Own.{own_step}

-- a part's section, for any threads
abbrev section_at : ℕ → PartSpec → RunningPart → List ThreadState → Section
section_at index spec seat threads = record { index = index; spec = spec; seat = seat; threads = threads }

-- ---- one step of a part

-- the rest of a part's journal fits the part
record IsMid (journal : List Event) (index : ℕ) (seat : RunningPart) (left : List Event) : Type 0 where
  spec : PartSpec
  threads : List ThreadState
  fits : FitsFrom (section_at index spec seat threads) left
  fit : IsFit seat.run.state
  tied : IsTied seat.run.state
  journal_is : seat.run.journal ++ left ≡ journal

-- the first event left may be taken, and is the one that its step makes
record IsMade (seat : RunningPart) (e : Event) : Type 0 where
  may : enabled seat.run.state (step_of e) ≡ true
  makes : event_of seat.run.state (step_of e) ≡ e
  coming : (frame : List ℕ) → step_of e ≡ step.Arrive frame → arrival_of seat.coming ≡ Some (step.Arrive frame)

mid_made : (journal : List Event) (index : ℕ) (seat : RunningPart) (e : Event) (rest : List Event) → IsMid journal index seat (e ∷ rest) → IsMade seat e
unfolding FitsFrom
mid_made journal index seat e rest h = record {
  may = h.fits.0;
  makes = h.fits.1;
  coming = λ frame is. subst (IsNext (section_at index h.spec seat h.threads)) is h.fits.2;
}

mid_after : (journal : List Event) (index : ℕ) (seat : RunningPart) (e : Event) (rest : List Event) → IsMid journal index seat (e ∷ rest)
    → IsMid journal index (part_after (step_of e) seat) rest
unfolding FitsFrom section_after
mid_after journal index seat e rest h = record {
  spec = h.spec;
  threads = threads_after 0 index (event_of seat.run.state (step_of e)) h.threads;
  fits = h.fits.3;
  fit = fit_after seat.run.state (step_of e) h.fit h.fits.0;
  tied = tied_after seat.run.state (step_of e) h.fit h.tied h.fits.0;
  journal_is = append_assoc seat.run.journal (event_of seat.run.state (step_of e) ∷ []) rest
      ∙ ap {B = List Event} (λ x. seat.run.journal ++ x ∷ rest) h.fits.1 ∙ h.journal_is;
}

none_so : {X : Type 0} (o : Option X) → is_none o ≡ true → o ≡ None
none_so None h = refl
none_so (Some x) h = absurd (true≢false (sym h))

nothing_so : {X : Type 0} (xs : List X) → has_nothing xs ≡ true → xs ≡ []
nothing_so [] h = refl
nothing_so (x ∷ xs) h = absurd (true≢false (sym h))

-- a part with no event left has no step
mid_ended : (journal : List Event) (index : ℕ) (seat : RunningPart) → IsMid journal index seat []
    → (next_recovery seat.run.state ≡ None) × (arrival seat.run seat.coming ≡ None)
unfolding FitsFrom is_complete next_any
mid_ended journal index seat h =
    let both = and_parts (are_through h.threads) (has_nothing seat.coming && is_none (next_any seat.run.state)) h.fits in
    let parts = and_parts (has_nothing seat.coming) (is_none (next_any seat.run.state)) both.1 in (
      first_none (next_recovery seat.run.state) (next_of_calls seat.run.state seat.run.state.log.pending) (none_so (next_any seat.run.state) parts.1),
      ap (arrival seat.run) (nothing_so seat.coming parts.0),
    )
  where
    first_none : (a b : Option Step) → option_or a b ≡ None → a ≡ None
    first_none None b h = refl
    first_none (Some x) b h = cc

-- ---- a simulation and the events left

some_at : {X : Type 0} (xs : List X) (k : ℕ) → k < length xs → (x : X) × (slice_get xs k ≡ Some x)
some_at [] k l = absurd (omega arith)
some_at (x ∷ xs) zero l = (x, refl)
some_at (x ∷ xs) (suc k) l = some_at xs k (omega arith)

set_length : {X : Type 0} (xs : List X) (k : ℕ) (x : X) → length (slice_set xs k x) ≡ length xs
set_length [] k x = refl
set_length (y ∷ xs) zero x = refl
set_length (y ∷ xs) (suc k) x = ap suc (set_length xs k x)

set_there : {X : Type 0} (xs : List X) (k j : ℕ) (x d : X) → (k ≡ j → ⊥) → slice_index_or (slice_set xs j x) k d ≡ slice_index_or xs k d
set_there [] k j x d apart = refl
set_there (y ∷ xs) zero zero x d apart = absurd (apart refl)
set_there (y ∷ xs) (suc k) zero x d apart = refl
set_there (y ∷ xs) zero (suc j) x d apart = refl
set_there (y ∷ xs) (suc k) (suc j) x d apart = set_there xs k j x d (λ e. apart (ap suc e))

module _ (journals : List (List Event)) (specs : List ThreadSpec) where
  -- the simulation is in the state to which the events taken lead
  record Keeps (s : Simulation) (u : Taking) : Type 0 where
    same : s.threads ≡ u.threads
    size : length s.parts ≡ length u.left
    count : length s.parts ≡ length journals
    mid : (k : ℕ) (seat : RunningPart) → slice_get s.parts k ≡ Some seat → IsMid (journal_on journals k) k seat (slice_index_or u.left k [])
    threads : AreThreadsOf s.parts 0 specs s.threads
    outside : (k i : ℕ) (seat : RunningPart) → slice_get s.parts k ≡ Some seat → slice_get s.threads i ≡ None → number i seat.run.state.log.pending ≡ None

  -- a thread that does not exist invokes nothing
  none_started : (i k : ℕ) (e : Event) (threads : List ThreadState) → IsTimely threads k e → slice_get threads i ≡ None → started_number i e None ≡ None
  none_started i k (event.Invoke call thread o a) threads h none =
      let apart : (thread == i) ≡ false = ne_eqb thread i (λ e. some_none (sym (ap (slice_get threads) (sym e) ∙ h.at) ∙ none)) in
      rw apart refl
    where
      some_none : {x : ThreadState} → Some x ≡ None → ⊥
      some_none h = cc
  none_started i k (event.Enter call thread attempt a) threads h none = refl
  none_started i k (event.Burst context call burst count end acts a failure) threads h none = refl
  none_started i k (event.Stage stage answers released) threads h none = refl
  none_started i k (event.Arrive frame kept) threads h none = refl

  module _ (s : Simulation) (u : Taking) (h : Keeps s u) (k : ℕ) (may : MayTake u k) where
    there : (seat : RunningPart) × (slice_get s.parts k ≡ Some seat)
    there = some_at s.parts k (subst (λ (n : ℕ). k < n) (sym h.size) (left_is u.left k (may.event ∷ may.rest) may.at).1)

    mid_here : IsMid (journal_on journals k) k there.0 (may.event ∷ may.rest)
    mid_here = subst (IsMid (journal_on journals k) k there.0) (left_is u.left k (may.event ∷ may.rest) may.at).0 (h.mid k there.0 there.1)

    made : IsMade there.0 may.event
    made = mid_made (journal_on journals k) k there.0 may.event may.rest mid_here

    timely : IsTimely s.threads k may.event
    timely = subst (λ threads. IsTimely threads k may.event) (sym h.same) may.timely

    can : IsAble s k (step_of may.event)
    can = able specs s h.threads k there.0 there.1 (λ i none. h.outside k i there.0 there.1 none) may.event timely made.may made.coming

    keeps_after : (order : Order) → Keeps (stepped_by s order (record { actor = can.actor; part = k; step = step_of may.event }) (Some there.0)) (after_taking u k may.event may.rest)
    keeps_after order =
        let seat : RunningPart = there.0 in
        let x : Step = step_of may.event in
        let is = left_is u.left k (may.event ∷ may.rest) may.at in
        record {
          same = ap (λ (e : Event). threads_after 0 k e s.threads) made.makes ∙ ap (threads_after 0 k may.event) h.same;
          size = set_length s.parts k (part_after x seat) ∙ h.size ∙ sym (set_length u.left k may.rest);
          count = set_length s.parts k (part_after x seat) ∙ h.count;
          mid = λ j y at. by_position (get_set s.parts j k (part_after x seat) y at)
              (λ here. mid_set j y here.0 here.1 is.1)
              (λ apart. subst (IsMid (journal_on journals j) j y) (sym (set_there u.left j k may.rest [] apart.0)) (h.mid j y apart.1));
          threads = threads_step s.parts 0 specs s.threads s.threads k seat x there.1 mid_here.tied made.may (own_step s.threads k may.event timely)
              (λ i. ap (slice_get s.threads) (plus i)) h.threads;
          outside = λ j i y at none.
              let free : slice_get s.threads i ≡ None = none_before 0 k (event_of seat.run.state x) s.threads i none in
              by_position (get_set s.parts j k (part_after x seat) y at)
              (λ here. ap (λ (z : RunningPart). number i z.run.state.log.pending) here.1
              ∙ step_says seat.run.state x i mid_here.tied made.may
              ∙ ap (λ w. pending_number (λ call. answer_at call (event_of seat.run.state x)) (started_number i (event_of seat.run.state x) w)) (h.outside k i seat there.1 free)
              ∙ ap (pending_number (λ call. answer_at call (event_of seat.run.state x)))
              (ap (λ (e : Event). started_number i e None) made.makes ∙ none_started i k may.event s.threads timely free))
              (λ apart. h.outside j i y apart.1 free);
        }
      where
        by_position : {A B G : Type 0} → A ⊎ B → (A → G) → (B → G) → G
        by_position (inl a) f g = f a
        by_position (inr b) f g = g b

        plus : (n : ℕ) → n ≡ 0 + n
        plus n = omega arith

        mid_set : (j : ℕ) (y : RunningPart) → j ≡ k → y ≡ part_after (step_of may.event) there.0 → k < length u.left
            → IsMid (journal_on journals j) j y (slice_index_or (slice_set u.left k may.rest) j [])
        mid_set j y same y_is low =
            subst (λ (m : ℕ). IsMid (journal_on journals m) m y (slice_index_or (slice_set u.left k may.rest) m [])) (sym same)
            (subst (λ (z : RunningPart). IsMid (journal_on journals k) k z (slice_index_or (slice_set u.left k may.rest) k [])) (sym y_is)
            (subst (IsMid (journal_on journals k) k (part_after (step_of may.event) there.0)) (sym (get_or-set_same u.left k may.rest [] low))
            (mid_after (journal_on journals k) k there.0 may.event may.rest mid_here)))

  -- ---- the end

  thread_ended : (actor : ℕ) (parts : List RunningPart) (t : ThreadState) (choices : List Choice) → IsThrough t → with_thread actor parts t t.waiting choices ≡ choices
  thread_ended actor parts t choices h =
      ap (λ (w : Option Waiting). with_thread actor parts t w choices) h.1 ∙ ap (λ r. with_invocation actor parts r choices) h.0

  threads_ended : (n : ℕ) (parts : List RunningPart) (threads : List ThreadState) (choices : List Choice) → AllByRecursion IsThrough threads
      → thread_choices n parts threads choices ≡ choices
  threads_ended n parts [] choices h = refl
  threads_ended n parts (t ∷ threads) choices h =
      thread_ended n parts t (thread_choices (n + 1) parts threads choices) h.0 ∙ threads_ended (n + 1) parts threads choices h.1

  parts_ended : (first part : ℕ) (seats : List RunningPart)
      → ((k : ℕ) (seat : RunningPart) → slice_get seats k ≡ Some seat → (next_recovery seat.run.state ≡ None) × (arrival seat.run seat.coming ≡ None))
      → part_choices first part seats ≡ []
  parts_ended first part [] h = refl
  parts_ended first part (seat ∷ seats) h =
      ap (λ o. with_choice first part o (with_choice (first + 1) part (arrival seat.run seat.coming) (part_choices (first + 2) (part + 1) seats))) (h 0 seat refl).0
      ∙ ap (λ o. with_choice (first + 1) part o (part_choices (first + 2) (part + 1) seats)) (h 0 seat refl).1
      ∙ parts_ended (first + 2) (part + 1) seats (λ k x at. h (suc k) x at)

  journals_are : (seats : List RunningPart) (js : List (List Event)) → length seats ≡ length js
      → ((k : ℕ) (seat : RunningPart) → slice_get seats k ≡ Some seat → seat.run.journal ≡ slice_index_or js k []) → map journal_of seats ≡ js
  journals_are [] [] size h = refl
  journals_are [] (j ∷ js) size h = absurd (omega arith)
  journals_are (seat ∷ seats) [] size h = absurd (omega arith)
  journals_are (seat ∷ seats) (j ∷ js) size h =
      ap₂ (λ (x : List Event) xs. x ∷ xs) (h 0 seat refl) (journals_are seats js (less size) (λ k x at. h (suc k) x at))
    where
      less : {a b : ℕ} → suc a ≡ suc b → a ≡ b
      less e = omega arith

  -- the simulation at the end of an order
  pub record IsEnded (s : Simulation) (u : Taking) : Type 0 where
    pub ended : choices_of s ≡ []
    pub journals_same : journals_of s ≡ journals
    pub threads_same : s.threads ≡ u.threads

  keeps_ended : (s : Simulation) (u : Taking) → Keeps s u → IsAllTaken u → IsEnded s u
  keeps_ended s u h all =
      let nothing : (k : ℕ) (seat : RunningPart) → slice_get s.parts k ≡ Some seat → IsMid (journal_on journals k) k seat [] =
      λ k seat at. subst (IsMid (journal_on journals k) k seat) (all.none_left k) (h.mid k seat at) in
      record {
        ended = choices_in_order s
            ∙ threads_ended 0 s.parts s.threads (part_choices (length s.threads) 0 s.parts) (subst (AllByRecursion IsThrough) (sym h.same) all.through)
            ∙ parts_ended (length s.threads) 0 s.parts (λ k seat at. mid_ended (journal_on journals k) k seat (nothing k seat at));
        journals_same = journals_are s.parts journals h.count (λ k seat at. sym (append-nil seat.run.journal) ∙ (nothing k seat at).journal_is);
        threads_same = h.same;
      }

  -- ---- all steps

  abbrev with_order : Simulation → Order → Simulation
  with_order s order = record { order = order; parts = s.parts; threads = s.threads }

  -- picks with which the simulation ends in this state
  pub record IsListed (s : Simulation) (u : Taking) : Type 0 where
    pub picks : List ℕ
    pub steps : ℕ
    pub end : Simulation
    pub runs_to : runs steps (with_order s (listed picks)) ≡ end
    pub is : IsEnded end u

  same_choices : (s : Simulation) (order : Order) → choices_of (with_order s order) ≡ choices_of s
  unfolding choices_of
  same_choices s order = refl

  no_steps : (s : Simulation) → runs 0 s ≡ s
  unfolding runs
  no_steps s = refl

  lists : (order : List ℕ) (s : Simulation) (u end : Taking) → Leads u order end → IsAllTaken end → Keeps s u → IsListed s end
  lists [] s u end leads all h =
      let k : Keeps (with_order s (listed [])) u =
      record { same = h.same; size = h.size; count = h.count; mid = h.mid; threads = h.threads; outside = h.outside } in
      record {
        picks = [];
        steps = 0;
        end = with_order s (listed []);
        runs_to = no_steps (with_order s (listed []));
        is = keeps_ended (with_order s (listed [])) end (subst (Keeps (with_order s (listed []))) leads k) all;
      }
  lists (part ∷ order) s u end leads all h =
      let may : MayTake u part = leads.0 in
      let a : IsAble s part (step_of may.event) = can s u h part may in
      let c : Choice = record { actor = a.actor; part = part; step = step_of may.event } in
      let seat = there s u h part may in
      let next : Simulation = stepped_by s s.order c (Some seat.0) in
      let more : IsListed next end = lists order next (after_taking u part may.event may.rest) end leads.1 all (keeps_after s u h part may s.order) in
      let from : Simulation = with_order s (listed (a.actor ∷ more.picks)) in
      record {
        picks = a.actor ∷ more.picks;
        steps = suc more.steps;
        end = more.end;
        runs_to = runs_listed more.steps from a.actor more.picks c refl (subst (Finds a.actor c) (sym (same_choices s (listed (a.actor ∷ more.picks)))) a.finds)
            ∙ ap (λ q. runs more.steps (stepped_by from (listed more.picks) c q)) seat.1
            ∙ more.runs_to;
        is = more.is;
      }

-- ---- the beginning

fits_at : (threads : List ThreadSpec) (first : ℕ) (parts : List PartSpec) (journals : List (List Event)) (k : ℕ) (spec : PartSpec) → AllFit threads first parts journals
    → slice_get parts k ≡ Some spec → FitsFrom (opening_section threads (first + k) spec) (slice_index_or journals k [])
unfolding AllFit
fits_at threads first [] journals k spec h at = none_is_some at
fits_at threads first (x ∷ parts) [] k spec h at = absurd h
fits_at threads first (x ∷ parts) (j ∷ journals) zero spec h at =
    subst (λ (n : ℕ). FitsFrom (opening_section threads n spec) j) (plus first) (subst (λ (y : PartSpec). FitsFrom (opening_section threads first y) j) (same_inside at) h.0)
  where
    plus : (n : ℕ) → n ≡ n + 0
    plus n = omega arith
fits_at threads first (x ∷ parts) (j ∷ journals) (suc k) spec h at =
    subst (λ (n : ℕ). FitsFrom (opening_section threads n spec) (slice_index_or journals k [])) (next first k) (fits_at threads (suc first) parts journals k spec h.1 at)
  where
    next : (n k : ℕ) → suc n + k ≡ n + suc k
    next n k = omega arith

same_count : (threads : List ThreadSpec) (index : ℕ) (parts : List PartSpec) (journals : List (List Event)) → AllFit threads index parts journals → length parts ≡ length journals
unfolding AllFit
same_count threads index [] [] h = refl
same_count threads index [] (journal ∷ journals) h = absurd h
same_count threads index (spec ∷ parts) [] h = absurd h
same_count threads index (spec ∷ parts) (journal ∷ journals) h = ap suc (same_count threads (suc index) parts journals h.1)

valid_at : (parts : List PartSpec) (k : ℕ) (spec : PartSpec) → AllByRecursion IsValidPart parts → slice_get parts k ≡ Some spec → IsValidPart spec
valid_at [] k spec v at = none_is_some at
valid_at (x ∷ parts) zero spec v at = subst IsValidPart (same_inside at) v.0
valid_at (x ∷ parts) (suc k) spec v at = valid_at parts k spec v.1 at

opening_threads : (specs : List PartSpec) (n : ℕ) (threads : List ThreadSpec)
    → ((k : ℕ) (seat : RunningPart) → slice_get (map opening_part specs) k ≡ Some seat → seat.run.state.log.pending ≡ [])
    → AreThreadsOf (map opening_part specs) n threads (map opening_thread threads)
opening_threads specs n [] none = tt
opening_threads specs n (t ∷ threads) none =
    (record { order = refl; waits = λ k seat h. ap (number n) (none k seat h) }, opening_threads specs (n + 1) threads none)

keeps_first : (scenario : Scenario) (order : Order) (journals : List (List Event)) → IsValidScenario scenario → AllFit scenario.threads 0 scenario.parts journals
    → Keeps journals scenario.threads (record { order = order; parts = map opening_part scenario.parts; threads = map opening_thread scenario.threads })
    (opening_taking scenario.threads journals)
unfolding opening opening_log
keeps_first scenario order journals v fits =
    let valid : AllByRecursion IsValidPart scenario.parts = recursion_from_All IsValidPart scenario.parts v.parts in
    let none : (k : ℕ) (seat : RunningPart) → slice_get (map opening_part scenario.parts) k ≡ Some seat → seat.run.state.log.pending ≡ [] =
    λ k seat h. ap (λ (x : RunningPart). x.run.state.log.pending) (from_map opening_part scenario.parts k seat h).2 in
    let count : length (map opening_part scenario.parts) ≡ length journals =
    length_map opening_part scenario.parts ∙ same_count scenario.threads 0 scenario.parts journals fits in
    record {
      same = refl;
      size = count;
      count = count;
      mid = λ k seat h.
          let from = from_map opening_part scenario.parts k seat h in
          subst (λ (x : RunningPart). IsMid (journal_on journals k) k x (slice_index_or journals k [])) (sym from.2) (record {
            spec = from.0;
            threads = (opening_section scenario.threads k from.0).threads;
            fits = subst (λ (n : ℕ). FitsFrom (opening_section scenario.threads n from.0) (slice_index_or journals k [])) (first k)
                (fits_at scenario.threads 0 scenario.parts journals k from.0 fits from.1);
            fit = opening_fit from.0 (valid_fits from.0 (valid_at scenario.parts k from.0 valid from.1));
            tied = opening_tied from.0;
            journal_is = refl;
          });
      threads = opening_threads scenario.parts 0 scenario.threads none;
      outside = λ k i seat h free. ap (number i) (none k seat h);
    }
  where
    first : (k : ℕ) → 0 + k ≡ k
    first k = omega arith

-- journals that fit, and can be taken in an order, are those of a simulation with the right picks
pub order_listed : (scenario : Scenario) (journals : List (List Event)) (order : List ℕ) (end : Taking) → IsValidScenario scenario
    → AllFit scenario.threads 0 scenario.parts journals → Leads (opening_taking scenario.threads journals) order end → IsAllTaken end
    → (first : Order) → IsListed journals scenario.threads
    (record { order = first; parts = map opening_part scenario.parts; threads = map opening_thread scenario.threads }) end
order_listed scenario journals order end v fits leads all first =
    lists journals scenario.threads order (record { order = first; parts = map opening_part scenario.parts; threads = map opening_thread scenario.threads })
    (opening_taking scenario.threads journals) end leads all (keeps_first scenario first journals v fits)
