-- Each simulation that is reached keeps a section for each part.
use Rattle.std.proofs.Common.{◌≡◌, ℕ, zero, suc, ◌+◌, ◌==◌, true, false, Option, Some, None, List, [], ◌∷◌, ◌<◌, filter, map, slice_get, slice_set, refl, sym, ap, ◌∙◌, subst, arith, eq-eqb, ne_eqb}
use Rattle.std.specs.List.{AllByRecursion}
use Rattle.std.specs.Option.{option_map}
use Rattle.std.proofs.lemmas.Option.{slice_get-map}
use Rattle.nook_data.specs.declared.steps.Event.{Event}
use Rattle.nook_data.specs.declared.calls.Op.{Op}
use Rattle.nook_data.specs.declared.scenario.PartSpec.{PartSpec}
use Rattle.nook_data.specs.declared.scenario.Scenario.{Scenario}
use Rattle.nook_data.specs.declared.steps.Step.{Step}
use Rattle.nook_data.specs.declared.steps.Step.TheVariants as step
use Rattle.nook_data.specs.declared.scenario.ThreadSpec.{ThreadSpec}
use Rattle.part_defs.specs.Runs.{event_of}
use Rattle.run_defs.specs.Schedules.{Order, picked}
use Rattle.run_defs.specs.Simulation.{Choice, RunningPart, Simulation, ThreadState, actor_of, begins, choices_of}
use Rattle.run_defs.specs.Simulation.{opening_part, opening_thread, runs, part_after, stepped_by, taken, threads_after}
use Rattle.run_defs.proofs.RunChanges.{taken_by}
use Rattle.part_defs.specs.Steps.{enabled}
use Rattle.part_laws.proofs.RunsDetermined.{step_named}
use Rattle.run_laws.proofs.Choices.{IsGood, IsOwn, choices_good}
use Rattle.nook_data.proofs.Options.{none_is_some, same_inside}
use Rattle.run_laws.specs.Audit.{Section, invocation_by, is_on, opening_section, section_after, thread_on}
use Rattle.run_laws.specs.Fitting.{IsNext, section_from}
use Rattle.audited_runs.proofs.Frames.{IsFrameNext, IsFramed, choices_framed}
use Rattle.audited_runs.proofs.Shares.{AllMay, AreCounted, all_may, all_other, all_own, counted_after, counted_opening, filter_same, share_of}
use Rattle.audited_runs.proofs.SoFar.{FitsSoFar, so_far_more}

-- ---- a part's section

-- the section of a part, from its running part and its share of the threads
abbrev pub section_of : ℕ → PartSpec → RunningPart → List ThreadState → Section
section_of index spec seat threads = record { index = index; spec = spec; seat = seat; threads = map (share_of index) threads }

-- the part's journal fits so far, and leads to the part's section
pub record IsSectionOf (specs : List ThreadSpec) (index : ℕ) (spec : PartSpec) (seat : RunningPart) (threads : List ThreadState) : Type 0 where
  pub fits : FitsSoFar (opening_section specs index spec) seat.run.journal
  pub is : section_from (opening_section specs index spec) seat.run.journal ≡ section_of index spec seat threads

-- ---- one step

invoked_by : (thread part : ℕ) (o : Op) (more : List (ℕ × Op)) (t : ThreadState) → t.rest ≡ (part, o) ∷ more
    → invocation_by thread (Some t) ≡ Some (step.Invoke thread o)
invoked_by thread part o more t h = rw h refl

-- a step that a part takes is the next of its kind
step_next : (index : ℕ) (spec : PartSpec) (seat : RunningPart) (threads : List ThreadState) (x : Step) → IsOwn threads index x → IsFrameNext (Some seat) x
    → IsNext (section_of index spec seat threads) x
step_next index spec seat threads (step.Invoke thread o) own frame =
    ap (invocation_by thread) (slice_get-map (share_of index) threads thread ∙ ap (option_map (share_of index)) own.at)
    ∙ invoked_by thread index o (filter (is_on index) own.more) (share_of index own.t)
    (ap (filter (is_on index)) own.next ∙ filter_same (is_on index) (index, o) own.more (eq-eqb index index refl))
step_next index spec seat threads (step.Enter thread) own frame = tt
step_next index spec seat threads (step.Burst context) own frame = tt
step_next index spec seat threads step.Stage own frame = tt
step_next index spec seat threads (step.Arrive coming) own frame = frame

module _ (specs : List ThreadSpec) where
  own_step : (index : ℕ) (spec : PartSpec) (seat : RunningPart) (threads : List ThreadState) (x : Step) → enabled seat.run.state x ≡ true
      → IsOwn threads index x → IsFrameNext (Some seat) x → AllMay 0 index (event_of seat.run.state x) threads → IsSectionOf specs index spec seat threads
      → IsSectionOf specs index spec (part_after x seat) (threads_after 0 index (event_of seat.run.state x) threads)
  unfolding section_after
  own_step index spec seat threads x may own frame start is =
      let more = so_far_more (opening_section specs index spec) seat.run.journal (section_of index spec seat threads) x is.is is.fits may (step_next index spec seat threads x own frame) in
      record {
        fits = more.0;
        is = more.1 ∙ ap {B = Section} (λ ts. record { index = index; spec = spec; seat = part_after x seat; threads = ts })
            (all_own 0 index (event_of seat.run.state x) threads start);
      }

  other_step : (part index : ℕ) (spec : PartSpec) (seat : RunningPart) (threads : List ThreadState) (e : Event) → (part == index) ≡ false → AllMay 0 part e threads
      → IsSectionOf specs index spec seat threads → IsSectionOf specs index spec seat (threads_after 0 part e threads)
  other_step part index spec seat threads e other start is = record {
    fits = is.fits;
    is = is.is ∙ ap {B = Section} (λ ts. record { index = index; spec = spec; seat = seat; threads = ts }) (sym (all_other 0 part index e threads other start));
  }

  -- ---- all parts

  -- a section for each part, from part `index` on
  abbrev pub AreSections : ℕ → List PartSpec → List RunningPart → List ThreadState → Type 0
  AreSections index [] [] threads = Unit {0}
  AreSections index [] (seat ∷ seats) threads = ⊥
  AreSections index (spec ∷ parts) [] threads = ⊥
  AreSections index (spec ∷ parts) (seat ∷ seats) threads = IsSectionOf specs index spec seat threads × AreSections (suc index) parts seats threads

  module _ (part : ℕ) (threads : List ThreadState) (e : Event) (start : AllMay 0 part e threads) where
    others_kept : (index : ℕ) (parts : List PartSpec) (seats : List RunningPart) → part < index → AreSections index parts seats threads
        → AreSections index parts seats (threads_after 0 part e threads)
    others_kept index [] [] l are = tt
    others_kept index [] (seat ∷ seats) l are = absurd are
    others_kept index (spec ∷ parts) [] l are = absurd are
    others_kept index (spec ∷ parts) (seat ∷ seats) l are = (
      other_step part index spec seat threads e (ne_eqb part index (λ same. omega arith)) start are.0,
      others_kept (suc index) parts seats (omega arith) are.1,
    )

    sections_set : (index : ℕ) (parts : List PartSpec) (seats : List RunningPart) (k : ℕ) (seat new : RunningPart) → part ≡ index + k → slice_get seats k ≡ Some seat
        → ((spec : PartSpec) → IsSectionOf specs part spec seat threads → IsSectionOf specs part spec new (threads_after 0 part e threads))
        → AreSections index parts seats threads → AreSections index parts (slice_set seats k new) (threads_after 0 part e threads)
    sections_set index [] [] k seat new is at own are = none_is_some at
    sections_set index [] (x ∷ seats) k seat new is at own are = absurd are
    sections_set index (spec ∷ parts) [] k seat new is at own are = absurd are
    sections_set index (spec ∷ parts) (x ∷ seats) zero seat new is at own are =
        let same : part ≡ index = omega arith in (
          subst (λ (n : ℕ). IsSectionOf specs n spec new (threads_after 0 part e threads)) same
              (own spec (subst (λ (n : ℕ). IsSectionOf specs n spec seat threads) (sym same) (subst (λ y. IsSectionOf specs index spec y threads) (same_inside at) are.0))),
          others_kept (suc index) parts seats (omega arith) are.1,
        )
    sections_set index (spec ∷ parts) (x ∷ seats) (suc k) seat new is at own are = (
      other_step part index spec x threads e (ne_eqb part index (λ same. omega arith)) start are.0,
      sections_set (suc index) parts seats k seat new (omega arith) at own are.1,
    )

-- ---- each simulation that is reached

-- a simulation has a section for each part, and each thread has its script's operations
pub record IsReached (scenario : Scenario) (s : Simulation) : Type 0 where
  pub sections : AreSections scenario.threads 0 scenario.parts s.parts s.threads
  pub counted : AreCounted scenario.threads s.threads

step_kept : (scenario : Scenario) (s : Simulation) (order : Order) (c : Choice) (seat : RunningPart) → slice_get s.parts c.part ≡ Some seat
    → enabled seat.run.state c.step ≡ true → IsOwn s.threads c.part c.step → IsFrameNext (Some seat) c.step → IsReached scenario s
    → IsReached scenario (stepped_by s order c (Some seat))
step_kept scenario s order c seat at may own frame are =
    let e : Event = event_of seat.run.state c.step in
    let start : AllMay 0 c.part e s.threads =
    all_may 0 c.part e s.threads s.threads (λ k. ap (slice_get s.threads) (plus k)) (subst (IsOwn s.threads c.part) (sym (step_named seat.run.state c.step)) own) in
    record {
      sections = sections_set scenario.threads c.part s.threads e start 0 scenario.parts s.parts c.part seat (part_after c.step seat) (plus c.part) at
          (λ spec is. own_step scenario.threads c.part spec seat s.threads c.step may own frame start is) are.sections;
      counted = counted_after 0 c.part e scenario.threads s.threads start are.counted;
    }
  where
    plus : (k : ℕ) → k ≡ 0 + k
    plus k = omega arith

at_position : {X : Type 0} (P : X → Type 0) (xs : List X) (i : ℕ) (x : X) → AllByRecursion P xs → slice_get xs i ≡ Some x → P x
at_position P [] i x all h = none_is_some h
at_position P (y ∷ xs) zero x all h = subst P (same_inside h) all.0
at_position P (y ∷ xs) (suc i) x all h = at_position P xs i x all.1 h

taken_kept : (scenario : Scenario) (s : Simulation) (choices : List Choice) → AllByRecursion (IsGood s.parts s.threads) choices
    → AllByRecursion (IsFramed s.parts) choices → IsReached scenario s → IsReached scenario (taken s choices)
unfolding taken
taken_kept scenario s choices good framed h = by_choice (slice_get choices (picked s.order (map actor_of choices)).index) refl
  where
    by_choice : (o : Option Choice) → slice_get choices (picked s.order (map actor_of choices)).index ≡ o
        → IsReached scenario (taken_by s (picked s.order (map actor_of choices)).order o)
    by_choice None e = record { sections = h.sections; counted = h.counted }
    by_choice (Some c) e =
        let index : ℕ = (picked s.order (map actor_of choices)).index in
        let g : IsGood s.parts s.threads c = at_position (IsGood s.parts s.threads) choices index c good e in
        let f : IsFramed s.parts c = at_position (IsFramed s.parts) choices index c framed e in
        subst (λ q. IsReached scenario (stepped_by s (picked s.order (map actor_of choices)).order c q)) (sym g.at)
        (step_kept scenario s (picked s.order (map actor_of choices)).order c g.seat g.at g.may g.own (subst (λ q. IsFrameNext q c.step) g.at f) h)

runs_kept : (scenario : Scenario) (n : ℕ) (s : Simulation) → IsReached scenario s → IsReached scenario (runs n s)
unfolding runs
runs_kept scenario zero s h = h
runs_kept scenario (suc n) s h = by_choices (choices_of s) (choices_good s) (choices_framed s) (λ x k. runs_kept scenario n x k)
  where
    by_choices : (choices : List Choice) → AllByRecursion (IsGood s.parts s.threads) choices → AllByRecursion (IsFramed s.parts) choices
        → ((x : Simulation) → IsReached scenario x → IsReached scenario (runs n x))
        → IsReached scenario (elim choices [ [] ↦ s | (c ∷ choices) ↦ runs n (taken s (c ∷ choices)) ])
    by_choices [] good framed more = h
    by_choices (c ∷ choices) good framed more = more (taken s (c ∷ choices)) (taken_kept scenario s (c ∷ choices) good framed h)

shares_opening : (index : ℕ) (threads : List ThreadSpec) → map (thread_on index) threads ≡ map (share_of index) (map opening_thread threads)
shares_opening index [] = refl
shares_opening index (t ∷ threads) = ap {B = List ThreadState} (λ ts. thread_on index t ∷ ts) (shares_opening index threads)

sections_opening : (index : ℕ) (threads : List ThreadSpec) (parts : List PartSpec) → AreSections threads index parts (map opening_part parts) (map opening_thread threads)
sections_opening index threads [] = tt
sections_opening index threads (spec ∷ parts) = (
  record {
    fits = tt;
    is = ap {B = Section} (λ ts. record { index = index; spec = spec; seat = opening_part spec; threads = ts }) (shares_opening index threads);
  },
  sections_opening (suc index) threads parts,
)

-- each simulation that a scenario's run reaches
pub run_reached : (scenario : Scenario) (n : ℕ) → IsReached scenario (runs n (begins scenario))
unfolding begins
run_reached scenario n =
    runs_kept scenario n (begins scenario)
    (record { sections = sections_opening 0 scenario.threads scenario.parts; counted = counted_opening scenario.threads })
