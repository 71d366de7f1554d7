-- At the end of a scheduled run each whole journal fits.
use Rattle.std.proofs.Common.{◌≡◌, ℕ, suc, ◌+◌, ◌<◌, ◌≤◌, cond, true, Option, Some, None, List, [], ◌∷◌, ◌++◌, length, length-append, map, slice_get, refl, sym, ap, ◌∙◌, subst, arith, append_assoc, le-leb, lt-ltb}
use Rattle.std.specs.List.{AllByRecursion}
use Rattle.std.proofs.lemmas.List.Elements.{recursion_from_All}
use Rattle.nook_data.specs.declared.classes.Class.{Class}
use Rattle.nook_data.specs.declared.classes.Class.TheVariants as class
use Rattle.nook_data.specs.declared.steps.Event.{Event}
use Rattle.nook_data.specs.declared.steps.Event.TheVariants as event
use Rattle.nook_data.specs.declared.scenario.PartSpec.{PartSpec}
use Rattle.nook_data.specs.declared.scenario.Scenario.{Scenario}
use Rattle.nook_data.specs.declared.steps.Step.{Step}
use Rattle.nook_data.specs.declared.steps.Step.TheVariants as step
use Rattle.nook_data.specs.declared.scenario.ThreadSpec.{ThreadSpec}
use Rattle.part_defs.specs.Runs.{next_any, step_of}
use Rattle.run_defs.specs.Simulation.{IsScheduledRun, RunningPart, Simulation, ThreadState, Waiting, answers_of_thread}
use Rattle.run_defs.specs.Simulation.{arrival, coming_after, journal_of, journals_of, opening_part, part_after}
use Rattle.part_defs.specs.State.{PartState}
use Rattle.part_defs.specs.Steps.{enabled, opening, stepped}
use Rattle.nook_data.specs.Valid.{FitsClass, IsValidPart, IsValidScenario}
use Rattle.nook_data.specs.Views.Limits.{IsValidFrame}
use Rattle.part_laws.proofs.Counts.{step_counted}
use Rattle.part_laws.proofs.RunsDetermined.{step_named}
use Rattle.part_laws.specs.Bound.{is_arrival}
use Rattle.run_laws.proofs.Reached.{all_answered, none_arrives, parts_settled}
use Rattle.nook_data.proofs.Options.{none_is_some}
use Rattle.run_laws.specs.Audit.{Section, are_through, arrival_of, has_nothing, is_complete, opening_section, section_after}
use Rattle.run_laws.specs.Fitting.{AllFit, IsNext, section_from}
use Rattle.audited_runs.proofs.Reached.{AreSections, IsReached, IsSectionOf, run_reached}
use Rattle.audited_runs.proofs.Shares.{AreCounted, share_of, waits_for}
use Rattle.audited_runs.proofs.SoFar.{FitsSoFar, so_far_whole}

-- ---- threads that have nothing left

-- every operation was invoked and answered
abbrev pub IsDone : ThreadState → Type 0
IsDone t = (t.rest ≡ []) × (t.waiting ≡ None)

no_length : {X : Type 0} (xs : List X) → length xs ≡ 0 → xs ≡ []
no_length [] h = refl
no_length (x ∷ xs) h = absurd (omega arith)

no_wait : (w : Option Waiting) → waits_for w ≡ 0 → w ≡ None
no_wait None h = refl
no_wait (Some w) h = absurd (omega arith)

all_done : (specs : List ThreadSpec) (threads : List ThreadState) → AreCounted specs threads
    → map length (map answers_of_thread threads) ≡ map (λ (t : ThreadSpec). length t.ops) specs → AllByRecursion IsDone threads
all_done [] [] are same = tt
all_done [] (t ∷ threads) are same = absurd are
all_done (spec ∷ specs) [] are same = absurd are
all_done (spec ∷ specs) (t ∷ threads) are same =
    let here : length t.answers ≡ length spec.ops = cc in
    let others : map length (map answers_of_thread threads) ≡ map (λ (x : ThreadSpec). length x.ops) specs = cc in
    ((no_length t.rest (nothing _ _ _ _ are.0 here).1, no_wait t.waiting (nothing _ _ _ _ are.0 here).0), all_done specs threads are.1 others)
  where
    nothing : (answers waits rest ops : ℕ) → answers + waits + rest ≡ ops → answers ≡ ops → (waits ≡ 0) × (rest ≡ 0)
    nothing answers waits rest ops a b = (omega arith, omega arith)

shares_through : (index : ℕ) (threads : List ThreadState) → AllByRecursion IsDone threads → are_through (map (share_of index) threads) ≡ true
shares_through index [] done = refl
shares_through index (t ∷ threads) done = rw (done.0.0, done.0.1) (shares_through index threads done.1)

-- ---- frames that have arrived

-- the part's first frames have arrived, and the others are still to come
record IsFed (spec : PartSpec) (seat : RunningPart) : Type 0 where
  frames : List (List ℕ)
  order : spec.arrivals ≡ frames ++ seat.coming
  count : seat.run.state.arrived ≡ length frames
  same : seat.run.state.spec ≡ spec

-- how many frames arrive in a step
abbrev arrives : Step → ℕ
arrives (step.Arrive frame) = 1
arrives s = 0

arrival_counts : (e : Event) → cond (is_arrival e) 1 0 ≡ arrives (step_of e)
arrival_counts (event.Invoke call thread o a) = refl
arrival_counts (event.Enter call thread attempt a) = refl
arrival_counts (event.Burst context call burst count end acts a failure) = refl
arrival_counts (event.Stage stage answers released) = refl
arrival_counts (event.Arrive frame kept) = refl

arrived_after : (p : PartState) (s : Step) → (stepped p s).state.arrived ≡ p.arrived + arrives s
arrived_after p s =
    (step_counted p s).arrivals' ∙ ap (λ (n : ℕ). p.arrived + n) (arrival_counts (stepped p s).event ∙ ap arrives (step_named p s))

others_fed : (spec : PartSpec) (seat : RunningPart) (x : Step) → coming_after x seat.coming ≡ seat.coming → arrives x ≡ 0 → IsFed spec seat → IsFed spec (part_after x seat)
others_fed spec seat x coming none h = record {
  frames = h.frames;
  order = h.order ∙ ap (λ xs. h.frames ++ xs) (sym coming);
  count = arrived_after seat.run.state x ∙ ap (λ (n : ℕ). seat.run.state.arrived + n) none ∙ no_more seat.run.state.arrived ∙ h.count;
  same = (step_counted seat.run.state x).spec ∙ h.same;
}
  where
    no_more : (n : ℕ) → n + 0 ≡ n
    no_more n = omega arith

frame_fed : (spec : PartSpec) (seat : RunningPart) (frame : List ℕ) (coming : List (List ℕ)) → seat.coming ≡ coming → arrival_of coming ≡ Some (step.Arrive frame)
    → IsFed spec seat → IsFed spec (part_after (step.Arrive frame) seat)
frame_fed spec seat frame [] is next h = none_is_some next
frame_fed spec seat frame (first ∷ coming) is next h = record {
  frames = h.frames ++ first ∷ [];
  order = h.order ∙ ap (λ xs. h.frames ++ xs) is ∙ sym (append_assoc h.frames (first ∷ []) coming)
      ∙ ap (λ xs. (h.frames ++ first ∷ []) ++ xs) (sym (ap (coming_after (step.Arrive frame)) is));
  count = arrived_after seat.run.state (step.Arrive frame) ∙ ap (λ (n : ℕ). n + 1) h.count ∙ sym (length-append h.frames (first ∷ []));
  same = (step_counted seat.run.state (step.Arrive frame)).spec ∙ h.same;
}

fed_after : (spec : PartSpec) (s : Section) (x : Step) → IsNext s x → IsFed spec s.seat → IsFed spec (part_after x s.seat)
fed_after spec s (step.Invoke thread o) next h = others_fed spec s.seat (step.Invoke thread o) refl refl h
fed_after spec s (step.Enter thread) next h = others_fed spec s.seat (step.Enter thread) refl refl h
fed_after spec s (step.Burst context) next h = others_fed spec s.seat (step.Burst context) refl refl h
fed_after spec s step.Stage next h = others_fed spec s.seat step.Stage refl refl h
fed_after spec s (step.Arrive frame) next h = frame_fed spec s.seat frame s.seat.coming refl next h

fed_from : (spec : PartSpec) (s : Section) (events : List Event) → FitsSoFar s events → IsFed spec s.seat → IsFed spec (section_from s events).seat
unfolding section_after
fed_from spec s [] fits h = h
fed_from spec s (e ∷ events) fits h = fed_from spec (section_after s (step_of e)) events fits.3 (fed_after spec s (step_of e) fits.2 h)

fed_opening : (spec : PartSpec) → IsFed spec (opening_part spec)
unfolding opening
fed_opening spec = record { frames = []; order = refl; count = refl; same = refl }

not_empty : (frames : List (List ℕ)) (frame : List ℕ) (rest : List (List ℕ)) → [] ≡ frames ++ frame ∷ rest → ⊥
not_empty [] frame rest h = cc
not_empty (f ∷ frames) frame rest h = cc

-- a frame still to come in a valid part may arrive
may_arrive : (c : Class) (spec : PartSpec) (p : PartState) (frames : List (List ℕ)) (frame : List ℕ) (rest : List (List ℕ)) → spec.class ≡ c → FitsClass c spec
    → p.spec ≡ spec → p.arrived ≡ length frames → spec.arrivals ≡ frames ++ frame ∷ rest → enabled p (step.Arrive frame) ≡ true
unfolding enabled
may_arrive class.Block spec p frames frame rest is fits same count order = absurd (not_empty frames frame rest (sym fits.2 ∙ order))
may_arrive class.Sound spec p frames frame rest is fits same count order = absurd (not_empty frames frame rest (sym fits.2 ∙ order))
may_arrive class.Net spec p frames frame rest is fits same count order =
    let class' : p.spec.class ≡ class.Net = ap (λ (x : PartSpec). x.class) same ∙ is in
    let valid : IsValidFrame frame =
    rest_after frames (subst (AllByRecursion IsValidFrame) order (recursion_from_All IsValidFrame spec.arrivals fits.3)) in
    let size : length spec.arrivals ≡ length frames + suc (length rest) = ap length order ∙ length-append frames (frame ∷ rest) in
    let few : p.arrived < 100000 = small (length spec.arrivals) (length frames) (length rest) p.arrived size fits.2 count in
    rw (class', le-leb 1 (length frame) valid.0, le-leb (length frame) 64 valid.1.0, lt-ltb p.arrived 100000 few) refl
  where
    rest_after : (frames : List (List ℕ)) → AllByRecursion IsValidFrame (frames ++ frame ∷ rest) → IsValidFrame frame
    rest_after [] h = h.0
    rest_after (f ∷ frames) h = rest_after frames h.1

    small : (all some more n : ℕ) → all ≡ some + suc more → all ≤ 256 → n ≡ some → n < 100000
    small all some more n e l h = omega arith

none_to_come : (spec : PartSpec) (seat : RunningPart) (coming : List (List ℕ)) → IsValidPart spec → IsFed spec seat → seat.coming ≡ coming
    → arrival seat.run coming ≡ None → has_nothing coming ≡ true
none_to_come spec seat [] valid h e none = refl
none_to_come spec seat (frame ∷ rest) valid h e none =
    let may : enabled seat.run.state (step.Arrive frame) ≡ true =
    may_arrive spec.class spec seat.run.state h.frames frame rest refl valid.fits h.same h.count (h.order ∙ ap (λ xs. h.frames ++ xs) e) in
    none_is_some (sym (rw may at none))

-- ---- each part

part_complete : (specs : List ThreadSpec) (index : ℕ) (spec : PartSpec) (seat : RunningPart) (threads : List ThreadState) → IsValidPart spec
    → IsSectionOf specs index spec seat threads → AllByRecursion IsDone threads → arrival seat.run seat.coming ≡ None → next_any seat.run.state ≡ None
    → is_complete (section_from (opening_section specs index spec) seat.run.journal) ≡ true
unfolding is_complete
part_complete specs index spec seat threads valid is done none settled =
    let fed : IsFed spec seat =
    subst (λ (s : Section). IsFed spec s.seat) is.is (fed_from spec (opening_section specs index spec) seat.run.journal is.fits (fed_opening spec)) in
    let nothing : has_nothing seat.coming ≡ true = none_to_come spec seat seat.coming valid fed refl none in
    ap is_complete is.is ∙ rw (shares_through index threads done, nothing, settled) refl

all_fit : (specs : List ThreadSpec) (index : ℕ) (parts : List PartSpec) (seats : List RunningPart) (threads : List ThreadState)
    → AllByRecursion IsValidPart parts → AreSections specs index parts seats threads → AllByRecursion IsDone threads
    → ((k : ℕ) (seat : RunningPart) → slice_get seats k ≡ Some seat → arrival seat.run seat.coming ≡ None)
    → ((k : ℕ) (seat : RunningPart) → slice_get seats k ≡ Some seat → next_any seat.run.state ≡ None)
    → AllFit specs index parts (map journal_of seats)
unfolding AllFit
all_fit specs index [] [] threads valid are done none settled = tt
all_fit specs index [] (seat ∷ seats) threads valid are done none settled = absurd are
all_fit specs index (spec ∷ parts) [] threads valid are done none settled = absurd are
all_fit specs index (spec ∷ parts) (seat ∷ seats) threads valid are done none settled = (
  so_far_whole (opening_section specs index spec) seat.run.journal are.0.fits
      (part_complete specs index spec seat threads valid.0 are.0 done (none 0 seat refl) (settled 0 seat refl)),
  all_fit specs (suc index) parts seats threads valid.1 are.1 done (λ k x h. none (suc k) x h) (λ k x h. settled (suc k) x h),
)

-- a scheduled run keeps its sections to its end
pub scheduled_reached : (scenario : Scenario) (s : Simulation) → IsScheduledRun scenario s → IsReached scenario s
scheduled_reached scenario s r = subst (IsReached scenario) r.reached (run_reached scenario r.steps)

pub scheduled_fits : (scenario : Scenario) (s : Simulation) → IsValidScenario scenario → IsScheduledRun scenario s
    → AllFit scenario.threads 0 scenario.parts (journals_of s)
scheduled_fits scenario s v r =
    let h : IsReached scenario s = scheduled_reached scenario s r in
    all_fit scenario.threads 0 scenario.parts s.parts s.threads (recursion_from_All IsValidPart scenario.parts v.parts) h.sections
    (all_done scenario.threads s.threads h.counted (all_answered scenario s v r)) (none_arrives s r.ended) (parts_settled scenario s v r)
