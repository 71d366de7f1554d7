-- The present of a simulation is enough: it determines the choices, the present of what follows, and the outcome.
use Rattle.std.proofs.Common.{◌≡◌, ℕ, zero, suc, ◌+◌, Option, Some, None, List, [], ◌∷◌, ◌++◌, filter, flat_map}
use Rattle.std.proofs.Common.{fold, length, map, option_map, slice_get, slice_set, refl, sym, ap, ◌∙◌}
use Rattle.std.proofs.lemmas.Grind.{flat_map-append}
use Rattle.std.proofs.lemmas.List.Elements.{filter-append}
use Rattle.std.proofs.lemmas.List.Sums.{fold-append}
use Rattle.contract_monitor.proofs.Numbers.{counts_more, counts_reported}
use Rattle.contract_monitor.specs.Keeping.{LossCounts}
use Rattle.contract_monitor.specs.Monitors.{counts_of}
use Rattle.explore_defs.specs.Orders.{follows}
use Rattle.explore_defs.specs.Outcomes.{broken_by, clause_of, given_by, objects_of, outcome_of}
use Rattle.explore_defs.specs.Outcomes.{part_outcome, shown_losses}
use Rattle.explore_laws.proofs.Judged.{IsJudgedOn, judged_on}
use Rattle.explore_laws.specs.Present.{PartPresent, bare, bare_run, goes_on_by, judged_from, known_next, outcome_in}
use Rattle.explore_laws.specs.Present.{part_outcome_in, part_present, present, present_after, present_by}
use Rattle.guard_defs.specs.Guard.{known_at_first}
use Rattle.guard_defs.specs.GuardedRuns.{known_of, spec_of}
use Rattle.machine_defs.specs.Devices.{medium_of}
use Rattle.nook_data.specs.Types.{Act, Class, Event, Losses, Op, PartSpec, Step}
use Rattle.nook_data.specs.declared.classes.Class.TheVariants as class
use Rattle.part_defs.specs.Runs.{event_of, next_recovery, state_after}
use Rattle.part_defs.specs.State.{PartState}
use Rattle.part_laws.proofs.DeviceStays.{spec_after}
use Rattle.part_laws.proofs.Indices.{map_join, map_set}
use Rattle.promise_defs.specs.Contract.{Known, first_break, known_after}
use Rattle.promise_defs.specs.Losses.{CallEffects, is_played, is_sent, losses, call_effects_after}
use Rattle.report_defs.specs.ReportText.{journal_acts}
use Rattle.run_defs.proofs.ChoicesInOrder.{choices_in_order, part_choices, thread_choices, with_choice, with_thread}
use Rattle.run_defs.specs.Simulation.{Choice, RunningPart, Simulation, ThreadState, Waiting, arrival, choices_of}
use Rattle.run_defs.specs.Simulation.{coming_after, going_on, invocation, part_after, stepped_by, threads_after}

-- ---- the choices

abbrev bare_parts : List RunningPart → List RunningPart
bare_parts seats = map bare (map part_present seats)

bare_invocation : (thread : ℕ) (o : Op) (seats : List RunningPart) (k : ℕ)
    → invocation thread o (slice_get (bare_parts seats) k) ≡ invocation thread o (slice_get seats k)
bare_invocation thread o [] k = refl
bare_invocation thread o (seat ∷ seats) zero = refl
bare_invocation thread o (seat ∷ seats) (suc k) = bare_invocation thread o seats k

bare_going_on : (thread : ℕ) (seats : List RunningPart) (k : ℕ)
    → going_on thread (slice_get (bare_parts seats) k) ≡ going_on thread (slice_get seats k)
bare_going_on thread [] k = refl
bare_going_on thread (seat ∷ seats) zero = refl
bare_going_on thread (seat ∷ seats) (suc k) = bare_going_on thread seats k

bare_thread : (n : ℕ) (seats : List RunningPart) (t : ThreadState) (w : Option Waiting) (rest : List (ℕ × Op)) (choices : List Choice)
    → with_thread n (bare_parts seats) (record t { rest = rest }) w choices ≡ with_thread n seats (record t { rest = rest }) w choices
bare_thread n seats t (Some w) rest choices = ap (λ o. with_choice n w.part o choices) (bare_going_on n seats w.part)
bare_thread n seats t None [] choices = refl
bare_thread n seats t None ((part, o) ∷ rest) choices = ap (λ x. with_choice n part x choices) (bare_invocation n o seats part)

bare_threads : (n : ℕ) (seats : List RunningPart) (threads : List ThreadState) (choices : List Choice)
    → thread_choices n (bare_parts seats) threads choices ≡ thread_choices n seats threads choices
bare_threads n seats [] choices = refl
bare_threads n seats (t ∷ threads) choices =
    bare_thread n seats t t.waiting t.rest (thread_choices (n + 1) (bare_parts seats) threads choices)
    ∙ ap (with_thread n seats t t.waiting) (bare_threads (n + 1) seats threads choices)

bare_choices : (actor part : ℕ) (seats : List RunningPart) → part_choices actor part (bare_parts seats) ≡ part_choices actor part seats
bare_choices actor part [] = refl
bare_choices actor part (seat ∷ seats) =
    ap (λ choices. with_choice actor part (next_recovery seat.run.state)
    (with_choice (actor + 1) part (arrival seat.run seat.coming) choices)) (bare_choices (actor + 2) (part + 1) seats)

pub choices_bare : (s : Simulation) → choices_of (bare_run (present s)) ≡ choices_of s
unfolding present
choices_bare s =
    choices_in_order (bare_run (present s))
    ∙ bare_threads 0 s.parts s.threads (part_choices (length s.threads) 0 (bare_parts s.parts))
    ∙ ap (thread_choices 0 s.parts s.threads) (bare_choices (length s.threads) 0 s.parts)
    ∙ sym (choices_in_order s)

pub same_choices : (s t : Simulation) → present s ≡ present t → choices_of s ≡ choices_of t
same_choices s t h = sym (choices_bare s) ∙ ap (λ now. choices_of (bare_run now)) h ∙ choices_bare t

-- ---- a part after its step

given_more : (class : Class) (events : List Event) (e : Event)
    → given_by class (journal_acts (events ++ e ∷ [])) ≡ given_by class (journal_acts events) ++ given_by class (journal_acts (e ∷ []))
given_more class.Block events e = refl
given_more class.Net events e =
    ap (filter is_sent) (flat_map-append _ events (e ∷ [])) ∙ filter-append is_sent (journal_acts events) (journal_acts (e ∷ []))
given_more class.Sound events e =
    ap (filter is_played) (flat_map-append _ events (e ∷ [])) ∙ filter-append is_played (journal_acts events) (journal_acts (e ∷ []))

-- the present of a part, from its spec, its state, the frames still to arrive and its journal
abbrev seen_as : PartState → List (List ℕ) → List Event → PartSpec → PartPresent
seen_as state coming events spec = record {
  state = state;
  coming = coming;
  known = judged_from (clause_of (first_break spec.class spec.blocks events)) (fold known_after (known_at_first spec) events);
  broken = clause_of (first_break spec.class spec.blocks events);
  call_effects = fold call_effects_after [] events;
  counts = counts_of events;
  given = given_by spec.class (journal_acts events);
}

pub same_present : (state : PartState) (coming : List (List ℕ)) (known known' : Option Known) (broken broken' : Option ℕ)
    (call_effects call_effects' : List CallEffects) (counts counts' : LossCounts) (given given' : List Act) → known ≡ known' → broken ≡ broken'
    → call_effects ≡ call_effects' → counts ≡ counts' → given ≡ given'
    → ◌≡◌ {A = PartPresent} (record { state = state; coming = coming; known = known; broken = broken; call_effects = call_effects; counts = counts; given = given })
    (record { state = state; coming = coming; known = known'; broken = broken'; call_effects = call_effects'; counts = counts'; given = given' })
same_present state coming known known' broken broken' call_effects call_effects' counts counts' given given' k b o c g = cc

part_more : (seat : RunningPart) (s : Step) → part_present (part_after s seat) ≡ present_after s (part_present seat)
part_more seat s =
    let e : Event = event_of seat.run.state s in
    let events : List Event = seat.run.journal in
    let spec : PartSpec = spec_of seat in
    let j : IsJudgedOn (clause_of (first_break spec.class spec.blocks events)) (clause_of (first_break spec.class spec.blocks (events ++ e ∷ [])))
    (fold known_after (known_at_first spec) events) (fold known_after (known_at_first spec) (events ++ e ∷ [])) e =
    judged_on spec.class spec.blocks events e in
    ap (seen_as (state_after seat.run.state s) (coming_after s seat.coming) (events ++ e ∷ [])) (spec_after seat.run.state s)
    ∙ same_present (state_after seat.run.state s) (coming_after s seat.coming) _ _ _ _ _ _ _ _ _ _
    (j.from ∙ ap (λ o. known_next o (judged_from (broken_by seat) (known_of seat)) e) j.broken) j.broken
    (fold-append call_effects_after [] events (e ∷ [])) (sym (counts_more events e)) (given_more spec.class events e)

-- ---- the simulation after a choice

get_seen : (seats : List RunningPart) (k : ℕ) → slice_get (map part_present seats) k ≡ option_map part_present (slice_get seats k)
get_seen [] k = refl
get_seen (seat ∷ seats) zero = refl
get_seen (seat ∷ seats) (suc k) = get_seen seats k

present_stepped : (s : Simulation) (c : Choice) (q : Option RunningPart)
    → present (stepped_by s s.order c q) ≡ present_by (present s) c (option_map part_present q)
unfolding present
present_stepped s c None = refl
present_stepped s c (Some seat) =
    ap (λ parts. record { parts = parts; threads = threads_after 0 c.part (event_of seat.run.state c.step) s.threads })
    (map_set part_present s.parts c.part (part_after c.step seat)
    ∙ ap (slice_set (map part_present s.parts) c.part) (part_more seat c.step))

pub present_follows : (s : Simulation) (c : Choice) → present (follows s c) ≡ goes_on_by (present s) c
unfolding present
present_follows s c =
    present_stepped s c (slice_get s.parts c.part) ∙ ap (present_by (present s) c) (sym (get_seen s.parts c.part))

pub same_follows : (s t : Simulation) (c : Choice) → present s ≡ present t → present (follows s c) ≡ present (follows t c)
same_follows s t c h = present_follows s c ∙ ap (λ now. goes_on_by now c) h ∙ sym (present_follows t c)

-- ---- the outcome

outcome_seen : (seat : RunningPart) → part_outcome_in (part_present seat) ≡ part_outcome seat
outcome_seen seat = ap (λ (n : Losses). record {
  objects = objects_of seat.run.state.domain.memory;
  medium = medium_of seat.run.state.domain.device;
  given = given_by (spec_of seat).class (journal_acts seat.run.journal);
  config = seat.run.state.log.config;
  losses = shown_losses (spec_of seat).class n;
  failures = seat.run.state.failures;
  broken = broken_by seat;
}) (counts_reported seat.run.journal)

pub outcome_present : (s : Simulation) → outcome_of s ≡ outcome_in (present s)
unfolding outcome_of present
outcome_present s =
    ap (λ parts. record { answers = map (λ (t : ThreadState). t.answers) s.threads; parts = parts })
    (sym (map_join part_outcome_in part_present part_outcome outcome_seen s.parts))

pub same_outcome : (s t : Simulation) → present s ≡ present t → outcome_of s ≡ outcome_of t
same_outcome s t h = outcome_present s ∙ ap outcome_in h ∙ sym (outcome_present t)
