-- Where one more fault strikes in the struck part's run.
use Rattle.std.proofs.Common.{◌≡◌, ◌∙◌, refl, sym, subst, ap, ℕ, zero, suc, ◌<◌, Bool, true, false, List, [], ◌∷◌, ◌++◌, map, length, drop, Option, Some, None, arith}
use Rattle.std.specs.Prelude.{Result, Ok, Err, IfOk, slice_get}
use Rattle.std.proofs.lemmas.List.{drop_all, length-map}
use Rattle.campaign_defs.specs.Rows.{plan_row}
use Rattle.campaign_defs.specs.Types.{Row}
use Rattle.campaign_laws.proofs.RunsUnder.{run_under_once}
use Rattle.campaign_rows.specs.Shown.{IsShown, Shows}
use Rattle.campaign_rows.specs.declared.shown.Shown.{Shown}
use Rattle.guarded_run.specs.declared.guarded.Guarded.{Guarded}
use Rattle.campaign_defs.specs.Members.{IsBaseRun, IsFreeRun, IsGuardedRunOf, Ran, alone, every_of, every_under, members, members_of}
use Rattle.fault_campaign.specs.Bases.{ArePointsOf, IsBaseOf}
use Rattle.fault_campaign.specs.Outcomes.{IsOutcomeOf, scenario_run, trap_count}
use Rattle.fault_campaign.specs.declared.outcome.Outcome.{Outcome}
use Rattle.fault_points.specs.Points.{faults_at}
use Rattle.fault_points.specs.declared.points.BurstPoints.{BurstPoints}
use Rattle.front_laws.proofs.GuardedParts.{guarded_part}
use Rattle.front_laws.proofs.GuardedRuns.{AreOf, begins_of}
use Rattle.front_laws.specs.GuardedParts.{IsGuardedPart}
use Rattle.guard_defs.specs.Every.{every_fault, every_fault_guarded}
use Rattle.guard_defs.specs.Guard.{IsGuardedRun, traps_of}
use Rattle.guard_defs.specs.GuardedRuns.{guarded_runs, guarded_scenario, spec_of}
use Rattle.nook_data.proofs.Options.{none_is_some, same_inside}
use Rattle.nook_data.specs.Members.{own_faults}
use Rattle.nook_data.specs.declared.memory.NoMemory.{NoMemory}
use Rattle.nook_data.specs.declared.scenario.Fault.{Fault}
use Rattle.nook_data.specs.declared.scenario.FaultKind.{FaultKind}
use Rattle.nook_data.specs.declared.scenario.PartSpec.{PartSpec}
use Rattle.nook_data.specs.declared.scenario.Scenario.{Scenario}
use Rattle.nook_data.specs.declared.steps.Event.{Event}
use Rattle.part_defs.specs.Runs.{IsRun}
use Rattle.part_laws.proofs.Indices.{get_map}
use Rattle.plan_defs.specs.Plans.{IsValidPlan}
use Rattle.plan_defs.specs.declared.plan.Plan.{Plan}
use Rattle.plan_defs.specs.declared.plan.Strikes.{Strikes}
use Rattle.plan_defs.specs.declared.plan.Strikes.TheVariants as strikes
use Rattle.run_defs.specs.Simulation.{RunningPart, Simulation, begins, journal_of, journals_of}
use Rattle.run_results.specs.Journals.{AreRuns, events_in}

-- ---- lists

drop_own : (xs ys : List Fault) → drop (length xs) (xs ++ ys) ≡ ys
drop_own [] ys = refl
drop_own (x ∷ xs) ys = drop_own xs ys

run_at : (specs : List PartSpec) (journals : List (List Event)) (i : ℕ) (spec : PartSpec) (journal : List Event) → AreRuns specs journals
    → slice_get specs i ≡ Some spec → slice_get journals i ≡ Some journal → IsRun spec journal
run_at [] journals i spec journal are hs hj = none_is_some hs
run_at (s ∷ specs) [] i spec journal are hs hj = none_is_some hj
run_at (s ∷ specs) (j ∷ journals) zero spec journal are hs hj =
    subst (λ x. IsRun x journal) (same_inside hs) (subst (IsRun s) (same_inside hj) are.0)
run_at (s ∷ specs) (j ∷ journals) (suc i) spec journal are hs hj = run_at specs journals i spec journal are.1 hs hj

as_many_runs : (specs : List PartSpec) (journals : List (List Event)) → AreRuns specs journals → length journals ≡ length specs
as_many_runs [] [] are = refl
as_many_runs [] (j ∷ journals) are = absurd are
as_many_runs (s ∷ specs) [] are = absurd are
as_many_runs (s ∷ specs) (j ∷ journals) are = ap suc (as_many_runs specs journals are.1)

-- the part with the journal at an index
record IsSeatAt (parts : List RunningPart) (i : ℕ) (journal : List Event) : Type 0 where
  seat : RunningPart
  at : slice_get parts i ≡ Some seat
  journal_is : journal_of seat ≡ journal

seat_at : (parts : List RunningPart) (i : ℕ) (journal : List Event) → slice_get (map journal_of parts) i ≡ Some journal
    → IsSeatAt parts i journal
seat_at [] i journal h = none_is_some h
seat_at (seat ∷ parts) zero journal h = record { seat = seat; at = refl; journal_is = same_inside h }
seat_at (seat ∷ parts) (suc i) journal h =
    let s = seat_at parts i journal h in record { seat = s.seat; at = s.at; journal_is = s.journal_is }

-- ---- the positions

-- what holds of the positions in a journal
abbrev pub ForFree : PartSpec → List Event → List Fault → Result (List BurstPoints) NoMemory → Type 0
ForFree spec journal traps r = IsRun spec journal → traps ≡ [] → (kinds : List FaultKind)
    → IfOk r (λ points. faults_at kinds points ≡ every_fault kinds spec journal)

abbrev pub ForGuarded : PartSpec → List Event → List Fault → Result (List BurstPoints) NoMemory → Type 0
ForGuarded spec journal traps r = IsGuardedRun spec journal → traps ≡ traps_of spec journal → (kinds : List FaultKind)
    → IfOk r (λ points. faults_at kinds points ≡ every_fault_guarded kinds spec journal)

-- the same for a part's run in a simulation
every_at : (guard : Bool) (kinds : List FaultKind) (parts : List PartSpec) (seats : List RunningPart) (i : ℕ) (spec : PartSpec) (seat : RunningPart)
    (journal : List Event) → slice_get parts i ≡ Some spec → slice_get seats i ≡ Some seat → journal_of seat ≡ journal
    → every_under guard kinds spec journal ≡ every_of guard kinds (slice_get parts i) (slice_get seats i)
every_at guard kinds parts seats i spec seat journal hs ht e = rw (hs, ht, ← e) refl

module _ (plan : Plan) (outcome : Outcome) (spec : PartSpec) (journal : List Event) (traps : List Fault) (points : List BurstPoints)
    (there : slice_get plan.base.parts plan.part ≡ Some spec)
    (at : slice_get (map events_in outcome.report.run.journals) plan.part ≡ Some journal)
    (traps_are : traps ≡ drop (length spec.faults) (own_faults (slice_get (scenario_run outcome.guarded plan.base).parts plan.part)))
    (free : IsRun spec journal → traps ≡ [] → (kinds : List FaultKind) → faults_at kinds points ≡ every_fault kinds spec journal)
    (guarded : IsGuardedRun spec journal → traps ≡ traps_of spec journal → (kinds : List FaultKind)
    → faults_at kinds points ≡ every_fault_guarded kinds spec journal) where
  free_points : (o : IsOutcomeOf false plan.base outcome) (kinds : List FaultKind)
      → faults_at kinds points ≡ every_of false kinds (slice_get plan.base.parts plan.part) (slice_get o.ran.simulation.parts plan.part)
  free_points o kinds =
      let same : scenario_run outcome.guarded plan.base ≡ plan.base = sym o.shows.scenario_is ∙ o.is_run.same in
      let s = seat_at o.ran.simulation.parts plan.part journal
      (ap (λ (js : List (List Event)). slice_get js plan.part) (sym o.shows.journals) ∙ at) in
      let run : IsRun spec journal = run_at plan.base.parts (map events_in outcome.report.run.journals) plan.part spec journal
      (subst (λ (x : Scenario). AreRuns x.parts (map events_in outcome.report.run.journals)) same o.shows.runs) there at in
      let none : traps ≡ [] = traps_are
      ∙ ap (λ (x : Scenario). drop (length spec.faults) (own_faults (slice_get x.parts plan.part))) same
      ∙ ap (λ (x : Option PartSpec). drop (length spec.faults) (own_faults x)) there
      ∙ drop_all (length spec.faults) spec.faults (omega arith) in
      free run none kinds
      ∙ every_at false kinds plan.base.parts o.ran.simulation.parts plan.part spec s.seat journal there s.at s.journal_is

  guarded_points : (o : IsOutcomeOf true plan.base outcome) (kinds : List FaultKind)
      → faults_at kinds points ≡ every_of true kinds (slice_get plan.base.parts plan.part) (slice_get o.ran.simulation.parts plan.part)
  guarded_points o kinds =
      let run_is : IsGuardedRunOf plan.base o.ran = o.is_run in
      let s = seat_at o.ran.simulation.parts plan.part journal
      (ap (λ (js : List (List Event)). slice_get js plan.part) (sym o.shows.journals) ∙ at) in
      let end : slice_get (guarded_runs run_is.guarded.steps (begins plan.base)).parts plan.part ≡ Some s.seat =
      ap (λ (t : Simulation). slice_get t.parts plan.part) run_is.guarded.reached ∙ s.at in
      let part : IsGuardedPart spec s.seat = guarded_part plan.base plan.part run_is.guarded.steps spec s.seat there end in
      let ran_part : slice_get (scenario_run outcome.guarded plan.base).parts plan.part ≡ Some (spec_of s.seat) =
      ap (λ (x : Scenario). slice_get x.parts plan.part) (sym o.shows.scenario_is ∙ run_is.same)
      ∙ get_map spec_of o.ran.simulation.parts plan.part s.seat s.at in
      let trapped : traps ≡ traps_of spec (journal_of s.seat) = traps_are
      ∙ ap (λ (x : Option PartSpec). drop (length spec.faults) (own_faults x)) ran_part
      ∙ ap (λ (x : PartSpec). drop (length spec.faults) x.faults) part.faults
      ∙ drop_own spec.faults (traps_of spec (journal_of s.seat)) in
      guarded (subst (IsGuardedRun spec) s.journal_is part.run) (trapped ∙ ap (traps_of spec) s.journal_is) kinds
      ∙ every_at true kinds plan.base.parts o.ran.simulation.parts plan.part spec s.seat journal there s.at s.journal_is

  positions_by : (guard : Bool) → plan.guard ≡ guard → IsOutcomeOf guard plan.base outcome → ArePointsOf plan points
  positions_by false e o = record {
    ran = o.ran;
    is_base = rw e o.is_run;
    numbers_are = λ kinds. rw e (free_points o kinds);
  }
  positions_by true e o = record {
    ran = o.ran;
    is_base = rw e o.is_run;
    numbers_are = λ kinds. rw e (guarded_points o kinds);
  }

pub positions_found : (r : Result (List BurstPoints) NoMemory) (plan : Plan) (outcome : Outcome) (spec : PartSpec) (journal : List Event) (traps : List Fault)
    → IsOutcomeOf plan.guard plan.base outcome → slice_get plan.base.parts plan.part ≡ Some spec
    → slice_get (map events_in outcome.report.run.journals) plan.part ≡ Some journal
    → traps ≡ drop (length spec.faults) (own_faults (slice_get (scenario_run outcome.guarded plan.base).parts plan.part))
    → ForFree spec journal traps r → ForGuarded spec journal traps r → IfOk r (ArePointsOf plan)
positions_found (Err e) plan outcome spec journal traps o there at are free guarded = tt
positions_found (Ok points) plan outcome spec journal traps o there at are free guarded =
    positions_by plan outcome spec journal traps points there at are free guarded plan.guard refl o

pub traps_by : (traps faults : List Fault) (n : ℕ) (spec : PartSpec) (parts : List PartSpec) (run : Scenario) (index : ℕ)
    (found : Option Guarded) (given : Scenario) → traps ≡ drop n faults → n ≡ length spec.faults → faults ≡ own_faults (slice_get parts index)
    → parts ≡ run.parts → run ≡ scenario_run found given
    → traps ≡ drop (length spec.faults) (own_faults (slice_get (scenario_run found given).parts index))
traps_by traps faults n spec parts run index found given a b c d e =
    a ∙ ap (λ k. drop k faults) b ∙ ap (drop (length spec.faults)) c
    ∙ ap (λ (ps : List PartSpec). drop (length spec.faults) (own_faults (slice_get ps index))) d
    ∙ ap (λ (s : Scenario). drop (length spec.faults) (own_faults (slice_get s.parts index))) e

-- the run of the base, with its answers and final states
pub base_is : (plan : Plan) (o : Outcome) (scenario : Scenario) (shown : Shown) (row : Row) (points : List BurstPoints) (traps : ℕ)
    → IsOutcomeOf plan.guard plan.base o → scenario ≡ scenario_run o.guarded plan.base → traps ≡ trap_count o.guarded
    → ((ran : Ran) → Shows ran scenario o.report → IsShown ran shown)
    → ((own ran : Ran) → IsShown own shown → Shows ran scenario o.report → traps ≡ ran.traps → row ≡ plan_row plan own ran)
    → ArePointsOf plan points → IsBaseOf plan (record { shown = shown; row = row; points = points })
base_is plan o scenario shown row points traps is same many is_shown is_row are =
    let shows : Shows is.ran scenario o.report = subst (λ (s : Scenario). Shows is.ran s o.report) (sym same) is.shows in
    let is_seen : IsShown is.ran shown = is_shown is.ran shows in
    let one : are.ran ≡ is.ran = run_under_once plan.guard plan.base are.ran is.ran are.is_base is.is_run in
    record {
      ran = is.ran;
      is_base = is.is_run;
      shown = is_seen;
      row = is_row is.ran is.ran is_seen shows (many ∙ is.traps);
      points = λ kinds. are.numbers_are kinds
          ∙ ap (λ (ran : Ran). every_of plan.guard kinds (slice_get plan.base.parts plan.part) (slice_get ran.simulation.parts plan.part)) one;
    }

-- every fault at the positions is a member
pub every_members : (plan : Plan) (points : List BurstPoints) (kinds : List FaultKind) (own : Ran) → ArePointsOf plan points
    → IsBaseRun plan own → plan.strikes ≡ strikes.Every kinds → map alone (faults_at kinds points) ≡ members plan own
every_members plan points kinds own are is e =
    let one : are.ran ≡ own = run_under_once plan.guard plan.base are.ran own are.is_base is in
    ap (map alone) (are.numbers_are kinds
    ∙ ap (λ (ran : Ran). every_of plan.guard kinds (slice_get plan.base.parts plan.part) (slice_get ran.simulation.parts plan.part)) one)
    ∙ ap (λ (s : Strikes). members_of plan s own) (sym e)

-- ---- the struck part has a journal

counted : (parts : List RunningPart) (specs : List PartSpec) → AreOf parts specs → length (map spec_of parts) ≡ length specs
unfolding AreOf
counted [] [] a = refl
counted [] (spec ∷ specs) a = absurd a
counted (seat ∷ parts) [] a = absurd a
counted (seat ∷ parts) (spec ∷ specs) a = ap suc (counted parts specs a.1)

parts_as_many : (guard : Bool) (base : Scenario) (outcome : Outcome) → IsOutcomeOf guard base outcome
    → length (scenario_run outcome.guarded base).parts ≡ length base.parts
parts_as_many false base outcome o =
    ap (λ (x : Scenario). length x.parts) (sym o.shows.scenario_is ∙ o.is_run.same)
parts_as_many true base outcome o =
    ap (λ (x : Scenario). length x.parts) (sym o.shows.scenario_is ∙ o.is_run.same)
    ∙ ap (λ (t : Simulation). length (map spec_of t.parts)) (sym o.is_run.guarded.reached)
    ∙ counted (guarded_runs o.is_run.guarded.steps (begins base)).parts base.parts (begins_of base o.is_run.guarded.steps)

pub journal_there : (plan : Plan) (outcome : Outcome) → IsValidPlan plan → IsOutcomeOf plan.guard plan.base outcome
    → plan.part < length outcome.report.run.journals
journal_there plan outcome valid o =
    let many = as_many_runs (scenario_run outcome.guarded plan.base).parts (map events_in outcome.report.run.journals) o.shows.runs in
    let parts = parts_as_many plan.guard plan.base outcome o in
    let low = valid.part in
    let same : length (map events_in outcome.report.run.journals) ≡ length outcome.report.run.journals =
    length-map outcome.report.run.journals events_in in
    omega (arith, many, parts, low, same)
