-- A guarded run has at most as many traps as its parts have failures.
use Rattle.std.proofs.Common.{◌≡◌, ◌≤◌, ℕ, zero, suc, ◌+◌, Option, Some, None, List, [], ◌∷◌, ◌++◌, map, option_map, length, slice_get, slice_set, refl, ap, ◌∙◌, arith, length-append}
use Rattle.std.proofs.lemmas.List.Elements.{recursion_from_All}
use Rattle.nook_data.proofs.Options.{none_is_some, same_inside}
use Rattle.nook_data.specs.Valid.{IsValidPart, IsValidScenario}
use Rattle.nook_data.specs.declared.clause.Clause.{Clause}
use Rattle.nook_data.specs.declared.scenario.Fault.{Fault}
use Rattle.nook_data.specs.declared.scenario.PartSpec.{PartSpec}
use Rattle.nook_data.specs.declared.scenario.Scenario.{Scenario}
use Rattle.nook_data.specs.declared.steps.Step.{Step}
use Rattle.guard_defs.specs.declared.stop.Stop.{Stop}
use Rattle.guard_defs.specs.FirstBreaks.{AreNeeded}
use Rattle.guard_defs.specs.Guard.{guard, guarded, traps_of}
use Rattle.guard_defs.specs.GuardedRuns.{guarded_moved, guarded_runs, guarded_seat, guarded_taken, known_of, stop_at, stop_by, stop_made, stop_of, stops_found, reported_clause}
use Rattle.part_defs.specs.State.{PartState}
use Rattle.part_laws.proofs.DeviceStays.{opening_spec, spec_after}
use Rattle.part_laws.proofs.ValidFits.{valid_fits}
use Rattle.run_defs.specs.Schedules.{Order}
use Rattle.run_defs.specs.Simulation.{Choice, RunningPart, Simulation, begins, choices_of, opening_part, part_after, stepped_by}
use Rattle.front_laws.specs.Guarded.{IsGuardedWell}
use Rattle.front_laws.specs.GuardedParts.{IsGuardedPart}
use Rattle.front_laws.specs.Stops.{most_traps}
use Rattle.front_laws.proofs.FirstStops.{stops_still}
use Rattle.front_laws.proofs.GuardRun.{IsTrapOf, guarded_well, trap_is}
use Rattle.front_laws.proofs.GuardedParts.{guarded_part}
use Rattle.front_laws.proofs.GuardedRuns.{AreOf, begins_of, guarded_by, guarded_on}
use Rattle.front_laws.proofs.Owned.{order_of, pick_of}
use Rattle.front_laws.proofs.StopChain.{chained}
use Rattle.front_laws.proofs.ValidGuarded.{all_at}

-- ---- each trap that is found adds a fault

abbrev fault_count : List RunningPart → ℕ
fault_count [] = 0
fault_count (seat ∷ parts) = length seat.run.state.spec.faults + fault_count parts

set_counts : (parts : List RunningPart) (i : ℕ) (seat new : RunningPart) (d : ℕ) → slice_get parts i ≡ Some seat
    → length seat.run.state.spec.faults + d ≤ length new.run.state.spec.faults → fault_count parts + d ≤ fault_count (slice_set parts i new)
set_counts [] i seat new d at more = none_is_some at
set_counts (x ∷ parts) zero seat new d at more =
    let same : length x.run.state.spec.faults ≡ length seat.run.state.spec.faults =
    ap (λ (y : RunningPart). length y.run.state.spec.faults) (same_inside at) in
    omega arith
set_counts (x ∷ parts) (suc i) seat new d at more =
    let rest : fault_count parts + d ≤ fault_count (slice_set parts i new) = set_counts parts i seat new d at more in
    omega arith

stop_counts : (part : ℕ) (f : Fault) (o : Option Clause) → length (stop_of part (Some f) o) ≤ 1
stop_counts part f None = omega arith
stop_counts part f (Some clause) = omega arith

trap_counts : (part : ℕ) (p q : PartState) (s : Step) (o : Option Fault) (reported : Option Clause) (n : ℕ) → IsTrapOf p s o q
    → n ≡ length q.spec.faults → length p.spec.faults + length (stop_of part o reported) ≤ n
trap_counts part p q s None reported n h e =
    let same : length q.spec.faults ≡ length p.spec.faults = ap (λ (r : PartState). length r.spec.faults) h in
    omega arith
trap_counts part p q s (Some f) reported n h e =
    let more : length q.spec.faults ≡ length p.spec.faults + 1 =
    ap (λ (r : PartState). length r.spec.faults) h.2 ∙ length-append p.spec.faults (f ∷ []) in
    let few : length (stop_of part (Some f) reported) ≤ 1 = stop_counts part f reported in
    omega arith

seat_counts : (c : Choice) (seat : RunningPart)
    → length seat.run.state.spec.faults + length (stop_at c (Some seat)) ≤ length (part_after c.step (guarded_seat c.step seat)).run.state.spec.faults
seat_counts c seat =
    let p : PartState = seat.run.state in
    let q : PartState = guarded p (known_of seat) c.step in
    trap_counts c.part p q c.step (guard p (known_of seat) c.step) (reported_clause p (known_of seat) c.step)
    (length (part_after c.step (guarded_seat c.step seat)).run.state.spec.faults) (trap_is p (known_of seat) c.step)
    (ap (λ (spec : PartSpec). length spec.faults) (spec_after q c.step))

step_counts : (s : Simulation) (order : Order) (o : Option Choice)
    → fault_count s.parts + length (stop_by s.parts o) ≤ fault_count (guarded_by s order o).parts
step_counts s order None = omega arith
step_counts s order (Some c) = by_part (slice_get s.parts c.part) refl
  where
    by_part : (x : Option RunningPart) → slice_get s.parts c.part ≡ x
        → fault_count s.parts + length (stop_at c x) ≤ fault_count (stepped_by s order c (option_map (guarded_seat c.step) x)).parts
    by_part None e = omega arith
    by_part (Some seat) e =
        set_counts s.parts c.part seat (part_after c.step (guarded_seat c.step seat)) (length (stop_at c (Some seat))) e (seat_counts c seat)

run_counts : (n : ℕ) (s : Simulation) → fault_count s.parts + length (stops_found n s) ≤ fault_count (guarded_runs n s).parts
unfolding stops_found stop_made guarded_runs guarded_taken
run_counts zero s = omega arith
run_counts (suc more) s = by_choices (choices_of s) refl (run_counts more)
  where
    by_choices : (choices : List Choice) → choices_of s ≡ choices
        → ((x : Simulation) → fault_count x.parts + length (stops_found more x) ≤ fault_count (guarded_runs more x).parts)
        → fault_count s.parts + length (stop_made s choices ++ stops_found more (guarded_moved s choices)) ≤ fault_count (guarded_on more s choices).parts
    by_choices [] none again =
        let nothing : length (stops_found more s) ≡ 0 = ap (λ (stops : List Stop). length stops) (stops_still more s none) in
        omega arith
    by_choices (c ∷ choices) some again =
        let next : Simulation = guarded_taken s (c ∷ choices) in
        let here : fault_count s.parts + length (stop_made s (c ∷ choices)) ≤ fault_count next.parts =
        step_counts s (order_of s (c ∷ choices)) (pick_of s (c ∷ choices)) in
        let later : fault_count next.parts + length (stops_found more next) ≤ fault_count (guarded_runs more next).parts = again next in
        let sum : length (stop_made s (c ∷ choices) ++ stops_found more next)
        ≡ length (stop_made s (c ∷ choices)) + length (stops_found more next) =
        length-append (stop_made s (c ∷ choices)) (stops_found more next) in
        omega arith

-- ---- each part gains at most its limit plus one

abbrev own_count : List PartSpec → ℕ
own_count [] = 0
own_count (spec ∷ specs) = length spec.faults + own_count specs

opened_count : (specs : List PartSpec) → fault_count (map opening_part specs) ≡ own_count specs
opened_count [] = refl
opened_count (spec ∷ specs) =
    ap (λ (n : ℕ). n + fault_count (map opening_part specs)) (ap (λ (x : PartSpec). length x.faults) (opening_spec spec))
    ∙ ap (λ (n : ℕ). length spec.faults + n) (opened_count specs)

few_in : (parts : List RunningPart) (specs : List PartSpec) → AreOf parts specs
    → ((i : ℕ) (spec : PartSpec) (seat : RunningPart) → slice_get specs i ≡ Some spec → slice_get parts i ≡ Some seat
    → length seat.run.state.spec.faults ≤ length spec.faults + (spec.limit + 1))
    → fault_count parts ≤ own_count specs + most_traps specs
unfolding AreOf
few_in [] [] a each = omega arith
few_in [] (spec ∷ specs) a each = absurd a
few_in (seat ∷ parts) [] a each = absurd a
few_in (seat ∷ parts) (spec ∷ specs) a each =
    let one : length seat.run.state.spec.faults ≤ length spec.faults + (spec.limit + 1) = each zero spec seat refl refl in
    let rest : fault_count parts ≤ own_count specs + most_traps specs =
    few_in parts specs a.1 (λ i x y hx hy. each (suc i) x y hx hy) in
    omega arith

few_of : (spec : PartSpec) (seat : RunningPart) → IsValidPart spec → IsGuardedPart spec seat
    → length seat.run.state.spec.faults ≤ length spec.faults + (spec.limit + 1)
few_of spec seat valid g =
    let well : IsGuardedWell spec seat.run.journal = guarded_well spec seat.run.journal (valid_fits spec valid) g.run in
    let few : length (traps_of spec seat.run.journal) ≤ spec.limit + 1 = well.few in
    let sum : length seat.run.state.spec.faults ≡ length spec.faults + length (traps_of spec seat.run.journal) =
    ap (λ (x : PartSpec). length x.faults) g.faults ∙ length-append spec.faults (traps_of spec seat.run.journal) in
    omega arith

pub few_found : (scenario : Scenario) (n : ℕ) → IsValidScenario scenario → length (stops_found n (begins scenario)) ≤ most_traps scenario.parts
unfolding begins
few_found scenario n valid =
    let t : Simulation = guarded_runs n (begins scenario) in
    let first : fault_count (begins scenario).parts ≡ own_count scenario.parts = opened_count scenario.parts in
    let more : fault_count (begins scenario).parts + length (stops_found n (begins scenario)) ≤ fault_count t.parts = run_counts n (begins scenario) in
    let last : fault_count t.parts ≤ own_count scenario.parts + most_traps scenario.parts =
    few_in t.parts scenario.parts (begins_of scenario n)
    (λ i spec seat hs hp. few_of spec seat
    (all_at IsValidPart scenario.parts i spec (recursion_from_All IsValidPart scenario.parts valid.parts) hs)
    (guarded_part scenario i n spec seat hs hp)) in
    omega arith

pub few_needed : (scenario : Scenario) (stops : List Stop) → IsValidScenario scenario → AreNeeded scenario stops
    → length stops ≤ most_traps scenario.parts
few_needed scenario stops valid needed =
    let chain = chained scenario stops needed in
    let found : length (stops_found chain.0 (begins scenario)) ≡ length stops = ap (λ (xs : List Stop). length xs) chain.1.found in
    let few : length (stops_found chain.0 (begins scenario)) ≤ most_traps scenario.parts = few_found scenario chain.0 valid in
    omega arith
