-- The status of a guarded run, by the parts at its end.
use Rattle.std.proofs.Common.{◌≡◌, ◌∙◌, ℕ, suc, ◌+◌, Bool, false, if◌then◌else◌, ◌||◌, is_some, List, [], ◌∷◌, map, Some, None, slice_get, ap, refl, subst, sym}
use Rattle.front_laws.proofs.FirstStops.{guarded_keeps}
use Rattle.front_laws.proofs.GuardedRuns.{guarded_scheduled}
use Rattle.front_laws.specs.Owned.{owning}
use Rattle.guard_defs.specs.FirstBreaks.{NoneBreaks}
use Rattle.guard_defs.specs.GuardedRuns.{IsGuardedSchedule, guarded_scenario, spec_of}
use Rattle.nook_data.specs.declared.scenario.Fault.{Fault}
use Rattle.nook_data.specs.declared.scenario.PartSpec.{PartSpec}
use Rattle.nook_data.specs.declared.scenario.Scenario.{Scenario}
use Rattle.part_defs.specs.Stages.{is_given_up}
use Rattle.part_defs.specs.State.{PartState}
use Rattle.promise_defs.specs.Contract.{first_break}
use Rattle.report_defs.specs.ReportText.{has_break, has_given_up, status_of}
use Rattle.run_defs.specs.Simulation.{IsScheduledRun, RunningPart, Simulation, journal_of, journals_of}
use Rattle.sim_run.proofs.Reaching.{seats_of_runs}
use Rattle.sim_run.specs.Reached.{AreSeatsOf}

-- some part was given up
abbrev pub gone_in_parts : List RunningPart → Bool
gone_in_parts [] = false
gone_in_parts (seat ∷ seats) = is_given_up seat.run.state || gone_in_parts seats

gone_is : (specs : List PartSpec) (seats : List RunningPart) → AreSeatsOf specs seats
    → has_given_up specs (map journal_of seats) ≡ gone_in_parts seats
unfolding has_given_up
gone_is [] [] are = refl
gone_is [] (seat ∷ seats) are = absurd are
gone_is (spec ∷ specs) [] are = absurd are
gone_is (spec ∷ specs) (seat ∷ seats) are =
    ap (λ (p : PartState). is_given_up p || has_given_up specs (map journal_of seats)) (sym are.0.state)
    ∙ ap (λ (b : Bool). is_given_up seat.run.state || b) (gone_is specs seats are.1)

-- the faults of a part do not affect whether it was given up
pub gone_owned : (change : ℕ → List Fault → List Fault) (n : ℕ) (seats : List RunningPart)
    → gone_in_parts (owning change n seats) ≡ gone_in_parts seats
gone_owned change n [] = refl
gone_owned change n (seat ∷ seats) =
    ap (λ (b : Bool). is_given_up seat.run.state || b) (gone_owned change (n + 1) seats)

no_break : (seats : List RunningPart)
    → ((index : ℕ) (seat : RunningPart) → slice_get seats index ≡ Some seat
    → first_break (spec_of seat).class (spec_of seat).blocks seat.run.journal ≡ None)
    → has_break (map spec_of seats) (map journal_of seats) ≡ false
unfolding has_break
no_break [] none = refl
no_break (seat ∷ seats) none =
    ap (λ o. is_some o || has_break (map spec_of seats) (map journal_of seats)) (none 0 seat refl)
    ∙ no_break seats (λ index s at. none (suc index) s at)

abbrev pub status_by : Bool → Bool → ℕ
status_by broken gone = if broken then 7 else if gone then 1 else 0

-- no driver of a guarded run breaks its contract, so its status says whether a part was given up
pub guarded_status : (asked : Scenario) (s : Simulation) → IsGuardedSchedule asked s
    → status_of (map spec_of s.parts) (journals_of s) ≡ status_by false (gone_in_parts s.parts)
guarded_status asked s guarded =
    let run : IsScheduledRun (guarded_scenario asked s) s = guarded_scheduled asked s guarded in
    let seats : AreSeatsOf (map spec_of s.parts) s.parts =
    subst (λ (t : Simulation). AreSeatsOf (map spec_of s.parts) t.parts) run.reached
    (seats_of_runs (guarded_scenario asked s) run.steps) in
    let none : NoneBreaks s = subst NoneBreaks guarded.reached (guarded_keeps asked guarded.steps) in
    ap (λ (b : Bool). status_by b (has_given_up (map spec_of s.parts) (map journal_of s.parts))) (no_break s.parts none)
    ∙ ap (status_by false) (gone_is (map spec_of s.parts) s.parts seats)
