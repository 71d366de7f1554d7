-- A guarded run has the same traps, no matter after how many steps it is seen to have ended.
use Rattle.std.proofs.Common.{◌≡◌, ℕ, zero, suc, List, [], ◌∷◌, ◌++◌, refl, sym, ap, ◌∙◌}
use Rattle.front_laws.proofs.GuardedRuns.{guarded_on, guarded_runs_is}
use Rattle.front_laws.proofs.Unique.{guarded_still}
use Rattle.guard_defs.specs.GuardedRuns.{IsGuardedSchedule, guarded_moved, guarded_runs, stop_made, stops_found}
use Rattle.guard_defs.specs.declared.stop.Stop.{Stop}
use Rattle.nook_data.specs.declared.scenario.Scenario.{Scenario}
use Rattle.run_defs.specs.Simulation.{Choice, Simulation, begins, choices_of}

-- if no actor has a step, no trap is found
none_found : (n : ℕ) (s : Simulation) → choices_of s ≡ [] → stops_found n s ≡ []
unfolding stops_found stop_made
none_found zero s none = refl
none_found (suc n) s none =
    ap (λ (choices : List Choice). stop_made s choices ++ stops_found n (guarded_moved s choices)) none ∙ none_found n s none

-- one guarded step, followed by the others
runs_moved : (n : ℕ) (s : Simulation) → guarded_runs (suc n) s ≡ guarded_runs n (guarded_moved s (choices_of s))
runs_moved n s = guarded_runs_is n s ∙ by_choices (choices_of s) refl
  where
    by_choices : (choices : List Choice) → choices_of s ≡ choices → guarded_on n s choices ≡ guarded_runs n (guarded_moved s choices)
    by_choices [] none = sym (guarded_still n s none)
    by_choices (c ∷ choices) some = refl

stops_same : (a b : ℕ) (s : Simulation) → choices_of (guarded_runs a s) ≡ [] → choices_of (guarded_runs b s) ≡ []
    → stops_found a s ≡ stops_found b s
unfolding stops_found guarded_runs
stops_same zero b s ha hb = sym (none_found b s ha)
stops_same (suc a) zero s ha hb = none_found (suc a) s hb
stops_same (suc a) (suc b) s ha hb =
    let next : Simulation = guarded_moved s (choices_of s) in
    ap (λ (stops : List Stop). stop_made s (choices_of s) ++ stops)
    (stops_same a b next (sym (ap choices_of (runs_moved a s)) ∙ ha) (sym (ap choices_of (runs_moved b s)) ∙ hb))

pub traps_once : (scenario : Scenario) (s t : Simulation) (a : IsGuardedSchedule scenario s) (b : IsGuardedSchedule scenario t)
    → stops_found a.steps (begins scenario) ≡ stops_found b.steps (begins scenario)
traps_once scenario s t a b =
    stops_same a.steps b.steps (begins scenario) (ap choices_of a.reached ∙ a.ended) (ap choices_of b.reached ∙ b.ended)
