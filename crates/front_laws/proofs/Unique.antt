-- A scenario has one guarded run.
use Rattle.std.proofs.Common.{◌≡◌, ℕ, zero, suc, List, [], ◌∷◌, refl, sym, ap, ◌∙◌}
use Rattle.nook_data.specs.declared.scenario.Scenario.{Scenario}
use Rattle.guard_defs.specs.GuardedRuns.{IsGuardedSchedule, guarded_runs, guarded_taken}
use Rattle.run_defs.specs.Simulation.{Choice, Simulation, begins, choices_of}
use Rattle.front_laws.proofs.GuardedRuns.{guarded_on}

pub guarded_still : (n : ℕ) (s : Simulation) → choices_of s ≡ [] → guarded_runs n s ≡ s
unfolding guarded_runs
guarded_still zero s h = refl
guarded_still (suc n) s h = ap (guarded_on n s) h

ends_same : (a b : ℕ) (s : Simulation) → choices_of (guarded_runs a s) ≡ [] → choices_of (guarded_runs b s) ≡ []
    → guarded_runs a s ≡ guarded_runs b s
unfolding guarded_runs
ends_same zero b s ha hb = sym (guarded_still b s ha)
ends_same (suc a) zero s ha hb = guarded_still (suc a) s hb
ends_same (suc a) (suc b) s ha hb = by_choices (choices_of s) ha hb (ends_same a b)
  where
    by_choices : (choices : List Choice) → choices_of (guarded_on a s choices) ≡ [] → choices_of (guarded_on b s choices) ≡ []
        → ((x : Simulation) → choices_of (guarded_runs a x) ≡ [] → choices_of (guarded_runs b x) ≡ [] → guarded_runs a x ≡ guarded_runs b x)
        → guarded_on a s choices ≡ guarded_on b s choices
    by_choices [] ha' hb' again = refl
    by_choices (c ∷ choices) ha' hb' again = again (guarded_taken s (c ∷ choices)) ha' hb'

pub one_guarded_run : (scenario : Scenario) (s t : Simulation) → IsGuardedSchedule scenario s → IsGuardedSchedule scenario t → s ≡ t
one_guarded_run scenario s t a b =
    sym a.reached
    ∙ ends_same a.steps b.steps (begins scenario) (ap choices_of a.reached ∙ a.ended) (ap choices_of b.reached ∙ b.ended)
    ∙ b.reached
