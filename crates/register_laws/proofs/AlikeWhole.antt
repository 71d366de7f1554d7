-- The scheduled run of a scenario with a fault that does nothing, or with one of two faults that do the same.
use Rattle.std.proofs.Common.{◌≡◌, ℕ, zero, suc, Option, Some, None, List, [], ◌∷◌, slice_get, refl, sym, ap, subst, ◌∙◌}
use Rattle.nook_data.specs.Members.{struck}
use Rattle.nook_data.specs.Types.{Fault, PartSpec, Scenario}
use Rattle.front_laws.proofs.Owned.{choices_same, go_on, pick_of, runs_same}
use Rattle.front_laws.proofs.WholeRuns.{At, Follows, begins_at, begins_struck, follows_next, next_seat, opening_follows}
use Rattle.front_laws.specs.Owned.{owned, struck_at}
use Rattle.part_defs.specs.Runs.{state_of}
use Rattle.part_defs.specs.State.{PartState}
use Rattle.part_defs.specs.Steps.{opening}
use Rattle.register_laws.proofs.AlikeRuns.{both_steps, owned_twice}
use Rattle.register_laws.proofs.AlikeSteps.{AreAlikeSteps, alike_on, alike_steps, none_steps}
use Rattle.register_laws.specs.Alike.{AreAlike, swapped_at}
use Rattle.run_defs.specs.Simulation.{Choice, IsScheduledRun, RunningPart, Simulation, begins, choices_of, opening_part, runs, taken}

-- a part's state in a run is the one after its journal

abbrev HasState : PartState → Simulation → ℕ → Type 0
HasState p s index = (seat : RunningPart) × At s index seat × Follows p seat

follows_runs : (p : PartState) (index n : ℕ) (s : Simulation) (seat : RunningPart) → At s index seat → Follows p seat → HasState p (runs n s) index
unfolding runs
follows_runs p index zero s seat at h = (seat, at, h)
follows_runs p index (suc more) s seat at h = by_choices (choices_of s) (λ x next there h'. follows_runs p index more x next there h')
  where
    by_choices : (choices : List Choice)
        → ((x : Simulation) (next : RunningPart) → At x index next → Follows p next → HasState p (runs more x) index)
        → HasState p (go_on more s choices) index
    by_choices [] again = (seat, at, h)
    by_choices (c ∷ choices) again =
        let next = next_seat s index seat (c ∷ choices) at in
        again (taken s (c ∷ choices)) next.0 next.1 (follows_next p seat next.0 (pick_of s (c ∷ choices)) index h next.2)

pub seat_of_run : (scenario : Scenario) (s : Simulation) (index : ℕ) (spec : PartSpec) → IsScheduledRun scenario s
    → slice_get scenario.parts index ≡ Some spec → HasState (opening spec) s index
seat_of_run scenario s index spec run there =
    subst (λ (x : Simulation). HasState (opening spec) x index) run.reached
    (follows_runs (opening spec) index run.steps (begins scenario) (opening_part spec) (begins_at scenario index spec there) (opening_follows spec))

-- ---- a base's run, and a struck one

module _ (scenario : Scenario) (index : ℕ) (spec : PartSpec) (s : Simulation) (seat : RunningPart) (there : slice_get scenario.parts index ≡ Some spec)
    (run : IsScheduledRun scenario s) (at : slice_get s.parts index ≡ Some seat) where
  alike_all : (f : Fault) (o : Option Fault) (n : ℕ) → AreAlike f o spec seat.run.journal → AreAlikeSteps f o index n (begins scenario)
  alike_all f o n all =
      alike_on f o index n run.steps (begins scenario)
      (alike_steps f o index (opening spec) run.steps (begins scenario) (opening_part spec) seat (begins_at scenario index spec there)
      (opening_follows spec) (ap (λ (x : Simulation). slice_get x.parts index) run.reached ∙ at) all)
      (ap (λ (x : Simulation). choices_of x) run.reached ∙ run.ended)

  pub none_run : (f : Fault) → AreAlike f None spec seat.run.journal → IsScheduledRun (struck scenario index f) (owned (struck_at index f) s)
  none_run f all = record {
    steps = run.steps;
    reached = ap (runs run.steps) (begins_struck scenario index f)
        ∙ runs_same (struck_at index f) run.steps (begins scenario) (none_steps f index run.steps (begins scenario) (alike_all f None run.steps all))
        ∙ ap (owned (struck_at index f)) run.reached;
    ended = choices_same (struck_at index f) s ∙ run.ended;
  }

  pub next_run : (f g : Fault) → g.burst ≡ f.burst → AreAlike f (Some g) spec seat.run.journal → (t : Simulation)
      → IsScheduledRun (struck scenario index f) t → IsScheduledRun (struck scenario index g) (owned (swapped_at index g) t)
  next_run f g number all t other = record {
    steps = other.steps;
    reached = ap (runs other.steps) (begins_struck scenario index g ∙ sym (owned_twice index f g (begins scenario)))
        ∙ runs_same (swapped_at index g) other.steps (owned (struck_at index f) (begins scenario))
        (both_steps f g number index other.steps (begins scenario) (opening_part spec) (begins_at scenario index spec there)
        (alike_all f (Some g) other.steps all))
        ∙ ap (owned (swapped_at index g)) (sym (ap (runs other.steps) (begins_struck scenario index f)) ∙ other.reached);
    ended = choices_same (swapped_at index g) t ∙ other.ended;
  }
