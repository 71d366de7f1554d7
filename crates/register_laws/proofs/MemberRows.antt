-- Members whose faults do nothing, or do the same as another member's.
use Rattle.std.proofs.Common.{◌≡◌, ℕ, zero, suc, Bool, true, false, Option, Some, None, List, [], ◌∷◌, ◌++◌, map, option_map, slice_get, slice_set, refl, sym, ap, ◌∙◌, subst, arith}
use Rattle.campaign_defs.specs.Members.{IsBaseRun, IsFreeRun, IsRunUnder, Ran, alone}
use Rattle.campaign_defs.specs.Rows.{IsMemberRow, plan_row}
use Rattle.campaign_defs.specs.Types.{Row}
use Rattle.front_laws.proofs.Owned.{get_owning, seat_at}
use Rattle.front_laws.proofs.WholeRuns.{At, Follows, owned_journals, struck_here}
use Rattle.front_laws.proofs.Unreached.{opening_faults}
use Rattle.front_laws.specs.Fronts.{with_faults}
use Rattle.front_laws.specs.Owned.{owned, seat_with, struck_at}
use Rattle.guard_defs.specs.Guard.{with_own}
use Rattle.nook_data.proofs.Options.{none_is_some, same_inside}
use Rattle.nook_data.specs.Members.{struck, struck_parts, with_struck}
use Rattle.nook_data.specs.Types.{Event, Fault, PartSpec, Scenario}
use Rattle.part_defs.specs.Runs.{state_of}
use Rattle.part_defs.specs.State.{PartState}
use Rattle.part_defs.specs.Steps.{opening}
use Rattle.part_laws.proofs.DeviceStays.{spec_from}
use Rattle.part_laws.proofs.Indices.{get_set_same}
use Rattle.plan_defs.specs.Plans.{struck_by, with_struck_by}
use Rattle.plan_defs.specs.Types.{Plan}
use Rattle.register_laws.proofs.AlikeRuns.{last_dropped, swapped_here}
use Rattle.register_laws.proofs.AlikeWhole.{next_run, none_run, seat_of_run}
use Rattle.register_laws.proofs.Rows.{plan_row_same}
use Rattle.register_laws.specs.Alike.{AreAlike, swapped_at, without_last}
use Rattle.run_defs.specs.Simulation.{IsScheduledRun, RunningPart, Simulation, answer_table, journal_of, journals_of}

-- ---- scenarios

struck_alone : (scenario : Scenario) (index : ℕ) (f : Fault) → struck_by scenario index (alone f) ≡ struck scenario index f
struck_alone scenario index f = ap (λ (parts : List PartSpec). record scenario { parts = parts }) (by_part (slice_get scenario.parts index))
  where
    by_part : (o : Option PartSpec) → with_struck_by scenario.parts index (alone f) o ≡ with_struck scenario.parts index f o
    by_part None = refl
    by_part (Some part) = refl

struck_set : (scenario : Scenario) (index : ℕ) (f : Fault) (spec : PartSpec) → slice_get scenario.parts index ≡ Some spec
    → (struck scenario index f).parts ≡ slice_set scenario.parts index (with_faults (spec.faults ++ f ∷ []) spec)
struck_set scenario index f spec there = ap (with_struck scenario.parts index f) there

struck_there : (scenario : Scenario) (index : ℕ) (f : Fault) (spec : PartSpec) → slice_get scenario.parts index ≡ Some spec
    → slice_get (struck scenario index f).parts index ≡ Some (with_faults (spec.faults ++ f ∷ []) spec)
struck_there scenario index f spec there =
    ap (λ (parts : List PartSpec). slice_get parts index) (struck_set scenario index f spec there)
    ∙ get_set_same scenario.parts index spec (with_faults (spec.faults ++ f ∷ []) spec) there

set_set : {X : Type 0} (xs : List X) (k : ℕ) (x y : X) → slice_set (slice_set xs k x) k y ≡ slice_set xs k y
set_set [] k x y = refl
set_set (z ∷ xs) zero x y = refl
set_set (z ∷ xs) (suc k) x y = ap (λ (ys : List _). z ∷ ys) (set_set xs k x y)

pub journal_at : (parts : List RunningPart) (index : ℕ) (seat : RunningPart) → slice_get parts index ≡ Some seat
    → slice_get (map journal_of parts) index ≡ Some seat.run.journal
journal_at [] index seat h = none_is_some h
journal_at (x ∷ parts) zero seat h = ap (λ (y : RunningPart). Some y.run.journal) (same_inside h)
journal_at (x ∷ parts) (suc index) seat h = journal_at parts index seat h

free_run : (guard : Bool) (scenario : Scenario) (ran : Ran) → guard ≡ false → IsRunUnder guard scenario ran → IsFreeRun scenario ran
free_run guard scenario ran free run = subst (λ (g : Bool). IsRunUnder g scenario ran) free run

-- ---- a part at the end of the run with other faults

-- both runs have the same journal of the part, and states that differ in the faults only
module _ (index : ℕ) (change : ℕ → List Fault → List Fault) (one other : Scenario) (spec : PartSpec) (fs : List Fault) (t : Simulation)
    (one_run : IsScheduledRun one t) (other_run : IsScheduledRun other (owned change t))
    (one_there : slice_get one.parts index ≡ Some spec) (other_there : slice_get other.parts index ≡ Some (with_faults fs spec))
    (changes : (own : List Fault) → own ≡ spec.faults → change index own ≡ fs) where
  abbrev Ends : Type 0
  Ends = (seat : RunningPart) × At t index seat × (state_of (with_faults fs spec) seat.run.journal ≡ with_own fs (state_of spec seat.run.journal))

  ends_alike : Ends
  ends_alike =
      let a = seat_of_run one t index spec one_run one_there in
      let b = seat_of_run other (owned change t) index (with_faults fs spec) other_run other_there in
      let seat : RunningPart = a.0 in
      let faults_are : seat.run.state.spec.faults ≡ spec.faults =
      ap (λ (p : PartState). p.spec.faults) a.2 ∙ ap (λ (x : PartSpec). x.faults) (spec_from (opening spec) seat.run.journal) ∙ opening_faults spec in
      let moved : At (owned change t) index (seat_with fs seat) =
      get_owning change 0 index index t.parts (omega arith) ∙ ap (option_map (seat_at change index)) a.1
      ∙ ap (λ (xs : List Fault). Some (seat_with xs seat)) (changes seat.run.state.spec.faults faults_are) in
      let same : b.0 ≡ seat_with fs seat = same_inside (sym b.1 ∙ moved) in
      let state : Follows (opening (with_faults fs spec)) (seat_with fs seat) = subst (Follows (opening (with_faults fs spec))) same b.2 in
      (seat, a.1, sym state ∙ ap (with_own fs) a.2)

-- ---- members

module _ (plan : Plan) (free : plan.guard ≡ false) (base own : Ran) (spec : PartSpec) (seat : RunningPart) (is_base : IsBaseRun plan base)
    (there : slice_get plan.base.parts plan.part ≡ Some spec) (at : slice_get base.simulation.parts plan.part ≡ Some seat) where
  run_is : IsFreeRun plan.base base
  run_is = free_run plan.guard plan.base base free is_base

  abbrev struck_faults : Fault → List Fault
  struck_faults f = spec.faults ++ f ∷ []

  abbrev struck_ran : Fault → Simulation → Ran
  struck_ran f t = record { scenario = struck plan.base plan.part f; simulation = t; traps = 0 }

  struck_is : (f : Fault) (t : Simulation) → IsScheduledRun (struck plan.base plan.part f) t
      → IsRunUnder plan.guard (struck_by plan.base plan.part (alone f)) (struck_ran f t)
  struck_is f t run =
      let same : struck_by plan.base plan.part (alone f) ≡ struck plan.base plan.part f = struck_alone plan.base plan.part f in
      let is : IsFreeRun (struck_by plan.base plan.part (alone f)) (struck_ran f t) = record {
        same = sym same;
        scheduled = subst (λ (x : Scenario). IsScheduledRun x t) (sym same) run;
        no_traps = refl;
      } in
      subst (λ (g : Bool). IsRunUnder g (struck_by plan.base plan.part (alone f)) (struck_ran f t)) (sym free) is

  -- a fault that does nothing: the row is that of the base's run
  pub member_none : (f : Fault) → AreAlike f None spec seat.run.journal → IsMemberRow plan own (alone f) (plan_row plan own base)
  member_none f all =
      let index : ℕ = plan.part in
      let s : Simulation = base.simulation in
      let parts_are : base.scenario.parts ≡ plan.base.parts = ap (λ (x : Scenario). x.parts) run_is.same in
      let run : IsScheduledRun (struck plan.base index f) (owned (struck_at index f) s) =
      none_run plan.base index spec s seat there run_is.scheduled at f all in
      let ends = ends_alike index (struck_at index f) plan.base (struck plan.base index f) spec (struck_faults f) s run_is.scheduled run there
      (struck_there plan.base index f spec there)
      (λ xs e. struck_here index f xs ∙ ap (λ (ys : List Fault). ys ++ f ∷ []) e) in record {
        ran = struck_ran f (owned (struck_at index f) s);
        is_run = struck_is f (owned (struck_at index f) s) run;
        same = sym (plan_row_same (struck_faults f) spec ends.0.run.journal ends.2 plan own base (struck_ran f (owned (struck_at index f) s))
            (owned_journals (struck_at index f) s) refl (sym run_is.no_traps)
            (ap (λ (ps : List PartSpec). slice_get ps index) parts_are ∙ there) (journal_at s.parts index ends.0 ends.1)
            (struck_set plan.base index f spec there
            ∙ ap (λ (ps : List PartSpec). slice_set ps index (with_faults (struck_faults f) spec)) (sym parts_are)));
      }

  -- a fault that does the same as another one: the row is that member's
  pub member_next : (f g : Fault) → g.burst ≡ f.burst → AreAlike f (Some g) spec seat.run.journal → (row : Row)
      → IsMemberRow plan own (alone f) row → IsMemberRow plan own (alone g) row
  member_next f g number all row is =
      let index : ℕ = plan.part in
      let t : Simulation = is.ran.simulation in
      let spec_f : PartSpec = with_faults (struck_faults f) spec in
      let ran_is : IsFreeRun (struck_by plan.base index (alone f)) is.ran =
      free_run plan.guard (struck_by plan.base index (alone f)) is.ran free is.is_run in
      let scenario_is : is.ran.scenario ≡ struck plan.base index f = ran_is.same ∙ struck_alone plan.base index f in
      let parts_are : is.ran.scenario.parts ≡ (struck plan.base index f).parts = ap (λ (x : Scenario). x.parts) scenario_is in
      let run_f : IsScheduledRun (struck plan.base index f) t =
      subst (λ (x : Scenario). IsScheduledRun x t) (struck_alone plan.base index f) ran_is.scheduled in
      let run_g : IsScheduledRun (struck plan.base index g) (owned (swapped_at index g) t) =
      next_run plan.base index spec base.simulation seat there run_is.scheduled at f g number all t run_f in
      let ends = ends_alike index (swapped_at index g) (struck plan.base index f) (struck plan.base index g) spec_f (struck_faults g) t run_f run_g
      (struck_there plan.base index f spec there) (struck_there plan.base index g spec there)
      (λ xs e. swapped_here index g xs ∙ ap (λ (ys : List Fault). without_last ys ++ g ∷ []) e
      ∙ ap (λ (ys : List Fault). ys ++ g ∷ []) (last_dropped spec.faults f)) in record {
        ran = struck_ran g (owned (swapped_at index g) t);
        is_run = struck_is g (owned (swapped_at index g) t) run_g;
        same = is.same ∙ sym (plan_row_same (struck_faults g) spec_f ends.0.run.journal ends.2 plan own is.ran
            (struck_ran g (owned (swapped_at index g) t)) (owned_journals (swapped_at index g) t) refl (sym ran_is.no_traps)
            (ap (λ (ps : List PartSpec). slice_get ps index) parts_are ∙ struck_there plan.base index f spec there)
            (journal_at t.parts index ends.0 ends.1)
            (struck_set plan.base index g spec there
            ∙ sym (set_set plan.base.parts index spec_f (with_faults (struck_faults g) spec))
            ∙ ap (λ (ps : List PartSpec). slice_set ps index (with_faults (struck_faults g) spec))
            (sym (parts_are ∙ struck_set plan.base index f spec there))));
      }
