-- Every member of a valid plan can be run.
use Rattle.std.proofs.Common.{◌≡◌, ◌≤◌, ℕ, zero, suc, Bool, true, false, List, [], ◌∷◌, map, All, Option, Some, None, slice_get, refl, sym, ap, subst, ◌∙◌, arith}
use Rattle.std.proofs.lemmas.List.Elements.{All-cons, All-head, All-nil, All-tail, recursion_from_All}
use Rattle.nook_data.proofs.Options.{none_is_some, same_inside}
use Rattle.campaign_defs.specs.Members.{CanRunMember, IsBaseRun, IsRunUnder, Ran, alone, every_of, members, members_of}
use Rattle.campaign_laws.proofs.Struck.{member_can_run}
use Rattle.campaign_laws.proofs.ValidFaults.{every_guarded_is_valid, every_is_valid}
use Rattle.front_laws.proofs.GuardedParts.{guarded_part}
use Rattle.front_laws.proofs.ValidGuarded.{all_at}
use Rattle.guard_defs.specs.GuardedRuns.{guarded_runs}
use Rattle.plan_defs.specs.Plans.{AreValidStrikes, IsValidMember, IsValidPlan, longest_of, most_faults}
use Rattle.plan_defs.specs.Types.{Plan, Strikes}
use Rattle.plan_defs.specs.declared.plan.Strikes.TheVariants as strikes
use Rattle.nook_data.specs.Valid.{IsValidFault, IsValidKind, IsValidPart}
use Rattle.nook_data.specs.declared.scenario.Fault.{Fault}
use Rattle.nook_data.specs.declared.scenario.FaultKind.{FaultKind}
use Rattle.nook_data.specs.declared.scenario.PartSpec.{PartSpec}
use Rattle.run_defs.specs.Simulation.{RunningPart, Simulation, begins}
use Rattle.sim_run.proofs.Reaching.{seats_of_runs}
use Rattle.sim_run.specs.Reached.{AreSeatsOf, IsSeatOf}

-- ---- every fault that strikes in the base's run

seat_at : (specs : List PartSpec) (seats : List RunningPart) (index : ℕ) (spec : PartSpec) (seat : RunningPart)
    → AreSeatsOf specs seats → slice_get specs index ≡ Some spec → slice_get seats index ≡ Some seat → IsSeatOf spec seat
seat_at [] seats index spec seat are there at = none_is_some there
seat_at (x ∷ specs) [] index spec seat are there at = absurd are
seat_at (x ∷ specs) (y ∷ seats) zero spec seat are there at =
    subst (λ (s : PartSpec). IsSeatOf s seat) (same_inside there) (subst (IsSeatOf x) (same_inside at) are.0)
seat_at (x ∷ specs) (y ∷ seats) (suc index) spec seat are there at = seat_at specs seats index spec seat are.1 there at

module _ (plan : Plan) (base : Ran) (valid : IsValidPlan plan) (kinds : List FaultKind) (kinds_are : All IsValidKind kinds) where
  part_valid : (spec : PartSpec) → slice_get plan.base.parts plan.part ≡ Some spec → IsValidPart spec
  part_valid spec there =
      all_at IsValidPart plan.base.parts plan.part spec (recursion_from_All IsValidPart plan.base.parts valid.base.parts) there

  every_valid_at : (guard : Bool) → IsRunUnder guard plan.base base → (o : Option PartSpec) (r : Option RunningPart)
      → slice_get plan.base.parts plan.part ≡ o → slice_get base.simulation.parts plan.part ≡ r
      → All IsValidFault (every_of guard kinds o r)
  every_valid_at guard is None None there at = All-nil IsValidFault
  every_valid_at guard is None (Some seat) there at = All-nil IsValidFault
  every_valid_at guard is (Some spec) None there at = All-nil IsValidFault
  every_valid_at false is (Some spec) (Some seat) there at =
      let seats : AreSeatsOf plan.base.parts base.simulation.parts =
      subst (λ (s : Simulation). AreSeatsOf plan.base.parts s.parts) is.scheduled.reached
      (seats_of_runs plan.base is.scheduled.steps) in
      every_is_valid kinds spec seat.run.journal (part_valid spec there)
      (seat_at plan.base.parts base.simulation.parts plan.part spec seat seats there at).run kinds_are
  every_valid_at true is (Some spec) (Some seat) there at =
      let reached : slice_get (guarded_runs is.guarded.steps (begins plan.base)).parts plan.part ≡ Some seat =
      ap (λ (s : Simulation). slice_get s.parts plan.part) is.guarded.reached ∙ at in
      every_guarded_is_valid kinds spec seat.run.journal (part_valid spec there)
      (guarded_part plan.base plan.part is.guarded.steps spec seat there reached).run kinds_are

-- every fault of a valid plan's kinds that strikes in the base's run
pub every_of_is_valid : (plan : Plan) (base : Ran) (kinds : List FaultKind) → IsValidPlan plan → IsBaseRun plan base
    → All IsValidKind kinds
    → All IsValidFault (every_of plan.guard kinds (slice_get plan.base.parts plan.part) (slice_get base.simulation.parts plan.part))
every_of_is_valid plan base kinds valid is are =
    every_valid_at plan base valid kinds are plan.guard is (slice_get plan.base.parts plan.part)
    (slice_get base.simulation.parts plan.part) refl refl

-- ---- the members

alone_run : (plan : Plan) (faults : List Fault) → IsValidPlan plan → 1 ≤ most_faults plan.strikes → All IsValidFault faults
    → All (CanRunMember plan) (map alone faults)
alone_run plan [] valid one are = All-nil (CanRunMember plan)
alone_run plan (f ∷ faults) valid one are =
    All-cons (CanRunMember plan) (alone f) (map alone faults)
    (member_can_run plan (alone f) valid
    (All-cons IsValidFault f [] (All-head IsValidFault f faults are) (All-nil IsValidFault)) (omega (arith, one)))
    (alone_run plan faults valid one (All-tail IsValidFault f faults are))

lists_run : (plan : Plan) (lists : List (List Fault)) → IsValidPlan plan → longest_of lists ≤ most_faults plan.strikes
    → All IsValidMember lists → All (CanRunMember plan) lists
lists_run plan [] valid most are = All-nil (CanRunMember plan)
lists_run plan (faults ∷ lists) valid most are =
    All-cons (CanRunMember plan) faults lists
    (member_can_run plan faults valid (All-head IsValidMember faults lists are).faults (omega (arith, most)))
    (lists_run plan lists valid (omega (arith, most)) (All-tail IsValidMember faults lists are))

by_strikes : (plan : Plan) (base : Ran) (s : Strikes) → IsValidPlan plan → IsBaseRun plan base → plan.strikes ≡ s → AreValidStrikes s
    → All (CanRunMember plan) (members_of plan s base)
by_strikes plan base (strikes.Faults faults) valid is e are =
    alone_run plan faults valid (subst (λ (s : Strikes). 1 ≤ most_faults s) (sym e) (omega arith)) are.1
by_strikes plan base (strikes.Members lists) valid is e are =
    lists_run plan lists valid (subst (λ (s : Strikes). longest_of lists ≤ most_faults s) (sym e) (omega arith)) are.1
by_strikes plan base (strikes.Every kinds) valid is e are =
    alone_run plan
    (every_of plan.guard kinds (slice_get plan.base.parts plan.part) (slice_get base.simulation.parts plan.part)) valid
    (subst (λ (s : Strikes). 1 ≤ most_faults s) (sym e) (omega arith)) (every_of_is_valid plan base kinds valid is are.1)

pub members_can_run : (plan : Plan) (base : Ran) → IsValidPlan plan → IsBaseRun plan base
    → All (CanRunMember plan) (members plan base)
members_can_run plan base valid is = by_strikes plan base plan.strikes valid is refl valid.strikes
