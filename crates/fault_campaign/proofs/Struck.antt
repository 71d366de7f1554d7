-- Scenarios of which one part was struck.
use Rattle.std.proofs.Common.{◌≡◌, refl, sym, ap, ◌∙◌, ℕ, List, Option, Some, None, length}
use Rattle.std.specs.Prelude.{slice_get, slice_set}
use Rattle.std.proofs.lemmas.List.{length-set, set-set}
use Rattle.fault_campaign.specs.Members.{IsBaseButStruck}
use Rattle.nook_data.specs.declared.scenario.Fault.{Fault}
use Rattle.nook_data.specs.declared.scenario.PartSpec.{PartSpec}
use Rattle.nook_data.specs.declared.scenario.Scenario.{Scenario}
use Rattle.plan_defs.specs.Plans.{struck_by, with_faults, with_struck_by}
use Rattle.plan_defs.specs.declared.plan.Plan.{Plan}

struck_is : (parts : List PartSpec) (index : ℕ) (faults : List Fault) (part : PartSpec) → slice_get parts index ≡ Some part
    → with_struck_by parts index faults (slice_get parts index) ≡ slice_set parts index (with_faults faults part)
struck_is parts index faults part e = ap (with_struck_by parts index faults) e

-- the struck part of a campaign, put into another member's scenario
pub struck_member : (plan : Plan) (faults : List Fault) (scenario : Scenario) (part : PartSpec) → IsBaseButStruck plan scenario
    → slice_get plan.base.parts plan.part ≡ Some part
    → record scenario { parts = slice_set scenario.parts plan.part (with_faults faults part) } ≡ struck_by plan.base plan.part faults
struck_member plan faults scenario part s e =
    s.others (with_faults faults part)
    ∙ ap (λ parts. record plan.base { parts = parts }) (sym (struck_is plan.base.parts plan.part faults part e))

pub base_but_struck : (plan : Plan) → IsBaseButStruck plan plan.base
base_but_struck plan = record { count = refl; others = λ part. refl }

as_many : (parts : List PartSpec) (index : ℕ) (faults : List Fault) (found : Option PartSpec)
    → length (with_struck_by parts index faults found) ≡ length parts
as_many parts index faults None = refl
as_many parts index faults (Some part) = length-set parts index (with_faults faults part)

struck_again : (parts : List PartSpec) (index : ℕ) (faults : List Fault) (found : Option PartSpec) (other : PartSpec)
    → slice_set (with_struck_by parts index faults found) index other ≡ slice_set parts index other
struck_again parts index faults None other = refl
struck_again parts index faults (Some part) other = set-set parts index (with_faults faults part) other

pub member_but_struck : (plan : Plan) (faults : List Fault) → IsBaseButStruck plan (struck_by plan.base plan.part faults)
member_but_struck plan faults =
    let found : Option PartSpec = slice_get plan.base.parts plan.part in
    record {
      count = as_many plan.base.parts plan.part faults found;
      others = λ part. ap (λ parts. record plan.base { parts = parts }) (struck_again plan.base.parts plan.part faults found part);
    }
