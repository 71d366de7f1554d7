use Rattle.std.specs.Prelude.{◌≡◌, length, slice_set}
use Rattle.nook_data.specs.Types.{PartSpec, Scenario}
use Rattle.plan_defs.specs.Types.{Plan}

-- if the struck part of both is replaced by the same part, the scenario equals the campaign's base
pub record IsBaseButStruck (plan : Plan) (scenario : Scenario) : Type 0 where
  pub count : length scenario.parts ≡ length plan.base.parts
  pub others : (part : PartSpec) → record scenario { parts = slice_set scenario.parts plan.part part }
      ≡ record plan.base { parts = slice_set plan.base.parts plan.part part }
