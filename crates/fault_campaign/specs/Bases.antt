use Rattle.std.specs.Prelude.{◌≡◌, List, slice_get}
use Rattle.campaign_defs.specs.Members.{IsBaseRun, Ran, every_of}
use Rattle.campaign_defs.specs.Rows.{plan_row}
use Rattle.campaign_rows.specs.Shown.{IsShown}
use Rattle.fault_campaign.specs.declared.base.Base.{Base}
use Rattle.fault_points.specs.Points.{faults_at}
use Rattle.fault_points.specs.declared.points.BurstPoints.{BurstPoints}
use Rattle.nook_data.specs.Types.{FaultKind}
use Rattle.plan_defs.specs.Types.{Plan}

-- where one more fault strikes in the struck part's run, when the campaign runs its base
pub record ArePointsOf (plan : Plan) (points : List BurstPoints) : Type 0 where
  pub ran : Ran
  pub is_base : IsBaseRun plan ran
  pub numbers_are : (kinds : List FaultKind) → faults_at kinds points
      ≡ every_of plan.guard kinds (slice_get plan.base.parts plan.part) (slice_get ran.simulation.parts plan.part)

-- the base's run: its texts, its row, and where one more fault strikes in the struck part's run
pub record IsBaseOf (plan : Plan) (base : Base) : Type 0 where
  pub ran : Ran
  pub is_base : IsBaseRun plan ran
  pub shown : IsShown ran base.shown
  pub row : base.row ≡ plan_row plan ran ran
  pub points : (kinds : List FaultKind) → faults_at kinds base.points
      ≡ every_of plan.guard kinds (slice_get plan.base.parts plan.part) (slice_get ran.simulation.parts plan.part)
