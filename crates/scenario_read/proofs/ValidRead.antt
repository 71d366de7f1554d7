-- What a reader returns is within its limits, since what the definition returns is.
use Rattle.std.proofs.Common.{subst}
use Rattle.std.specs.Prelude.{Result, Ok, Err, IfOk}
use Rattle.serde_json.specs.Data.{Data}
use Rattle.input_defs.specs.CampaignReading.{campaign_of}
use Rattle.nook_data.specs.Members.{IsValidCampaign}
use Rattle.input_defs.specs.ImageReading.{image_of}
use Rattle.input_defs.specs.PlanReading.{plan_of}
use Rattle.input_defs.specs.ScenarioReading.{scenario_of}
use Rattle.nook_data.specs.Valid.{IsValidImage, IsValidScenario}
use Rattle.nook_data.specs.declared.campaign.Campaign.{Campaign}
use Rattle.nook_data.specs.declared.scenario.Image.{Image}
use Rattle.nook_data.specs.declared.scenario.Scenario.{Scenario}
use Rattle.plan_defs.specs.Plans.{IsValidPlan}
use Rattle.plan_defs.specs.declared.plan.Plan.{Plan}
use Rattle.reading_laws.proofs.CampaignsRead.{campaign_holds}
use Rattle.reading_laws.proofs.ImagesRead.{image_is_valid}
use Rattle.reading_laws.proofs.PlansRead.{plan_holds}
use Rattle.reading_laws.proofs.ScenariosRead.{scenario_holds}
use Rattle.scenario_read.specs.Gives.{Gives}
use Rattle.scenario_read.specs.declared.stop.ScenarioFault.{ScenarioFault}

pub valid_image : (d : Data) (r : Result Image ScenarioFault) → Gives r (image_of d) → IfOk r IsValidImage
valid_image d (Ok image) h = subst (λ read. IfOk read IsValidImage) h (image_is_valid d)
valid_image d (Err why) h = tt

pub valid_scenario : (d : Data) (r : Result Scenario ScenarioFault) → Gives r (scenario_of d) → IfOk r IsValidScenario
valid_scenario d (Ok scenario) h = subst (λ read. IfOk read IsValidScenario) h (scenario_holds d)
valid_scenario d (Err why) h = tt

pub valid_campaign : (d : Data) (r : Result Campaign ScenarioFault) → Gives r (campaign_of d) → IfOk r IsValidCampaign
valid_campaign d (Ok campaign) h = subst (λ read. IfOk read IsValidCampaign) h (campaign_holds d)
valid_campaign d (Err why) h = tt

pub valid_plan : (d : Data) (r : Result Plan ScenarioFault) → Gives r (plan_of d) → IfOk r IsValidPlan
valid_plan d (Ok plan) h = subst (λ read. IfOk read IsValidPlan) h (plan_holds d)
valid_plan d (Err why) h = tt
