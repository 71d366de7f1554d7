use Rattle.std.specs.Prelude.{false}
use Rattle.nook_data.specs.Types.{Campaign}
use Rattle.plan_defs.specs.Types.{Plan}
use Rattle.plan_defs.specs.declared.plan.Strikes.TheVariants as strikes

-- a plain campaign as a plan
abbrev pub plain_plan : Campaign → Plan
plain_plan campaign = record {
  base = campaign.base;
  part = campaign.part;
  strikes = strikes.Faults campaign.faults;
  guard = false;
  detail = false;
}
