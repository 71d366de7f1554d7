use Rattle.campaign_laws.proofs.MemberRuns.{members_can_run}
use Rattle.campaign_laws.proofs.members.every_member_can_run.Goals as goal

pub returns : goal.returns
returns c = members_can_run
