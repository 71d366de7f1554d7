use Rattle.order_laws.proofs.Worked.{crossed_none}
use Rattle.order_laws.proofs.cases.crossed_scripts_have_no_clock.Goals as goal

pub returns : goal.returns
returns c = crossed_none
