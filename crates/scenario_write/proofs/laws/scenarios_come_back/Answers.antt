use Rattle.scenario_write.proofs.ComesBack.{line_back, text_back}
use Rattle.scenario_write.proofs.laws.scenarios_come_back.Goals as goal

pub returns : goal.returns
returns c = record { text = text_back; line = line_back }
