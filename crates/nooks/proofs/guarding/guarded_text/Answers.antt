use Rattle.nooks.proofs.Guards.{text_of}
use Rattle.nooks.proofs.guarding.guarded_text.Goals as goal

pub returns : goal.returns
returns c = text_of c.args.scenario.now c.in_ok-guarded.guarded c.write_scenario_line.result c.in_ok-guarded.ensures c.write_scenario_line.ensures.text
