use Rattle.part_laws.proofs.Recovered.{step_keeps}
use Rattle.part_laws.proofs.recovery.each_step_keeps_the_facts.Goals as goal

pub returns : goal.returns
returns c = step_keeps
