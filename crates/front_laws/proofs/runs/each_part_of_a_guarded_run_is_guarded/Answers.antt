use Rattle.front_laws.proofs.GuardedParts.{guarded_part}
use Rattle.front_laws.proofs.runs.each_part_of_a_guarded_run_is_guarded.Goals as goal

pub returns : goal.returns
returns c = guarded_part
