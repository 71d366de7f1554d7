use Rattle.containment_laws.proofs.Contained.{run_like, whole_like}
use Rattle.containment_laws.proofs.containment.one_part_does_not_change_the_others.Goals as goal

pub returns : goal.returns
returns c = record { orders = run_like; whole = whole_like }
