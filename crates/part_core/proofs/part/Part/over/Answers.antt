use Rattle.std.proofs.Common.{refl}
use Rattle.part_core.proofs.Kept.{kept_at_first, same_faults_at_first}
use Rattle.part_core.proofs.part.Part.over.Goals as goal

pub invariant_of-result : goal.invariant_of-result
invariant_of-result c = rw (c.in_ok-state.ensures.ok, c.in_ok-over.ensures, c.new-3.ensures) (
  kept_at_first c.args.spec c.requires,
  same_faults_at_first c.in_ok-script.script c.args.spec (rw (← c.in_ok-copied.ensures) c.in_ok-script.ensures),
)

pub returns : goal.returns
returns c = rw (c.in_ok-state.ensures.ok, c.in_ok-over.ensures, c.new-3.ensures) refl
