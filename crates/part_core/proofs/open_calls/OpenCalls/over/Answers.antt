use Rattle.part_core.proofs.Claimed.{claimed_at_first}
use Rattle.part_core.proofs.open_calls.OpenCalls.over.Goals as goal

pub invariant_of-result : goal.invariant_of-result
invariant_of-result c = rw (c.new.ensures, c.requires) (claimed_at_first c.args.defaults)
