use Rattle.part_core.proofs.Claimed.{claimed_acknowledged}
use Rattle.part_core.proofs.open_calls.OpenCalls.acknowledge.Goals as goal

pub invariant_of-self : goal.invariant_of-self
invariant_of-self c = rw c.acknowledge.ensures (claimed_acknowledged c.self.inside.claims c.self.inside.log c.args.call c.self.invariant)
