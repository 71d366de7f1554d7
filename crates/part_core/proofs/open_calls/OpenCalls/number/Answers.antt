use Rattle.part_core.proofs.Claimed.{claimed_numbered}
use Rattle.part_core.proofs.open_calls.OpenCalls.number.Goals as goal

pub invariant_of-self : goal.invariant_of-self
invariant_of-self c = rw c.number.ensures.log (claimed_numbered c.self.inside.claims c.self.inside.log c.self.invariant)
