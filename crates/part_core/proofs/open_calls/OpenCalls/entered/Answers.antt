use Rattle.part_core.proofs.Claimed.{claimed_entered}
use Rattle.part_core.proofs.open_calls.OpenCalls.entered.Goals as goal

pub invariant_of-self : goal.invariant_of-self
invariant_of-self c = rw c.entered.ensures (claimed_entered c.self.inside.claims c.self.inside.log c.args.call c.self.invariant)
