use Rattle.part_core.proofs.Claimed.{claimed_answered}
use Rattle.part_core.proofs.open_calls.OpenCalls.answered.Goals as goal

pub invariant_of-self : goal.invariant_of-self
invariant_of-self c = rw c.answered.ensures (claimed_answered c.self.inside.claims c.remove.new.self c.self.inside.log c.args.call c.self.invariant c.remove.ensures)
