use Rattle.std.proofs.Common.{◌+◌, ap, ◌∙◌}
use Rattle.part_core.proofs.Claimed.{all_below, claimed_again, claimed_invoked}
use Rattle.part_core.proofs.open_calls.OpenCalls.invoke.Goals as goal

pub add-requires-clause-below : goal.add-requires-clause-below
add-requires-clause-below c = rw (c.of.ensures.call, c.count-number.ensures) (all_below c.self.inside.claims c.self.inside.log c.self.invariant)

pub invariant_of-self-in-Ok : goal.invariant_of-self-in-Ok
invariant_of-self-in-Ok c = rw c.in-Ok.ensures.ok (claimed_invoked c.self.inside.claims c.add.new.self c.self.inside.log c.args.thread c.args.op c.of.result
    c.self.invariant (c.of.ensures.call ∙ ap (λ z. z + 1) c.count-number.ensures) c.of.ensures.on c.in_ok-add.ensures.ok)

pub invariant_of-self-in-Err : goal.invariant_of-self-in-Err
invariant_of-self-in-Err c = rw c.in-Err.ensures.err (claimed_again c.self.inside.claims c.add.new.self c.remove.new.self c.self.inside.log (c.count-number.result + 1)
    c.of.result c.self.invariant (ap (λ z. z + 1) c.count-number.ensures) c.of.ensures.call c.in_ok-add.ensures.ok c.remove.ensures)
