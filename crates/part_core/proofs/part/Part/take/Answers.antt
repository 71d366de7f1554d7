use Rattle.part_core.proofs.Kept.{kept_on, sound}
use Rattle.part_core.proofs.part.Part.take.Goals as goal

pub step-requires-clause-sound : goal.step-requires-clause-sound
step-requires-clause-sound c = rw c.deref_mut.ensures.value (sound (record { state = c.self.inside.state.value; journal = c.self.inside.journal.list }) c.self.invariant.0)

pub invariant_of-self-in-Ok : goal.invariant_of-self-in-Ok
invariant_of-self-in-Ok c = kept_on c.self.inside.state.value c.step.new.self c.self.inside.journal.list c.push_reserved.new.self.list c.args.step
    c.in-Ok.event c.self.inside.script c.self.invariant.0
    (rw (← c.self.view_is) at c.requires)
    (rw c.deref_mut.ensures.value at c.in-Ok.ensures) (rw (← c.reserve.ensures.same) c.push_reserved.ensures) c.self.invariant.1
