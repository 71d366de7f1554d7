use Rattle.part_core.proofs.state.State.checked.Goals as goal

pub returns-clause-checked : goal.returns-clause-checked
returns-clause-checked c = rw (← c.self.view_is) (rw (← c.self.invariant.1) c.check.ensures.checked)
