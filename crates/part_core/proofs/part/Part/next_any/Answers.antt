use Rattle.part_core.proofs.Kept.{kept_next_enabled, kept_none_open}
use Rattle.part_core.proofs.part.Part.next_any.Goals as goal

pub returns-clause-enabled : goal.returns-clause-enabled
returns-clause-enabled c = rw (← c.self.view_is) (kept_next_enabled (record { state = c.self.inside.state.value; journal = c.self.inside.journal.list }) c.next_any.result
    c.self.invariant.0 (rw c.deref.ensures at c.next_any.ensures))

pub returns-clause-none : goal.returns-clause-none
returns-clause-none c = rw (← c.self.view_is) (kept_none_open (record { state = c.self.inside.state.value; journal = c.self.inside.journal.list }) c.next_any.result
    c.self.invariant.0 (rw c.deref.ensures at c.next_any.ensures))
