use Rattle.part_core.proofs.Kept.{kept_answered}
use Rattle.part_core.proofs.part.Part.answered_at.Goals as goal

pub returns-clause-reported : goal.returns-clause-reported
returns-clause-reported c = rw (← c.self.view_is, c.number_of_answer.ensures, c.as_slice.ensures)
    (kept_answered (record { state = c.self.inside.state.value; journal = c.self.inside.journal.list }) c.args.call c.self.invariant.0)
