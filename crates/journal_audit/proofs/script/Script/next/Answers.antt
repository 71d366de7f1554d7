use Rattle.std.proofs.Common.{sym}
use Rattle.journal_audit.proofs.OnPart.{next_on}
use Rattle.journal_audit.proofs.script.Script.next.Goals as goal

pub returns-in-Some : goal.returns-in-Some
returns-in-Some c =
    let i = c.self.inside in
    let w = c.self.view_is in
    rw (sym w) (next_on i.part i.rest.now c.in-Some.field-0.now c.self.invariant (sym c.in-Some.ensures.value))
