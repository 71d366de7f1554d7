-- The bytes up to the first line feed are the next line; without a line feed there is none.
use Rattle.std.proofs.Common.{◌+◌, sym, subst, ◌∙◌, take}
use Rattle.journal_audit.proofs.Placing.{line_found, no_line_found}
use Rattle.journal_audit.proofs.cursor.Cursor.line.Goals as goal
use Rattle.journal_audit.specs.Position.{HasNoLine, IsNextLine}

pub returns-in-Some-clause-ok : goal.returns-in-Some-clause-ok
returns-in-Some-clause-ok c =
    subst (λ p. IsNextLine p (take (c.in-Some.end + 1) c.self.inside.rest.now)) c.self.view_is
    (line_found (record { rest = c.self.inside.rest.now; number = c.self.inside.number }) c.in-Some.end
    (sym c.line_feed_in.ensures ∙ c.in-Some.is))

pub returns-in-None-clause-unfit : goal.returns-in-None-clause-unfit
returns-in-None-clause-unfit c =
    subst (λ p. HasNoLine p c.self.inside.number) c.self.view_is
    (no_line_found (record { rest = c.self.inside.rest.now; number = c.self.inside.number }) (sym c.line_feed_in.ensures ∙ c.in-None.is))
