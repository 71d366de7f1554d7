-- At most as many lines end in the bytes skipped as there are bytes.
use Rattle.std.proofs.Common.{◌≡◌, ◌+◌, arith, subst}
use Rattle.std.proofs.lemmas.List.Sums.{count_by-le-length}
use Rattle.journal_audit.proofs.Placing.{is_feed, past_is}
use Rattle.journal_audit.proofs.cursor.Cursor.skip.Goals as goal
use Rattle.journal_audit.specs.Position.{Position, past}

pub overflow_add-self : goal.overflow_add-self
overflow_add-self c = omega (arith, count_by-le-length is_feed c.split_at.result.0.now)

pub invariant_of-self : goal.invariant_of-self
invariant_of-self c = omega (arith, count_by-le-length is_feed c.split_at.result.0.now)

pub returns : goal.returns
returns c =
    let here : Position = record { rest = c.split_at.result.1.now; number = c.self.inside.number + c.lines_in.result } in
    subst (λ p. here ≡ past c.args.count p) c.self.view_is
    (past_is c.args.count c.self.inside.rest.now c.self.inside.number c.split_at.result.0.now c.split_at.result.1.now c.lines_in.result
    c.split_at.ensures.front c.split_at.ensures.back c.lines_in.ensures)
