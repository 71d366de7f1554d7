use Rattle.std.proofs.Common.{ap, ◌∙◌, sym, map}
use Rattle.driver_asm.proofs.LastPiece.{leaves, stays}
use Rattle.driver_asm.proofs.pieces.drop_empty_last.Goals as goal

pub returns-then-not-is_empty : goal.returns-then-not-is_empty
returns-then-not-is_empty c =
    let pushed = rw c.unwrap.ensures at c.push.ensures.items in
    ap (map (λ piece. piece.now)) pushed
    ∙ stays c.args.pieces.now.items c.pop.new.self.items c.in-Some.last c.in-Some.ensures.items (sym c.is_empty.ensures ∙ c.if-not-is_empty.true)

pub returns-else-not-is_empty : goal.returns-else-not-is_empty
returns-else-not-is_empty c =
    leaves c.args.pieces.now.items c.pop.new.self.items c.in-Some.last c.in-Some.ensures.items (sym c.is_empty.ensures ∙ c.if-not-is_empty.false)
