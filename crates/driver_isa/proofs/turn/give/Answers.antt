use Rattle.std.proofs.Common.{refl}
use Rattle.driver_isa.proofs.Turns.{given_turn, refused_turn}
use Rattle.driver_isa.proofs.turn.give.Goals as goal

pub returns-then-output-clause-turned : goal.returns-then-output-clause-turned
returns-then-output-clause-turned g c =
    given_turn _ _ _ _ _ _ _ _ _ _ _ (rw (c.from-port.ensures, c.register.ensures) at c.output.ensures.taken)
    c.if-output.true refl c.output.ensures.words

pub returns-else-output-clause-turned : goal.returns-else-output-clause-turned
returns-else-output-clause-turned g c =
    rw (c.trap.ensures, c.from-port.ensures)
    (refused_turn _ _ _ _ _ _ _ _ _ _ (rw (c.from-port.ensures, c.register.ensures) at c.output.ensures.taken)
    c.if-output.false c.output.ensures.words)
