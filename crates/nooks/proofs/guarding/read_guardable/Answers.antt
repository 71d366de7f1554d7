use Rattle.std.proofs.Common.{sym, ◌∙◌}
use Rattle.nooks.proofs.Guards.{all_room}
use Rattle.nooks.proofs.guarding.read_guardable.Goals as goal

pub returns-in-None-clause-room : goal.returns-in-None-clause-room
returns-in-None-clause-room c =
    all_room c.in_ok-scenario.scenario (rw (← c.as_slice.ensures) (sym c.first_without_room.ensures ∙ c.in-None.is))
