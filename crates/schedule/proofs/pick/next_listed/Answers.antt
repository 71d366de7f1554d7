use Rattle.std.proofs.Common.{sym, ◌∙◌}
use Rattle.schedule.proofs.Picks.{found_pick}
use Rattle.schedule.proofs.pick.next_listed.Goals as goal

pub returns-in-Some : goal.returns-in-Some
returns-in-Some c =
    c.loop-i.invariant ∙ found_pick _ _ _ _ c.loop-i-test.true (sym c.position_of.ensures.index ∙ c.in-Some.is)
