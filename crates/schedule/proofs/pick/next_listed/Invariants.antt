use Rattle.std.proofs.Common.{◌≡◌, drop}
use Rattle.run_defs.specs.Schedules.{listed_pick}
use Rattle.schedule.proofs.pick.next_listed.Given as goal

abbrev pub invariant-loop-i : goal.invariant-loop-i
invariant-loop-i l = listed_pick (drop l.at l.picks) l.actors ≡ listed_pick (drop l.i l.picks) l.actors
