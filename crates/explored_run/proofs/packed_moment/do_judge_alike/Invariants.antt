use Rattle.std.proofs.Common.{◌≡◌, length, take}
use Rattle.explored_run.specs.Alike.{MonitorsAlike}
use Rattle.explored_run.proofs.packed_moment.do_judge_alike.Given as goal

abbrev pub invariant-loop-number : goal.invariant-loop-number
invariant-loop-number l = (length l.monitors ≡ length l.others) × MonitorsAlike (take l.number l.monitors) (take l.number l.others)
