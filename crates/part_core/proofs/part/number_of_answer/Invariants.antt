use Rattle.std.proofs.Common.{◌≡◌, ◌+◌, drop}
use Rattle.part_defs.specs.Views.CallLogs.{answered_from}
use Rattle.part_core.proofs.part.number_of_answer.Given as goal

abbrev pub invariant-loop-number : goal.invariant-loop-number
invariant-loop-number l = answered_from (1 + l.number) l.call (drop l.number l.events) ≡ answered_from 1 l.call l.events
