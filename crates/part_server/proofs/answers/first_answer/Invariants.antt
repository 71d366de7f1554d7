use Rattle.std.proofs.Common.{◌≡◌, ◌+◌, drop}
use Rattle.part_defs.specs.Views.CallLogs.{answered_from}
use Rattle.part_server.proofs.answers.first_answer.Given as goal

abbrev pub invariant-loop-number : goal.invariant-loop-number
invariant-loop-number l = answered_from (l.number + 1) l.call (drop l.number l.events) ≡ answered_from (l.looked + 1) l.call (drop l.looked l.events)
