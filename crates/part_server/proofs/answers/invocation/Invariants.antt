use Rattle.std.proofs.Common.{◌≡◌, drop}
use Rattle.std.specs.List.{list_any}
use Rattle.part_server.specs.Answers.{is_invocation}
use Rattle.part_server.proofs.answers.invocation.Given as goal

abbrev pub invariant-loop-number : goal.invariant-loop-number
invariant-loop-number l = list_any (is_invocation l.call l.thread) (drop l.number l.events) ≡ list_any (is_invocation l.call l.thread) l.events
