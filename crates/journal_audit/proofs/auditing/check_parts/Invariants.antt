use Rattle.std.proofs.Common.{drop, take}
use Rattle.journal_audit.proofs.auditing.check_parts.Given as goal
use Rattle.journal_audit.specs.Found.{ArePast}

abbrev pub invariant-loop-index : goal.invariant-loop-index
invariant-loop-index l = ArePast l.scenario l.initial.cursor (take l.index l.specs) (drop l.index l.specs) l.cursor l.past
