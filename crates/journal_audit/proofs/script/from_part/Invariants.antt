use Rattle.std.proofs.Common.{◌≡◌, drop, filter}
use Rattle.run_laws.specs.Audit.{is_on}
use Rattle.journal_audit.proofs.script.from_part.Given as goal

abbrev pub invariant-loop-index : goal.invariant-loop-index
invariant-loop-index l = filter (is_on l.part) (drop l.index l.ops) ≡ filter (is_on l.part) l.ops
