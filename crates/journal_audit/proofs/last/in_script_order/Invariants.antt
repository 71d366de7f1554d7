use Rattle.std.proofs.Common.{◌≡◌, ◌++◌, drop}
use Rattle.run_laws.specs.Audit.{in_script_order}
use Rattle.journal_audit.proofs.last.in_script_order.Given as goal

abbrev pub invariant-loop-op : goal.invariant-loop-op
invariant-loop-op l = in_script_order l.ops l.initial.given ≡ l.made ++ in_script_order (drop l.op-index l.ops) l.given
