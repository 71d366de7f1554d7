use Rattle.std.proofs.Common.{sym, ◌∙◌}
use Rattle.run_results.proofs.ResultLemmas.{gone_past}
use Rattle.run_results.proofs.report.is_gone.Goals as goal

pub returns-then-parts-i : goal.returns-then-parts-i
returns-then-parts-i c =
    sym (c.loop-i.invariant ∙ gone_past c.args.specs.now c.args.parts.now c.loop-i.i c.if-parts-i.true)
