use Rattle.std.proofs.Common.{arith}
use Rattle.asm_defs.specs.AsmLines.{first_of}
use Rattle.driver_asm.proofs.Lines.{draft_fails, draft_more, error_passed}
use Rattle.driver_asm.proofs.passes.draft_of.Goals as goal

pub returns-in_err-draft : goal.returns-in_err-draft
returns-in_err-draft c =
    let fails = draft_fails (first_of c.args.labels.now) c.loop-line.number c.loop-line.line-index c.args.lines.now _ c.loop-line.draft _ c.in_err-draft.field-0.0 c.loop-line-test.true c.in_err-draft.ensures c.loop-line.invariant.draft in
    error_passed c.from_residual.result c.in_err-draft.field-0.0 _ c.from_residual.ensures.1 fails

pub loop-line-preserved : goal.loop-line-preserved
loop-line-preserved c = record {
  number = omega arith;
  draft = draft_more (first_of c.args.labels.now) c.loop-line.number c.loop-line.line-index c.args.lines.now _ c.loop-line.draft c.in_ok-draft.draft _ c.loop-line-test.true
      c.in_ok-draft.ensures c.loop-line.invariant.draft;
}
