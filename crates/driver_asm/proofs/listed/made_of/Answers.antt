use Rattle.std.proofs.Common.{arith, ap}
use Rattle.asm_defs.specs.AsmLines.{first_of}
use Rattle.asm_defs.specs.Assembler.{at_line}
use Rattle.asm_defs.specs.declared.assembler.Section.TheVariants as section
use Rattle.driver_asm.proofs.Lines.{draft_fails, draft_more}
use Rattle.driver_asm.proofs.MadeLines.{draft_done, made_passed, makers_done, makers_more}
use Rattle.driver_asm.proofs.listed.made_of.Goals as goal

pub returns-in_err-made : goal.returns-in_err-made
returns-in_err-made c =
    let fails = draft_fails (first_of c.args.labels.now) c.loop-line.number c.loop-line.line-index c.args.lines.now _ c.loop-line.made.draft _ c.in_err-made.field-0.0 c.loop-line-test.true c.in_err-made.ensures c.loop-line.invariant.draft in
    made_passed c.from_residual.result c.in_err-made.field-0.0 _ _ _ c.from_residual.ensures.1 fails

pub loop-line-preserved : goal.loop-line-preserved
loop-line-preserved c = record {
  number = omega arith;
  draft = draft_more (first_of c.args.labels.now) c.loop-line.number c.loop-line.line-index c.args.lines.now _ c.loop-line.made.draft c.in_ok-made.made.draft _ c.loop-line-test.true
      (ap (at_line c.loop-line.number) c.in_ok-made.ensures.0) c.loop-line.invariant.draft;
  text = makers_more section.Text (first_of c.args.labels.now) c.loop-line.number c.loop-line.line-index c.args.lines.now _ c.loop-line.made.draft c.in_ok-made.made.draft
      c.loop-line.made.text_lines c.in_ok-made.made.text_lines _ c.loop-line-test.true c.in_ok-made.ensures.0 c.in_ok-made.ensures.1 c.loop-line.invariant.text;
  initial = makers_more section.Data (first_of c.args.labels.now) c.loop-line.number c.loop-line.line-index c.args.lines.now _ c.loop-line.made.draft c.in_ok-made.made.draft
      c.loop-line.made.initial_lines c.in_ok-made.made.initial_lines _ c.loop-line-test.true c.in_ok-made.ensures.0 c.in_ok-made.ensures.2 c.loop-line.invariant.initial;
}

pub returns : goal.returns
returns c = (
  draft_done (first_of c.args.labels.now) c.loop-line.number c.loop-line.line-index c.args.lines.now c.loop-line.made.draft _ c.loop-line-test.false c.loop-line.invariant.draft,
  makers_done section.Text (first_of c.args.labels.now) c.loop-line.number c.loop-line.line-index c.args.lines.now c.loop-line.made.draft _ _ c.loop-line-test.false c.loop-line.invariant.text,
  makers_done section.Data (first_of c.args.labels.now) c.loop-line.number c.loop-line.line-index c.args.lines.now c.loop-line.made.draft _ _ c.loop-line-test.false c.loop-line.invariant.initial,
)
