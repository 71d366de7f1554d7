use Rattle.std.proofs.Common.{arith}
use Rattle.driver_asm.proofs.Lines.{initial_next, labels_done, labels_more, line_next, text_next}
use Rattle.driver_asm.proofs.passes.labels_of.Goals as goal

pub loop-line-preserved : goal.loop-line-preserved
loop-line-preserved c = record {
  line = omega (arith, line_next _ c.loop-line.at c.in_ok-at.at c.in_ok-at.ensures.addresses);
  text = omega (arith, text_next _ c.loop-line.at c.in_ok-at.at c.in_ok-at.ensures.addresses);
  initial = omega (arith, initial_next _ c.loop-line.at c.in_ok-at.at c.in_ok-at.ensures.addresses);
  labels = labels_more c.loop-line.labels c.following_line.new.labels c.loop-line.at c.in_ok-at.at c.args.lines.now c.loop-line.line-index _ _ c.loop-line-test.true
      c.in_ok-at.ensures.addresses c.in_ok-at.ensures.labels c.loop-line.invariant.labels;
}

pub returns : goal.returns
returns c = labels_done c.loop-line.labels c.loop-line.at c.args.lines.now c.loop-line.line-index _ c.loop-line-test.false c.loop-line.invariant.labels
