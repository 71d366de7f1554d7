use Rattle.driver_asm.proofs.Lines.{whole_by}
use Rattle.driver_asm.proofs.passes.assemble.Goals as goal

pub returns : goal.returns
returns c =
    rw (whole_by c.args.text.now c.in_ok-lines.lines.items c.deref.result.now c.deref-2.result.now c.deref-3.result.now c.in_ok-labels.labels c.in_ok-draft.draft c.line_following.result
    c.in_ok-lines.ensures c.deref.ensures.value c.deref-2.ensures.value c.deref-3.ensures.value c.in_ok-labels.ensures c.in_ok-draft.ensures c.line_following.ensures)
    (c.at_line.ensures _ c.into_image.ensures)
