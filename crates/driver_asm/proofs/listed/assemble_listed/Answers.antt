use Rattle.std.proofs.Common.{◌∙◌}
use Rattle.driver_asm.proofs.Lines.{error_passed, whole_by, whole_fails}
use Rattle.driver_asm.proofs.MadeLines.{fails_if, listed_by, listed_fails}
use Rattle.driver_asm.proofs.listed.assemble_listed.Goals as goal

pub returns-in_err-made : goal.returns-in_err-made
returns-in_err-made c =
    let whole = whole_fails c.args.text.now c.in_ok-lines.lines.items c.deref.result.now c.deref-2.result.now c.in_ok-labels.labels c.in_err-made.field-0.0
    c.in_ok-lines.ensures c.deref.ensures.value c.deref-2.ensures.value c.in_ok-labels.ensures c.in_err-made.ensures in
    error_passed c.from_residual-in_err-made.result c.in_err-made.field-0.0 _ c.from_residual-in_err-made.ensures.1 (listed_fails c.args.text.now c.in_err-made.field-0.0 whole)

pub returns-in_err-image : goal.returns-in_err-image
returns-in_err-image c =
    let whole = whole_by c.args.text.now c.in_ok-lines.lines.items c.deref.result.now c.deref-2.result.now c.deref-3.result.now c.in_ok-labels.labels c.in_ok-made.made.draft c.line_following.result
    c.in_ok-lines.ensures c.deref.ensures.value c.deref-2.ensures.value c.deref-3.ensures.value c.in_ok-labels.ensures c.in_ok-made.ensures.0 c.line_following.ensures in
    error_passed c.from_residual-in_err-image.result c.in_err-image.field-0.0 _ c.from_residual-in_err-image.ensures.1
    (listed_fails c.args.text.now c.in_err-image.field-0.0 (fails_if _ _ c.in_err-image.field-0.0 whole (c.in_err-image.ensures _ c.into_image.ensures)))

pub returns : goal.returns
returns c =
    let whole = whole_by c.args.text.now c.in_ok-lines.lines.items c.deref.result.now c.deref-2.result.now c.deref-3.result.now c.in_ok-labels.labels c.in_ok-made.made.draft c.line_following.result
    c.in_ok-lines.ensures c.deref.ensures.value c.deref-2.ensures.value c.deref-3.ensures.value c.in_ok-labels.ensures c.in_ok-made.ensures.0 c.line_following.ensures in
    rw c.into_items.ensures
    (listed_by c.args.text.now c.in_ok-lines.lines.items c.deref.result.now c.deref-2.result.now c.in_ok-made.made.text_lines c.in_ok-made.made.initial_lines c.in_ok-labels.labels c.in_ok-image.image
    c.in_ok-lines.ensures c.deref.ensures.value c.deref-2.ensures.value c.in_ok-labels.ensures c.in_ok-made.ensures.1 c.in_ok-made.ensures.2
    (whole ∙ c.in_ok-image.ensures _ c.into_image.ensures))
