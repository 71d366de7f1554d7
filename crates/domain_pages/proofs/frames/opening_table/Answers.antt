use Rattle.std.proofs.Common.{◌≡◌, ◌∙◌, ap, arith, true, slice_set}
use Rattle.domain_pages.proofs.Shown.{table_more, table_done}
use Rattle.domain_pages.proofs.frames.opening_table.Goals as goal

pub loop-page-preserved : goal.loop-page-preserved
loop-page-preserved c =
    ap (λ t. slice_set t c.loop-page.page true) c.loop-page.invariant
    ∙ table_more c.loop-page.page c.loop-page.auto.page c.loop-page-test.true

pub returns : goal.returns
returns c =
    let last : c.loop-page.page ≡ 128 = omega (arith, c.loop-page-test.false, c.loop-page.auto.page-end) in
    rw last at c.loop-page.invariant ∙ table_done
