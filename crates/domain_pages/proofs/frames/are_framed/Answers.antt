use Rattle.std.proofs.Common.{◌/◌, arith}
use Rattle.domain_pages.proofs.Own.{before_end}
use Rattle.domain_pages.proofs.frames.are_framed.Goals as goal

pub returns : goal.returns
returns c = λ framed k low high.
    let before = before_end c.args.start c.args.count c.page_end-page-end.result k c.page_end-page-end.ensures.pages low high in
    c.loop-page.invariant (k / 64) (omega (arith, low)) (omega (arith, before, c.loop-page-test.false))
