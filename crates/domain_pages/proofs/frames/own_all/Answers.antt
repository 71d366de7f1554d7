use Rattle.std.proofs.Common.{◌≡◌, ◌∙◌, ap, arith, length, refl, sym, true}
use Rattle.std.proofs.lemmas.List.{length-set}
use Rattle.domain_pages.proofs.Own.{owned_begins, owned_more}
use Rattle.domain_pages.proofs.frames.own_all.Goals as goal

pub loop-page-init : goal.loop-page-init
loop-page-init c = (c.requires.frames, owned_begins _ _, λ k lt. refl)

pub loop-page-preserved : goal.loop-page-preserved
loop-page-preserved c =
    let now = c.loop-page.table in
    let long : length now ≡ 128 =
    sym (length-set now c.loop-page.page true) ∙ sym (ap length c.own.ensures.table) ∙ c.own.array_long in (
      c.own.ensures.size,
      rw c.own.ensures.table
          (owned_more _ now _ _ (omega (arith, c.loop-page.auto.page)) (omega (arith, long, c.loop-page-test.true, c.page_end-page-end.ensures.most)) c.loop-page.invariant.1),
      λ k lt. c.own.ensures.same k lt ∙ c.loop-page.invariant.2 k lt,
    )
