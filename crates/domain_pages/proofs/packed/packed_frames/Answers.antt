use Rattle.std.proofs.Common.{arith, ◌<◌, ◌∙◌, ◌++◌, ℕ, ap, length}
use Rattle.std.specs.Global.{Vec}
use Rattle.domain_pages.proofs.Packs.{packed_more_free, packed_more_owned}
use Rattle.domain_pages.proofs.packed.packed_frames.Goals as goal
use Rattle.domain_pages.proofs.packed.packed_frames.Goals.{then-table-page+in_ok-extend_from_slice, else-table-page}

pub loop-page-preserved : goal.loop-page-preserved
loop-page-preserved c =
    let within : c.loop-page.page < length c.args.table.now = omega (arith, c.told-table, c.loop-page-test.true) in
    elim c.if-table-page.branch [
      | then-table-page+in_ok-extend_from_slice w ↦ packed_more_owned c.args.table.now c.args.frames.now _ c.loop-page.made.items c.if-table-page.made.items c.loop-page.page within w.if-table-page.true (ap (λ (v : Vec ℕ). v.items) w.made-is ∙ w.in_ok-extend_from_slice.ensures.items ∙ ap (λ ys. c.loop-page.made.items ++ ys) w.frame_of.ensures) c.loop-page.invariant
      | else-table-page w ↦ packed_more_free c.args.table.now c.args.frames.now _ c.loop-page.made.items c.if-table-page.made.items c.loop-page.page within w.if-table-page.false (ap (λ (v : Vec ℕ). v.items) w.made-is) c.loop-page.invariant
    ]

pub returns-clause-pages : goal.returns-clause-pages
returns-clause-pages c = c.told-table
