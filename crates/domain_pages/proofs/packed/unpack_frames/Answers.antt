use Rattle.std.proofs.Common.{◌<◌, length, arith, inl}
use Rattle.domain_pages.proofs.Packs.{unpacks_free, unpacks_owned}
use Rattle.domain_pages.proofs.packed.unpack_frames.Goals as goal
use Rattle.domain_pages.proofs.packed.unpack_frames.Goals.{then-table-page, else-table-page}

pub loop-page-preserved : goal.loop-page-preserved
loop-page-preserved c =
    let within : c.loop-page.page < length c.args.table.now = omega (arith, c.told-table, c.loop-page-test.true) in
    elim c.if-table-page.branch [
      | then-table-page w ↦
          rw (w.rest-is, w.frames-is, w.split_at.ensures.back)
          (unpacks_owned c.args.table.now c.args.words.now c.loop-page.frames c.loop-page.rest.now w.split_at.result.0.now w.put_frame.new.frames c.loop-page.page within c.loop-page-test.true w.if-table-page.true c.loop-page.invariant w.split_at.ensures.front w.put_frame.ensures.size w.put_frame.ensures.inside (λ k low. w.put_frame.ensures.outside k (inl low)))
      | else-table-page w ↦
          rw (w.rest-is, w.frames-is)
          (unpacks_free c.args.table.now c.args.words.now c.loop-page.frames c.loop-page.rest.now c.loop-page.page within w.if-table-page.false c.loop-page.invariant)
    ]
