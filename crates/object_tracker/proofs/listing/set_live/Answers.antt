use Rattle.std.proofs.Common.{◌+◌, ◌<◌, length, remove, arith}
use Rattle.std.proofs.lemmas.List.Edits.{length-insert, length-remove}
use Rattle.object_tracker.proofs.Steps.{live_one}
use Rattle.object_tracker.proofs.listing.set_live.Goals as goal

pub insert-requires-clause-room : goal.insert-requires-clause-room
insert-requires-clause-room c =
    let within : c.loop-index.index < length c.loop-index.entries = omega (arith, c.loop-index-test.true, c.len-index-end.ensures, c.loop-index.invariant.0) in
    rw c.remove.ensures (omega (arith, length-remove c.loop-index.entries c.loop-index.index within, c.loop-index.invariant.0, c.requires))

pub loop-index-preserved : goal.loop-index-preserved
loop-index-preserved c =
    let es = c.loop-index.entries in
    let index = c.loop-index.index in
    let first : index < length c.args.entries.now = omega (arith, c.loop-index-test.true, c.len-index-end.ensures) in
    let within : index < length es = omega (arith, first, c.loop-index.invariant.0) in
    let less = length-remove es index within in (
      rw (c.insert.ensures, c.remove.ensures) (omega (arith, less, length-insert (remove es index) index c.with_live-entry.result (omega (arith, less, within)), c.loop-index.invariant.0)),
      rw (c.insert.ensures, c.remove.ensures, c.with_live-entry.ensures)
          (live_one c.args.live c.args.entries.now es index (index + 1) c.get.result first (omega arith) c.loop-index.invariant.1 c.get.ensures),
    )
