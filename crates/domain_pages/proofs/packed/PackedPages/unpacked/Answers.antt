use Rattle.std.proofs.Common.{◌≤◌, arith, length}
use Rattle.std.specs.Vec.{with_items}
use Rattle.domain_pages.proofs.Decoded.{entries_back}
use Rattle.domain_pages.proofs.Packs.{is_map_again, map_again_back, text_again, with_back}
use Rattle.domain_pages.proofs.Shown.{items_back}
use Rattle.domain_pages.proofs.packed.PackedPages.unpacked.Goals as goal

pub invariant_of-result : goal.invariant_of-result
invariant_of-result c =
    let p = c.self.inside in
    let o = c.over.inside in
    let own = c.unpack_frames.new.frames in
    let text = c.put_text.new.text in
    let ds = c.put_text.new.decoded in
    let same = rw c.as_slice.ensures at c.unpack_frames.ensures.same in
    let inside = rw c.as_slice-2.ensures at c.put_text.ensures.inside in
    let outside = rw c.deref_mut-2.ensures.value at c.put_text.ensures.outside in
    let some : o.text_end ≤ c.max-end.result = omega (arith, c.max-end.ensures, c.len.ensures) in
    let fits : length p.text ≤ c.max-end.result = omega (arith, c.max-end.ensures, c.len.ensures) in
    let fetched = text_again o.text.items p.text text o.text_end c.max-end.result c.over.invariant.2 some fits inside outside in
    let back = items_back 8192 o.frames own c.over.invariant.0.frames_all c.unpack_frames.ensures.size in
    let texts = items_back 2048 o.text text c.over.invariant.1.size c.put_text.ensures.size in
    let all = is_map_again p.table p.words own p.text text p.initial c.self.invariant c.unpack_frames.ensures.size c.put_text.ensures.size same fetched in
    let again = c.put_text.ensures.decoded in
    let entries = entries_back o.decoded ds c.over.invariant.3.size again.size in
    rw (c.len-2.ensures, c.in_ok-initial.ensures)
    (with_back p.table (with_items o.frames own).items own (with_items o.text text).items text p.initial (length p.text) (with_items o.decoded ds).items ds back texts entries all.0 all.1 all.2 again)

pub returns : goal.returns
returns c =
    let p = c.self.inside in
    let o = c.over.inside in
    let own = c.unpack_frames.new.frames in
    let text = c.put_text.new.text in
    let same = rw c.as_slice.ensures at c.unpack_frames.ensures.same in
    let inside = rw c.as_slice-2.ensures at c.put_text.ensures.inside in
    let outside = rw c.deref_mut-2.ensures.value at c.put_text.ensures.outside in
    let some : o.text_end ≤ c.max-end.result = omega (arith, c.max-end.ensures, c.len.ensures) in
    let fits : length p.text ≤ c.max-end.result = omega (arith, c.max-end.ensures, c.len.ensures) in
    let fetched = text_again o.text.items p.text text o.text_end c.max-end.result c.over.invariant.2 some fits inside outside in
    let back = items_back 8192 o.frames own c.over.invariant.0.frames_all c.unpack_frames.ensures.size in
    let texts = items_back 2048 o.text text c.over.invariant.1.size c.put_text.ensures.size in
    rw (← c.self.view_is)
    (map_again_back p.table p.words (with_items o.frames own).items own p.text (with_items o.text text).items text p.initial _ p.lent back texts c.in_ok-initial.ensures same fetched)
