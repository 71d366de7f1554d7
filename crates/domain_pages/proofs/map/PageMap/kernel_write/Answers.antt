use Rattle.std.specs.Vec.{with_items}
use Rattle.domain_pages.specs.Decoding.{IsDecoded}
use Rattle.domain_pages.proofs.Decoded.{entries_back}
use Rattle.domain_pages.proofs.Packs.{end_put, with_back}
use Rattle.domain_pages.proofs.Shown.{length-shown, items_back, map_put}
use Rattle.domain_pages.proofs.map.PageMap.kernel_write.Goals as goal

pub invariant_of-self : goal.invariant_of-self
invariant_of-self c =
    let p = c.self.inside in
    let own = c.put.new.frames in
    let text = c.put.new.text in
    let words = rw (c.deref_mut.ensures.value, c.deref_mut-2.ensures.value, c.as_slice.ensures) at c.put.ensures.words in
    let framed = rw c.deref_mut.ensures.value at c.put.ensures.framed in
    let shows = rw c.as_slice.ensures at c.put.ensures.text in
    let back = items_back 8192 p.frames own c.self.invariant.0.frames_all c.put.ensures.size in
    let texts = items_back 2048 p.text text c.self.invariant.1.size c.put.ensures.text.size in
    let end = c.end_after-self-inside in
    let ds = c.put_decoded.new.decoded in
    let changed = rw c.deref_mut-2.ensures.value at c.put.ensures.changed in
    let decodes = rw c.deref_mut-3.ensures.value at c.put_decoded.ensures in
    let again : IsDecoded ds text = rw changed (decodes p.text.items c.self.invariant.1.size c.self.invariant.3) in
    let entries = entries_back p.decoded ds c.self.invariant.3.size again.size in
    with_back c.put.new.table (with_items p.frames own).items own (with_items p.text text).items text p.initial end.result (with_items p.decoded ds).items ds back texts entries
    (framed c.self.invariant.0) shows
    (end_put p.table c.put.new.table p.frames.items own p.text.items text p.initial p.text_end end.result c.args.address c.args.word c.self.invariant.1 shows c.self.invariant.2 words end.ensures.within end.ensures.kept end.ensures.written)
    again

pub returns-clause-written : goal.returns-clause-written
returns-clause-written c =
    let p = c.self.inside in
    let own = c.put.new.frames in
    let text = c.put.new.text in
    let words = rw (c.deref_mut.ensures.value, c.deref_mut-2.ensures.value, c.as_slice.ensures) at c.put.ensures.words in
    let back = items_back 8192 p.frames own c.self.invariant.0.frames_all c.put.ensures.size in
    let texts = items_back 2048 p.text text c.self.invariant.1.size c.put.ensures.text.size in
    rw (← c.self.view_is)
    (map_put p.table c.put.new.table p.frames.items (with_items p.frames own).items own p.text.items (with_items p.text text).items text p.initial p.lent c.args.address c.args.word back texts c.put.ensures.table words)

pub returns-clause-size : goal.returns-clause-size
returns-clause-size c = rw (← c.self.view_is) (length-shown _ _ _ _)
