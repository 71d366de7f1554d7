use Rattle.std.proofs.Common.{[], arith}
use Rattle.std.specs.Vec.{with_items}
use Rattle.domain_pages.proofs.Decoded.{entries_back}
use Rattle.domain_pages.proofs.Packs.{end_again, text_again, with_back}
use Rattle.domain_pages.proofs.Renewed.{map_renewed}
use Rattle.domain_pages.proofs.Shown.{framed_opening, items_back}
use Rattle.domain_pages.proofs.Texts.{text_opening}
use Rattle.domain_pages.proofs.map.PageMap.renewed.Goals as goal

pub invariant_of-result : goal.invariant_of-result
invariant_of-result c =
    let o = c.self.inside in
    let own = c.renew_objects.new.frames in
    let text = c.put_text.new.text in
    let ds = c.put_text.new.decoded in
    let outside = rw c.deref_mut.ensures.value at c.put_text.ensures.outside in
    let zeros = text_again o.text.items [] text o.text_end o.text_end c.self.invariant.2 (omega arith) (omega arith) c.put_text.ensures.inside outside in
    let back = items_back 8192 o.frames own c.self.invariant.0.frames_all c.renew_objects.ensures.size in
    let texts = items_back 2048 o.text text c.self.invariant.1.size c.put_text.ensures.size in
    let again = c.put_text.ensures.decoded in
    let entries = entries_back o.decoded ds c.self.invariant.3.size again.size in
    rw (c.opening_table.ensures, c.new.ensures)
    (with_back _ (with_items o.frames own).items own (with_items o.text text).items text [] 0 (with_items o.decoded ds).items ds back texts entries
    (framed_opening own c.renew_objects.ensures.size) (text_opening own text [] c.put_text.ensures.size) (end_again [] text (omega arith) zeros) again)

pub returns : goal.returns
returns c =
    let o = c.self.inside in
    let own = c.renew_objects.new.frames in
    let text = c.put_text.new.text in
    let outside = rw c.deref_mut.ensures.value at c.put_text.ensures.outside in
    let zeros = text_again o.text.items [] text o.text_end o.text_end c.self.invariant.2 (omega arith) (omega arith) c.put_text.ensures.inside outside in
    let back = items_back 8192 o.frames own c.self.invariant.0.frames_all c.renew_objects.ensures.size in
    let texts = items_back 2048 o.text text c.self.invariant.1.size c.put_text.ensures.size in
    rw (c.opening_table.ensures, c.new.ensures)
    (map_renewed (with_items o.frames own).items own (with_items o.text text).items text back texts c.renew_objects.ensures.size c.renew_objects.ensures.objects zeros)
