use Rattle.std.proofs.Common.{◌≤◌, arith, length}
use Rattle.domain_pages.proofs.Decoded.{entries_back}
use Rattle.domain_pages.proofs.Packs.{end_again, text_again}
use Rattle.domain_pages.proofs.Shown.{framed_opening, items_back}
use Rattle.domain_pages.proofs.Texts.{pages_with, text_opening}
use Rattle.domain_pages.proofs.map.PageMap.load.Goals as goal

pub invariant_of-self : goal.invariant_of-self
invariant_of-self c =
    let p = c.self.inside in
    let image = c.args.image.now in
    let text = c.put_text.new.text in
    let inside = rw c.as_slice.ensures at c.put_text.ensures.inside in
    let outside = rw c.deref_mut.ensures.value at c.put_text.ensures.outside in
    let some : p.text_end ≤ c.max-end.result = omega (arith, c.max-end.ensures, c.len.ensures) in
    let fits : length image.text ≤ c.max-end.result = omega (arith, c.max-end.ensures, c.len.ensures) in
    let same = text_again p.text.items image.text text p.text_end c.max-end.result c.self.invariant.2 some fits inside outside in
    let texts = items_back 2048 p.text text c.self.invariant.1.size c.put_text.ensures.size in
    let again = c.put_text.ensures.decoded in
    let entries = entries_back p.decoded c.put_text.new.decoded c.self.invariant.3.size again.size in
    rw (c.opening_table-self-inside.ensures, c.len-self-inside.ensures, texts, entries) (
      framed_opening _ c.self.invariant.0.frames_all,
      text_opening _ text _ c.put_text.ensures.size,
      end_again image.text text c.requires.text same,
      again,
    )

pub returns-clause-ok : goal.returns-clause-ok
returns-clause-ok c =
    let p = c.self.inside in
    let image = c.args.image.now in
    let text = c.put_text.new.text in
    let inside = rw c.as_slice.ensures at c.put_text.ensures.inside in
    let outside = rw c.deref_mut.ensures.value at c.put_text.ensures.outside in
    let some : p.text_end ≤ c.max-end.result = omega (arith, c.max-end.ensures, c.len.ensures) in
    let fits : length image.text ≤ c.max-end.result = omega (arith, c.max-end.ensures, c.len.ensures) in
    let same = text_again p.text.items image.text text p.text_end c.max-end.result c.self.invariant.2 some fits inside outside in
    let texts = items_back 2048 p.text text c.self.invariant.1.size c.put_text.ensures.size in
    rw (← c.self.view_is, c.opening_table-self-inside.ensures, c.in_ok-initial.ensures, texts)
    (pages_with p.table p.frames.items p.text.items text p.initial p.lent image c.self.invariant.0 c.requires.text c.requires.initial same)
