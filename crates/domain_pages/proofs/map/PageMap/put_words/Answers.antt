use Rattle.std.proofs.Common.{◌∙◌, arith, inl, inr}
use Rattle.std.proofs.lemmas.Bool.{cases_lt}
use Rattle.std.proofs.lemmas.List.{length-take}
use Rattle.std.specs.Vec.{with_items}
use Rattle.domain_pages.specs.Decoding.{IsDecoded}
use Rattle.domain_pages.proofs.Decoded.{entries_back, kept_outside}
use Rattle.domain_pages.proofs.Packs.{end_put_all, with_back}
use Rattle.domain_pages.proofs.Shown.{items_back}
use Rattle.domain_pages.proofs.map.PageMap.put_words.Goals as goal

pub invariant_of-self : goal.invariant_of-self
invariant_of-self c =
    let p = c.self.inside in
    let own = c.put_all.new.frames in
    let text = c.put_all.new.text in
    let words = rw (c.deref_mut.ensures.value, c.deref_mut-2.ensures.value, c.as_slice.ensures) at c.put_all.ensures.words in
    let framed = rw c.deref_mut.ensures.value at c.put_all.ensures.framed in
    let shows = rw c.as_slice.ensures at c.put_all.ensures.text in
    let all = framed c.self.invariant.0 in
    let back = items_back 8192 p.frames own c.self.invariant.0.frames_all all.frames_all in
    let texts = items_back 2048 p.text text c.self.invariant.1.size c.put_all.ensures.text.size in
    let end = c.end_after-self-inside in
    let ds = c.decode_range.new.decoded in
    let again : IsDecoded ds text = rw (c.as_slice-2.ensures.value ∙ texts) at c.decode_range.ensures in
    let entries = entries_back p.decoded ds c.self.invariant.3.size again.size in
    with_back c.put_all.new.table (with_items p.frames own).items own (with_items p.text text).items text p.initial end.result (with_items p.decoded ds).items ds back texts entries
    all shows
    (end_put_all p.table c.put_all.new.table p.frames.items own p.text.items text p.initial c.args.words.now p.text_end end.result c.args.start c.args.count c.self.invariant.1 shows c.self.invariant.2 c.requires.within c.requires.fits words end.ensures.within end.ensures.kept end.ensures.written)
    again

pub returns-clause-pages : goal.returns-clause-pages
returns-clause-pages c = rw (← c.self.view_is) (omega (arith, length-take 115 c.self.inside.table))

pub decode_range-requires-clause-outside : goal.decode_range-requires-clause-outside
decode_range-requires-clause-outside c =
    let p = c.self.inside in
    let text = c.put_all.new.text in
    let size = c.put_all.ensures.text.size in
    let texts = items_back 2048 p.text text c.self.invariant.1.size size in
    let same = rw c.deref_mut-2.ensures.value at c.put_all.ensures.unchanged in
    rw (c.deref_mut-3.ensures.value, c.as_slice-2.ensures.value ∙ texts)
    (kept_outside p.decoded.items p.text.items text c.args.start c.args.count c.min-end.result c.self.invariant.3 c.self.invariant.1.size size same
    (λ k after. elim (cases_lt k 2048) [
      | inl low ↦ inl (omega (arith, c.min-end.ensures, after, low))
      | inr high ↦ inr high
    ]))
