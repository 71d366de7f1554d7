use Rattle.std.proofs.Common.{◌∙◌}
use Rattle.domain_pages.proofs.Packs.{is_packed_as, packed_map}
use Rattle.domain_pages.proofs.map.PageMap.packed.Goals as goal

pub invariant_of-result : goal.invariant_of-result
invariant_of-result c =
    let p = c.self.inside in
    is_packed_as p.table p.frames.items p.text.items p.initial p.text_end _ _ _ c.packed_frames.ensures.pages c.self.invariant.0 c.self.invariant.1 c.self.invariant.2 (c.from_vec-2.ensures ∙ rw c.deref-2.ensures.value at c.in_ok-words.ensures.words) (c.from_vec.ensures ∙ rw c.deref.ensures.value at c.in_ok-text.ensures.items) c.in_ok-initial.ensures

pub returns : goal.returns
returns c =
    let p = c.self.inside in
    rw (← c.self.view_is)
    (packed_map p.table p.frames.items p.text.items p.initial p.lent p.text_end _ _ _ c.packed_frames.ensures.pages c.self.invariant.0 c.self.invariant.2 (c.from_vec-2.ensures ∙ rw c.deref-2.ensures.value at c.in_ok-words.ensures.words) (c.from_vec.ensures ∙ rw c.deref.ensures.value at c.in_ok-text.ensures.items) c.in_ok-initial.ensures)
