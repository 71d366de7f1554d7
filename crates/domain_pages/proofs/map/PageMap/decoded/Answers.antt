use Rattle.std.proofs.Common.{List, subst, sym}
use Rattle.driver_isa.specs.Entries.{IsDecodedText}
use Rattle.driver_isa.specs.declared.instructions.Decoded.{Decoded}
use Rattle.domain_pages.specs.Frames.{shown}
use Rattle.domain_pages.proofs.Decoded.{text_decoded}
use Rattle.domain_pages.proofs.Texts.{text_shown}
use Rattle.domain_pages.proofs.map.PageMap.decoded.Goals as goal

pub returns : goal.returns
returns c =
    let p = c.self.inside in
    rw (← c.self.view_is)
    (subst (λ (ds : List Decoded). IsDecodedText ds (shown p.table p.frames.items p.text.items p.initial)) (sym c.as_slice.ensures.value)
    (text_decoded p.decoded.items p.text.items (shown p.table p.frames.items p.text.items p.initial) c.self.invariant.1.size c.self.invariant.3
    (λ k low. text_shown p.table p.frames.items p.text.items p.initial k c.self.invariant.1 low)))
