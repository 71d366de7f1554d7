use Rattle.std.proofs.Common.{◌∙◌, ℕ, length, ap, refl, rules}
use Rattle.std.proofs.lemmas.List.{length-replicate}
use Rattle.domain_pages.proofs.Decoded.{zeros_decoded}
use Rattle.domain_pages.proofs.Packs.{end_of_zeros}
use Rattle.domain_pages.proofs.Shown.{framed_opening, length-opening, lent_opening, take_opening}
use Rattle.domain_pages.proofs.Texts.{shown_zeros, text_opening}
use Rattle.domain_pages.proofs.map.PageMap.new.Goals as goal

pub invariant_of-result : goal.invariant_of-result
invariant_of-result c =
    rw c.opening_table.ensures (
      framed_opening _ (ap length c.in_ok-frames.ensures ∙ length-opening),
      text_opening _ _ _ (ap length (c.in_ok-text.ensures.items_if_clones_equal (search rules)) ∙ length-replicate {A = ℕ} 2048 0),
      rw (c.in_ok-text.ensures.items_if_clones_equal (search rules)) (end_of_zeros 2048),
      rw (c.in_ok-text.ensures.items_if_clones_equal (search rules), c.in_ok-decoded.ensures.items_if_clones_equal (search rules)) (zeros_decoded c.entry_of.result c.entry_of.ensures),
    )

pub returns : goal.returns
returns c =
    rw (
      c.opening_table.ensures,
      c.new.ensures,
      c.in_ok-text.ensures.items_if_clones_equal (search rules),
      shown_zeros c.in_ok-frames.frames.items c.in_ok-frames.ensures,
      take_opening,
      lent_opening,
    ) refl
