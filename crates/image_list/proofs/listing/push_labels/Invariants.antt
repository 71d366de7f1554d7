use Rattle.std.proofs.Common.{◌≡◌, ◌++◌, drop, map}
use Rattle.std.specs.Prelude.{flat_map}
use Rattle.asm_defs.specs.Disassembler.{line_text}
use Rattle.image_list.specs.ListText.{label_tokens}
use Rattle.image_list.proofs.listing.push_labels.Given as goal

abbrev pub invariant-loop-label : goal.invariant-loop-label
invariant-loop-label l = l.text.items ++ flat_map line_text (map label_tokens (drop l.label-index l.labels))
    ≡ l.initial.text.items ++ flat_map line_text (map label_tokens l.labels)
