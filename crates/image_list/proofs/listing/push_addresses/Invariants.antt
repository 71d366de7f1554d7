use Rattle.std.proofs.Common.{◌≡◌, ◌++◌, drop, map}
use Rattle.std.specs.Prelude.{flat_map}
use Rattle.asm_defs.specs.Disassembler.{line_text}
use Rattle.asm_defs.specs.Keys.{key_text}
use Rattle.image_list.specs.ListText.{named_entries}
use Rattle.image_list.proofs.listing.push_addresses.Given as goal

abbrev pub invariant-loop-entry : goal.invariant-loop-entry
invariant-loop-entry l = l.text.items ++ flat_map line_text (named_entries (map key_text (drop l.entry-index l.entries)) l.rest)
    ≡ l.initial.text.items ++ flat_map line_text (named_entries (map key_text l.entries) l.addresses)
