use Rattle.std.proofs.Common.{◌≡◌, ◌+◌, ◌++◌, drop, map}
use Rattle.std.specs.Prelude.{flat_map, string_bytes}
use Rattle.asm_defs.specs.Disassembler.{line_text}
use Rattle.image_list.specs.ListText.{row_tokens, rows_from}
use Rattle.image_list.proofs.listing.push_rows.Given as goal

abbrev pub invariant-loop-word : goal.invariant-loop-word
invariant-loop-word l = record {
  address : l.address ≡ l.first + l.word-index;
  text : string_bytes l.text ++ flat_map line_text (map (row_tokens l.section) (rows_from l.address (drop l.word-index l.words) l.rest))
      ≡ string_bytes l.initial.text ++ flat_map line_text (map (row_tokens l.section) (rows_from l.first l.words l.lines));
}
