use Rattle.std.proofs.Common.{◌≡◌, ◌++◌, drop, map}
use Rattle.std.specs.Prelude.{flat_map, string_bytes}
use Rattle.asm_defs.specs.Disassembler.{line_text, word_tokens}
use Rattle.driver_asm.proofs.texts.push_words.Given as goal

abbrev pub invariant-loop-word : goal.invariant-loop-word
invariant-loop-word l = string_bytes l.text ++ flat_map line_text (map word_tokens (drop l.word-index l.words)) ≡ string_bytes l.initial.text ++ flat_map line_text (map word_tokens l.words)
