use Rattle.std.proofs.Common.{◌≡◌, ◌++◌, drop}
use Rattle.std.specs.Prelude.{flat_map, string_bytes}
use Rattle.asm_defs.specs.Disassembler.{entry_lines, line_text}
use Rattle.driver_asm.proofs.texts.push_entries.Given as goal

abbrev pub invariant-loop-entry : goal.invariant-loop-entry
invariant-loop-entry l =
    string_bytes l.text ++ flat_map line_text (entry_lines (drop l.entry-index l.entries) l.rest)
    ≡ string_bytes l.initial.text ++ flat_map line_text (entry_lines l.entries l.addresses)
