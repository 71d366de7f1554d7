use Rattle.std.specs.Prelude.{⊤}
use Rattle.std.specs.Str.{chars}
use Rattle.std.specs.Fmt.{digits}
use Rattle.std.specs.Char.{encode_utf8}
use Rattle.asm_defs.specs.AsmTokens.{lines_of, tokens_of, is_label_name, is_numeral, kind_of, register_named}
use Rattle.asm_defs.specs.AsmLines.{value_of, operands_of, word_statement, class_statement, entry_statement}
use Rattle.asm_defs.specs.AsmLines.{directive_statement, statement_of, line_says}
use Rattle.asm_defs.specs.Assembler.{labels_from, draft_after, draft_from, assembled}
use Rattle.asm_defs.specs.Disassembler.{image_lines, disassembled}
use Rattle.nook_data.specs.ClassNames.{class_named}
use Rattle.machine_defs.specs.Mnemonics.{mnemonic_named}

-- what a law unfolds to compute the definitions of assembler texts on literals
unfoldable pub asm_on_literals : ⊤
unfolding chars encode_utf8 digits
    lines_of tokens_of is_label_name is_numeral kind_of register_named mnemonic_named value_of operands_of
    word_statement class_statement entry_statement directive_statement statement_of line_says labels_from draft_after draft_from
    assembled image_lines disassembled class_named
asm_on_literals = tt
