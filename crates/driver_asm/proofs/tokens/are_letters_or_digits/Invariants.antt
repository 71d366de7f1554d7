use Rattle.std.proofs.Common.{◌≡◌, drop}
use Rattle.std.specs.List.{list_all}
use Rattle.asm_defs.specs.AsmTokens.{is_letter_or_digit}
use Rattle.driver_asm.proofs.tokens.are_letters_or_digits.Given as goal

abbrev pub invariant-loop-byte : goal.invariant-loop-byte
invariant-loop-byte l = list_all is_letter_or_digit l.bytes ≡ list_all is_letter_or_digit (drop l.byte-index l.bytes)
