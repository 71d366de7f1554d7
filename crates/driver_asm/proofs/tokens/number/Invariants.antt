use Rattle.std.proofs.Common.{◌≡◌, true, take, drop}
use Rattle.std.specs.Char.{is_digit}
use Rattle.std.specs.List.{list_all}
use Rattle.asm_defs.specs.AsmTokens.{numeral_value}
use Rattle.driver_asm.proofs.tokens.number.Given as goal

abbrev pub invariant-loop-byte : goal.invariant-loop-byte
invariant-loop-byte l = record {
  digits : list_all (λ byte. is_digit byte l.base) (drop l.byte-index l.bytes) ≡ true;
  number : l.number ≡ numeral_value l.base (take l.byte-index l.bytes);
}
