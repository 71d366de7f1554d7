use Rattle.std.proofs.Common.{◌≡◌, drop}
use Rattle.std.specs.Char.{is_digit}
use Rattle.std.specs.List.{list_all}
use Rattle.driver_asm.proofs.tokens.are_digits.Given as goal

abbrev pub invariant-loop-byte : goal.invariant-loop-byte
invariant-loop-byte l = list_all (λ byte. is_digit byte l.base) l.bytes ≡ list_all (λ byte. is_digit byte l.base) (drop l.byte-index l.bytes)
