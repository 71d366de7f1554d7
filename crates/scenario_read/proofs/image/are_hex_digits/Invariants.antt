use Rattle.std.proofs.Common.{◌≡◌, drop}
use Rattle.std.specs.List.{list_all}
use Rattle.input_defs.specs.Views.Readings.{is_hex_digit}
use Rattle.scenario_read.proofs.image.are_hex_digits.Given as goal

abbrev pub invariant-loop-digit : goal.invariant-loop-digit
invariant-loop-digit l = list_all is_hex_digit l.digits ≡ list_all is_hex_digit (drop l.digit-index l.digits)
