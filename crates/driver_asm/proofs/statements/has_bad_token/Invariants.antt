use Rattle.std.proofs.Common.{◌≡◌, drop}
use Rattle.asm_defs.specs.AsmLines.{has_bad_token}
use Rattle.driver_asm.proofs.statements.has_bad_token.Given as goal

abbrev pub invariant-loop-token : goal.invariant-loop-token
invariant-loop-token l = has_bad_token l.tokens ≡ has_bad_token (drop l.token-index l.tokens)
