use Rattle.std.proofs.Common.{◌≡◌, ◌++◌, drop, map}
use Rattle.std.specs.Prelude.{filter}
use Rattle.asm_defs.specs.AsmTokens.{is_not_empty, tokens_of}
use Rattle.driver_asm.proofs.pieces.tokens_of.Given as goal

abbrev pub invariant-loop-piece : goal.invariant-loop-piece
invariant-loop-piece l = l.tokens.items ++ filter is_not_empty (map (λ piece. piece.now) (drop l.piece-index l.piece-items)) ≡ tokens_of l.line
