use Rattle.std.proofs.Common.{◌≡◌, ◌++◌, take, drop}
use Rattle.std.specs.Prelude.{take_while}
use Rattle.asm_defs.specs.Views.Assembling.{is_before_comment}
use Rattle.driver_asm.proofs.pieces.before_comment.Given as goal

abbrev pub invariant-loop-i : goal.invariant-loop-i
invariant-loop-i l = take_while is_before_comment l.line ≡ take l.i l.line ++ take_while is_before_comment (drop l.i l.line)
