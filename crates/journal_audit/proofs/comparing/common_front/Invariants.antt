use Rattle.std.proofs.Common.{◌≡◌, take}
use Rattle.journal_audit.proofs.comparing.common_front.Given as goal

abbrev pub invariant-loop-i : goal.invariant-loop-i
invariant-loop-i l = take l.i l.piece ≡ take l.i l.text
