use Rattle.std.proofs.Common.{◌≡◌, ◌-◌, drop, length, replicate, bytes_eq}
use Rattle.report_text.proofs.whole_text.all_zeros.Given as goal

abbrev pub invariant-loop-word : goal.invariant-loop-word
invariant-loop-word l = bytes_eq l.words (replicate (length l.words) 0) ≡ bytes_eq (drop l.word-index l.words) (replicate (length l.words - l.word-index) 0)
