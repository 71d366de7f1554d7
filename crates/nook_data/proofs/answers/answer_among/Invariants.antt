use Rattle.std.proofs.Common.{◌≡◌, drop}
use Rattle.nook_data.specs.Answers.{answer_among}
use Rattle.nook_data.proofs.answers.answer_among.Given as goal

abbrev pub invariant-loop-this : goal.invariant-loop-this
invariant-loop-this l = answer_among l.call (drop l.this-index l.answers) ≡ answer_among l.call l.answers
