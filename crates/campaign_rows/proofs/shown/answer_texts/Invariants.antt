use Rattle.std.proofs.Common.{◌≡◌, ◌++◌, drop}
use Rattle.campaign_defs.specs.Rows.{answer_texts}
use Rattle.campaign_rows.proofs.shown.answer_texts.Given as goal

abbrev pub invariant-loop-own : goal.invariant-loop-own
invariant-loop-own l = l.texts ++ answer_texts (drop l.own-index l.answers) ≡ answer_texts l.answers
