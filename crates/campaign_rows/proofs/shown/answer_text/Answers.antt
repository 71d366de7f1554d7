use Rattle.std.proofs.Common.{rules}
use Rattle.report_text.proofs.WroteLemmas.{answer_lines_each}
use Rattle.campaign_rows.proofs.shown.answer_text.Goals as goal

pub returns : goal.returns
returns c = rw (answer_lines_each 1 c.args.answers.now) (search rules)
