use Rattle.report_text.proofs.WroteLemmas.{answer_lines_each}
use Rattle.report_text.proofs.write.write_answers.Goals as goal

pub returns : goal.returns
returns g c = rw (answer_lines_each 1 c.args.answers.now) c.write_each.ensures
