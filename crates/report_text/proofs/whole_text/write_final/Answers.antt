use Rattle.report_text.proofs.WholeLemmas.{final_same}
use Rattle.report_text.proofs.whole_text.write_final.Goals as goal

pub returns-clause-text : goal.returns-clause-text
returns-clause-text g c = λ p h k.
    rw (← final_same c.args.spec.now c.args.events.now c.args.summed.now p c.args.end.now h k) c.write_final_rows.ensures
