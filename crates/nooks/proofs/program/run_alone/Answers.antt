use Rattle.std.proofs.Common.{refl, arith}
use Rattle.nooks.proofs.Called.{form_ended, unformed_ended}
use Rattle.nooks.proofs.Written.{no_form_ends}
use Rattle.nooks.proofs.program.run_alone.Goals as goal

pub returns-in-Some-clause-ends : goal.returns-in-Some-clause-ends
returns-in-Some-clause-ends g c =
    form_ended _ c.in-Some.asked _ _ _ c.run_form.result c.in-Some.ensures.found c.run_form.ensures.ends c.run_form.ensures.taken
    c.run_form.ensures.source_later c.run_form.ensures.sink_later c.run_form.ensures.source_kept c.run_form.ensures.sink_kept

pub returns-in-None-clause-ends : goal.returns-in-None-clause-ends
returns-in-None-clause-ends g c =
    unformed_ended _ _ _ _ c.finish.result c.in-None.ensures.none (no_form_ends _ _ _ _ c.finish.result refl c.finish.ensures.ends)
    (omega arith) c.finish.ensures.later (λ other. refl) c.finish.ensures.kept
