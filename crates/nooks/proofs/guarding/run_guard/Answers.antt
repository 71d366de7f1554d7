use Rattle.nooks.specs.Guardable.{guardable_from}
use Rattle.command_forms.specs.declared.words.Form.TheVariants as form
use Rattle.nooks.proofs.Guards.{guard_answers}
use Rattle.nooks.proofs.Written.{refused}
use Rattle.nooks.proofs.guarding.run_guard.Goals as goal

pub returns-in-Ok-clause-ends : goal.returns-in-Ok-clause-ends
returns-in-Ok-clause-ends g c =
    guard_answers c.args.bytes.now c.in-Ok.scenario _ _ c.report_guarded.result c.in-Ok.ensures.gives c.in-Ok.ensures.room c.report_guarded.ensures.ends

pub returns-in-Err-clause-ends : goal.returns-in-Err-clause-ends
returns-in-Err-clause-ends g c = refused form.Guard c.args.bytes.now _ _ (guardable_from c.args.bytes.now) c.in-Err.stop _ c.refuse_for.result
    (λ text is. is) c.in-Err.ensures.gives c.refuse_for.ensures.ends
