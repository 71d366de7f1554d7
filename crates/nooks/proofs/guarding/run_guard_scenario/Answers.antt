use Rattle.std.proofs.Common.{inl}
use Rattle.nooks.specs.Guardable.{guardable_from}
use Rattle.command_forms.specs.declared.words.Form.TheVariants as form
use Rattle.nooks.proofs.Guards.{guarded_answers}
use Rattle.nooks.proofs.Written.{refused}
use Rattle.nooks.proofs.guarding.run_guard_scenario.Goals as goal

pub returns-in-Ok-clause-ends : goal.returns-in-Ok-clause-ends
returns-in-Ok-clause-ends g c hearing =
    guarded_answers c.args.bytes.now c.in-Ok.scenario hearing _ c.give_guarded.result c.in-Ok.ensures.gives c.in-Ok.ensures.room
    c.give_guarded.ensures.ends

pub returns-in-Err-clause-ends : goal.returns-in-Err-clause-ends
returns-in-Err-clause-ends g c hearing = refused form.GuardScenario c.args.bytes.now hearing _ (guardable_from c.args.bytes.now) c.in-Err.stop _
    c.refuse_for.result (λ text is. inl is) c.in-Err.ensures.gives c.refuse_for.ensures.ends
