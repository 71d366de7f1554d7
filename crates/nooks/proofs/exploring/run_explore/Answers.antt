use Rattle.input_defs.specs.ScenarioReading.{scenario_from}
use Rattle.command_forms.specs.declared.words.Form.TheVariants as form
use Rattle.nooks.proofs.Explorations.{exploration_answers}
use Rattle.nooks.proofs.Written.{refused}
use Rattle.nooks.proofs.exploring.run_explore.Goals as goal

pub returns-in-Ok-clause-ends : goal.returns-in-Ok-clause-ends
returns-in-Ok-clause-ends g c hearing =
    exploration_answers c.args.bytes.now c.in-Ok.scenario hearing _ c.explore_and_write.result c.in-Ok.ensures.gives c.explore_and_write.ensures.ends

pub returns-in-Err-clause-ends : goal.returns-in-Err-clause-ends
returns-in-Err-clause-ends g c hearing = refused form.Explore c.args.bytes.now hearing _ (scenario_from c.args.bytes.now) c.in-Err.stop _
    c.refuse_for.result (λ text is. is) c.in-Err.ensures.gives c.refuse_for.ensures.ends
