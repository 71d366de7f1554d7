use Rattle.input_defs.specs.ScenarioReading.{scenario_from}
use Rattle.command_forms.specs.declared.words.Form.TheVariants as form
use Rattle.nooks.proofs.Written.{refused, scenario_answered_by_threads}
use Rattle.nooks.proofs.waiting.run_scenario_by_threads.Goals as goal

pub returns-in-Ok-clause-ends : goal.returns-in-Ok-clause-ends
returns-in-Ok-clause-ends g c = scenario_answered_by_threads c.args.bytes.now c.in-Ok.scenario _ _ c.report_threads.result c.in-Ok.ensures.gives c.report_threads.ensures.ends

pub returns-in-Err-clause-ends : goal.returns-in-Err-clause-ends
returns-in-Err-clause-ends g c = refused form.RunThreads c.args.bytes.now _ _ (scenario_from c.args.bytes.now) c.in-Err.stop _ c.refuse_for.result (λ text is. is)
    c.in-Err.ensures.gives c.refuse_for.ensures.ends
