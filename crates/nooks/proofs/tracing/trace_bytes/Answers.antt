use Rattle.input_defs.specs.ScenarioReading.{scenario_from}
use Rattle.std.proofs.Common.{inl}
use Rattle.nooks.proofs.Written.{refused}
use Rattle.command_forms.specs.declared.words.Form.TheVariants as form
use Rattle.nooks.proofs.tracing.trace_bytes.Goals as goal

pub returns-in-Ok-clause-ends : goal.returns-in-Ok-clause-ends
returns-in-Ok-clause-ends g c hearing = c.trace.ensures.ends c.args.bytes.now hearing c.in-Ok.ensures.gives

pub returns-in-Err-clause-ends : goal.returns-in-Err-clause-ends
returns-in-Err-clause-ends g c hearing =
    refused (form.Trace c.args.part c.args.burst) c.args.bytes.now hearing _ (scenario_from c.args.bytes.now) c.in-Err.stop _ c.refuse_for.result (λ text is. inl is)
    c.in-Err.ensures.gives c.refuse_for.ensures.ends
