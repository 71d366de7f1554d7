use Rattle.std.proofs.Common.{inr}
use Rattle.input_defs.specs.ScenarioReading.{scenario_from}
use Rattle.nooks.proofs.Audits.{too_long_handed, verdict_answers}
use Rattle.nooks.proofs.Written.{refused}
use Rattle.command_forms.specs.declared.words.Form.TheVariants as form
use Rattle.nooks.proofs.auditing.audit_handed.Goals as goal

pub returns-then-handed-clause-ends : goal.returns-then-handed-clause-ends
returns-then-handed-clause-ends g c bytes hearing hands =
    too_long_handed bytes c.args.handed.now c.args.report.now hearing _ _ c.refuse.result hands c.if-handed.true c.at_root.ensures
    c.refuse.ensures.ends

pub returns-in-Ok-clause-ends : goal.returns-in-Ok-clause-ends
returns-in-Ok-clause-ends g c bytes hearing hands =
    verdict_answers bytes c.args.handed.now c.args.report.now hearing c.in-Ok.scenario _ c.give_verdict.result hands c.if-handed.false
    c.in-Ok.ensures.gives c.give_verdict.ensures.ends

pub returns-in-Err-clause-ends : goal.returns-in-Err-clause-ends
returns-in-Err-clause-ends g c bytes hearing hands =
    refused form.Audit bytes hearing _ (scenario_from c.args.handed.now) c.in-Err.stop _ c.refuse_for.result
    (λ text is. inr (record {
      scenario = c.args.handed.now;
      report = c.args.report.now;
      hands = hands;
      fault = inr (c.if-handed.false, is);
    })) c.in-Err.ensures.gives c.refuse_for.ensures.ends
