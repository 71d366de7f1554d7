use Rattle.input_defs.specs.PlanReading.{plan_from}
use Rattle.nooks.proofs.Campaigns.{campaign_answered}
use Rattle.nooks.proofs.Written.{refused}
use Rattle.command_forms.specs.declared.words.Form.TheVariants as form
use Rattle.nooks.proofs.answering.run_campaign.Goals as goal

pub returns-in-Ok-clause-ends : goal.returns-in-Ok-clause-ends
returns-in-Ok-clause-ends g c hearing =
    campaign_answered c.args.bytes.now c.in-Ok.plan hearing _ c.give_table.result c.in-Ok.ensures.gives c.in-Ok.ensures.valid c.give_table.ensures.ends

pub returns-in-Err-clause-ends : goal.returns-in-Err-clause-ends
returns-in-Err-clause-ends g c hearing = refused form.Campaign c.args.bytes.now hearing _ (plan_from c.args.bytes.now) c.in-Err.stop _
    c.refuse_for.result (λ text is. is) c.in-Err.ensures.gives c.refuse_for.ensures.ends
