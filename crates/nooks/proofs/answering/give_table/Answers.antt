use Rattle.std.proofs.Common.{Err, ap, refl}
use Rattle.campaign_defs.specs.TableText.{plan_table_text}
use Rattle.campaign_laws.proofs.PlanTables.{plan_table_exists}
use Rattle.nooks.specs.declared.program.Status.TheVariants as ended
use Rattle.nooks.proofs.Written.{says_begun, says_cut, says_written}
use Rattle.nooks.proofs.answering.give_table.Goals as goal

pub returns-in-Ok-clause-ends : goal.returns-in-Ok-clause-ends
returns-in-Ok-clause-ends g c base rows table =
    says_written ended.Done (plan_table_text c.args.plan.now base rows) _ tt (c.in-Ok.ensures base rows table).ok

pub returns-in-Err-Fault-clause-ends : goal.returns-in-Err-Fault-clause-ends
returns-in-Err-Fault-clause-ends g c base rows table =
    let wrote = c.in-Err-Fault.ensures base rows table in
    says_begun ended.Done (plan_table_text c.args.plan.now base rows) _ (wrote.fault (ap Err c.in-Err-Fault.field-0-is)) wrote.err

pub returns-in-Err-NoMemory-clause-ends : goal.returns-in-Err-NoMemory-clause-ends
returns-in-Err-NoMemory-clause-ends g c base rows table =
    let wrote = c.in-Err-NoMemory.ensures base rows table in
    says_cut ended.Done (plan_table_text c.args.plan.now base rows) _ wrote.err

-- a table exists, so the contract gives the sink's count

pub returns-in-Ok-clause-later : goal.returns-in-Ok-clause-later
returns-in-Ok-clause-later g c =
    let there = plan_table_exists c.args.plan.now c.requires in (c.write_campaign.ensures there.0 there.1.0 there.1.1).later

pub returns-in-Err-Fault-clause-later : goal.returns-in-Err-Fault-clause-later
returns-in-Err-Fault-clause-later g c =
    let there = plan_table_exists c.args.plan.now c.requires in (c.write_campaign.ensures there.0 there.1.0 there.1.1).later

pub returns-in-Err-NoMemory-clause-later : goal.returns-in-Err-NoMemory-clause-later
returns-in-Err-NoMemory-clause-later g c =
    let there = plan_table_exists c.args.plan.now c.requires in (c.write_campaign.ensures there.0 there.1.0 there.1.1).later

pub returns-in-Ok-clause-kept : goal.returns-in-Ok-clause-kept
returns-in-Ok-clause-kept g c other =
    let there = plan_table_exists c.args.plan.now c.requires in (c.in-Ok.ensures there.0 there.1.0 there.1.1).kept

pub returns-in-Err-Fault-clause-kept : goal.returns-in-Err-Fault-clause-kept
returns-in-Err-Fault-clause-kept g c other = absurd (other refl)

pub returns-in-Err-NoMemory-clause-kept : goal.returns-in-Err-NoMemory-clause-kept
returns-in-Err-NoMemory-clause-kept g c other =
    let there = plan_table_exists c.args.plan.now c.requires in
    (c.in-Err-NoMemory.ensures there.0 there.1.0 there.1.1).no_memory (ap Err c.in-Err-NoMemory.field-0-is)
