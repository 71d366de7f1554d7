use Rattle.std.proofs.Common.{Err, ap, inr, refl}
use Rattle.nooks.proofs.Mirrors.{mirror_begun, mirror_written}
use Rattle.nooks.proofs.mirroring.give_mirror_report.Goals as goal

pub returns-in-Ok-clause-ends : goal.returns-in-Ok-clause-ends
returns-in-Ok-clause-ends g c hearing made =
    mirror_written c.args.scenario.now hearing c.args.made.now.report c.args.made.now.answers c.args.made.now.status made _ c.status_of.result
    (c.in-Ok.ensures.text made.is_report).ok c.status_of.ensures

pub returns-in-Err-Fault-clause-ends : goal.returns-in-Err-Fault-clause-ends
returns-in-Err-Fault-clause-ends g c hearing made =
    let wrote = c.in-Err-Fault.ensures.text made.is_report in (
      wrote.fault (ap Err c.in-Err-Fault.field-0-is),
      mirror_begun c.args.scenario.now hearing c.args.made.now.report c.args.made.now.answers c.args.made.now.status made _ wrote.err,
    )

pub returns-in-Err-NoMemory-clause-ends : goal.returns-in-Err-NoMemory-clause-ends
returns-in-Err-NoMemory-clause-ends g c hearing made =
    let wrote = c.in-Err-NoMemory.ensures.text made.is_report in
    inr (mirror_begun c.args.scenario.now hearing c.args.made.now.report c.args.made.now.answers c.args.made.now.status made _ wrote.err)

pub returns-in-Ok-clause-kept : goal.returns-in-Ok-clause-kept
returns-in-Ok-clause-kept g c other = c.in-Ok.ensures.rows.kept

pub returns-in-Err-Fault-clause-kept : goal.returns-in-Err-Fault-clause-kept
returns-in-Err-Fault-clause-kept g c other = absurd (other refl)

pub returns-in-Err-NoMemory-clause-kept : goal.returns-in-Err-NoMemory-clause-kept
returns-in-Err-NoMemory-clause-kept g c other = c.in-Err-NoMemory.ensures.rows.no_memory (ap Err c.in-Err-NoMemory.field-0-is)
