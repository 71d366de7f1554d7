use Rattle.order_laws.proofs.ReadOnce.{finds_exists, finds_once, journals_once}
use Rattle.order_laws.proofs.audits.every_audit_finds_one_line.Goals as goal

pub returns-clause-exists : goal.returns-clause-exists
returns-clause-exists c = finds_exists

pub returns-clause-once : goal.returns-clause-once
returns-clause-once c = finds_once

pub returns-clause-journals : goal.returns-clause-journals
returns-clause-journals c = journals_once
