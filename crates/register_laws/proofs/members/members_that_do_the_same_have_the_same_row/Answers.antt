use Rattle.register_laws.proofs.MemberRows.{member_next, member_none}
use Rattle.register_laws.proofs.members.members_that_do_the_same_have_the_same_row.Goals as goal

pub returns-clause-none : goal.returns-clause-none
returns-clause-none c = member_none

pub returns-clause-next : goal.returns-clause-next
returns-clause-next c = member_next
