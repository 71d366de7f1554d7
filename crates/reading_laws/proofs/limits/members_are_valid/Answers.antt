use Rattle.reading_laws.proofs.Members.{member_is_valid}
use Rattle.reading_laws.proofs.limits.members_are_valid.Goals as goal

pub returns : goal.returns
returns c = member_is_valid
