use Rattle.order_laws.proofs.PartAlone.{part_decides}
use Rattle.order_laws.proofs.orders.where_journals_fit_the_part_decides.Goals as goal

pub returns : goal.returns
returns c = part_decides
