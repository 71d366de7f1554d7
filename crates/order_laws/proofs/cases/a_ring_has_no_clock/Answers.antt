use Rattle.order_laws.proofs.Worked.{ring_none}
use Rattle.order_laws.proofs.cases.a_ring_has_no_clock.Goals as goal

pub returns : goal.returns
returns c = ring_none
