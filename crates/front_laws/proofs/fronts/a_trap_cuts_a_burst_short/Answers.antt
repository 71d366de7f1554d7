use Rattle.front_laws.proofs.Past.{burst_acts_front, burst_cut}
use Rattle.front_laws.proofs.fronts.a_trap_cuts_a_burst_short.Goals as goal

pub returns-clause-cut : goal.returns-clause-cut
returns-clause-cut c = burst_cut

pub returns-clause-stay : goal.returns-clause-stay
returns-clause-stay c = burst_acts_front
