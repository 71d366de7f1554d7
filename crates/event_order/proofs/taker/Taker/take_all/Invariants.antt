use Rattle.std.proofs.Common.{◌≡◌}
use Rattle.event_order.specs.Bare.{bare_taking}
use Rattle.event_order.specs.Ways.{IsWay}
use Rattle.event_order.proofs.taker.Taker.take_all.Given as goal
use Rattle.order_defs.specs.Taking.{Taking}
use Rattle.run_defs.specs.Simulation.{events_count}

abbrev pub invariant-taking : goal.invariant-taking
invariant-taking l = (s : Taking) → bare_taking s ≡ l.initial.self → IsWay s l.self

abbrev pub decreases-taking : goal.decreases-taking
decreases-taking l = events_count l.self.left
