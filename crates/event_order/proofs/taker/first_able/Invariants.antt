use Rattle.event_order.specs.Ways.{taking_in}
use Rattle.event_order.proofs.Held.{AreHeld}
use Rattle.event_order.proofs.taker.first_able.Given as goal

abbrev pub invariant-loop-part : goal.invariant-loop-part
invariant-loop-part l = AreHeld l.part (taking_in l.left l.callers)
