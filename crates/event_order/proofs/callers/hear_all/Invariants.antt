use Rattle.std.proofs.Common.{◌≡◌, map}
use Rattle.event_order.specs.Bare.{bare}
use Rattle.event_order.proofs.Heard.{heard_below}
use Rattle.event_order.proofs.callers.hear_all.Given as goal
use Rattle.run_defs.specs.Simulation.{threads_after}

abbrev pub invariant-loop-thread : goal.invariant-loop-thread
invariant-loop-thread l =
    heard_below l.thread l.part l.event l.callers ≡ map bare (threads_after 0 l.part l.event l.initial.callers)
