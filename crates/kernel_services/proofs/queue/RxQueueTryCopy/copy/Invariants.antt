use Rattle.std.proofs.Common.{◌≡◌, ◌≤◌, take}
use Rattle.std.specs.VecDeque.{deque_capacity}
use Rattle.kernel_services.proofs.queue.RxQueueTryCopy.copy.Given as goal

abbrev pub invariant-loop-index : goal.invariant-loop-index
invariant-loop-index l = (l.frames.items ≡ take l.index l.self-inside.frames.items) × (64 ≤ deque_capacity l.frames)
