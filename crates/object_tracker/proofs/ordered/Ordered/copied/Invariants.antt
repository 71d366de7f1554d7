use Rattle.std.proofs.Common.{◌≡◌, take}
use Rattle.object_tracker.proofs.ordered.Ordered.copied.Given as goal

abbrev pub invariant-loop-place : goal.invariant-loop-place
invariant-loop-place l = l.made ≡ take l.place l.self
