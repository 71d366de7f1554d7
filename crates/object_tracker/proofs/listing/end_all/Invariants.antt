use Rattle.std.proofs.Common.{◌≡◌, ◌-◌, ◌≤◌, ◌++◌, length, take, drop, filter, not}
use Rattle.object_tracker.specs.Tracked.{fits}
use Rattle.object_tracker.proofs.listing.end_all.Given as goal

abbrev pub invariant-loop-index : goal.invariant-loop-index
invariant-loop-index l =
    (l.index ≤ length l.entries)
    × (take l.index l.entries ++ filter (λ e. not (fits l.query e)) (drop l.index l.entries) ≡ filter (λ e. not (fits l.query e)) l.initial.entries)

abbrev pub decreases-loop-index : goal.decreases-loop-index
decreases-loop-index l = length l.entries - l.index
