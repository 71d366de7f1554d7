use Rattle.std.proofs.Common.{◌≡◌, ◌++◌, drop, map}
use Rattle.guard_defs.specs.Every.{put_at}
use Rattle.fault_campaign.proofs.every.push_kinds.Given as goal

abbrev pub invariant-loop-kind : goal.invariant-loop-kind
invariant-loop-kind l =
    l.faults ++ map (put_at l.burst l.after) (drop l.kind-index l.kinds) ≡ l.initial.faults ++ map (put_at l.burst l.after) l.kinds
