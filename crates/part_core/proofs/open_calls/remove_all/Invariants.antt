use Rattle.std.proofs.Common.{◌≡◌, drop}
use Rattle.part_core.specs.Claimed.{without_answered}
use Rattle.part_core.proofs.open_calls.remove_all.Given as goal

abbrev pub invariant-loop-pair : goal.invariant-loop-pair
invariant-loop-pair l = without_answered (drop l.pair-index l.answers) l.claims ≡ without_answered l.answers l.initial.claims
