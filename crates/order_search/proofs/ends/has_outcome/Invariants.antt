use Rattle.std.proofs.Common.{All, take}
use Rattle.order_search.proofs.KeptEnds.{HasOther}
use Rattle.order_search.proofs.ends.has_outcome.Given as goal

abbrev pub invariant-loop-index : goal.invariant-loop-index
invariant-loop-index l = All (HasOther l.outcome) (take l.index l.firsts)
