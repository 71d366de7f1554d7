use Rattle.std.proofs.Common.{◌≡◌, map, take}
use Rattle.event_order.specs.Lefts.{events_in}
use Rattle.event_order.proofs.taker.all_left.Given as goal

abbrev pub invariant-loop-journal : goal.invariant-loop-journal
invariant-loop-journal l = map (λ x. x.now) l.made.items ≡ map events_in (take l.journal-index l.journals)
