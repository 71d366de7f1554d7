use Rattle.std.proofs.Common.{◌≡◌, ◌<◌, ℕ, [], slice_index_or}
use Rattle.event_order.specs.Ways.{lists_in}
use Rattle.event_order.proofs.taker.first_of.Given as goal

abbrev pub invariant-loop-part : goal.invariant-loop-part
invariant-loop-part l = (part : ℕ) → part < l.part → slice_index_or (lists_in l.left) part [] ≡ []
