use Rattle.std.proofs.Common.{◌≤◌, All, length}
use Rattle.nook_data.proofs.journal.fill_rooms.Given as goal

abbrev pub invariant-loop-count : goal.invariant-loop-count
invariant-loop-count l = (l._count ≤ length l.rooms.items) × (length l.initial.rooms.items ≤ length l.rooms.items) × All (λ room. 64 ≤ room) l.rooms.items
