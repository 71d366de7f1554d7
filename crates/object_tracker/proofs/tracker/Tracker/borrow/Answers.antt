use Rattle.object_tracker.proofs.Kept.{few_heap, kept_borrow, room_left, start_within}
use Rattle.object_tracker.proofs.tracker.Tracker.borrow.Goals as goal

pub add-requires : goal.add-requires
add-requires c =
    let p = c.self.inside in
    few_heap p.entries c.self.invariant.kept (room_left p.heap_start 64 p.entries c.in_ok-start.start c.in_ok-start.ensures)

pub invariant_of-self : goal.invariant_of-self
invariant_of-self c =
    let p = c.self.inside in
    let room = room_left p.heap_start 64 p.entries c.in_ok-start.start c.in_ok-start.ensures in
    rw c.add.ensures (record { start = c.self.invariant.start; kept = kept_borrow c.args.object c.in_ok-start.start p.entries c.self.invariant.kept c.requires (start_within p.heap_start 64 p.entries c.in_ok-start.start c.in_ok-start.ensures) room })

pub returns-clause-within : goal.returns-clause-within
returns-clause-within c =
    let p = c.self.inside in
    start_within p.heap_start 64 p.entries c.in_ok-start.start c.in_ok-start.ensures
