use Rattle.object_tracker.proofs.Kept.{few_heap, kept_heap, room_left}
use Rattle.object_tracker.proofs.tracker.Tracker.alloc.Goals as goal

pub add-requires : goal.add-requires
add-requires c =
    let p = c.self.inside in
    few_heap p.entries c.self.invariant.kept (room_left p.heap_start c.args.n p.entries c.in_ok-start.start c.in_ok-start.ensures)

pub invariant_of-self : goal.invariant_of-self
invariant_of-self c =
    let p = c.self.inside in
    let room = room_left p.heap_start c.args.n p.entries c.in_ok-start.start c.in_ok-start.ensures in
    rw c.add.ensures (record { start = c.self.invariant.start; kept = kept_heap c.in_ok-start.start c.args.n p.entries c.self.invariant.kept room })
