use Rattle.object_tracker.proofs.Kept.{few_buffers, kept_buffer}
use Rattle.object_tracker.proofs.tracker.Tracker.begin_buffer.Goals as goal

pub add-requires : goal.add-requires
add-requires c =
    few_buffers c.args.context c.self.inside.entries c.self.invariant.kept c.requires.context (rw (← c.self.view_is) at c.requires.none)

pub invariant_of-self : goal.invariant_of-self
invariant_of-self c =
    rw c.add.ensures (record {
      start = c.self.invariant.start;
      kept = kept_buffer c.args.context c.args.writable c.self.inside.entries c.self.invariant.kept c.requires.context (rw (← c.self.view_is) at c.requires.none);
    })
