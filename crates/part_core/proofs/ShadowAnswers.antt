-- If the shadow holds an operation, the queue is unchanged.
use Rattle.std.proofs.Common.{◌≡◌, ℕ, Option, Some, None, List, refl}
use Rattle.nook_data.specs.declared.calls.Op.{Op}
use Rattle.nook_data.specs.declared.calls.Op.TheVariants as op
use Rattle.nook_data.specs.declared.steps.Stage.{Stage}
use Rattle.part_defs.specs.Log.{queue_after, shadow_answer}

pub held_leaves_queue : (o : Op) (thread : ℕ) (config : List ℕ) (holder : Option ℕ) (s : Stage) (queue : List (List ℕ))
    → shadow_answer o thread config holder s queue ≡ None → queue_after o queue ≡ queue
unfolding shadow_answer
held_leaves_queue op.Recv thread config holder s queue h = absurd (cc)
held_leaves_queue (op.Read first count) thread config holder s queue h = refl
held_leaves_queue (op.Write first words) thread config holder s queue h = refl
held_leaves_queue (op.Send frame) thread config holder s queue h = refl
held_leaves_queue op.Open thread config holder s queue h = refl
held_leaves_queue (op.Play samples) thread config holder s queue h = refl
held_leaves_queue op.Close thread config holder s queue h = refl
held_leaves_queue (op.Get key) thread config holder s queue h = refl
held_leaves_queue (op.Set key value) thread config holder s queue h = refl
