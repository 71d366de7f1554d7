use Rattle.std.specs.Prelude.{ℕ, Option, None, List}
use Rattle.nook_data.specs.declared.calls.Op.{Op}
use Rattle.nook_data.specs.declared.calls.Op.TheVariants as op
use Rattle.nook_data.specs.Frames.{front_of}

-- the frame that the shadow's answer to an operation takes from the queue
abbrev pub front_for : Op → List (List ℕ) → Option (List ℕ)
front_for op.Recv queue = front_of queue
front_for _ queue = None
