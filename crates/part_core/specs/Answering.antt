use Rattle.std.specs.Prelude.{ℕ, Option, Some, None, List}
use Rattle.nook_data.specs.declared.calls.Answer.{Answer}
use Rattle.nook_data.specs.declared.calls.CallEntry.{CallEntry}
use Rattle.nook_data.specs.declared.calls.Op.{Op}
use Rattle.part_defs.specs.Calls.{answer_in, queue_in}
use Rattle.nook_data.specs.Classes.{static_check}
use Rattle.part_defs.specs.State.{PartState}

-- How an invocation is answered at once, and the queue that this leaves.

abbrev pub answer_by : Option Answer → ℕ → Op → PartState → Option Answer
answer_by None thread o p = answer_in p.mode thread o p
answer_by (Some a) thread o p = Some a

abbrev pub queue_by : Option Answer → Op → PartState → List (List ℕ)
queue_by None o p = queue_in p.mode o p.queue
queue_by (Some a) o p = p.queue

-- the answer by the static check, otherwise by the mode
abbrev pub answer_at_once : ℕ → Op → PartState → Option Answer
answer_at_once thread o p = answer_by (static_check p.spec.class p.spec.blocks o) thread o p

abbrev pub queue_at_once : Op → PartState → List (List ℕ)
queue_at_once o p = queue_by (static_check p.spec.class p.spec.blocks o) o p

abbrev pub call_number : Option CallEntry → Option ℕ
call_number None = None
call_number (Some c) = Some c.call
