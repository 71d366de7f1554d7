-- Parts of the definitions under separate names, for laws that split an Option, a Result or a kind into cases. The
-- definitions contain the same parts inline.
use Rattle.std.specs.Prelude.{ℕ, ◌==◌, ◌&&◌, nat_lt, Bool, true, false}
use Rattle.std.specs.Prelude.{Option, Some, None, List, length}
use Rattle.nook_data.specs.Types.{Answer, CallEntry}
use Rattle.nook_data.specs.Types.{Op}
use Rattle.nook_data.specs.declared.calls.Answer.TheVariants as answer
use Rattle.nook_data.specs.declared.calls.Op.TheVariants as op
use Rattle.promise_defs.specs.Blocks.{has_block, words_for}
use Rattle.nook_data.specs.Classes.{is_holder, is_play, is_set}
use Rattle.promise_defs.specs.Contract.{OpenCall}
use Rattle.nook_data.specs.Numbered.{change_number}
use Rattle.promise_defs.specs.Ideal.{Ideal, Opened, after_answer, is_due, when}

-- the call is a Set
abbrev pub is_set_call : Option CallEntry → Bool
is_set_call None = false
is_set_call (Some c) = is_set c.op

-- a Play that waits for its answer, of the thread that holds the stream
abbrev pub plays_for : Option ℕ → Opened → Bool
plays_for holder o = o.waits && is_play o.op && is_holder holder o.thread

-- the never-failing device after a call is answered, from the device in which it no longer waits
abbrev pub answers : Ideal → Answer → List ℕ → Opened → Option Ideal
answers m a stored o = when (o.waits && is_due m o a) (after_answer m o.thread o.op a stored)

-- the words of a block, or those that a Write puts there
abbrev pub put_block : Bool → Op → ℕ → List ℕ → List ℕ
put_block chosen o block words = elim chosen [ true ↦ words_for o block | false ↦ words ]

-- a Send whose frame was sent, a Play whose samples were all played, or another operation
abbrev pub is_served : Op → OpenCall → Bool
is_served o c = elim o [ (op.Send frame) ↦ nat_lt 0 c.sent | (op.Play samples) ↦ c.played == length samples | _ ↦ true ]

-- a command on the block failed in the attempt
abbrev pub has_failed : ℕ → Option OpenCall → Bool
has_failed block o = elim o [ None ↦ false | Some c ↦ has_block block c.failed ]

-- the never-failing device after the call with a number stops waiting
abbrev pub closes : ℕ → Ideal → Ideal
closes call m = record m { opened = change_number (λ o. record o { waits = false }) call m.opened }

-- the answer is Done
abbrev pub is_done_answer : Option Answer → Bool
is_done_answer (Some answer.Done) = true
is_done_answer _ = false
