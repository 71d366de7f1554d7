-- A worked list of operations: what the exchanges show that the sides' answers alone do not.
use Rattle.std.proofs.Common.{◌≡◌, ℕ, false, Some, List, [], ◌∷◌, refl, ap, arith}
use Rattle.std.specs.Prelude.{replicate}
use Rattle.nook_data.specs.Classes.{first_of_op}
use Rattle.nook_data.specs.declared.calls.Answer.TheVariants as answered
use Rattle.nook_data.specs.declared.calls.Op.TheVariants.{Read, Write}
use Rattle.nook_data.specs.declared.mirror.MirrorAnswer.{MirrorAnswer}
use Rattle.nook_data.specs.declared.mirror.MirrorAnswer.TheVariants as mirror
use Rattle.nook_data.specs.declared.steps.Event.{Event}
use Rattle.nook_data.specs.declared.steps.Event.TheVariants as event
use Rattle.mirror_block.specs.Rule.{Presence, both_present, mirrored}
use Rattle.mirror_block.specs.Sides.{Invocation}
use Rattle.mirrored_run.specs.Exchanges.{IsExchange}

abbrev ones : List ℕ
ones = replicate 16 1

abbrev twos : List ℕ
twos = replicate 16 2

-- Block 1 is written and read, then blocks 2 and 3 are read. The left side's medium fails at the first read, and the
-- right side is asked for block 2 instead. The rule over the answers alone allows the wrong answer to that read.
wrong_answer : mirrored 4 both_present (Write 1 ones ∷ Read 1 1 ∷ Read 2 1 ∷ Read 3 1 ∷ [])
    (answered.Done ∷ answered.IoError 1 ∷ answered.Blocks twos ∷ answered.Gone 1 ∷ []) (answered.Done ∷ answered.Blocks twos ∷ answered.Gone 1 ∷ [])
    ≡ Some (record {
      present = record { left = false; right = false };
      answers = mirror.Done ∷ mirror.Blocks twos ∷ mirror.Blocks twos ∷ mirror.BothLost ∷ [];
    })
wrong_answer = refl

abbrev first_asked : List Invocation → ℕ
first_asked [] = 0
first_asked (i ∷ invoked) = first_of_op i.op

apart : (n : ℕ) → n ≡ 2 → n ≡ 1 → ⊥
apart n h k = omega arith

-- in no exchange for a read of block 1 was the right side asked for block 2
other_block : (before after : Presence) (left : List Event) (a : MirrorAnswer)
    → IsExchange 4 before (record { op = Read 1 1; left = left; right = event.Invoke 2 0 (Read 2 1) (Some (answered.Blocks twos)) ∷ []; answer = a }) after → ⊥
other_block before after left a h = apart 2 refl (ap first_asked h.right.1)
