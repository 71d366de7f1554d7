-- The rule computes: worked lists of operations with the answers of both sides.
use Rattle.std.proofs.Common.{◌≡◌, ℕ, true, false, Some, None, List, [], ◌∷◌, refl}
use Rattle.std.specs.Prelude.{replicate}
use Rattle.nook_data.specs.declared.calls.Answer.TheVariants as answered
use Rattle.nook_data.specs.declared.mirror.MirrorAnswer.TheVariants as mirror
use Rattle.nook_data.specs.declared.calls.Op.{Op}
use Rattle.nook_data.specs.declared.calls.Op.TheVariants.{Read, Write}
use Rattle.mirror_block.specs.Rule.{both_present, mirrored}

abbrev ones : List ℕ
ones = replicate 16 1

-- block 1 of a disk of 4 is written and read
abbrev write_and_read : List Op
write_and_read = Write 1 ones ∷ Read 1 1 ∷ []

-- the left side is given up in the write, and the right one answers alone from then on
left_given_up : mirrored 4 both_present write_and_read (answered.Gone 1 ∷ []) (answered.Done ∷ answered.Blocks ones ∷ [])
    ≡ Some (record { present = record { left = false; right = true }; answers = mirror.Done ∷ mirror.Blocks ones ∷ [] })
left_given_up = refl

-- both are given up
both_given_up : mirrored 4 both_present write_and_read (answered.Gone 1 ∷ []) (answered.Gone 1 ∷ [])
    ≡ Some (record { present = record { left = false; right = false }; answers = mirror.BothLost ∷ mirror.BothLost ∷ [] })
both_given_up = refl

-- the write fails at a bad block of the left side
left_failed : mirrored 4 both_present write_and_read (answered.IoError 1 ∷ []) (answered.Done ∷ answered.Blocks ones ∷ [])
    ≡ Some (record { present = record { left = false; right = true }; answers = mirror.Done ∷ mirror.Blocks ones ∷ [] })
left_failed = refl

-- a read past the end asks no side, and each answer that no side was asked for is one too many
past_the_end : mirrored 4 both_present (Read 3 2 ∷ []) [] []
    ≡ Some (record { present = both_present; answers = mirror.BadRange ∷ [] })
past_the_end = refl

one_too_many : mirrored 4 both_present (Read 3 2 ∷ []) (answered.Done ∷ []) [] ≡ None
one_too_many = refl
