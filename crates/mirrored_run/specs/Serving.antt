-- What a mirror's operations, one after the other, add to what the seats at its sides have seen.
use Rattle.std.specs.Prelude.{◌≡◌, ℕ, ◌≤◌, List, [], ◌∷◌, length}
use Rattle.desk_like.specs.Desks.{DeskView}
use Rattle.mirror_block.specs.Mirrors.{IsMirrorAnswer, IsMirror, MirrorView, new_mirror}
use Rattle.mirror_block.specs.Sides.{invocations}
use Rattle.nook_data.specs.declared.mirror.MirrorAnswer.{MirrorAnswer}
use Rattle.nook_data.specs.declared.calls.Op.{Op}
use Rattle.nook_data.specs.declared.scenario.PartSpec.{PartSpec}

-- each side was asked at most this often
pub record HasAsked {D : Type 0} (most : ℕ) (m : MirrorView D) : Type 0 where
  pub left : length (invocations m.left.seen) ≤ most
  pub right : length (invocations m.right.seen) ≤ most

-- operations get these answers, one after the other
abbrev pub AreServedBy : {D : Type 0} → (D → PartSpec) → MirrorView D → List Op → List MirrorAnswer → MirrorView D
    → Type 0
AreServedBy spec old [] [] new = new ≡ old
AreServedBy spec old [] (a ∷ answers) new = ⊥
AreServedBy spec old (o ∷ ops) [] new = ⊥
AreServedBy {D} spec old (o ∷ ops) (a ∷ answers) new =
    (between : MirrorView D) × IsMirrorAnswer old between o a × IsMirror spec between
    × AreServedBy spec between ops answers new

-- a mirror with this many blocks over two desks gave these answers, and this is what the seats know afterwards
pub record HasServed {D : Type 0} (spec : D → PartSpec) (left_desk right_desk : D) (old_left old_right : DeskView)
    (blocks : ℕ) (ops : List Op) (answers : List MirrorAnswer) (left right : DeskView) : Type 0 where
  pub new : MirrorView D
  pub served : AreServedBy spec (new_mirror left_desk right_desk old_left old_right blocks) ops answers new
  pub left_is : left ≡ new.left
  pub right_is : right ≡ new.right
