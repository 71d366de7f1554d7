-- What contracts see of a mirror, what holds for each mirror, and how an operation ends.
use Rattle.std.specs.Prelude.{◌≡◌, ℕ, ◌||◌, ◌==◌, if◌then◌else◌, Bool, true, false, List, [], Some, None, Result, Ok}
use Rattle.std.specs.Prelude.{Err, is_some, ◌∷◌}
use Rattle.nook_data.specs.declared.classes.Class.TheVariants.{Block}
use Rattle.nook_data.specs.declared.mirror.MirrorAnswer.{MirrorAnswer}
use Rattle.nook_data.specs.declared.mirror.MirrorAnswer.TheVariants as mirror
use Rattle.nook_data.specs.declared.calls.Op.{Op}
use Rattle.nook_data.specs.declared.scenario.PartSpec.{PartSpec}
use Rattle.nook_data.specs.Classes.{is_write}
use Rattle.promise_defs.specs.Ideal.{IsClassRun}
use Rattle.promise_defs.specs.Trace.{trace}
use Rattle.desk_like.specs.Desks.{DeskView}
use Rattle.mirror_block.specs.declared.stop.MirrorStop.{MirrorStop}
use Rattle.mirror_block.specs.declared.stop.MirrorStop.TheVariants as stop
use Rattle.mirror_block.specs.Disk.{Serves, ShowsDisk}
use Rattle.mirror_block.specs.Rule.{Presence, asked_next, both_present, mirror_step}
use Rattle.mirror_block.specs.Sides.{IsFull, IsServed, IsSide, SaysGone, NeedsMemory, answers_gained}

-- A mirror over two desks: what the seat at each knows, which sides are present, the blocks of the disk, and whether it
-- stopped because memory ran out or a side had all the calls that a part may have.
pub record MirrorView (D : Type 0) : Type 0 where
  pub left_desk : D
  pub right_desk : D
  pub left : DeskView
  pub right : DeskView
  pub present : Presence
  pub blocks : ℕ
  pub stopped : Bool

-- a mirror that was not asked anything yet
abbrev pub new_mirror : {D : Type 0} → D → D → DeskView → DeskView → ℕ → MirrorView D
new_mirror left_desk right_desk left right blocks = record {
  left_desk = left_desk;
  right_desk = right_desk;
  left = left;
  right = right;
  present = both_present;
  blocks = blocks;
  stopped = false;
}

-- whether side 0 or side 1 is present
abbrev pub is_present : Presence → ℕ → Bool
is_present present side = if side == 0 then present.left else present.right

-- ---- what holds for each mirror

-- the trace of each present side shows this disk
pub record IsDisk {D : Type 0} (m : MirrorView D) (disk : List (List ℕ)) : Type 0 where
  pub left : m.present.left ≡ true → ShowsDisk m.blocks m.left.seen disk
  pub right : m.present.right ≡ true → ShowsDisk m.blocks m.right.seen disk

-- the trace of each present side is a run of the class's never-failing disk
pub record AreClassRuns {D : Type 0} (m : MirrorView D) : Type 0 where
  pub left : m.present.left ≡ true → IsClassRun Block m.blocks (trace m.left.seen)
  pub right : m.present.right ≡ true → IsClassRun Block m.blocks (trace m.right.seen)

-- What holds before and after each operation. If the trace of each present side is such a run, all show one disk.
pub record IsMirror {D : Type 0} (spec : D → PartSpec) (m : MirrorView D) : Type 0 where
  pub left : IsSide (spec m.left_desk) m.blocks m.stopped m.left
  pub right : IsSide (spec m.right_desk) m.blocks m.stopped m.right
  pub one_disk : m.stopped ≡ false → AreClassRuns m → (disk : List (List ℕ)) × IsDisk m disk

-- ---- how an operation ends

-- the same desks, and the same number of blocks
pub record SameSides {D : Type 0} (old new : MirrorView D) : Type 0 where
  pub left_desk : new.left_desk ≡ old.left_desk
  pub right_desk : new.right_desk ≡ old.right_desk
  pub blocks : new.blocks ≡ old.blocks

-- The operation is answered. Who is asked, who stays and what is answered follows from one step of the rule over the
-- answers that the sides' seats saw, all of which it uses. The answer is BothLost only if each side that was present
-- was asked and answered Gone. If a side stays, the answer is one that a plain disk with bad blocks may give, and the
-- mirror's disk changes as that one does.
pub record IsMirrorAnswer {D : Type 0} (old new : MirrorView D) (o : Op) (a : MirrorAnswer) : Type 0 where
  pub goes : old.stopped ≡ false
  pub goes_on : new.stopped ≡ false
  pub same : SameSides old new
  pub step : mirror_step old.blocks old.present o
      (answers_gained old.left new.left) (answers_gained old.right new.right)
      ≡ Some (record { outcome = record { present = new.present; answer = a }; left = []; right = [] })
  pub left : IsServed old.left new.left o
  pub right : IsServed old.right new.right o
  pub lost : a ≡ mirror.BothLost → SaysGone old.present.left (answers_gained old.left new.left)
      × SaysGone old.present.right (answers_gained old.right new.right)
  pub serves : (disk after : List (List ℕ)) → (new.present.left || new.present.right) ≡ true
      → IsDisk old disk → IsDisk new after
      → Serves old.blocks disk o a after

-- the side that is asked was interrupted, and the other one was served
abbrev pub CutOff : Bool → (DeskView → DeskView → Op → Type 0) → DeskView → DeskView → Op → Type 0
CutOff true Cut old new o = Cut old new o
CutOff false Cut old new o = IsServed old new o

-- The mirror stops at a side, 0 or 1, that was asked and did not answer. The same sides are present as before.
pub record StopsAt {D : Type 0} (old new : MirrorView D) (o : Op) (side : ℕ)
    (Cut : DeskView → DeskView → Op → Type 0) : Type 0 where
  pub goes : old.stopped ≡ false
  pub stops : new.stopped ≡ true
  pub same : SameSides old new
  pub present : new.present ≡ old.present
  pub asked : asked_next old.blocks old.present o
      (answers_gained old.left new.left) (answers_gained old.right new.right) ≡ Some side
  pub left : CutOff (side == 0) Cut old.left new.left o
  pub right : CutOff (side == 1) Cut old.right new.right o

-- memory for the words of a Write ran out, before any side was asked
pub record StopsAlone {D : Type 0} (old new : MirrorView D) (o : Op) : Type 0 where
  pub goes : old.stopped ≡ false
  pub stops : new ≡ record old { stopped = true }
  pub write : is_write o ≡ true
  pub asks : is_some (asked_next old.blocks old.present o [] []) ≡ true

-- a mirror that stopped before answers nothing more, and nothing changes
pub record IsStopped {D : Type 0} (old new : MirrorView D) : Type 0 where
  pub stopped : old.stopped ≡ true
  pub same : new ≡ old

-- how an operation of the mirror ends
abbrev pub Ends : {D : Type 0} → MirrorView D → MirrorView D → Op → Result MirrorAnswer MirrorStop → Type 0
Ends old new o (Ok a) = IsMirrorAnswer old new o a
Ends old new o (Err (stop.NoMemory None)) = StopsAlone old new o
Ends old new o (Err (stop.NoMemory (Some side))) = StopsAt old new o side NeedsMemory
Ends old new o (Err (stop.TooManyCalls side)) = StopsAt old new o side IsFull
Ends old new o (Err stop.Stopped) = IsStopped old new

-- ---- a list of operations

-- Operations are answered one after the other, and none with BothLost. After each, the trace of each present side is a
-- run of the class's never-failing disk.
abbrev pub AreServed : {D : Type 0} → (D → PartSpec) → MirrorView D → List (Op × MirrorAnswer) → MirrorView D → Type 0
AreServed {D} spec old [] new = new ≡ old
AreServed {D} spec old (s ∷ served) new =
    (between : MirrorView D) × IsMirrorAnswer old between s.0 s.1 × IsMirror spec between × AreClassRuns between
    × (s.1 ≡ mirror.BothLost → ⊥) × AreServed spec between served new
