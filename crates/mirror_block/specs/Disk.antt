-- One plain disk whose blocks may be bad: what it answers to reads and writes, and how these change it.
use Rattle.std.specs.Prelude.{◌≡◌, ℕ, Bool, true, List, [], ◌∷◌, Option, Some, None, not}
use Rattle.std.specs.List.{list_all}
use Rattle.nook_data.specs.declared.calls.Answer.{Answer}
use Rattle.nook_data.specs.declared.calls.Answer.TheVariants as answered
use Rattle.nook_data.specs.declared.classes.Class.TheVariants.{Block}
use Rattle.nook_data.specs.declared.steps.Event.{Event}
use Rattle.nook_data.specs.declared.mirror.MirrorAnswer.{MirrorAnswer}
use Rattle.nook_data.specs.declared.mirror.MirrorAnswer.TheVariants as mirror
use Rattle.nook_data.specs.declared.calls.Op.{Op}
use Rattle.nook_data.specs.declared.calls.Op.TheVariants.{Read, Write}
use Rattle.promise_defs.specs.Blocks.{get_blocks, put_from}
use Rattle.nook_data.specs.Classes.{covers, static_check}
use Rattle.promise_defs.specs.Ideal.{Ideal, Opened, never_failing, ran}
use Rattle.promise_defs.specs.Trace.{trace}
use Rattle.mirror_block.specs.Rule.{refusal_of}

-- ---- the plain disk

-- A Write whose medium failed at some block stored some of the blocks that it covers. The others are unchanged.
pub record IsPartlyWritten (o : Op) (disk after : List (List ℕ)) : Type 0 where
  pub stored : ℕ → Bool
  pub covered : (block : ℕ) → stored block ≡ true → covers o block ≡ true
  pub after_is : after ≡ put_from stored o 0 disk

-- how a disk serves a Read or Write that passes the static check
abbrev pub ServesChecked : List (List ℕ) → Op → MirrorAnswer → List (List ℕ) → Type 0
ServesChecked disk (Read first count) (mirror.Blocks words) after =
    (words ≡ get_blocks disk first count) × (after ≡ disk)
ServesChecked disk (Read first count) (mirror.IoError block) after =
    (covers (Read first count) block ≡ true) × (after ≡ disk)
ServesChecked disk (Write first words) mirror.Done after =
    after ≡ put_from (covers (Write first words)) (Write first words) 0 disk
ServesChecked disk (Write first words) (mirror.IoError block) after =
    (covers (Write first words) block ≡ true) × IsPartlyWritten (Write first words) disk after
ServesChecked disk _ _ after = ⊥

-- how a disk serves an operation to which one side gave this answer; no disk gives any other answer
abbrev pub ServesSaid : List (List ℕ) → Op → Answer → List (List ℕ) → Type 0
ServesSaid disk o answered.Done after = ServesChecked disk o mirror.Done after
ServesSaid disk o (answered.Blocks words) after = ServesChecked disk o (mirror.Blocks words) after
ServesSaid disk o (answered.IoError block) after = ServesChecked disk o (mirror.IoError block) after
ServesSaid disk o _ after = ⊥

abbrev pub ServesBy : Option Answer → List (List ℕ) → Op → MirrorAnswer → List (List ℕ) → Type 0
ServesBy None disk o a after = ServesChecked disk o a after
ServesBy (Some refusal) disk o a after = (refusal_of refusal ≡ Some a) × (after ≡ disk)

-- a plain disk of this size, whose blocks may be bad, gives this answer to the operation and then has these blocks
abbrev pub Serves : ℕ → List (List ℕ) → Op → MirrorAnswer → List (List ℕ) → Type 0
Serves size disk o a after = ServesBy (static_check Block size o) disk o a after

-- it serves operations one after the other
abbrev pub ServesAll : ℕ → List (List ℕ) → List (Op × MirrorAnswer) → List (List ℕ) → Type 0
ServesAll size disk [] after = after ≡ disk
ServesAll size disk (served ∷ more) after =
    (between : List (List ℕ)) × Serves size disk served.0 served.1 between × ServesAll size between more after

-- ---- the disk that the applications of a part see

-- these events show a run of the class's never-failing disk that leads to this device
abbrev pub ShowsDevice : ℕ → List Event → Ideal → Type 0
ShowsDevice size seen device = ran (never_failing Block size) (trace seen) ≡ Some device

-- the disk of that device, if the events show such a run
pub record ShowsDisk (size : ℕ) (seen : List Event) (disk : List (List ℕ)) : Type 0 where
  pub device : Ideal
  pub shows : ShowsDevice size seen device
  pub disk_is : device.blocks ≡ disk

abbrev pub is_over : Opened → Bool
is_over o = not o.waits

-- if these events show a run of the never-failing disk, no call waits at its end
abbrev pub IsIdleAfter : ℕ → List Event → Type 0
IsIdleAfter size seen = (device : Ideal) → ShowsDevice size seen device → list_all is_over device.opened ≡ true

-- One operation was added after what was seen before, and got this answer. If the events show a run of the
-- never-failing disk, so do the earlier ones, and the answer is one that such a disk gives.
pub record IsShown (size : ℕ) (before seen : List Event) (o : Op) (a : Answer) : Type 0 where
  pub continues : (device : Ideal) → ShowsDevice size seen device → (earlier : Ideal) × ShowsDevice size before earlier
  pub serves : static_check Block size o ≡ None → (disk after : List (List ℕ)) → ShowsDisk size before disk
      → ShowsDisk size seen after → ServesSaid disk o a after

-- a part of class block gives only these answers to an operation that passes the static check: what was asked for, a
-- block that failed, or Gone
abbrev pub MayAnswer : Answer → Op → Type 0
MayAnswer (answered.Blocks words) (Read first count) = Unit {0}
MayAnswer answered.Done (Write first words) = Unit {0}
MayAnswer (answered.IoError block) o = Unit {0}
MayAnswer (answered.Gone failures) o = Unit {0}
MayAnswer a o = ⊥
