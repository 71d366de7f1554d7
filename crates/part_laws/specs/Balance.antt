use Rattle.std.specs.Prelude.{◌≡◌, ℕ, ◌+◌, Option, Some, List, length}
use Rattle.nook_data.specs.declared.steps.Stage.{Stage}
use Rattle.nook_data.specs.declared.steps.Stage.TheVariants as stage
use Rattle.part_laws.specs.Counts.{Counts}
use Rattle.part_laws.specs.Views.{View, Past, stage_of}

-- Where the frames that arrived are. Each was lost, is in the ring, or was popped or cleared. Of the last two, each is
-- in the queue, was received from it, was refused by it, is in the driver, or was lost at a Reset.

-- the counts of frames
pub record FrameCounts : Type 0 where
  pub arrived : ℕ
  pub received : ℕ
  pub taken : ℕ
  pub refused : ℕ
  pub kept : ℕ
  pub lost : ℕ
  pub popped : ℕ
  pub cleared : ℕ
  pub popped_since : ℕ
  pub handed_since : ℕ
  pub reset : ℕ

-- the counts of frames among all counts
abbrev pub frame_counts : Counts → FrameCounts
frame_counts n = record {
  arrived = n.arrived;
  received = n.received;
  taken = n.taken;
  refused = n.refused;
  kept = n.kept;
  lost = n.lost;
  popped = n.popped;
  cleared = n.cleared;
  popped_since = n.popped_since;
  handed_since = n.handed_since;
  reset = n.reset;
}

-- how many frames a driver holds: none between Reset and Load, because the Reset counted them as lost
abbrev pub held_at : Option Stage → List (List ℕ) → ℕ
held_at (Some stage.Load) rest = 0
held_at s rest = length rest

-- the counts balance with these numbers of frames in the ring, in the queue and in the driver
pub record Balance (ring queue held : ℕ) (t : FrameCounts) : Type 0 where
  pub arrived : t.arrived ≡ t.kept + t.lost
  pub kept : t.kept ≡ t.popped + t.cleared + ring
  pub taken : t.taken ≡ t.received + queue
  pub driver : t.popped_since ≡ t.handed_since + held
  pub flow : t.popped + t.cleared ≡ t.taken + t.refused + held + t.reset

-- the counts balance for a part's view and past
abbrev pub Balanced : View → Past → Counts → Type 0
Balanced v b n = Balance (length v.dev.ring) (length v.queue) (held_at (stage_of v.mode) b.rest) (frame_counts n)
