-- The run of a mirror: one disk that a scenario's thread reads and writes, kept by the drivers of two parts.
use Rattle.std.specs.Prelude.{◌≡◌, ℕ, ◌==◌, ◌&&◌, if◌then◌else◌, Bool, true, false, List, [], ◌∷◌, map}
use Rattle.std.specs.List.{list_all, list_any}
use mathlib.Core.List.{IsPrefix}
use Rattle.machine_defs.specs.Devices.{medium_of}
use Rattle.nook_data.specs.Classes.{same_class}
use Rattle.report_defs.specs.ReportText.{has_break}
use Rattle.nook_data.specs.declared.classes.Class.TheVariants as class
use Rattle.nook_data.specs.declared.steps.Event.{Event}
use Rattle.nook_data.specs.declared.mirror.MirrorAnswer.{MirrorAnswer}
use Rattle.nook_data.specs.declared.mirror.MirrorAnswer.TheVariants as mirror
use Rattle.nook_data.specs.declared.calls.Op.{Op}
use Rattle.nook_data.specs.declared.calls.Op.TheVariants as op
use Rattle.nook_data.specs.declared.scenario.PartSpec.{PartSpec}
use Rattle.nook_data.specs.declared.scenario.Scenario.{Scenario}
use Rattle.nook_data.specs.declared.scenario.ThreadSpec.{ThreadSpec}
use Rattle.mirror_block.specs.Rule.{Presence, both_present}
use Rattle.mirrored_run.specs.Exchanges.{AreExchanges, ArePlain, Exchange, answers_of, left_events, ops_of}
use Rattle.mirrored_run.specs.Exchanges.{right_events}
use Rattle.part_defs.specs.Runs.{state_of}
use Rattle.threaded_run.specs.Leaving.{GoesOn}
use Rattle.threaded_run.specs.Threaded.{AreSettled}

-- ---- which scenarios a mirror serves

-- a Read or a Write of the first part
abbrev pub is_mirrored_op : ℕ × Op → Bool
is_mirrored_op (part, op.Read first count) = part == 0
is_mirrored_op (part, op.Write first words) = part == 0
is_mirrored_op o = false

-- two disks with the same number of blocks
abbrev pub is_pair : List PartSpec → Bool
is_pair (left ∷ right ∷ []) =
    same_class left.class class.Block && (same_class right.class class.Block && (left.blocks == right.blocks))
is_pair specs = false

-- no thread, or one that only reads and writes the first part
abbrev pub is_single : List ThreadSpec → Bool
is_single [] = true
is_single (t ∷ []) = list_all is_mirrored_op t.ops
is_single threads = false

-- a mirror serves the scenario: it has two disks of one size, and at most one thread, which only reads and writes the
-- first
unfoldable pub is_mirror : Scenario → Bool
is_mirror scenario = is_pair scenario.parts && is_single scenario.threads

-- ---- what it asks and answers

abbrev pub ops_of_thread : List ThreadSpec → List Op
ops_of_thread [] = []
ops_of_thread (t ∷ threads) = map (λ o. o.1) t.ops

-- the operations of the mirror
abbrev pub mirror_ops : Scenario → List Op
mirror_ops scenario = ops_of_thread scenario.threads

abbrev pub size_of : List PartSpec → ℕ
size_of [] = 0
size_of (spec ∷ specs) = spec.blocks

-- the number of blocks of the mirror
abbrev pub mirror_blocks : Scenario → ℕ
mirror_blocks scenario = size_of scenario.parts

abbrev pub is_lost : MirrorAnswer → Bool
is_lost mirror.BothLost = true
is_lost a = false

-- the medium that a part ends with, as in its `disk` lines
abbrev pub end_medium : PartSpec → List Event → List (List ℕ)
end_medium spec journal = medium_of (state_of spec journal).domain.device

-- the medium of each side that is present is this disk
abbrev pub HaveDisk : List PartSpec → Presence → List Event → List Event → List (List ℕ) → Type 0
HaveDisk (l ∷ r ∷ []) present left right disk =
    (present.left ≡ true → end_medium l left ≡ disk) × (present.right ≡ true → end_medium r right ≡ disk)
HaveDisk specs present left right disk = ⊥

-- The run of a mirror that leaves two journals and these answers.
pub record IsMirrorRun (scenario : Scenario) (left right : List Event) (answers : List MirrorAnswer) : Type 0 where
  -- the operations of the script, in order, with these answers
  pub exchanges : List Exchange
  pub ops : ops_of exchanges ≡ mirror_ops scenario
  pub answers_are : answers_of exchanges ≡ answers
  -- which sides are present at the end
  pub present : Presence
  pub asked : AreExchanges (mirror_blocks scenario) both_present exchanges present
  -- each journal is what these exchanges added, and continues without a call until its part has no step left
  pub left_goes_on : GoesOn (left_events exchanges) left
  pub right_goes_on : GoesOn (right_events exchanges) right
  pub settled : AreSettled scenario.parts (left ∷ right ∷ [])
  -- over each prefix of the operations, if none is answered BothLost and no driver broke the contract in the events so
  -- far, the answers are those of one plain disk with bad blocks
  pub plain : (front : List Exchange) → IsPrefix front exchanges → list_any is_lost (answers_of front) ≡ false
      → has_break scenario.parts (left_events front ∷ right_events front ∷ []) ≡ false
      → (disk : List (List ℕ)) × ArePlain (mirror_blocks scenario) front disk
  -- if that holds to the end of both journals, each side that is present ends with that disk
  pub disks : list_any is_lost answers ≡ false → has_break scenario.parts (left ∷ right ∷ []) ≡ false
      → (disk : List (List ℕ)) × ArePlain (mirror_blocks scenario) exchanges disk
      × HaveDisk scenario.parts present left right disk

-- ---- the status

-- 7 if a part broke its contract, otherwise 1 if both sides were lost at an operation, otherwise 0
abbrev pub mirror_status : Scenario → List Event → List Event → List MirrorAnswer → ℕ
mirror_status scenario left right answers =
    if has_break scenario.parts (left ∷ right ∷ []) then 7 else if list_any is_lost answers then 1 else 0
