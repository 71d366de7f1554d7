-- What the seat at one side of a mirror knows, and what an operation of the mirror adds to it.
use Rattle.std.specs.Prelude.{◌≡◌, ℕ, ◌<◌, ◌⊎◌, Bool, true, false, List, [], ◌∷◌, length, drop, Option, Some, None}
use Rattle.std.specs.Prelude.{Result, Ok, Err}
use mathlib.Core.List.{IsPrefix}
use Rattle.nook_data.specs.declared.calls.Answer.{Answer}
use Rattle.nook_data.specs.declared.calls.Answer.TheVariants as answered
use Rattle.nook_data.specs.declared.classes.Class.TheVariants as class
use Rattle.nook_data.specs.declared.steps.Event.{Event}
use Rattle.nook_data.specs.declared.steps.Event.TheVariants as event
use Rattle.nook_data.specs.declared.calls.Op.{Op}
use Rattle.nook_data.specs.declared.scenario.PartSpec.{PartSpec}
use Rattle.part_defs.specs.Runs.{IsRun, state_of}
use Rattle.nook_data.specs.Classes.{static_check}
use Rattle.nook_data.specs.Answers.{answer_at}
use Rattle.desk_like.specs.Desks.{Accounts, DeskView, IsAlone}
use Rattle.mirror_block.specs.declared.stop.MirrorStop.{MirrorStop}
use Rattle.mirror_block.specs.declared.stop.MirrorStop.TheVariants as stop
use Rattle.mirror_block.specs.Disk.{IsIdleAfter, IsShown, MayAnswer}
use Rattle.mirror_block.specs.Rule.{Presence, asks_right}

-- ---- what a seat has seen

-- what a seat has seen since
abbrev pub gained : DeskView → DeskView → List Event
gained old new = drop (length old.seen) new.seen

-- a seat knows the same as before, whatever its clock
pub record KnowsSame (old new : DeskView) : Type 0 where
  pub seen : new.seen ≡ old.seen
  pub made : new.made ≡ old.made
  pub share : new.share ≡ old.share

-- a call with its number, its thread and its operation
pub record Invocation : Type 0 where
  pub call : ℕ
  pub thread : ℕ
  pub op : Op

-- the calls that are invoked in these events
abbrev pub invocations : List Event → List Invocation
invocations [] = []
invocations (event.Invoke call thread o answer ∷ events) =
    record { call = call; thread = thread; op = o } ∷ invocations events
invocations (e ∷ events) = invocations events

abbrev pub or_later : Option Answer → Option Answer → Option Answer
or_later (Some a) later = Some a
or_later None later = later

-- the first answer that these events give to a call
abbrev pub first_answer : ℕ → List Event → Option Answer
first_answer call [] = None
first_answer call (e ∷ events) = or_later (answer_at call e) (first_answer call events)

abbrev pub and_more : Option Answer → List Answer → List Answer
and_more None answers = answers
and_more (Some a) answers = a ∷ answers

-- the answers to the calls that are invoked in these events, in the order of the calls; an open call has none
abbrev pub answers_given : List Event → List Answer
answers_given [] = []
answers_given (event.Invoke call thread o answer ∷ events) =
    and_more (first_answer call (event.Invoke call thread o answer ∷ events)) (answers_given events)
answers_given (e ∷ events) = answers_given events

-- ---- a side

-- a side before the mirror is made: a disk with this many blocks, whose only seat has seen nothing
pub record IsNewSide (spec : PartSpec) (blocks : ℕ) (v : DeskView) : Type 0 where
  pub class : spec.class ≡ class.Block
  pub size : spec.blocks ≡ blocks
  pub alone : IsAlone v
  pub accounts : Accounts v
  pub seen : v.seen ≡ []

-- a side of a mirror with this many blocks, which has stopped or not: its seat is the only one at its desk, and added
-- all that it has seen; unless the mirror has stopped, no call is open
pub record IsSide (spec : PartSpec) (blocks : ℕ) (stopped : Bool) (v : DeskView) : Type 0 where
  pub class : spec.class ≡ class.Block
  pub size : spec.blocks ≡ blocks
  pub alone : IsAlone v
  pub accounts : Accounts v
  pub run : IsRun spec v.seen
  pub none_open : stopped ≡ false → (state_of spec v.seen).log.pending ≡ []
  pub idle : stopped ≡ false → IsIdleAfter blocks v.seen

-- ---- what an operation adds

-- The side was asked: its seat has seen one more invocation, of thread 0 and this operation. Before that it had seen
-- fewer than 100,000 invocations.
pub record IsAsked (old new : DeskView) (o : Op) : Type 0 where
  pub seen : IsPrefix old.seen new.seen
  pub call : ℕ
  pub invoked : invocations (gained old new) ≡ record { call = call; thread = 0; op = o } ∷ []
  pub room : length (invocations old.seen) < 100000

-- The side was asked once if it gave these answers; if it gave none, its seat knows nothing new
abbrev pub IsAskedFor : DeskView → DeskView → Op → List Answer → Type 0
IsAskedFor old new o [] = KnowsSame old new
IsAskedFor old new o (a ∷ answers) = IsAsked old new o

-- the answers that the seat saw to calls of the operation
abbrev pub answers_gained : DeskView → DeskView → List Answer
answers_gained old new = answers_given (gained old new)

abbrev pub IsServed : DeskView → DeskView → Op → Type 0
IsServed old new o = IsAskedFor old new o (answers_gained old new)

-- the side ran out of memory, before the call was invoked or while it was open
abbrev pub NeedsMemory : DeskView → DeskView → Op → Type 0
NeedsMemory old new o = KnowsSame old new ⊎ (IsAsked old new o × (answers_gained old new ≡ []))

-- the side has all the calls that a part may have, and nothing was invoked
abbrev pub IsFull : DeskView → DeskView → Op → Type 0
IsFull old new o = KnowsSame old new × (length (invocations old.seen) ≡ 100000)

-- if the side was present, it was asked and answered Gone
abbrev pub SaysGone : Bool → List Answer → Type 0
SaysGone present answers = present ≡ true → (failures : ℕ) × (answers ≡ answered.Gone failures ∷ [])

-- ---- how asking the sides ends

-- The side was asked exactly if it should be, and said this, which is an answer to the operation. No call is open at
-- it.
abbrev pub IsSaid : PartSpec → DeskView → DeskView → Bool → Op → Option Answer → Type 0
IsSaid spec old new asked o None = (asked ≡ false) × (new ≡ old)
IsSaid spec old new asked o (Some a) =
    (asked ≡ true) × IsAsked old new o × (answers_gained old new ≡ a ∷ []) × IsSide spec spec.blocks false new
    × IsShown spec.blocks old.seen new.seen o a × (static_check class.Block spec.blocks o ≡ None → MayAnswer a o)

-- the side, 0 or 1, was asked and interrupted
abbrev pub IsCut : PartSpec → DeskView → DeskView → ℕ → Bool → Op → MirrorStop → Type 0
IsCut spec old new number asked o (stop.NoMemory (Some side)) =
    (asked ≡ true) × (side ≡ number) × NeedsMemory old new o × IsSide spec spec.blocks true new
IsCut spec old new number asked o (stop.TooManyCalls side) = (asked ≡ true) × (side ≡ number) × IsFull old new o
IsCut spec old new number asked o _ = ⊥

-- how asking one side ends
abbrev pub AskEnds : PartSpec → DeskView → DeskView → ℕ → Bool → Op → Result (Option Answer) MirrorStop → Type 0
AskEnds spec old new number asked o (Ok said) = IsSaid spec old new asked o said
AskEnds spec old new number asked o (Err why) = IsCut spec old new number asked o why

-- what the seats at both sides knew and know, and the specs of their parts
pub record Sides : Type 0 where
  pub left_spec : PartSpec
  pub right_spec : PartSpec
  pub left_old : DeskView
  pub left_new : DeskView
  pub right_old : DeskView
  pub right_new : DeskView

-- the left side was interrupted before the right one was asked
abbrev pub IsLeftCut : Sides → Presence → Op → MirrorStop → Type 0
IsLeftCut s present o why =
    IsCut s.left_spec s.left_old s.left_new 0 present.left o why × (s.right_new ≡ s.right_old)

-- the right side was interrupted, after the left one said something or was not asked
pub record IsRightCut (s : Sides) (present : Presence) (o : Op) (why : MirrorStop) : Type 0 where
  pub left : Option Answer
  pub left_said : IsSaid s.left_spec s.left_old s.left_new present.left o left
  pub right_cut : IsCut s.right_spec s.right_old s.right_new 1 (asks_right present o left) o why

-- how asking both sides ends
abbrev pub AskBothEnds : Sides → Presence → Op → Result (Option Answer × Option Answer) MirrorStop → Type 0
AskBothEnds s present o (Ok said) =
    IsSaid s.left_spec s.left_old s.left_new present.left o said.0
    × IsSaid s.right_spec s.right_old s.right_new (asks_right present o said.0) o said.1
AskBothEnds s present o (Err why) = IsLeftCut s present o why ⊎ IsRightCut s present o why
