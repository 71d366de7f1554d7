-- The rule of a mirror, one disk over two sides: who is asked, who stays, and what is answered.
use Rattle.std.specs.Prelude.{ℕ, Bool, true, false, List, [], ◌∷◌, Option, Some, None, is_some, option_and_then, ◌/◌}
use Rattle.std.specs.Prelude.{◌&&◌, ◌||◌, not, if◌then◌else◌}
use Rattle.nook_data.specs.declared.calls.Answer.{Answer}
use Rattle.nook_data.specs.declared.calls.Answer.TheVariants as answered
use Rattle.nook_data.specs.declared.classes.Class.TheVariants.{Block}
use Rattle.nook_data.specs.declared.mirror.MirrorAnswer.{MirrorAnswer}
use Rattle.nook_data.specs.declared.mirror.MirrorAnswer.TheVariants as mirror
use Rattle.nook_data.specs.declared.calls.Op.{Op}
use Rattle.nook_data.specs.declared.calls.Op.TheVariants.{Read, Write}
use Rattle.nook_data.specs.Classes.{is_block_length, is_write, static_check}

-- which of the two sides are still asked
pub record Presence : Type 0 where
  pub left : Bool
  pub right : Bool

abbrev pub both_present : Presence
both_present = record { left = true; right = true }

-- which sides stay, and what the mirror answers
pub record Outcome : Type 0 where
  pub present : Presence
  pub answer : MirrorAnswer

abbrev pub outcome : Bool → Bool → MirrorAnswer → Outcome
outcome left right a = record { present = record { left = left; right = right }; answer = a }

-- ---- what a side said; None if it was not asked

-- the side did the Write
abbrev pub is_done : Option Answer → Bool
is_done (Some answered.Done) = true
is_done _ = false

-- the blocks that the side read
abbrev pub words_read : Option Answer → Option (List ℕ)
words_read (Some (answered.Blocks words)) = Some words
words_read _ = None

-- the block at which the side's medium failed
abbrev pub failed_block : Option Answer → Option ℕ
failed_block (Some (answered.IoError block)) = Some block
failed_block _ = None

-- ---- a Write

-- if no side did it, the first side whose medium failed stays alone
abbrev pub after_failed_write : Option ℕ → Option ℕ → Outcome
after_failed_write (Some block) right = outcome true false (mirror.IoError block)
after_failed_write None (Some block) = outcome false true (mirror.IoError block)
after_failed_write None None = outcome false false mirror.BothLost

-- the sides that did it stay; every other side that was asked is removed
abbrev pub after_write : Option Answer → Option Answer → Outcome
after_write left right =
    if is_done left || is_done right
    then outcome (is_done left) (is_done right) mirror.Done
    else after_failed_write (failed_block left) (failed_block right)

-- ---- a Read

-- a side that gave blocks or whose medium failed stays; any other answer removes it; a side that was not asked is
-- present as before
abbrev pub stays_after_read : Bool → Option Answer → Bool
stays_after_read present None = present
stays_after_read present (Some (answered.Blocks words)) = true
stays_after_read present (Some (answered.IoError block)) = true
stays_after_read present (Some _) = false

-- the first block that failed, if no side gave blocks
abbrev pub failed_read : Option ℕ → Option ℕ → MirrorAnswer
failed_read (Some block) right = mirror.IoError block
failed_read None (Some block) = mirror.IoError block
failed_read None None = mirror.BothLost

-- the blocks of the first side that gave any
abbrev pub read_answer : Option (List ℕ) → Option (List ℕ) → MirrorAnswer → MirrorAnswer
read_answer (Some words) right failed = mirror.Blocks words
read_answer None (Some words) failed = mirror.Blocks words
read_answer None None failed = failed

abbrev pub after_read : Presence → Option Answer → Option Answer → Outcome
after_read present left right =
    outcome (stays_after_read present.left left) (stays_after_read present.right right)
    (read_answer (words_read left) (words_read right) (failed_read (failed_block left) (failed_block right)))

-- ---- who is asked

-- a Read or a Write
abbrev pub is_disk_op : Op → Bool
is_disk_op (Read first count) = true
is_disk_op (Write first words) = true
is_disk_op _ = false

-- the right side is asked in each Write, and in a Read if the left side gave no blocks
abbrev pub asks_right : Presence → Op → Option Answer → Bool
asks_right present o left = present.right && (is_write o || not (is_some (words_read left)))

abbrev pub after_asking : Presence → Op → Option Answer → Option Answer → Outcome
after_asking present o left right = if is_write o then after_write left right else after_read present left right

-- ---- one step

-- what a side said, and its later answers
pub record Said : Type 0 where
  pub said : Option Answer
  pub rest : List Answer

-- a side that is asked gives its next answer; there is no result if it has none left
abbrev pub says : Bool → List Answer → Option Said
says false answers = Some (record { said = None; rest = answers })
says true [] = None
says true (a ∷ answers) = Some (record { said = Some a; rest = answers })

-- what a step leads to, and the answers of each side that it leaves
pub record MirrorStep : Type 0 where
  pub outcome : Outcome
  pub left : List Answer
  pub right : List Answer

abbrev pub mirror_step_of : Presence → Op → Said → Said → MirrorStep
mirror_step_of present o left right = record {
  outcome = after_asking present o left.said right.said;
  left = left.rest;
  right = right.rest;
}

-- the sides are asked in order
abbrev pub step_asking : Presence → Op → List Answer → List Answer → Option MirrorStep
step_asking present o lefts rights =
    option_and_then
    (λ left. option_and_then
    (λ right. Some (mirror_step_of present o left right)) (says (asks_right present o left.said) rights))
    (says present.left lefts)

-- what the mirror answers if the static check refuses a Read or Write
abbrev pub refusal_of : Answer → Option MirrorAnswer
refusal_of answered.BadLength = Some mirror.BadLength
refusal_of answered.BadRange = Some mirror.BadRange
refusal_of _ = None

abbrev pub refusal_by : Option Answer → Option MirrorAnswer
refusal_by None = None
refusal_by (Some refusal) = refusal_of refusal

-- no side is asked
abbrev pub step_refused : Presence → Option MirrorAnswer → List Answer → List Answer → Option MirrorStep
step_refused present None lefts rights = None
step_refused present (Some a) lefts rights =
    Some (record { outcome = record { present = present; answer = a }; left = lefts; right = rights })

abbrev pub step_checked : Option Answer → Presence → Op → List Answer → List Answer → Option MirrorStep
step_checked None present o lefts rights = step_asking present o lefts rights
step_checked (Some refusal) present o lefts rights = step_refused present (refusal_of refusal) lefts rights

-- One operation on a disk with this many blocks, from the sides that are present, with the answers that each side has
-- for its calls: what it leads to, and the answers that it does not use. There is no step if a side that has no answer
-- left is asked, or if the operation is neither a Read nor a Write.
abbrev pub mirror_step : ℕ → Presence → Op → List Answer → List Answer → Option MirrorStep
mirror_step blocks present (Read first count) lefts rights =
    step_checked (static_check Block blocks (Read first count)) present (Read first count) lefts rights
mirror_step blocks present (Write first words) lefts rights =
    step_checked (static_check Block blocks (Write first words)) present (Write first words) lefts rights
mirror_step blocks present _ lefts rights = None

-- ---- a side that is asked and has not answered

-- the answer that a side gave, if it was asked and gave one
abbrev pub first_said : Bool → List Answer → Option Answer
first_said true (a ∷ answers) = Some a
first_said _ _ = None

abbrev pub lacks_answer : Bool → List Answer → Bool
lacks_answer true [] = true
lacks_answer _ _ = false

-- the side, 0 or 1, whose answer the operation waits for, after each side gave these answers
abbrev pub asked_of_two : Presence → Op → List Answer → List Answer → Option ℕ
asked_of_two present o lefts rights =
    if lacks_answer present.left lefts then Some 0
    else if lacks_answer (asks_right present o (first_said present.left lefts)) rights then Some 1
    else None

abbrev pub asked_unless : Bool → Option ℕ → Option ℕ
asked_unless true side = None
asked_unless false side = side

abbrev pub asked_next : ℕ → Presence → Op → List Answer → List Answer → Option ℕ
asked_next blocks present o lefts rights =
    asked_unless (is_some (static_check Block blocks o)) (asked_of_two present o lefts rights)

-- ---- the words of a Write

-- how many blocks this many words fill; 0 if they do not fill whole blocks, or fill more than one operation may cover
abbrev pub blocks_filled : ℕ → ℕ
blocks_filled n = if is_block_length n then n / 16 else 0

-- ---- a list of operations

-- which sides are present after operations, and the answer to each operation
pub record Mirrored : Type 0 where
  pub present : Presence
  pub answers : List MirrorAnswer

abbrev pub answered_first : MirrorAnswer → Mirrored → Option Mirrored
answered_first a more = Some (record more { answers = a ∷ more.answers })

-- at the end both lists are used up
abbrev pub mirrored_at_end : Presence → List Answer → List Answer → Option Mirrored
mirrored_at_end present [] [] = Some (record { present = present; answers = [] })
mirrored_at_end present _ _ = None

-- The rule over operations, with the answers of each side to all its calls, in order. Each step takes the answers that
-- it uses from the start of the lists. There is no result if the answers do not suffice, or if some are left.
abbrev pub mirrored : ℕ → Presence → List Op → List Answer → List Answer → Option Mirrored
mirrored blocks present [] lefts rights = mirrored_at_end present lefts rights
mirrored blocks present (o ∷ ops) lefts rights =
    option_and_then
    (λ s. option_and_then (answered_first s.outcome.answer) (mirrored blocks s.outcome.present ops s.left s.right))
    (mirror_step blocks present o lefts rights)
