-- What a mirror asked its sides, operation by operation, and what they answered.
use Rattle.std.specs.Prelude.{◌≡◌, ℕ, Some, List, [], ◌∷◌, map}
use Rattle.std.specs.List.{flat_map}
use Rattle.mirror_block.specs.Disk.{ServesAll}
use Rattle.mirror_block.specs.Rule.{Presence, mirror_step}
use Rattle.mirror_block.specs.Sides.{SaysGone, answers_given, invocations}
use Rattle.nook_data.specs.declared.calls.Answer.{Answer}
use Rattle.nook_data.specs.declared.calls.Op.{Op}
use Rattle.nook_data.specs.declared.classes.Class.TheVariants as class
use Rattle.nook_data.specs.declared.mirror.MirrorAnswer.{MirrorAnswer}
use Rattle.nook_data.specs.declared.mirror.MirrorAnswer.TheVariants as mirror
use Rattle.nook_data.specs.declared.steps.Event.{Event}
use Rattle.promise_defs.specs.Blocks.{blank_blocks}

-- One operation of a mirror: the events that each side's journal gained while it was served, and its answer.
pub record Exchange : Type 0 where
  pub op : Op
  pub left : List Event
  pub right : List Event
  pub answer : MirrorAnswer

-- In these events, with these answers, a side was asked this operation by thread 0, once, and answered. If there is no
-- answer, it was not asked, and nothing happened.
abbrev pub IsAsking : Op → List Event → List Answer → Type 0
IsAsking o events [] = events ≡ []
IsAsking o events (a ∷ answers) =
    (call : ℕ) × (invocations events ≡ record { call = call; thread = 0; op = o } ∷ [])

-- An exchange of a mirror with this many blocks, with the sides that are present before and after it. Each side was
-- asked that operation alone. Who was asked, who stays and what is answered follows from one step of the rule over the
-- sides' answers, all of which it uses. The answer is BothLost only if each side that was present was asked and
-- answered Gone.
pub record IsExchange (blocks : ℕ) (before : Presence) (x : Exchange) (after : Presence) : Type 0 where
  pub left : IsAsking x.op x.left (answers_given x.left)
  pub right : IsAsking x.op x.right (answers_given x.right)
  pub step : mirror_step blocks before x.op (answers_given x.left) (answers_given x.right)
      ≡ Some (record { outcome = record { present = after; answer = x.answer }; left = []; right = [] })
  pub lost : x.answer ≡ mirror.BothLost
      → SaysGone before.left (answers_given x.left) × SaysGone before.right (answers_given x.right)

-- the same for exchanges one after the other
abbrev pub AreExchanges : ℕ → Presence → List Exchange → Presence → Type 0
AreExchanges blocks before [] after = after ≡ before
AreExchanges blocks before (x ∷ xs) after =
    (between : Presence) × IsExchange blocks before x between × AreExchanges blocks between xs after

-- what each side's journal gained in exchanges
abbrev pub left_events : List Exchange → List Event
left_events xs = flat_map (λ x. x.left) xs

abbrev pub right_events : List Exchange → List Event
right_events xs = flat_map (λ x. x.right) xs

-- the operations, and the answers
abbrev pub ops_of : List Exchange → List Op
ops_of xs = map (λ x. x.op) xs

abbrev pub answers_of : List Exchange → List MirrorAnswer
answers_of xs = map (λ x. x.answer) xs

-- the answers to the operations are those of one plain disk with this many blocks, any of which may be bad, and this is
-- the disk after them
abbrev pub ArePlain : ℕ → List Exchange → List (List ℕ) → Type 0
ArePlain blocks xs disk =
    ServesAll blocks (blank_blocks class.Block blocks) (map (λ x. (x.op, x.answer)) xs) disk
