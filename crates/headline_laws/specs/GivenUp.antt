use Rattle.std.specs.Prelude.{◌≡◌, ℕ, Some, [], unwrap_or}
use Rattle.nook_data.specs.Types.{Answer, Event, Op, PartSpec}
use Rattle.nook_data.specs.declared.calls.Answer.TheVariants as answer
use Rattle.nook_data.specs.declared.steps.Event.TheVariants as event
use Rattle.nook_data.specs.declared.steps.Stage.TheVariants as stage
use Rattle.nook_data.specs.Classes.{static_check}
use Rattle.part_defs.specs.Log.{gone_answers}
use Rattle.part_defs.specs.State.{PartState}

-- What a part answers when it is given up, and after that.

-- the event that gives a part up: a Stop that answers each open call Gone, with the number of failures
abbrev pub IsGivingUp : PartState → ℕ → Event → Type 0
IsGivingUp p failures e = e ≡ event.Stage stage.Stop (gone_answers failures p.log.pending) []

-- the answer of a part that was given up after this number of failures: the static check's, if it has one, else Gone
abbrev pub answer_given_up : PartSpec → ℕ → Op → Answer
answer_given_up spec failures o = unwrap_or (static_check spec.class spec.blocks o) (answer.Gone failures)

-- an event of a part that was given up: an operation is answered at once. No call enters, no driver runs, and the only
-- stage that remains is Collect, which answers nothing
abbrev pub IsOfGivenUp : PartSpec → ℕ → Event → Type 0
IsOfGivenUp spec failures (event.Invoke call thread o a) = a ≡ Some (answer_given_up spec failures o)
IsOfGivenUp spec failures (event.Enter call thread attempt a) = ⊥
IsOfGivenUp spec failures (event.Burst context call burst count e acts a failure) = ⊥
IsOfGivenUp spec failures (event.Stage s answers released) = (s ≡ stage.Collect) × (answers ≡ [])
IsOfGivenUp spec failures (event.Arrive frame kept) = Unit {0}
