use Rattle.std.specs.Prelude.{◌==◌, if◌then◌else◌, ℕ, List, [], ◌∷◌, Option, Some, None}
use Rattle.nook_data.specs.Types.{Answer, Event}
use Rattle.nook_data.specs.declared.steps.Event.TheVariants as event

-- the call's answer as a list, empty if there is none
abbrev pub one_answer : ℕ → Option Answer → List (ℕ × Answer)
one_answer call None = []
one_answer call (Some a) = (call, a) ∷ []

-- the calls that an event answers, each with its answer
abbrev pub answers_of : Event → List (ℕ × Answer)
answers_of (event.Invoke call thread o a) = one_answer call a
answers_of (event.Enter call thread attempt a) = one_answer call a
answers_of (event.Burst context call burst count e done a failure) = one_answer call a
answers_of (event.Stage s answers released) = answers
answers_of (event.Arrive frame kept) = []

-- the answer of a call among answers
abbrev pub answer_among : ℕ → List (ℕ × Answer) → Option Answer
answer_among call [] = None
answer_among call ((c, a) ∷ answers) = if c == call then Some a else answer_among call answers

-- the answer that an event gives to a call, if any
abbrev pub answer_at : ℕ → Event → Option Answer
answer_at call e = answer_among call (answers_of e)
