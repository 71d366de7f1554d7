-- How many words an answer has, and which event invokes a call.
use Rattle.std.specs.Prelude.{◌≡◌, ℕ, ◌≤◌, ◌==◌, ◌&&◌, Bool, false, Some, length}
use Rattle.nook_data.specs.declared.calls.Answer.{Answer}
use Rattle.nook_data.specs.declared.steps.Event.{Event}
use Rattle.nook_data.specs.declared.steps.Event.TheVariants as event
use Rattle.nook_data.specs.declared.calls.Op.{Op}
use Rattle.nook_data.specs.declared.limits.TheConstants.{MOST_ANSWER_WORDS}
use Rattle.nook_data.specs.Views.Room.{answer_words}
use Rattle.nook_data.specs.Answers.{answer_at}
use Rattle.desk_like.specs.Desks.{IsInvoke}

-- an answer of at most 128 words
abbrev pub IsShort : Answer → Type 0
IsShort a = length (answer_words a) ≤ MOST_ANSWER_WORDS

-- an event's answers are short
abbrev pub AnswersShortly : Event → Type 0
AnswersShortly e = (call : ℕ) (a : Answer) → answer_at call e ≡ Some a → IsShort a

-- the event invokes this call of this thread
abbrev pub is_invocation : ℕ → ℕ → Event → Bool
is_invocation call thread (event.Invoke c t o a) = c == call && t == thread
is_invocation call thread _ = false

-- the event invokes this call of this thread, for some operation
abbrev pub InvokesCall : ℕ → ℕ → Event → Type 0
InvokesCall call thread e = (o : Op) × IsInvoke call thread o e

-- the event is an invocation
abbrev pub Invokes : Event → Type 0
Invokes (event.Invoke c t o a) = Unit {0}
Invokes _ = ⊥

-- the event invokes the call with this number
abbrev pub Numbers : ℕ → Event → Type 0
Numbers call (event.Invoke c t o a) = c ≡ call
Numbers call _ = ⊥
