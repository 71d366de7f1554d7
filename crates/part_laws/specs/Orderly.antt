use Rattle.std.specs.Prelude.{◌≡◌, ◌⊎◌, ℕ, suc, Bool, true, false, List, [], ◌∷◌, ◌++◌, length, Option, Some, None}
use Rattle.std.specs.Prelude.{◌==◌, ◌&&◌, not, if◌then◌else◌}
use Rattle.std.specs.List.{list_any, AllByRecursion}
use Rattle.nook_data.specs.declared.calls.Answer.{Answer}
use Rattle.nook_data.specs.declared.steps.End.{End}
use Rattle.nook_data.specs.declared.steps.End.TheVariants as end
use Rattle.nook_data.specs.declared.steps.Event.{Event}
use Rattle.nook_data.specs.declared.steps.Event.TheVariants as event
use Rattle.nook_data.specs.declared.steps.FailCause.{FailCause}
use Rattle.nook_data.specs.declared.steps.Stage.{Stage}
use Rattle.nook_data.specs.declared.steps.Stage.TheVariants as stage
use Rattle.nook_data.specs.Answers.{answers_of}

-- What holds of every run: calls are numbered in the order in which they are made, an event concerns a call that is
-- open, and a call is answered once. A list has a flag for each call, by number: whether it is open.

-- the call with the number is open; the first flag is that of the call `first`
abbrev pub is_open : ℕ → ℕ → List Bool → Bool
is_open number first [] = false
is_open number first (o ∷ flags) = if first == number then o else is_open number (suc first) flags

-- the call with the number is among those that were answered
abbrev pub is_reported : List (ℕ × Answer) → ℕ → Bool
is_reported answers number = list_any (λ a. a.0 == number) answers

-- the flags after these answers
abbrev pub kept_from : ℕ → List (ℕ × Answer) → List Bool → List Bool
kept_from first answers [] = []
kept_from first answers (o ∷ flags) = (o && not (is_reported answers first)) ∷ kept_from (suc first) answers flags

-- the flags, with one added if the event makes a call
abbrev pub flags_during : List Bool → Event → List Bool
flags_during flags (event.Invoke call thread o a) = flags ++ true ∷ []
flags_during flags e = flags

-- the flags after an event
abbrev pub flags_after : List Bool → Event → List Bool
flags_after flags e = kept_from 1 (answers_of e) (flags_during flags e)

-- each answer is to an open call, and no two are to the same call
abbrev pub AreOwn : List Bool → List (ℕ × Answer) → Type 0
AreOwn flags [] = Unit {0}
AreOwn flags (a ∷ answers) = (is_open a.0 1 flags ≡ true) × (is_reported answers a.0 ≡ false) × AreOwn flags answers

-- a burst is for the shadow's own call, or for an open one
abbrev pub IsOfCall : ℕ → List Bool → Type 0
IsOfCall call flags = (call ≡ 0) ⊎ (is_open call 1 flags ≡ true)

-- an answer comes only with a reply; an answer or a served service never comes with a failure
abbrev pub IsCrossing : End → Option Answer → Option FailCause → Type 0
IsCrossing (end.Reply status) (Some a) (Some cause) = ⊥
IsCrossing (end.Reply status) a failure = Unit {0}
IsCrossing e (Some a) failure = ⊥
IsCrossing (end.Service number first second (Some result) moved) None (Some cause) = ⊥
IsCrossing e None failure = Unit {0}

-- only Stop answers calls
abbrev pub IsAnswering : Stage → List (ℕ × Answer) → Type 0
IsAnswering stage.Stop answers = Unit {0}
IsAnswering s answers = answers ≡ []

-- an event fits the calls so far
abbrev pub IsFitting : List Bool → Event → Type 0
IsFitting flags (event.Invoke call thread o a) = call ≡ suc (length flags)
IsFitting flags (event.Enter call thread attempt a) = is_open call 1 flags ≡ true
IsFitting flags (event.Burst context call burst count e acts a failure) =
    IsOfCall call flags × AreOwn flags (answers_of (event.Burst context call burst count e acts a failure))
    × IsCrossing e a failure
IsFitting flags (event.Stage s answers released) = IsAnswering s answers × AreOwn flags answers
IsFitting flags (event.Arrive frame kept) = Unit {0}

-- consecutive events are orderly
abbrev pub IsOrderlyFrom : List Bool → List Event → Type 0
IsOrderlyFrom flags [] = Unit {0}
IsOrderlyFrom flags (e ∷ events) = IsFitting flags e × IsOrderlyFrom (flags_after flags e) events
