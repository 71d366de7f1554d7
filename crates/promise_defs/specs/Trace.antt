use Rattle.std.specs.Prelude.{ℕ, Bool, true, false, List, [], ◌∷◌, ◌++◌, fold, map, Option, Some, ◌&&◌}
use Rattle.std.specs.Prelude.{if◌then◌else◌}
use Rattle.nook_data.specs.Types.{Act, Answer, Event, Op}
use Rattle.nook_data.specs.declared.machine.Act.TheVariants as act
use Rattle.nook_data.specs.declared.calls.Answer.TheVariants as answered
use Rattle.nook_data.specs.declared.steps.Event.TheVariants as event
use Rattle.nook_data.specs.Answers.{one_answer}
use Rattle.nook_data.specs.Classes.{covers, is_write}
use Rattle.nook_data.specs.Numbered.{at_number, change_number}

-- What a journal shows to applications and the outside: answers, sent frames, played samples and arrivals.
pub data Visible : Type 0 where
  -- a call with its number, its thread and its operation
  called : ℕ → ℕ → Op → Visible
  -- a frame that was sent in a call
  wire : ℕ → List ℕ → Visible
  -- a sample with the rate and the volume at which it was played
  sample : ℕ → ℕ → ℕ → Visible
  -- a frame that arrived, kept or lost
  arrived : List ℕ → Visible
  -- a call's answer; if it reports to a Write that the medium failed, also the blocks of the Write that were stored
  answer : ℕ → Answer → List ℕ → Visible

-- the trace's record of a call: its operation, whether it was entered, and which of its blocks were stored since then
pub record Track : Type 0 where
  pub op : Op
  pub entered : Bool
  pub stored : List ℕ

-- ---- the calls after an event

-- the calls after an act: a stored block belongs to the entered Writes that cover it
abbrev pub tracks_after_act : List Track → Act → List Track
tracks_after_act ts (act.Store block words) =
    map (λ (t : Track). record t { stored = if t.entered && covers t.op block then block ∷ t.stored else t.stored }) ts
tracks_after_act ts a = ts

-- the calls after an event
abbrev pub tracks_after : Event → List Track → List Track
tracks_after (event.Invoke call thread o a) ts = ts ++ record { op = o; entered = false; stored = [] } ∷ []
tracks_after (event.Enter call thread attempt a) ts = change_number (λ t. record t { entered = true }) call ts
tracks_after (event.Burst context call burst count end acts a failure) ts = fold tracks_after_act ts acts
tracks_after (event.Stage stage answers released) ts = ts
tracks_after (event.Arrive frame kept) ts = ts

-- ---- what an event shows, given the calls after it

-- the stored blocks that are shown with an answer
abbrev pub kept_blocks : Answer → Option Track → List ℕ
kept_blocks (answered.IoError block) (Some t) = if is_write t.op then t.stored else []
kept_blocks a t = []

-- answers that applications see, in order
abbrev pub shown_answers : List (ℕ × Answer) → List Track → List Visible
shown_answers answers ts = map (λ a. answer a.0 a.1 (kept_blocks a.1 (at_number a.0 ts))) answers

-- the answer that an application sees, if there is one
abbrev pub shown_option : ℕ → Option Answer → List Track → List Visible
shown_option call a ts = shown_answers (one_answer call a) ts

-- the visible acts of a burst of a call: frames sent and samples played
abbrev pub shown_acts : ℕ → List Act → List Visible
shown_acts call [] = []
shown_acts call (act.Sent frame ∷ acts) = wire call frame ∷ shown_acts call acts
shown_acts call (act.Played word rate volume ∷ acts) = sample word rate volume ∷ shown_acts call acts
shown_acts call (a ∷ acts) = shown_acts call acts

-- what an event shows, in order
abbrev pub shown : Event → List Track → List Visible
shown (event.Invoke call thread o a) ts = called call thread o ∷ shown_option call a ts
shown (event.Enter call thread attempt a) ts = shown_option call a ts
shown (event.Burst context call burst count end acts a failure) ts = shown_acts call acts ++ shown_option call a ts
shown (event.Stage stage answers released) ts = shown_answers answers ts
shown (event.Arrive frame kept) ts = arrived frame ∷ []

-- what events show, given the tracks before them
unfoldable pub trace_from : List Track → List Event → List Visible
trace_from ts [] = []
trace_from ts (e ∷ events) = shown e (tracks_after e ts) ++ trace_from (tracks_after e ts) events

-- the visible trace of a journal
unfoldable pub trace : List Event → List Visible
trace events = trace_from [] events
