use Rattle.std.specs.Prelude.{ℕ, Bool, true, false, List, [], ◌∷◌, ◌++◌, map, filter, find, fold, length, count_by}
use Rattle.std.specs.Prelude.{sum_by, flat_map, Option, Some, None, is_some, ◌+◌, ◌-◌, ◌==◌, not, if◌then◌else◌}
use Rattle.std.specs.List.{list_any}
use Rattle.nook_data.specs.Types.{Act, Answer, End, Event, Losses, Op}
use Rattle.nook_data.specs.declared.machine.Act.TheVariants as act
use Rattle.nook_data.specs.declared.calls.Answer.TheVariants as answer
use Rattle.nook_data.specs.declared.steps.End.TheVariants as end
use Rattle.nook_data.specs.declared.steps.Event.TheVariants as event
use Rattle.nook_data.specs.declared.calls.Op.TheVariants.{Send, Play}
use Rattle.nook_data.specs.declared.steps.Stage.TheVariants as stage
use Rattle.nook_data.specs.Answers.{answers_of}

-- What was lost, and where frames went: counts over a journal's events.

-- ---- arrivals

-- a frame arrived
abbrev pub is_arrival : Event → Bool
is_arrival e = elim e [ (event.Arrive frame kept) ↦ true | _ ↦ false ]

-- a frame arrived, and the ring was full
abbrev pub is_lost_arrival : Event → Bool
is_lost_arrival e = elim e [ (event.Arrive frame kept) ↦ not kept | _ ↦ false ]

-- ---- frames handed up: the queue takes one exactly if the service's result is not 0

-- the answer of service 6 at the end of a burst; it is not 0 if the queue took the frame
abbrev pub handed_result : End → Option ℕ
handed_result e = elim e [ (end.Service n first second result moved) ↦ if n == 6 then result else None | _ ↦ None ]

-- the answer of service 6 in an event
abbrev pub result_of : Event → Option ℕ
result_of e = elim e [ (event.Burst context call burst count ending acts a f) ↦ handed_result ending | _ ↦ None ]

-- a frame was handed up, and the queue took it
abbrev pub is_taken : Event → Bool
is_taken e = elim (result_of e) [ Some result ↦ not (result == 0) | None ↦ false ]

-- a frame was handed up, and the queue was full
abbrev pub is_refused : Event → Bool
is_refused e = elim (result_of e) [ Some result ↦ result == 0 | None ↦ false ]

-- ---- answers

-- all answers, in order
abbrev pub all_answers : List Event → List (ℕ × Answer)
all_answers events = flat_map answers_of events

-- a Busy answer
abbrev pub is_busy : ℕ × Answer → Bool
is_busy a = elim a.1 [ answer.Busy s ↦ true | _ ↦ false ]

-- the answer of a Recv that got a frame
abbrev pub is_received : ℕ × Answer → Bool
is_received a = elim a.1 [ answer.Frame frame ↦ true | _ ↦ false ]

-- ---- sends and samples that were lost

-- an open call: how many frames were sent and how many samples were played in its bursts
pub record CallEffects : Type 0 where
  pub number : ℕ
  pub op : Op
  pub sent : ℕ
  pub played : ℕ

-- the act sends a frame
abbrev pub is_sent : Act → Bool
is_sent a = elim a [ (act.Sent frame) ↦ true | _ ↦ false ]

-- the act plays a sample
abbrev pub is_played : Act → Bool
is_played a = elim a [ (act.Played word rate volume) ↦ true | _ ↦ false ]

-- a new call
abbrev pub new_effects : ℕ → Op → CallEffects
new_effects number o = record { number = number; op = o; sent = 0; played = 0 }

-- the open calls with the effects of an event on them, including those that it answers
abbrev pub call_effects_during : List CallEffects → Event → List CallEffects
call_effects_during ts (event.Invoke call thread o a) = ts ++ new_effects call o ∷ []
call_effects_during ts (event.Burst context call burst count e acts a failure) =
    map (λ (t : CallEffects). if t.number == call
    then record t { sent = t.sent + count_by is_sent acts; played = t.played + count_by is_played acts } else t) ts
call_effects_during ts e = ts

-- the open calls after an event; a call is open until an event answers it
abbrev pub call_effects_after : List CallEffects → Event → List CallEffects
call_effects_after ts e = filter (λ t. not (list_any (λ a. a.0 == t.number) (answers_of e))) (call_effects_during ts e)

-- the answer is Done
abbrev pub is_done : Answer → Bool
is_done a = elim a [ answer.Done ↦ true | _ ↦ false ]

-- what is lost by an answer to an open call, if it is Done
abbrev pub lost_by : (CallEffects → ℕ) → List CallEffects → ℕ × Answer → ℕ
lost_by lost ts a = elim (find (λ t. t.number == a.0) ts) [ Some t ↦ if is_done a.1 then lost t else 0 | None ↦ 0 ]

-- what is lost by the answers of consecutive events
abbrev pub lost_from : (CallEffects → ℕ) → List CallEffects → List Event → ℕ
lost_from lost ts [] = 0
lost_from lost ts (e ∷ events) =
    sum_by (lost_by lost (call_effects_during ts e)) (answers_of e) + lost_from lost (call_effects_after ts e) events

-- the number of Sends that were answered Done although no frame was sent in them
abbrev pub lost_sends : List Event → ℕ
lost_sends events = lost_from (λ t. elim t.op [ (Send frame) ↦ if t.sent == 0 then 1 else 0 | _ ↦ 0 ]) [] events

-- the number of samples that were not played, of Plays that were answered Done
abbrev pub lost_samples : List Event → ℕ
lost_samples events = lost_from (λ t. elim t.op [ (Play samples) ↦ length samples - t.played | _ ↦ 0 ]) [] events

-- ---- the locations of frames: in the ring, in the driver, or cleared by a Reset

-- counts of frames: taken by the ring, popped, cleared; popped and handed up since the last Reset; lost by Resets
pub record FrameLocations : Type 0 where
  pub kept : ℕ
  pub popped : ℕ
  pub cleared : ℕ
  pub popped_since : ℕ
  pub handed_since : ℕ
  pub reset : ℕ

-- the initial counts of frames
abbrev pub no_locations : FrameLocations
no_locations = record { kept = 0; popped = 0; cleared = 0; popped_since = 0; handed_since = 0; reset = 0 }

-- 1 if the test holds, else 0
abbrev pub one_if : Bool → ℕ
one_if test = elim test [ true ↦ 1 | false ↦ 0 ]

-- the act pops a frame
abbrev pub is_popped : Act → Bool
is_popped a = elim a [ (act.Popped frame) ↦ true | _ ↦ false ]

-- the number of frames that are in the ring
abbrev pub in_ring : FrameLocations → ℕ
in_ring n = n.kept - n.popped - n.cleared

-- the number of frames that were popped since the last Reset and not handed up
abbrev pub in_driver : FrameLocations → ℕ
in_driver n = n.popped_since - n.handed_since

-- a Reset clears the ring and loses the frames in the driver
abbrev pub locations_reset : FrameLocations → FrameLocations
locations_reset n = record n
    { cleared = n.cleared + in_ring n; reset = n.reset + in_ring n + in_driver n; popped_since = 0; handed_since = 0 }

-- the counts of frames after an event
abbrev pub locations_after : FrameLocations → Event → FrameLocations
locations_after n (event.Burst context call burst count e acts a failure) = record n {
  popped = n.popped + count_by is_popped acts;
  popped_since = n.popped_since + count_by is_popped acts;
  handed_since = n.handed_since + one_if (is_some (handed_result e));
}
locations_after n (event.Stage stage.Reset answers released) = locations_reset n
locations_after n (event.Arrive frame kept) = record n { kept = n.kept + one_if kept }
locations_after n e = n

-- what was lost in a list of events, and where its frames went
unfoldable pub losses : List Event → Losses
losses events = record {
  sends = lost_sends events;
  samples = lost_samples events;
  busy = count_by is_busy (all_answers events);
  arrived = count_by is_arrival events;
  received = count_by is_received (all_answers events);
  queued = count_by is_taken events - count_by is_received (all_answers events);
  ring = in_ring (fold locations_after no_locations events);
  driver = in_driver (fold locations_after no_locations events);
  reset = (fold locations_after no_locations events).reset;
  full_ring = count_by is_lost_arrival events;
  full_queue = count_by is_refused events;
}
