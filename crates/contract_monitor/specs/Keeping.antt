use Rattle.std.specs.Prelude.{ℕ, suc, Bool, List, [], ◌∷◌, ◌++◌, filter, fold, length, drop, Option, Some, None, ◌+◌}
use Rattle.std.specs.Prelude.{◌-◌, ◌==◌, not, if◌then◌else◌}
use Rattle.std.specs.List.{list_any}
use Rattle.nook_data.specs.declared.machine.Act.{Act}
use Rattle.nook_data.specs.declared.machine.Act.TheVariants as act
use Rattle.nook_data.specs.declared.calls.Answer.{Answer}
use Rattle.nook_data.specs.declared.classes.Class.{Class}
use Rattle.nook_data.specs.declared.steps.End.{End}
use Rattle.nook_data.specs.declared.steps.Event.{Event}
use Rattle.nook_data.specs.declared.steps.Event.TheVariants as event
use Rattle.nook_data.specs.declared.steps.FailCause.{FailCause}
use Rattle.nook_data.specs.declared.verdicts.Losses.{Losses}
use Rattle.nook_data.specs.declared.calls.Op.{Op}
use Rattle.nook_data.specs.declared.calls.Op.TheVariants.{Send, Play}
use Rattle.nook_data.specs.declared.steps.Stage.{Stage}
use Rattle.nook_data.specs.declared.steps.Stage.TheVariants as stage
use Rattle.nook_data.specs.Answers.{answers_of}
use Rattle.promise_defs.specs.Contract.{Deed, Known, acts, after_deed, after_failure, after_stage, change_call}
use Rattle.promise_defs.specs.Contract.{crossing_deeds, deeds_of, during, hands_up, is_answered_in, known_first}
use Rattle.promise_defs.specs.Contract.{new_call}
use Rattle.promise_defs.specs.Contract.{replays, replies}
use Rattle.promise_defs.specs.Losses.{FrameLocations, CallEffects, handed_result, in_driver, in_ring, is_busy, is_received}
use Rattle.promise_defs.specs.Losses.{lost_by}
use Rattle.promise_defs.specs.Losses.{new_effects, no_locations, one_if, locations_reset, call_effects_after, call_effects_during}
use Rattle.contract_monitor.specs.Calls.{change_effects, enter_call, effects_played, effects_sent}

-- the counts: lost Sends and samples, answers Busy; frames that arrived, that were answered, that the queue took and
-- that it refused, and that the ring refused; and how many frames are in each position
pub record LossCounts : Type 0 where
  pub sends : ℕ
  pub samples : ℕ
  pub busy : ℕ
  pub arrived : ℕ
  pub received : ℕ
  pub taken : ℕ
  pub refused : ℕ
  pub lost : ℕ
  pub locations : FrameLocations

-- what a monitor keeps of some events: what is known of them, except that frames popped since the last Load are kept
-- without as many as were handed up; the open calls as the losses see them; and the counts
pub record MonitorState : Type 0 where
  pub known : Known
  pub call_effects : List CallEffects
  pub counts : LossCounts

-- ---- frames

-- the frames that were handed up are removed from those that were popped
abbrev pub shorter : Known → Known
shorter k = record k { popped = drop (length k.handed) k.popped; handed = [] }

-- what is kept after a deed: a frame that is handed up is removed at once
abbrev pub kept_deed : ℕ → Known → Deed → Known
kept_deed call k (acts a) = after_deed call k (acts a)
kept_deed call k (hands_up frame) = shorter (after_deed call k (hands_up frame))
kept_deed call k (replies a) = after_deed call k (replies a)
kept_deed call k replays = after_deed call k replays

-- what is kept after an event, except that the calls that it answers are still open
abbrev pub known_during : Known → Event → Known
known_during k (event.Burst context call burst count e done a failure) =
    after_failure failure (fold (kept_deed call) k (deeds_of done e a failure))
known_during k e = during k e

-- what is kept after an event
abbrev pub shorter_after : Known → Event → Known
shorter_after k e = record (known_during k e)
    { calls = filter (λ c. not (is_answered_in (answers_of e) c)) (known_during k e).calls }

-- ---- counts

abbrev pub no_counts : LossCounts
no_counts = record {
  sends = 0;
  samples = 0;
  busy = 0;
  arrived = 0;
  received = 0;
  taken = 0;
  refused = 0;
  lost = 0;
  locations = no_locations;
}

-- a Send in which no frame was sent
abbrev pub sends_lost : CallEffects → ℕ
sends_lost t = elim t.op [ (Send frame) ↦ if t.sent == 0 then 1 else 0 | _ ↦ 0 ]

-- the samples of a Play that were not played
abbrev pub samples_lost : CallEffects → ℕ
samples_lost t = elim t.op [ (Play samples) ↦ length samples - t.played | _ ↦ 0 ]

-- one of these calls is answered
abbrev pub count_answer : List CallEffects → LossCounts → ℕ × Answer → LossCounts
count_answer ts n a = record n {
  sends = n.sends + lost_by sends_lost ts a;
  samples = n.samples + lost_by samples_lost ts a;
  busy = n.busy + one_if (is_busy a);
  received = n.received + one_if (is_received a);
}

abbrev pub count_act : LossCounts → Act → LossCounts
count_act n (act.Popped frame) = record n
    { locations = record n.locations { popped = suc n.locations.popped; popped_since = suc n.locations.popped_since } }
count_act n a = n

-- a frame was handed up, and the queue took it exactly if the result is not 0
abbrev pub count_handed : Option ℕ → LossCounts → LossCounts
count_handed None n = n
count_handed (Some result) n = record n {
  taken = n.taken + one_if (not (result == 0));
  refused = n.refused + one_if (result == 0);
  locations = record n.locations { handed_since = suc n.locations.handed_since };
}

abbrev pub count_stage : Stage → LossCounts → LossCounts
count_stage stage.Reset n = record n { locations = locations_reset n.locations }
count_stage s n = n

abbrev pub count_arrival : Bool → LossCounts → LossCounts
count_arrival kept n = record n {
  arrived = suc n.arrived;
  lost = n.lost + one_if (not kept);
  locations = record n.locations { kept = n.locations.kept + one_if kept };
}

-- the numbers that are reported
abbrev pub losses_of : LossCounts → Losses
losses_of n = record {
  sends = n.sends;
  samples = n.samples;
  busy = n.busy;
  arrived = n.arrived;
  received = n.received;
  queued = n.taken - n.received;
  ring = in_ring n.locations;
  driver = in_driver n.locations;
  reset = n.locations.reset;
  full_ring = n.lost;
  full_queue = n.refused;
}

-- what an event counts, except for its answers
abbrev pub counts_during : LossCounts → Event → LossCounts
counts_during n (event.Burst context call burst count e done a failure) =
    count_handed (handed_result e) (fold count_act n done)
counts_during n (event.Stage s answers released) = count_stage s n
counts_during n (event.Arrive frame kept) = count_arrival kept n
counts_during n e = n

abbrev pub counts_after : List CallEffects → LossCounts → Event → LossCounts
counts_after ts n e = fold (count_answer (call_effects_during ts e)) (counts_during n e) (answers_of e)

-- ---- what is kept

abbrev pub kept_first : Class → ℕ → MonitorState
kept_first class size = record { known = known_first class size; call_effects = []; counts = no_counts }

abbrev pub effects_act : ℕ → List CallEffects → Act → List CallEffects
effects_act call ts (act.Sent frame) = change_effects call effects_sent ts
effects_act call ts (act.Played word rate volume) = change_effects call effects_played ts
effects_act call ts a = ts

-- after an act in a burst of a call
abbrev pub kept_act : ℕ → MonitorState → Act → MonitorState
kept_act call k a = record {
  known = after_deed call k.known (acts a);
  call_effects = effects_act call k.call_effects a;
  counts = count_act k.counts a;
}

-- after the crossing of a burst of a call
abbrev pub kept_crossing : ℕ → End → Option Answer → Option FailCause → MonitorState → MonitorState
kept_crossing call e a failure k = record k {
  known = after_failure failure (fold (kept_deed call) k.known (crossing_deeds e a failure));
  counts = count_handed (handed_result e) k.counts;
}

-- after a burst of a call, except for its answer
abbrev pub kept_burst : ℕ → List Act → End → Option Answer → Option FailCause → MonitorState → MonitorState
kept_burst call done e a failure k = kept_crossing call e a failure (fold (kept_act call) k done)

-- after a call was made
abbrev pub kept_invoke : ℕ → Op → MonitorState → MonitorState
kept_invoke call o k = record k {
  known = record k.known { calls = k.known.calls ++ new_call call o ∷ [] };
  call_effects = k.call_effects ++ new_effects call o ∷ [];
}

abbrev pub kept_enter : ℕ → MonitorState → MonitorState
kept_enter call k = record k { known = record k.known { calls = change_call call enter_call k.known.calls } }

abbrev pub kept_stage : Stage → MonitorState → MonitorState
kept_stage s k = record k { known = after_stage s k.known; counts = count_stage s k.counts }

abbrev pub kept_arrival : List ℕ → Bool → MonitorState → MonitorState
kept_arrival frame kept k = record k {
  known = record k.known { ring = if kept then k.known.ring ++ frame ∷ [] else k.known.ring };
  counts = count_arrival kept k.counts;
}

-- after calls were answered: they are counted, and no longer open
abbrev pub kept_answered : List (ℕ × Answer) → MonitorState → MonitorState
kept_answered answers k = record {
  known = record k.known { calls = filter (λ c. not (is_answered_in answers c)) k.known.calls };
  call_effects = filter (λ t. not (list_any (λ a. a.0 == t.number) answers)) k.call_effects;
  counts = fold (count_answer k.call_effects) k.counts answers;
}

-- after an event
abbrev pub kept_after : MonitorState → Event → MonitorState
kept_after k e = record {
  known = shorter_after k.known e;
  call_effects = call_effects_after k.call_effects e;
  counts = counts_after k.call_effects k.counts e;
}

abbrev pub with_known : Known → MonitorState → MonitorState
with_known known k = record k { known = known }

abbrev pub with_counts : LossCounts → MonitorState → MonitorState
with_counts n k = record k { counts = n }
