use Rattle.std.specs.Prelude.{ℕ, suc, Bool, true, false, List, [], ◌∷◌, ◌++◌, length, fold, Option, Some, None, ◌+◌}
use Rattle.std.specs.Prelude.{◌-◌, ◌==◌, not, if◌then◌else◌}
use Rattle.nook_data.specs.declared.machine.Act.{Act}
use Rattle.nook_data.specs.declared.machine.Act.TheVariants as act
use Rattle.nook_data.specs.declared.calls.Answer.{Answer}
use Rattle.nook_data.specs.declared.calls.Answer.TheVariants as answered
use Rattle.nook_data.specs.declared.steps.End.{End}
use Rattle.nook_data.specs.declared.steps.End.TheVariants as ends
use Rattle.nook_data.specs.declared.steps.Event.{Event}
use Rattle.nook_data.specs.declared.steps.Event.TheVariants as event
use Rattle.nook_data.specs.declared.verdicts.Losses.{Losses}
use Rattle.nook_data.specs.declared.calls.Op.{Op}
use Rattle.nook_data.specs.declared.calls.Op.TheVariants.{Send, Play}
use Rattle.nook_data.specs.declared.steps.Stage.{Stage}
use Rattle.nook_data.specs.declared.steps.Stage.TheVariants as stages
use Rattle.nook_data.specs.Numbered.{at_number, change_number}
use Rattle.promise_defs.specs.Losses.{handed_result, one_if}

-- What was lost, and where frames went: one fold that keeps all calls in the order of their numbers. The proof of the
-- balance of frames uses it. Over a run it gives the losses that nook_defs defines.

-- a call: how many frames and samples its bursts sent and played, and whether it was answered
pub record Counted : Type 0 where
  pub op : Op
  pub sent : ℕ
  pub played : ℕ
  pub answered : Bool

-- the counts: Sends answered Done without a frame sent, samples not played, answers Busy; frames that arrived, that
-- were received, that the queue took and refused; frames that the ring took, that it did not take, that were popped,
-- and that a Reset cleared; frames popped and handed up since the last Reset; and frames that Resets lost
pub record Counts : Type 0 where
  pub calls : List Counted
  pub sends : ℕ
  pub samples : ℕ
  pub busy : ℕ
  pub arrived : ℕ
  pub received : ℕ
  pub taken : ℕ
  pub refused : ℕ
  pub kept : ℕ
  pub lost : ℕ
  pub popped : ℕ
  pub cleared : ℕ
  pub popped_since : ℕ
  pub handed_since : ℕ
  pub reset : ℕ

abbrev pub no_counts : Counts
no_counts = record {
  calls = [];
  sends = 0;
  samples = 0;
  busy = 0;
  arrived = 0;
  received = 0;
  taken = 0;
  refused = 0;
  kept = 0;
  lost = 0;
  popped = 0;
  cleared = 0;
  popped_since = 0;
  handed_since = 0;
  reset = 0;
}

abbrev pub counted : Op → Counted
counted o = record { op = o; sent = 0; played = 0; answered = false }

abbrev pub count_sent : Counted → Counted
count_sent c = record c { sent = suc c.sent }

abbrev pub count_played : Counted → Counted
count_played c = record c { played = suc c.played }

abbrev pub count_answered : Counted → Counted
count_answered c = record c { answered = true }

-- ---- answers

-- 1 at the first answer Done of a Send if no frame was sent
abbrev pub lost_sends : Op → ℕ → ℕ
lost_sends (Send frame) sent = if sent == 0 then 1 else 0
lost_sends o sent = 0

-- the samples that were not played, at the first answer Done of a Play
abbrev pub lost_samples : Op → ℕ → ℕ
lost_samples (Play samples) played = length samples - played
lost_samples o played = 0

abbrev pub is_done : Answer → Bool
is_done answered.Done = true
is_done a = false

abbrev pub is_busy : Answer → Bool
is_busy (answered.Busy stage) = true
is_busy a = false

abbrev pub is_frame : Answer → Bool
is_frame (answered.Frame frame) = true
is_frame a = false

abbrev pub sends_of : Bool → Option Counted → ℕ
sends_of true (Some c) = if c.answered then 0 else lost_sends c.op c.sent
sends_of done c = 0

abbrev pub samples_of : Bool → Option Counted → ℕ
samples_of true (Some c) = if c.answered then 0 else lost_samples c.op c.played
samples_of done c = 0

abbrev pub count_answer : ℕ → Answer → Counts → Counts
count_answer call a n = record n {
  calls = change_number count_answered call n.calls;
  sends = n.sends + sends_of (is_done a) (at_number call n.calls);
  samples = n.samples + samples_of (is_done a) (at_number call n.calls);
  busy = n.busy + one_if (is_busy a);
  received = n.received + one_if (is_frame a);
}

abbrev pub count_option : ℕ → Option Answer → Counts → Counts
count_option call None n = n
count_option call (Some a) n = count_answer call a n

abbrev pub count_answers : List (ℕ × Answer) → Counts → Counts
count_answers [] n = n
count_answers (a ∷ answers) n = count_answers answers (count_answer a.0 a.1 n)

-- ---- bursts

abbrev pub count_act : ℕ → Act → Counts → Counts
count_act call (act.Sent frame) n = record n { calls = change_number count_sent call n.calls }
count_act call (act.Played word rate volume) n = record n { calls = change_number count_played call n.calls }
count_act call (act.Popped frame) n = record n { popped = suc n.popped; popped_since = suc n.popped_since }
count_act call a n = n

abbrev pub count_acts : ℕ → List Act → Counts → Counts
count_acts call [] n = n
count_acts call (a ∷ acts) n = count_acts call acts (count_act call a n)

-- a frame was handed up; the queue took it exactly if the result is not 0
abbrev pub count_handed : Option ℕ → Counts → Counts
count_handed None n = n
count_handed (Some result) n = record n {
  handed_since = suc n.handed_since;
  taken = n.taken + one_if (not (result == 0));
  refused = n.refused + one_if (result == 0);
}

-- ---- stages

-- frames in the ring, and frames that the driver popped but did not hand up
abbrev pub in_ring : Counts → ℕ
in_ring n = n.kept - n.popped - n.cleared

abbrev pub in_driver : Counts → ℕ
in_driver n = n.popped_since - n.handed_since

abbrev pub count_stage : Stage → Counts → Counts
count_stage stages.Reset n = record n
    { cleared = n.cleared + in_ring n; reset = n.reset + in_ring n + in_driver n; popped_since = 0; handed_since = 0 }
count_stage s n = n

-- ---- events

abbrev pub count_event : Counts → Event → Counts
count_event n (event.Invoke call thread o a) = count_option call a (record n { calls = n.calls ++ counted o ∷ [] })
count_event n (event.Enter call thread attempt a) = count_option call a n
count_event n (event.Burst context call burst count end acts a failure) =
    count_option call a (count_handed (handed_result end) (count_acts call acts n))
count_event n (event.Stage stage answers released) = count_answers answers (count_stage stage n)
count_event n (event.Arrive frame kept) = record n
    { arrived = suc n.arrived; kept = n.kept + one_if kept; lost = n.lost + one_if (not kept) }

-- the losses that are reported
abbrev pub reported : Counts → Losses
reported n = record {
  sends = n.sends;
  samples = n.samples;
  busy = n.busy;
  arrived = n.arrived;
  received = n.received;
  queued = n.taken - n.received;
  ring = in_ring n;
  driver = in_driver n;
  reset = n.reset;
  full_ring = n.lost;
  full_queue = n.refused;
}

-- what was lost in a list of events, and where its frames went
unfoldable pub counted_losses : List Event → Losses
counted_losses events = reported (fold count_event no_counts events)
