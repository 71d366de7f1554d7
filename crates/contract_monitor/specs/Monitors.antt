use Rattle.std.specs.Prelude.{◌≡◌, ℕ, ◌+◌, true, List, [], length, fold, count_by, Option, Some, None, option_map}
use Rattle.nook_data.specs.declared.verdicts.Break.{Break}
use Rattle.nook_data.specs.declared.classes.Class.{Class}
use Rattle.nook_data.specs.declared.steps.Event.{Event}
use Rattle.nook_data.specs.declared.clause.Clause.{Clause}
use Rattle.promise_defs.specs.Contract.{Known, known_after, first_break, is_front, known_first}
use Rattle.nook_data.specs.Clauses.{clause_number}
use Rattle.promise_defs.specs.Losses.{all_answers, is_arrival, is_busy, is_lost_arrival, is_received, is_refused}
use Rattle.promise_defs.specs.Losses.{is_taken}
use Rattle.promise_defs.specs.Losses.{lost_samples, lost_sends, no_locations, locations_after, call_effects_after}
use Rattle.contract_monitor.specs.Judging.{event_broken}
use Rattle.contract_monitor.specs.Keeping.{LossCounts, MonitorState, kept_after, shorter}

-- a monitor: what it keeps, how many events it has seen, and the first break
pub record Monitored : Type 0 where
  pub kept : MonitorState
  pub seen : ℕ
  pub broken : Option Break

abbrev pub break_of : ℕ → Option Clause → Option Break
break_of event None = None
break_of event (Some clause) = Some (record { event = event; clause = clause_number clause })

-- the first break, if an event may be it
abbrev pub or_break : Option Break → Option Break → Option Break
or_break (Some b) later = Some b
or_break None later = later

-- the monitor after one more event
abbrev pub after_event : Event → Monitored → Monitored
after_event e m = record {
  kept = kept_after m.kept e;
  seen = m.seen + 1;
  broken = or_break m.broken (break_of (m.seen + 1) (event_broken m.kept.known e));
}

-- what is kept is what is known, and each frame was handed up as it was popped
pub record Tracks (kept known : Known) : Type 0 where
  pub same : kept ≡ shorter known
  pub front : is_front known.handed known.popped ≡ true

-- what is counted in a list of events
abbrev pub counts_of : List Event → LossCounts
counts_of events = record {
  sends = lost_sends events;
  samples = lost_samples events;
  busy = count_by is_busy (all_answers events);
  arrived = count_by is_arrival events;
  received = count_by is_received (all_answers events);
  taken = count_by is_taken events;
  refused = count_by is_refused events;
  lost = count_by is_lost_arrival events;
  locations = fold locations_after no_locations events;
}

-- the monitor has seen these events of a part of this class with a disk of this size; what it keeps of them for the
-- contract is described only up to the first break
pub record Represents (class : Class) (size : ℕ) (events : List Event) (m : Monitored) : Type 0 where
  pub known : m.broken ≡ None → Tracks m.kept.known (fold known_after (known_first class size) events)
  pub call_effects : m.kept.call_effects ≡ fold call_effects_after [] events
  pub counts : m.kept.counts ≡ counts_of events
  pub seen : m.seen ≡ length events
  pub broken : m.broken ≡ first_break class size events

-- the clause of a monitor's first break
abbrev pub broken_clause : Monitored → Option ℕ
broken_clause m = option_map (λ (b : Break). b.clause) m.broken

-- two monitors judge and count alike from now on: the same clause was broken first, their counts and open calls are the
-- same, and, if no clause is broken yet, they know the same
pub record JudgeAlike (m n : Monitored) : Type 0 where
  pub broken : broken_clause m ≡ broken_clause n
  pub known : m.broken ≡ None → m.kept.known ≡ n.kept.known
  pub call_effects : m.kept.call_effects ≡ n.kept.call_effects
  pub counts : m.kept.counts ≡ n.kept.counts
