-- Over orderly events the counts are those that are reported.
use Rattle.std.proofs.Common.{◌≡◌, ◌⊎◌, inl, inr, ℕ, zero, suc, ◌+◌, ◌-◌, ◌||◌, ◌&&◌, not, Bool, true, false, cond, Option, Some, None, List, [], ◌∷◌, ◌++◌, map, length, filter, find, sym, refl, ap, ap₂, ◌∙◌, subst, arith, sum_by, count_by, is_some}
use Rattle.std.specs.Prelude.{◌==◌, if◌then◌else◌, fold, flat_map}
use Rattle.std.specs.List.{list_any}
use Rattle.std.proofs.lemmas.Bool.{eqb-true, eq-eqb, ne_eqb}
use Rattle.std.proofs.lemmas.List.Sums.{sum_by-append, sum_by-cons}
use Rattle.nook_data.specs.declared.machine.Act.{Act}
use Rattle.nook_data.specs.declared.machine.Act.TheVariants as act
use Rattle.nook_data.specs.declared.calls.Answer.{Answer}
use Rattle.nook_data.specs.declared.calls.Answer.TheVariants as answer
use Rattle.nook_data.specs.declared.steps.End.{End}
use Rattle.nook_data.specs.declared.steps.End.TheVariants as end
use Rattle.nook_data.specs.declared.steps.Event.{Event}
use Rattle.nook_data.specs.declared.steps.Event.TheVariants as event
use Rattle.nook_data.specs.declared.verdicts.Losses.{Losses as Determined}
use Rattle.nook_data.specs.declared.calls.Op.{Op}
use Rattle.nook_data.specs.declared.calls.Op.TheVariants as op
use Rattle.nook_data.specs.declared.steps.Stage.{Stage}
use Rattle.nook_data.specs.declared.steps.Stage.TheVariants as stage
use Rattle.part_laws.specs.Counts.{Counted, Counts, count_act, count_acts, count_answer, count_answered, count_answers, count_event, count_handed, count_option, count_stage, counted, no_counts, samples_of, sends_of, reported, is_done as was_done, is_busy as was_busy, is_frame, lost_samples as samples_lost, lost_sends as sends_lost, counted_losses}
use Rattle.promise_defs.specs.Losses.{handed_result as result_in, one_if as as_one}
use Rattle.nook_data.specs.Numbered.{at_number, change_number}
use Rattle.part_laws.proofs.Indices.{split}
use Rattle.nook_data.specs.Answers.{answers_of, one_answer}
use Rattle.promise_defs.specs.Losses.{FrameLocations, CallEffects, all_answers, handed_result, in_driver, in_ring, is_arrival}
use Rattle.promise_defs.specs.Losses.{is_busy, is_done, is_lost_arrival, is_popped, is_received, is_refused, is_taken}
use Rattle.promise_defs.specs.Losses.{lost_by, lost_from, losses, no_locations, one_if, locations_after, call_effects_after}
use Rattle.promise_defs.specs.Losses.{call_effects_during}
use Rattle.promise_defs.proofs.PromiseChanges.{unplayed, unsent, with_acts}
use Rattle.part_laws.specs.Orderly.{AreOwn, IsFitting, IsOrderlyFrom, flags_after, flags_during, is_open, is_reported, kept_from}
use Rattle.part_laws.proofs.Picked.{at_one, change_at, change_one, find_at}
use Rattle.part_laws.proofs.Effects.{AreReported, acts_calls, counted_acts, handed_calls, tallied, tallied_answers, tallied_change, tallied_kept, tallied_push, effects_of, reported_answers, reported_change, reported_push}

-- ---- an event, with its answers last

abbrev pub before_answers : Counts → Event → Counts
before_answers n (event.Invoke call thread o a) = record n { calls = n.calls ++ counted o ∷ [] }
before_answers n (event.Enter call thread attempt a) = n
before_answers n (event.Burst context call burst count e done a failure) = count_handed (result_in e) (count_acts call done n)
before_answers n (event.Stage s answers released) = count_stage s n
before_answers n (event.Arrive frame kept) = count_event n (event.Arrive frame kept)

one_counted : (call : ℕ) (a : Option Answer) (n : Counts) → count_option call a n ≡ count_answers (one_answer call a) n
one_counted call None n = refl
one_counted call (Some a) n = refl

pub event_counted : (n : Counts) (e : Event) → count_event n e ≡ count_answers (answers_of e) (before_answers n e)
event_counted n (event.Invoke call thread o a) = one_counted call a (record n { calls = n.calls ++ counted o ∷ [] })
event_counted n (event.Enter call thread attempt a) = one_counted call a n
event_counted n (event.Burst context call burst count e done a failure) = one_counted call a (count_handed (result_in e) (count_acts call done n))
event_counted n (event.Stage s answers released) = refl
event_counted n (event.Arrive frame kept) = refl

-- a number that grows by what each event adds
pub grows : (f : Counts → ℕ) (g : Event → ℕ) → ((n : Counts) (e : Event) → f (count_event n e) ≡ f n + g e)
    → (n : Counts) (events : List Event) → f (fold count_event n events) ≡ f n + sum_by g events
grows f g h n [] = omega arith
grows f g h n (e ∷ events) =
    let rest = grows f g h (count_event n e) events in
    let first = h n e in
    let sum = sum_by-cons g e events in
    omega arith

-- ---- answers of a kind

pub all_counted : (test : ℕ × Answer → Bool) (events : List Event)
    → sum_by (λ e. count_by test (answers_of e)) events ≡ count_by test (all_answers events)
all_counted test [] = refl
all_counted test (e ∷ events) =
    sum_by-cons (λ e. count_by test (answers_of e)) e events
    ∙ ap (λ n. count_by test (answers_of e) + n) (all_counted test events)
    ∙ sym (sum_by-append (λ a. cond (test a) 1 0) (answers_of e) (all_answers events))

answers_count : (f : Counts → ℕ) (test : ℕ × Answer → Bool)
    → ((a : ℕ × Answer) (n : Counts) → f (count_answer a.0 a.1 n) ≡ f n + cond (test a) 1 0)
    → (answers : List (ℕ × Answer)) (n : Counts) → f (count_answers answers n) ≡ f n + count_by test answers
answers_count f test h [] n = omega arith
answers_count f test h (a ∷ answers) n =
    let rest = answers_count f test h answers (count_answer a.0 a.1 n) in
    let first = h a n in
    let sum = sum_by-cons (λ a. cond (test a) 1 0) a answers in
    omega arith

-- ---- what acts, a frame that is handed up, and answers change

abbrev pub one : Bool → ℕ
one b = cond b 1 0

same_one : (b : Bool) → as_one b ≡ one b
same_one true = refl
same_one false = refl

new_one : (b : Bool) → as_one b ≡ one_if b
new_one true = refl
new_one false = refl

-- counts with the changes that acts make
abbrev with_acted : Counts → List Counted → ℕ → ℕ → Counts
with_acted n calls x y = record n { calls = calls; popped = x; popped_since = y }

act_is : (call : ℕ) (a : Act) (n : Counts)
    → count_act call a n ≡ with_acted n (count_act call a n).calls (n.popped + one (is_popped a)) (n.popped_since + one (is_popped a))
act_is call (act.Load block) n = ap₂ (with_acted n n.calls) (omega arith) (omega arith)
act_is call (act.Store block words) n = ap₂ (with_acted n n.calls) (omega arith) (omega arith)
act_is call (act.Failed block store) n = ap₂ (with_acted n n.calls) (omega arith) (omega arith)
act_is call (act.Sent frame) n = ap₂ (with_acted n (count_act call (act.Sent frame) n).calls) (omega arith) (omega arith)
act_is call (act.Popped frame) n = ap₂ (with_acted n n.calls) (omega arith) (omega arith)
act_is call (act.Played word rate volume) n =
    ap₂ (with_acted n (count_act call (act.Played word rate volume) n).calls) (omega arith) (omega arith)
act_is call (act.Register key value) n = ap₂ (with_acted n n.calls) (omega arith) (omega arith)

acts_are : (call : ℕ) (done : List Act) (n : Counts)
    → count_acts call done n
    ≡ with_acted n (count_acts call done n).calls (n.popped + count_by is_popped done) (n.popped_since + count_by is_popped done)
acts_are call [] n = ap₂ (with_acted n n.calls) (omega arith) (omega arith)
acts_are call (a ∷ done) n =
    acts_are call done (count_act call a n)
    ∙ ap (λ m. with_acted m (count_acts call (a ∷ done) n).calls (m.popped + count_by is_popped done) (m.popped_since + count_by is_popped done))
    (act_is call a n)
    ∙ ap₂ (with_acted n (count_acts call (a ∷ done) n).calls)
    (let s = sum_by-cons (λ x. cond (is_popped x) 1 0) a done in omega arith)
    (let s = sum_by-cons (λ x. cond (is_popped x) 1 0) a done in omega arith)

abbrev takes : Option ℕ → Bool
takes None = false
takes (Some result) = not (result == 0)

abbrev refuses : Option ℕ → Bool
refuses None = false
refuses (Some result) = result == 0

abbrev with_handed : Counts → ℕ → ℕ → ℕ → Counts
with_handed n x y z = record n { handed_since = x; taken = y; refused = z }

handed_is : (r : Option ℕ) (n : Counts)
    → count_handed r n ≡ with_handed n (n.handed_since + one_if (is_some r)) (n.taken + one (takes r)) (n.refused + one (refuses r))
handed_is None n =
    ap (λ x. with_handed n x n.taken n.refused) (omega arith) ∙ ap₂ (with_handed n (n.handed_since + 0)) (omega arith) (omega arith)
handed_is (Some result) n =
    ap (λ x. with_handed n x (n.taken + as_one (not (result == 0))) (n.refused + as_one (result == 0))) (omega arith)
    ∙ ap₂ (λ y z. with_handed n (n.handed_since + 1) (n.taken + y) (n.refused + z)) (same_one (not (result == 0))) (same_one (result == 0))

pub same_result : (e : End) → result_in e ≡ handed_result e
same_result (end.Service number first second result moved) = refl
same_result (end.Reply status) = refl
same_result end.Pause = refl
same_result end.Trap = refl

-- ---- what an event adds before its answers

abbrev pub locations_of : Counts → FrameLocations
locations_of n = record
    { kept = n.kept; popped = n.popped; cleared = n.cleared; popped_since = n.popped_since; handed_since = n.handed_since; reset = n.reset }

pub record Adds (n m : Counts) (e : Event) : Type 0 where
  pub busy : m.busy ≡ n.busy
  pub received : m.received ≡ n.received
  pub sends : m.sends ≡ n.sends
  pub samples : m.samples ≡ n.samples
  pub arrived : m.arrived ≡ n.arrived + one (is_arrival e)
  pub taken : m.taken ≡ n.taken + one (is_taken e)
  pub refused : m.refused ≡ n.refused + one (is_refused e)
  pub lost : m.lost ≡ n.lost + one (is_lost_arrival e)
  pub locations : locations_of m ≡ locations_after (locations_of n) e

-- a burst's acts, and the frame that it hands up
abbrev after_burst : Counts → List Counted → List Act → Option ℕ → Counts
after_burst n calls done r =
    with_handed (with_acted n calls (n.popped + count_by is_popped done) (n.popped_since + count_by is_popped done))
    (n.handed_since + one_if (is_some r)) (n.taken + one (takes r)) (n.refused + one (refuses r))

burst_is : (n : Counts) (call : ℕ) (e : End) (done : List Act)
    → count_handed (result_in e) (count_acts call done n) ≡ after_burst n (count_acts call done n).calls done (handed_result e)
burst_is n call e done =
    ap (λ r. count_handed r (count_acts call done n)) (same_result e)
    ∙ handed_is (handed_result e) (count_acts call done n)
    ∙ ap (λ m. with_handed m (m.handed_since + one_if (is_some (handed_result e))) (m.taken + one (takes (handed_result e))) (m.refused + one (refuses (handed_result e))))
    (acts_are call done n)

takes_elim : (r : Option ℕ) → one (takes r) ≡ one (elim r [ Some result ↦ not (result == 0) | None ↦ false ])
takes_elim None = refl
takes_elim (Some result) = refl

refuses_elim : (r : Option ℕ) → one (refuses r) ≡ one (elim r [ Some result ↦ result == 0 | None ↦ false ])
refuses_elim None = refl
refuses_elim (Some result) = refl

-- an event that changes nothing but its calls
adds_none : (n m : Counts) (e : Event) → record m { calls = n.calls } ≡ n → is_arrival e ≡ false → is_taken e ≡ false → is_refused e ≡ false
    → is_lost_arrival e ≡ false → locations_after (locations_of n) e ≡ locations_of n → Adds n m e
adds_none n m e s a t r l p = record {
  busy = ap (λ k. k.busy) s;
  received = ap (λ k. k.received) s;
  sends = ap (λ k. k.sends) s;
  samples = ap (λ k. k.samples) s;
  arrived = ap (λ k. k.arrived) s ∙ none n.arrived (is_arrival e) a;
  taken = ap (λ k. k.taken) s ∙ none n.taken (is_taken e) t;
  refused = ap (λ k. k.refused) s ∙ none n.refused (is_refused e) r;
  lost = ap (λ k. k.lost) s ∙ none n.lost (is_lost_arrival e) l;
  locations = ap locations_of s ∙ sym p;
}
  where
    none : (x : ℕ) (b : Bool) → b ≡ false → x ≡ x + one b
    none x true h = absurd cc
    none x false h = omega arith

stage_adds : (n : Counts) (s : Stage) (answers : List (ℕ × Answer)) (released : _) → Adds n (count_stage s n) (event.Stage s answers released)
stage_adds n stage.Stop answers released = adds_none n n (event.Stage stage.Stop answers released) refl refl refl refl refl refl
stage_adds n stage.Collect answers released = adds_none n n (event.Stage stage.Collect answers released) refl refl refl refl refl refl
stage_adds n stage.Load answers released = adds_none n n (event.Stage stage.Load answers released) refl refl refl refl refl refl
stage_adds n stage.Init answers released = adds_none n n (event.Stage stage.Init answers released) refl refl refl refl refl refl
stage_adds n (stage.ReplaySet key value) answers released =
    adds_none n n (event.Stage (stage.ReplaySet key value) answers released) refl refl refl refl refl refl
stage_adds n stage.ReplayOpen answers released = adds_none n n (event.Stage stage.ReplayOpen answers released) refl refl refl refl refl refl
stage_adds n stage.Resume answers released = adds_none n n (event.Stage stage.Resume answers released) refl refl refl refl refl refl
stage_adds n stage.Reset answers released = record {
  busy = refl;
  received = refl;
  sends = refl;
  samples = refl;
  arrived = omega arith;
  taken = omega arith;
  refused = omega arith;
  lost = omega arith;
  locations = refl;
}

pub before_adds : (n : Counts) (e : Event) → Adds n (before_answers n e) e
before_adds n (event.Invoke call thread o a) =
    adds_none n (record n { calls = n.calls ++ counted o ∷ [] }) (event.Invoke call thread o a) refl refl refl refl refl refl
before_adds n (event.Enter call thread attempt a) = adds_none n n (event.Enter call thread attempt a) refl refl refl refl refl refl
before_adds n (event.Burst context call burst count e done a failure) = record {
  busy = ap (λ m. m.busy) is;
  received = ap (λ m. m.received) is;
  sends = ap (λ m. m.sends) is;
  samples = ap (λ m. m.samples) is;
  arrived = ap (λ m. m.arrived) is ∙ omega arith;
  taken = ap (λ m. m.taken) is ∙ ap (λ k. n.taken + k) (takes_elim (handed_result e));
  refused = ap (λ m. m.refused) is ∙ ap (λ k. n.refused + k) (refuses_elim (handed_result e));
  lost = ap (λ m. m.lost) is ∙ omega arith;
  locations = ap locations_of is;
}
  where
    is : count_handed (result_in e) (count_acts call done n) ≡ after_burst n (count_acts call done n).calls done (handed_result e)
    is = burst_is n call e done
before_adds n (event.Stage s answers released) = stage_adds n s answers released
before_adds n (event.Arrive frame kept) = record {
  busy = refl;
  received = refl;
  sends = refl;
  samples = refl;
  arrived = omega arith;
  taken = omega arith;
  refused = omega arith;
  lost = ap (λ k. n.lost + k) (same_one (not kept));
  locations = ap (λ k. record (locations_of n) { kept = n.kept + k }) (new_one kept);
}

-- ---- what answers change

same_busy : (a : Answer) → as_one (was_busy a) ≡ one (is_busy (0, a))
same_busy answer.Done = refl
same_busy (answer.Blocks words) = refl
same_busy (answer.Value word) = refl
same_busy (answer.Frame frame) = refl
same_busy answer.Empty = refl
same_busy (answer.Busy s) = refl
same_busy (answer.InUse holder) = refl
same_busy answer.NotOpen = refl
same_busy answer.BadRange = refl
same_busy answer.BadLength = refl
same_busy answer.BadKey = refl
same_busy answer.BadValue = refl
same_busy answer.BadClass = refl
same_busy (answer.IoError block) = refl
same_busy (answer.Gone failures) = refl

same_frame : (a : Answer) → as_one (is_frame a) ≡ one (is_received (0, a))
same_frame answer.Done = refl
same_frame (answer.Blocks words) = refl
same_frame (answer.Value word) = refl
same_frame (answer.Frame frame) = refl
same_frame answer.Empty = refl
same_frame (answer.Busy s) = refl
same_frame (answer.InUse holder) = refl
same_frame answer.NotOpen = refl
same_frame answer.BadRange = refl
same_frame answer.BadLength = refl
same_frame answer.BadKey = refl
same_frame answer.BadValue = refl
same_frame answer.BadClass = refl
same_frame (answer.IoError block) = refl
same_frame (answer.Gone failures) = refl

pub same_done : (a : Answer) → was_done a ≡ is_done a
same_done answer.Done = refl
same_done (answer.Blocks words) = refl
same_done (answer.Value word) = refl
same_done (answer.Frame frame) = refl
same_done answer.Empty = refl
same_done (answer.Busy s) = refl
same_done (answer.InUse holder) = refl
same_done answer.NotOpen = refl
same_done answer.BadRange = refl
same_done answer.BadLength = refl
same_done answer.BadKey = refl
same_done answer.BadValue = refl
same_done answer.BadClass = refl
same_done (answer.IoError block) = refl
same_done (answer.Gone failures) = refl

answers_keep : {X : Type 0} (f : Counts → X) → ((call : ℕ) (a : Answer) (n : Counts) → f (count_answer call a n) ≡ f n)
    → (answers : List (ℕ × Answer)) (n : Counts) → f (count_answers answers n) ≡ f n
answers_keep f h [] n = refl
answers_keep f h (a ∷ answers) n = answers_keep f h answers (count_answer a.0 a.1 n) ∙ h a.0 a.1 n

-- ---- what an event adds

pub arrived_adds : (n : Counts) (e : Event) → (count_event n e).arrived ≡ n.arrived + one (is_arrival e)
arrived_adds n e = ap (λ m. m.arrived) (event_counted n e)
    ∙ answers_keep (λ m. m.arrived) (λ call a m. refl) (answers_of e) (before_answers n e) ∙ (before_adds n e).arrived

pub taken_adds : (n : Counts) (e : Event) → (count_event n e).taken ≡ n.taken + one (is_taken e)
taken_adds n e = ap (λ m. m.taken) (event_counted n e)
    ∙ answers_keep (λ m. m.taken) (λ call a m. refl) (answers_of e) (before_answers n e) ∙ (before_adds n e).taken

pub refused_adds : (n : Counts) (e : Event) → (count_event n e).refused ≡ n.refused + one (is_refused e)
refused_adds n e = ap (λ m. m.refused) (event_counted n e)
    ∙ answers_keep (λ m. m.refused) (λ call a m. refl) (answers_of e) (before_answers n e) ∙ (before_adds n e).refused

pub lost_adds : (n : Counts) (e : Event) → (count_event n e).lost ≡ n.lost + one (is_lost_arrival e)
lost_adds n e = ap (λ m. m.lost) (event_counted n e)
    ∙ answers_keep (λ m. m.lost) (λ call a m. refl) (answers_of e) (before_answers n e) ∙ (before_adds n e).lost

pub positions_add : (n : Counts) (e : Event) → locations_of (count_event n e) ≡ locations_after (locations_of n) e
positions_add n e = ap locations_of (event_counted n e)
    ∙ answers_keep locations_of (λ call a m. refl) (answers_of e) (before_answers n e) ∙ (before_adds n e).locations

pub busy_adds : (n : Counts) (e : Event) → (count_event n e).busy ≡ n.busy + count_by is_busy (answers_of e)
busy_adds n e = ap (λ m. m.busy) (event_counted n e)
    ∙ answers_count (λ m. m.busy) is_busy (λ a m. ap (λ k. m.busy + k) (same_busy a.1)) (answers_of e) (before_answers n e)
    ∙ ap (λ k. k + count_by is_busy (answers_of e)) (before_adds n e).busy

pub received_adds : (n : Counts) (e : Event) → (count_event n e).received ≡ n.received + count_by is_received (answers_of e)
received_adds n e = ap (λ m. m.received) (event_counted n e)
    ∙ answers_count (λ m. m.received) is_received (λ a m. ap (λ k. m.received + k) (same_frame a.1)) (answers_of e) (before_answers n e)
    ∙ ap (λ k. k + count_by is_received (answers_of e)) (before_adds n e).received

pub positions_go : (n : Counts) (events : List Event) → locations_of (fold count_event n events) ≡ fold locations_after (locations_of n) events
positions_go n [] = refl
positions_go n (e ∷ events) = positions_go (count_event n e) events ∙ ap (λ x. fold locations_after x events) (positions_add n e)
