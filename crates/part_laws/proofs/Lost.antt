-- Over orderly events the lost sends and samples are those that are reported.
use Rattle.std.proofs.Common.{◌≡◌, ◌⊎◌, inl, inr, ℕ, zero, suc, ◌+◌, ◌-◌, ◌||◌, ◌&&◌, not, Bool, true, false, cond, Option, Some, None, List, [], ◌∷◌, ◌++◌, map, length, filter, find, sym, refl, ap, ap₂, ◌∙◌, subst, arith, sum_by, count_by}
use Rattle.std.specs.Prelude.{◌==◌, if◌then◌else◌, fold}
use Rattle.std.specs.List.{list_any}
use Rattle.std.proofs.lemmas.Bool.{eqb-true, eq-eqb, ne_eqb}
use Rattle.std.proofs.lemmas.List.Sums.{sum_by-cons}
use Rattle.nook_data.specs.declared.machine.Act.{Act}
use Rattle.nook_data.specs.declared.calls.Answer.{Answer}
use Rattle.nook_data.specs.declared.steps.Event.{Event}
use Rattle.nook_data.specs.declared.steps.Event.TheVariants as event
use Rattle.nook_data.specs.declared.verdicts.Losses.{Losses as Determined}
use Rattle.nook_data.specs.declared.calls.Op.{Op}
use Rattle.nook_data.specs.declared.calls.Op.TheVariants as op
use Rattle.nook_data.specs.declared.steps.Stage.{Stage}
use Rattle.nook_data.specs.declared.steps.Stage.TheVariants as stage
use Rattle.part_laws.specs.Counts.{Counted, Counts, count_acts, count_answer, count_answered, count_answers, count_event, count_handed, count_stage, counted, no_counts, samples_of, sends_of, reported, is_done as was_done, lost_samples as samples_lost, lost_sends as sends_lost, counted_losses}
use Rattle.promise_defs.specs.Losses.{handed_result as result_in}
use Rattle.nook_data.specs.Numbered.{at_number, change_number}
use Rattle.part_laws.proofs.Indices.{split}
use Rattle.nook_data.specs.Answers.{answers_of, one_answer}
use Rattle.promise_defs.specs.Losses.{FrameLocations, CallEffects, all_answers, in_driver, in_ring, is_arrival, is_busy, is_done}
use Rattle.promise_defs.specs.Losses.{is_lost_arrival, is_received, is_refused, is_taken, lost_by, lost_from}
use Rattle.promise_defs.specs.Losses.{lost_samples, lost_sends, losses, no_locations, locations_after, call_effects_after}
use Rattle.promise_defs.specs.Losses.{call_effects_during}
use Rattle.promise_defs.proofs.PromiseChanges.{unplayed, unsent, with_acts}
use Rattle.part_laws.specs.Orderly.{AreOwn, IsFitting, IsOrderlyFrom, flags_after, flags_during, is_open, is_reported, kept_from}
use Rattle.part_laws.proofs.Counting.{Adds, all_counted, arrived_adds, before_adds, before_answers, busy_adds, event_counted, grows, lost_adds, positions_go, locations_of, received_adds, refused_adds, same_done, taken_adds}
use Rattle.part_laws.proofs.Picked.{at_one, change_at, change_one, find_at}
use Rattle.part_laws.proofs.Effects.{AreReported, acts_calls, counted_acts, handed_calls, tallied, tallied_answers, tallied_change, tallied_kept, tallied_push, effects_of, reported_answers, reported_change, reported_push}

-- a count of losses: what an answer adds to it, and how it follows from an open call
record IsLoss (f : Counts → ℕ) (reported_by : Bool → Option Counted → ℕ) (lost : CallEffects → ℕ) : Type 0 where
  pub answered : (call : ℕ) (a : Answer) (n : Counts) → f (count_answer call a n) ≡ f n + reported_by (was_done a) (at_number call n.calls)
  pub before : (n : Counts) (e : Event) → f (before_answers n e) ≡ f n
  pub done : (number : ℕ) (c : Counted) → c.answered ≡ false → reported_by true (Some c) ≡ lost (effects_of number c)
  pub undone : (o : Option Counted) → reported_by false o ≡ 0

-- ---- answers in order

sum_same : (g h : ℕ × Answer → ℕ) (number : ℕ) (answers : List (ℕ × Answer)) → is_reported answers number ≡ false
    → ((a : ℕ × Answer) → (a.0 ≡ number → ⊥) → g a ≡ h a) → sum_by g answers ≡ sum_by h answers
sum_same g h number [] t k = refl
sum_same g h number (a ∷ answers) t k = split (a.0 == number)
    (λ e. let f : true ≡ false = rw e at t in absurd cc)
    (λ e.
    sum_by-cons g a answers
    ∙ ap₂ ◌+◌ (k a (λ q. let f = eq-eqb a.0 number q in absurd cc)) (sum_same g h number answers (rw e at t) k)
    ∙ sym (sum_by-cons h a answers))

found_other : (f : Counted → Counted) (number other first : ℕ) (cs : List Counted) → (other ≡ number → ⊥)
    → find_at other first (change_at f number first cs) ≡ find_at other first cs
found_other f number other first [] d = refl
found_other f number other first (c ∷ cs) d = split (first == other)
    (λ e. rw e (rw (ne_eqb first number (λ q. d (sym (eqb-true first other e) ∙ q))) refl))
    (λ e. rw e (found_other f number other (suc first) cs d))

-- no later answer has the same number
abbrev AreOnce : List (ℕ × Answer) → Type 0
AreOnce [] = Unit {0}
AreOnce (a ∷ answers) = (is_reported answers a.0 ≡ false) × AreOnce answers

own_once : (flags : List Bool) (answers : List (ℕ × Answer)) → AreOwn flags answers → AreOnce answers
own_once flags [] h = tt
own_once flags (a ∷ answers) h = (h.1, own_once flags answers h.2)

answers_lose : (f : Counts → ℕ) (reported_by : Bool → Option Counted → ℕ) (lost : CallEffects → ℕ) → IsLoss f reported_by lost
    → (answers : List (ℕ × Answer)) (n : Counts) → AreOnce answers
    → f (count_answers answers n) ≡ f n + sum_by (λ a. reported_by (was_done a.1) (find_at a.0 1 n.calls)) answers
answers_lose f reported_by lost h [] n o = omega arith
answers_lose f reported_by lost h (a ∷ answers) n o =
    let rest = answers_lose f reported_by lost h answers (count_answer a.0 a.1 n) o.1 in
    let first : f (count_answer a.0 a.1 n) ≡ f n + reported_by (was_done a.1) (find_at a.0 1 n.calls) =
    h.answered a.0 a.1 n ∙ ap (λ c. f n + reported_by (was_done a.1) c) (at_one a.0 n.calls) in
    let same : sum_by (λ b. reported_by (was_done b.1) (find_at b.0 1 (change_number count_answered a.0 n.calls))) answers
    ≡ sum_by (λ b. reported_by (was_done b.1) (find_at b.0 1 n.calls)) answers =
    sum_same (λ b. reported_by (was_done b.1) (find_at b.0 1 (change_number count_answered a.0 n.calls)))
    (λ b. reported_by (was_done b.1) (find_at b.0 1 n.calls)) a.0 answers o.0
    (λ b d. ap (reported_by (was_done b.1)) (ap (find_at b.0 1) (change_one count_answered a.0 n.calls) ∙ found_other count_answered a.0 b.0 1 n.calls d)) in
    let sum = sum_by-cons (λ b. reported_by (was_done b.1) (find_at b.0 1 n.calls)) a answers in
    omega arith

-- what one answer of an open call loses
abbrev lost_found : (CallEffects → ℕ) → Answer → Option CallEffects → ℕ
lost_found lost a found = elim found [ Some t ↦ if is_done a then lost t else 0 | None ↦ 0 ]

one_lost : (f : Counts → ℕ) (reported_by : Bool → Option Counted → ℕ) (lost : CallEffects → ℕ) → IsLoss f reported_by lost
    → (a : Answer) (number first : ℕ) (flags : List Bool) (cs : List Counted) → is_open number first flags ≡ true → AreReported flags cs
    → reported_by (was_done a) (find_at number first cs) ≡ lost_found lost a (find (λ t. t.number == number) (tallied first flags cs))
one_lost f reported_by lost h a number first [] cs i s = absurd cc
one_lost f reported_by lost h a number first (o ∷ flags) [] i s = absurd s
one_lost f reported_by lost h a number first (false ∷ flags) (c ∷ cs) i s = split (first == number)
    (λ e. let k : false ≡ true = rw e at i in absurd cc)
    (λ e. rw e (one_lost f reported_by lost h a number (suc first) flags cs (rw e at i) s.1))
one_lost f reported_by lost h a number first (true ∷ flags) (c ∷ cs) i s = split (first == number)
    (λ e. rw e (ap (λ b. reported_by b (Some c)) (same_done a) ∙ by_done (is_done a)))
    (λ e. rw e (one_lost f reported_by lost h a number (suc first) flags cs (rw e at i) s.1))
  where
    by_done : (b : Bool) → reported_by b (Some c) ≡ (if b then lost (effects_of first c) else 0)
    by_done true = h.done first c s.0
    by_done false = h.undone (Some c)

all_lost : (f : Counts → ℕ) (reported_by : Bool → Option Counted → ℕ) (lost : CallEffects → ℕ) → IsLoss f reported_by lost
    → (flags : List Bool) (cs : List Counted) (answers : List (ℕ × Answer)) → AreReported flags cs → AreOwn flags answers
    → sum_by (λ a. reported_by (was_done a.1) (find_at a.0 1 cs)) answers ≡ sum_by (lost_by lost (tallied 1 flags cs)) answers
all_lost f reported_by lost h flags cs [] s o = refl
all_lost f reported_by lost h flags cs (a ∷ answers) s o =
    sum_by-cons (λ a. reported_by (was_done a.1) (find_at a.0 1 cs)) a answers
    ∙ ap₂ ◌+◌ (one_lost f reported_by lost h a.1 a.0 1 flags cs o.0 s) (all_lost f reported_by lost h flags cs answers s o.2)
    ∙ sym (sum_by-cons (lost_by lost (tallied 1 flags cs)) a answers)

-- ---- events

burst_calls : (n : Counts) (call : ℕ) (r : Option ℕ) (done : List Act)
    → (count_handed r (count_acts call done n)).calls ≡ change_at (counted_acts done) call 1 n.calls
burst_calls n call r done = handed_calls r (count_acts call done n) ∙ acts_calls call done n

stage_calls : (s : Stage) (n : Counts) → (count_stage s n).calls ≡ n.calls
stage_calls stage.Stop n = refl
stage_calls stage.Collect n = refl
stage_calls stage.Reset n = refl
stage_calls stage.Load n = refl
stage_calls stage.Init n = refl
stage_calls (stage.ReplaySet key value) n = refl
stage_calls stage.ReplayOpen n = refl
stage_calls stage.Resume n = refl

during_reported : (flags : List Bool) (n : Counts) (e : Event) → AreReported flags n.calls → AreReported (flags_during flags e) (before_answers n e).calls
during_reported flags n (event.Invoke call thread o a) s = reported_push flags n.calls o s
during_reported flags n (event.Enter call thread attempt a) s = s
during_reported flags n (event.Burst context call burst count e done a failure) s =
    subst (AreReported flags) (sym (burst_calls n call (result_in e) done)) (reported_change (counted_acts done) (λ c. refl) call 1 flags n.calls s)
during_reported flags n (event.Stage t answers released) s = subst (AreReported flags) (sym (stage_calls t n)) s
during_reported flags n (event.Arrive frame kept) s = s

during_tallied : (flags : List Bool) (n : Counts) (e : Event) → AreReported flags n.calls → IsFitting flags e
    → call_effects_during (tallied 1 flags n.calls) e ≡ tallied 1 (flags_during flags e) (before_answers n e).calls
during_tallied flags n (event.Invoke call thread o a) s h =
    ap (λ k. tallied 1 flags n.calls ++ record { number = k; op = o; sent = 0; played = 0 } ∷ []) (omega (arith, h))
    ∙ tallied_push 1 flags n.calls o s
during_tallied flags n (event.Enter call thread attempt a) s h = refl
during_tallied flags n (event.Burst context call burst count e done a failure) s h =
    tallied_change (with_acts done) (counted_acts done) (λ k c. refl) call 1 flags n.calls
    ∙ ap (tallied 1 flags) (sym (burst_calls n call (result_in e) done))
during_tallied flags n (event.Stage t answers released) s h = ap (tallied 1 flags) (sym (stage_calls t n))
during_tallied flags n (event.Arrive frame kept) s h = refl

new_open : (first : ℕ) (flags : List Bool) → is_open (first + length flags) first (flags ++ true ∷ []) ≡ true
new_open first [] = rw (eq-eqb first (first + 0) (omega arith)) refl
new_open first (o ∷ flags) =
    rw (ne_eqb first (first + suc (length flags)) (λ e. omega (arith, e)))
    (ap (λ n. is_open n (suc first) (flags ++ true ∷ [])) (omega arith) ∙ new_open (suc first) flags)

one_own : (flags : List Bool) (call : ℕ) (a : Option Answer) → is_open call 1 flags ≡ true → AreOwn flags (one_answer call a)
one_own flags call None h = tt
one_own flags call (Some a) h = (h, refl, tt)

event_own : (flags : List Bool) (e : Event) → IsFitting flags e → AreOwn (flags_during flags e) (answers_of e)
event_own flags (event.Invoke call thread o a) h =
    one_own (flags ++ true ∷ []) call a
    (subst (λ n. is_open n 1 (flags ++ true ∷ []) ≡ true) (omega (arith, h)) (new_open 1 flags))
event_own flags (event.Enter call thread attempt a) h = one_own flags call a h
event_own flags (event.Burst context call burst count e done a failure) h = h.1
event_own flags (event.Stage t answers released) h = h.1
event_own flags (event.Arrive frame kept) h = tt

-- ---- consecutive events

lost_alike : (f : Counts → ℕ) (reported_by : Bool → Option Counted → ℕ) (lost : CallEffects → ℕ) → IsLoss f reported_by lost
    → (flags : List Bool) (n : Counts) (events : List Event) → AreReported flags n.calls → IsOrderlyFrom flags events
    → f (fold count_event n events) ≡ f n + lost_from lost (tallied 1 flags n.calls) events
lost_alike f reported_by lost h flags n [] s o = omega arith
lost_alike f reported_by lost h flags n (e ∷ events) s o =
    let m : Counts = before_answers n e in
    let now : List Bool = flags_during flags e in
    let reported : AreReported now m.calls = during_reported flags n e s in
    let later : AreReported (flags_after flags e) (count_event n e).calls =
    subst (λ (k : Counts). AreReported (flags_after flags e) k.calls) (sym (event_counted n e)) (reported_answers (answers_of e) now m reported) in
    let seen : call_effects_during (tallied 1 flags n.calls) e ≡ tallied 1 now m.calls = during_tallied flags n e s o.0 in
    let left : tallied 1 (flags_after flags e) (count_event n e).calls ≡ call_effects_after (tallied 1 flags n.calls) e =
    ap (λ (k : Counts). tallied 1 (flags_after flags e) k.calls) (event_counted n e)
    ∙ sym (tallied_answers (answers_of e) (flags_after flags e) m)
    ∙ sym (tallied_kept (answers_of e) 1 now m.calls)
    ∙ ap (filter (λ t. not (list_any (λ a. a.0 == t.number) (answers_of e)))) (sym seen) in
    let first : f (count_event n e) ≡ f n + sum_by (lost_by lost (call_effects_during (tallied 1 flags n.calls) e)) (answers_of e) =
    ap f (event_counted n e)
    ∙ answers_lose f reported_by lost h (answers_of e) m (own_once now (answers_of e) (event_own flags e o.0))
    ∙ ap₂ ◌+◌ (h.before n e) (all_lost f reported_by lost h now m.calls (answers_of e) reported (event_own flags e o.0)
    ∙ ap (λ t. sum_by (lost_by lost t) (answers_of e)) (sym seen)) in
    let rest : f (fold count_event (count_event n e) events) ≡ f (count_event n e) + lost_from lost (call_effects_after (tallied 1 flags n.calls) e) events =
    lost_alike f reported_by lost h (flags_after flags e) (count_event n e) events later o.1
    ∙ ap (λ t. f (count_event n e) + lost_from lost t events) left in
    join (f (fold count_event (count_event n e) events)) (f (count_event n e)) (f n)
    (sum_by (lost_by lost (call_effects_during (tallied 1 flags n.calls) e)) (answers_of e))
    (lost_from lost (call_effects_after (tallied 1 flags n.calls) e) events) rest first
  where
    join : (x y z a b : ℕ) → x ≡ y + b → y ≡ z + a → x ≡ z + (a + b)
    join x y z a b h k = omega arith

same_sends : (o : Op) (sent : ℕ) → sends_lost o sent ≡ unsent o sent
same_sends (op.Read first count) sent = refl
same_sends (op.Write first words) sent = refl
same_sends (op.Send frame) sent = refl
same_sends op.Recv sent = refl
same_sends op.Open sent = refl
same_sends (op.Play samples) sent = refl
same_sends op.Close sent = refl
same_sends (op.Get key) sent = refl
same_sends (op.Set key value) sent = refl

same_samples : (o : Op) (played : ℕ) → samples_lost o played ≡ unplayed o played
same_samples (op.Read first count) played = refl
same_samples (op.Write first words) played = refl
same_samples (op.Send frame) played = refl
same_samples op.Recv played = refl
same_samples op.Open played = refl
same_samples (op.Play samples) played = refl
same_samples op.Close played = refl
same_samples (op.Get key) played = refl
same_samples (op.Set key value) played = refl

sends_are : IsLoss (λ n. n.sends) sends_of (λ t. unsent t.op t.sent)
sends_are = record {
  answered = λ call a n. refl;
  before = λ n e. (before_adds n e).sends;
  done = λ number c h. ap (λ b. if b then 0 else sends_lost c.op c.sent) h ∙ same_sends c.op c.sent;
  undone = λ o. refl;
}

samples_are : IsLoss (λ n. n.samples) samples_of (λ t. unplayed t.op t.played)
samples_are = record {
  answered = λ call a n. refl;
  before = λ n e. (before_adds n e).samples;
  done = λ number c h. ap (λ b. if b then 0 else samples_lost c.op c.played) h ∙ same_samples c.op c.played;
  undone = λ o. refl;
}

-- ---- all of them

abbrev reported_by : (sends samples busy arrived received taken lost refused : ℕ) → FrameLocations → Determined
reported_by sends samples busy arrived received taken lost refused locations = record {
  sends = sends;
  samples = samples;
  busy = busy;
  arrived = arrived;
  received = received;
  queued = taken - received;
  ring = in_ring locations;
  driver = in_driver locations;
  reset = locations.reset;
  full_ring = lost;
  full_queue = refused;
}

reported_same : (s s' m m' b b' a a' r r' t t' l l' q q' : ℕ) (p p' : FrameLocations)
    → s ≡ s' → m ≡ m' → b ≡ b' → a ≡ a' → r ≡ r' → t ≡ t' → l ≡ l' → q ≡ q' → p ≡ p'
    → reported_by s m b a r t l q p ≡ reported_by s' m' b' a' r' t' l' q' p'
reported_same s s' m m' b b' a a' r r' t t' l l' q q' p p' es em eb ea er et el eq ep =
    rw es (rw em (rw eb (rw ea (rw er (rw et (rw el (rw eq (rw ep refl))))))))

from_none : (x y : ℕ) → x ≡ 0 + y → x ≡ y
from_none x y h = omega arith

pub losses_alike : (events : List Event) → IsOrderlyFrom [] events → losses events ≡ counted_losses events
unfolding losses counted_losses
losses_alike events o =
    let n : Counts = fold count_event no_counts events in
    sym (reported_same n.sends (lost_sends events) n.samples (lost_samples events) n.busy (count_by is_busy (all_answers events))
    n.arrived (count_by is_arrival events) n.received (count_by is_received (all_answers events)) n.taken (count_by is_taken events)
    n.lost (count_by is_lost_arrival events) n.refused (count_by is_refused events) (locations_of n) (fold locations_after no_locations events)
    (from_none n.sends (lost_sends events) (lost_alike (λ k. k.sends) sends_of (λ t. unsent t.op t.sent) sends_are [] no_counts events tt o))
    (from_none n.samples (lost_samples events) (lost_alike (λ k. k.samples) samples_of (λ t. unplayed t.op t.played) samples_are [] no_counts events tt o))
    (from_none n.busy (count_by is_busy (all_answers events))
    (grows (λ k. k.busy) (λ e. count_by is_busy (answers_of e)) busy_adds no_counts events ∙ ap (λ k. 0 + k) (all_counted is_busy events)))
    (from_none n.arrived (count_by is_arrival events) (grows (λ k. k.arrived) (λ e. cond (is_arrival e) 1 0) arrived_adds no_counts events))
    (from_none n.received (count_by is_received (all_answers events))
    (grows (λ k. k.received) (λ e. count_by is_received (answers_of e)) received_adds no_counts events ∙ ap (λ k. 0 + k) (all_counted is_received events)))
    (from_none n.taken (count_by is_taken events) (grows (λ k. k.taken) (λ e. cond (is_taken e) 1 0) taken_adds no_counts events))
    (from_none n.lost (count_by is_lost_arrival events) (grows (λ k. k.lost) (λ e. cond (is_lost_arrival e) 1 0) lost_adds no_counts events))
    (from_none n.refused (count_by is_refused events) (grows (λ k. k.refused) (λ e. cond (is_refused e) 1 0) refused_adds no_counts events))
    (positions_go no_counts events))
