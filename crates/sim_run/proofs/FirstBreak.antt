-- The run up to the first burst that breaks a clause.
use Rattle.std.proofs.Common.{◌≡◌, ◌⊎◌, inl, inr, ℕ, zero, suc, ◌+◌, ◌-◌, ◌<◌, ◌≤◌, ◌^◌, Bool, true, false, is_some}
use Rattle.std.proofs.Common.{Option, Some, None, Result, Ok, Err, OnOk, List, [], ◌∷◌, ◌++◌, map, fold, get_or, length}
use Rattle.std.proofs.Common.{drop, slice_get, slice_set, take, refl, sym, ap, ◌∙◌, subst, arith, add-one}
use Rattle.std.proofs.Common.{length-append}
use Rattle.std.proofs.lemmas.Bool.{false≢true}
use Rattle.std.proofs.lemmas.Option.{slice_get-get_or, slice_get_within}
use Rattle.contract_monitor.specs.Monitors.{Monitored, Represents}
use Rattle.guard_defs.specs.FirstBreaks.{NoneBreaks, picked_choice}
use Rattle.guard_defs.specs.GuardedRuns.{known_of, spec_of}
use Rattle.nook_data.specs.Types.{Break, Class, Clause, Event, PartSpec, Scenario, Step}
use Rattle.nook_data.specs.Valid.{IsValidScenario}
use Rattle.nook_data.specs.declared.memory.NoMemory.{NoMemory}
use Rattle.nook_data.specs.declared.steps.Event.TheVariants as event
use Rattle.nook_data.specs.declared.steps.Step.TheVariants as step
use Rattle.part_defs.specs.Runs.{event_of, step_of}
use Rattle.part_laws.proofs.DeviceStays.{spec_after}
use Rattle.part_laws.proofs.Indices.{from_map, get_set, get_set_same, some_same}
use Rattle.part_laws.proofs.RunsDetermined.{step_named}
use Rattle.promise_defs.proofs.PromiseChanges.{break_or}
use Rattle.promise_defs.specs.Contract.{Known, break_from, broken, first_break, known_after, known_first}
use Rattle.run_defs.specs.Schedules.{picked}
use Rattle.run_defs.specs.Simulation.{Choice, RunningPart, Simulation, actor_of, begins, choices_of, opening_part}
use Rattle.run_defs.specs.Simulation.{part_after, runs, stepped_by}
use Rattle.sim_run.proofs.Ending.{HasRun, has_begun, has_run_on, has_to_end, moved_some}
use Rattle.sim_run.proofs.Reaching.{runs_back}
use Rattle.sim_run.proofs.Seeking.{front_taken, has_seat, hears_none, pick_taken}
use Rattle.sim_run.proofs.Taking.{last_of}
use Rattle.sim_run.specs.Advanced.{IsAdvanced, IsPick}
use Rattle.sim_run.specs.Breaks.{BreaksAfter, HasBreakAfter, IsWrongBurst}
use Rattle.sim_run.specs.Bursts.{IsFoundIn, shown_burst, shown_step}
use Rattle.sim_run.specs.Published.{moved}
use Rattle.sim_run.specs.Reached.{IsOpenChoice}
use Rattle.sim_run.specs.Watched.{HasSeen, HasSeenAt, HaveSeen, IsOneAfter, IsOneAfterAt, first_break_of}
use Rattle.sim_run.specs.Watched.{has_broken_at}
use Rattle.sim_run.specs.declared.breaking.WrongBurst.{WrongBurst}
use Rattle.sim_run.specs.declared.whole_run.FoundBurst.{FoundBurst}

-- An event that breaks a clause, after a journal that breaks none.

-- the event breaks some clauses
pub record IsBreaking (k : Known) (e : Event) : Type 0 where
  pub clause : Clause
  pub more : List Clause
  pub breaks : broken k e ≡ clause ∷ more

not_none : (b : Break) → Some b ≡ None → ⊥
not_none b h = cc

breaks_last : (index : ℕ) (k : Known) (events : List Event) (e : Event) → break_from index k events ≡ None
    → is_some (break_from index k (events ++ e ∷ [])) ≡ true → IsBreaking (fold known_after k events) e
unfolding break_from
breaks_last index k [] e none some = by_clauses (broken k e) refl some
  where
    by_clauses : (cs : List Clause) → broken k e ≡ cs → is_some (break_or index cs None) ≡ true → IsBreaking k e
    by_clauses [] h some = absurd (false≢true some)
    by_clauses (c ∷ more) h some = record { clause = c; more = more; breaks = h }
breaks_last index k (x ∷ events) e none some =
    by_clauses (broken k x) none some (breaks_last (suc index) (known_after k x) events e)
  where
    by_clauses : (cs : List Clause) → break_or index cs (break_from (suc index) (known_after k x) events) ≡ None
        → is_some (break_or index cs (break_from (suc index) (known_after k x) (events ++ e ∷ []))) ≡ true
        → (break_from (suc index) (known_after k x) events ≡ None
        → is_some (break_from (suc index) (known_after k x) (events ++ e ∷ [])) ≡ true
        → IsBreaking (fold known_after (known_after k x) events) e)
        → IsBreaking (fold known_after (known_after k x) events) e
    by_clauses [] none some again = again none some
    by_clauses (c ∷ more) none some again = absurd (not_none _ none)

breaks_next : (class : Class) (size : ℕ) (events : List Event) (e : Event) → first_break class size events ≡ None
    → is_some (first_break class size (events ++ e ∷ [])) ≡ true
    → IsBreaking (fold known_after (known_first class size) events) e
unfolding first_break
breaks_next class size events e none some = breaks_last 1 (known_first class size) events e none some

nothing : (c : Clause) (more : List Clause) → [] ≡ c ∷ more → ⊥
nothing c more h = cc

-- only a burst breaks a clause
burst_breaks : (k : Known) (e : Event) (s : Step) → step_of e ≡ s → IsBreaking k e
    → (context : ℕ) × (s ≡ step.Burst context)
burst_breaks k (event.Burst context call burst count end acts answer failure) s h b = (context, sym h)
burst_breaks k (event.Invoke call thread o answer) s h b = absurd (nothing b.clause b.more b.breaks)
burst_breaks k (event.Enter call thread attempt answer) s h b = absurd (nothing b.clause b.more b.breaks)
burst_breaks k (event.Stage stage answers released) s h b = absurd (nothing b.clause b.more b.breaks)
burst_breaks k (event.Arrive frame kept) s h b = absurd (nothing b.clause b.more b.breaks)

-- a part's step does not change its spec
with_spec : (P : PartSpec → Type 0) (seat : RunningPart) (s : Step) → P (spec_of seat) → P (spec_of (part_after s seat))
with_spec P seat s h = subst P (sym (spec_after seat.run.state s)) h

-- the step of a part whose journal breaks nothing breaks a clause
step_breaks : (seat : RunningPart) (s : Step) → first_break_of seat ≡ None
    → is_some (first_break_of (part_after s seat)) ≡ true → IsBreaking (known_of seat) (event_of seat.run.state s)
step_breaks seat s none some =
    let e : Event = event_of seat.run.state s in
    breaks_next (spec_of seat).class (spec_of seat).blocks seat.run.journal e none
    (ap (λ (spec : PartSpec). is_some (first_break spec.class spec.blocks (seat.run.journal ++ e ∷ [])))
    (sym (spec_after seat.run.state s)) ∙ some)

-- Parts that have broken no clause.

-- none of the parts has
abbrev AreUnbroken : List RunningPart → Type 0
AreUnbroken parts = (index : ℕ) (seat : RunningPart) → slice_get parts index ≡ Some seat → first_break_of seat ≡ None

kept_at_first : (scenario : Scenario) → NoneBreaks (begins scenario)
unfolding begins first_break break_from
kept_at_first scenario = λ index seat at.
    let one = from_map opening_part scenario.parts index seat at in ap first_break_of one.2

kept_set : (parts : List RunningPart) (i : ℕ) (new : RunningPart) → AreUnbroken parts → first_break_of new ≡ None
    → AreUnbroken (slice_set parts i new)
kept_set parts i new kept one = λ index seat at. by_position index seat (get_set parts index i new seat at)
  where
    by_position : (index : ℕ) (seat : RunningPart)
        → ((index ≡ i) × (seat ≡ new)) ⊎ ((index ≡ i → ⊥) × (slice_get parts index ≡ Some seat))
        → first_break_of seat ≡ None
    by_position index seat (inl same) = ap first_break_of same.1 ∙ one
    by_position index seat (inr other) = kept index seat other.1

-- Monitors, one for each part.

pub one_more_seen : (seats : List RunningPart) (monitors : List Monitored) (seat : RunningPart) (m : Monitored)
    → HaveSeen seats monitors → HasSeen seat m → HaveSeen (seats ++ seat ∷ []) (monitors ++ m ∷ [])
one_more_seen [] [] seat m all one = (one, tt)
one_more_seen [] (x ∷ monitors) seat m all one = absurd all
one_more_seen (y ∷ seats) [] seat m all one = absurd all
one_more_seen (y ∷ seats) (x ∷ monitors) seat m all one = (all.0, one_more_seen seats monitors seat m all.1 one)

pub seen_length : (seats : List RunningPart) (monitors : List Monitored) → HaveSeen seats monitors
    → length monitors ≡ length seats
seen_length [] [] all = refl
seen_length [] (x ∷ monitors) all = absurd all
seen_length (y ∷ seats) [] all = absurd all
seen_length (y ∷ seats) (x ∷ monitors) all = ap suc (seen_length seats monitors all.1)

seen_at : (seats : List RunningPart) (monitors : List Monitored) (i : ℕ) (seat : RunningPart) (m : Monitored)
    → HaveSeen seats monitors → slice_get seats i ≡ Some seat → slice_get monitors i ≡ Some m → HasSeen seat m
seen_at [] monitors i seat m all at there = absurd cc
seen_at (y ∷ seats) [] i seat m all at there = absurd cc
seen_at (y ∷ seats) (x ∷ monitors) zero seat m all at there =
    subst (λ (z : RunningPart). HasSeen z m) (some_same y seat at) (subst (HasSeen y) (some_same x m there) all.0)
seen_at (y ∷ seats) (x ∷ monitors) (suc i) seat m all at there = seen_at seats monitors i seat m all.1 at there

seen_set : (seats : List RunningPart) (monitors : List Monitored) (i : ℕ) (seat : RunningPart) (m : Monitored)
    → HaveSeen seats monitors → HasSeen seat m → HaveSeen (slice_set seats i seat) (slice_set monitors i m)
seen_set [] [] i seat m all one = all
seen_set [] (x ∷ monitors) i seat m all one = absurd all
seen_set (y ∷ seats) [] i seat m all one = absurd all
seen_set (y ∷ seats) (x ∷ monitors) zero seat m all one = (one, all.1)
seen_set (y ∷ seats) (x ∷ monitors) (suc i) seat m all one = (all.0, seen_set seats monitors i seat m all.1 one)

-- A part's monitor sees its newest event.

-- the part has made an event
pub has_newest : (seat : RunningPart) (m : Monitored) → IsOneAfter seat m → 0 < length seat.run.journal
has_newest seat m b =
    let size : length seat.run.journal ≡ length (b.front ++ b.newest ∷ []) = ap length b.journal in
    let count : length (b.front ++ b.newest ∷ []) ≡ length b.front + 1 = length-append b.front (b.newest ∷ []) in
    omega arith

-- the newest event is the one that the monitor has not seen
newest_is : (seat : RunningPart) (m : Monitored) (e : Event) (b : IsOneAfter seat m)
    → slice_get seat.run.journal (length seat.run.journal - 1) ≡ Some e → e ≡ b.newest
newest_is seat m e b h =
    last_of b.front b.newest e
    (subst (λ (events : List Event). slice_get events (length events - 1) ≡ Some e) b.journal h)

-- so the monitor has seen the whole journal once it has seen that event
pub caught_up : (seat : RunningPart) (m n : Monitored) (e : Event) → IsOneAfter seat m
    → slice_get seat.run.journal (length seat.run.journal - 1) ≡ Some e
    → ((class : Class) (size : ℕ) (events : List Event) → Represents class size events m
    → Represents class size (events ++ e ∷ []) n) → HasSeen seat n
caught_up seat m n e b h more =
    subst (λ (events : List Event). Represents (spec_of seat).class (spec_of seat).blocks events n)
    (ap (λ (x : Event). b.front ++ x ∷ []) (newest_is seat m e b h) ∙ sym b.journal)
    (more (spec_of seat).class (spec_of seat).blocks b.front b.seen)

-- A choice is taken, and the monitor of its part then lacks one event.

stepped_at : (s u : Simulation) (c : Choice) (index : ℕ) (seat : RunningPart) → slice_get s.parts c.part ≡ Some seat
    → u ≡ stepped_by s s.order c (slice_get s.parts c.part) → index ≡ c.part
    → (u.parts ≡ slice_set s.parts index (part_after c.step seat))
    × (slice_get u.parts index ≡ Some (part_after c.step seat))
stepped_at s u c index seat at e p =
    let new : RunningPart = part_after c.step seat in
    let left : u.parts ≡ slice_set s.parts index new =
    ap (λ (x : Simulation). x.parts) (e ∙ ap (stepped_by s s.order c) at)
    ∙ ap (λ (n : ℕ). slice_set s.parts n new) (sym p) in
    let here : slice_get s.parts index ≡ Some seat = ap (slice_get s.parts) p ∙ at in
    (left, ap (λ (xs : List RunningPart). slice_get xs index) left ∙ get_set_same s.parts index seat new here)

pub is_one_after : (s u : Simulation) (c : Choice) (index : ℕ) (monitors : List Monitored) (other : Monitored)
    → IsOpenChoice s.parts c → HaveSeen s.parts monitors → u ≡ stepped_by s s.order c (slice_get s.parts c.part)
    → index ≡ c.part → IsOneAfterAt (slice_get u.parts index) (get_or monitors index other)
is_one_after s u c index monitors other may all e p =
    let here = has_seat c s.parts (slice_get s.parts c.part) refl may in
    let seat : RunningPart = here.0 in
    let at : slice_get s.parts index ≡ Some seat = ap (slice_get s.parts) p ∙ here.1 in
    let within : index < length s.parts = slice_get_within s.parts index seat at in
    let count : length monitors ≡ length s.parts = seen_length s.parts monitors all in
    let m : Monitored = get_or monitors index other in
    let there : slice_get monitors index ≡ Some m = slice_get-get_or monitors index other (omega arith) in
    let seen : HasSeen seat m = seen_at s.parts monitors index seat m all at there in
    subst (λ (o : Option RunningPart). IsOneAfterAt o m) (sym (stepped_at s u c index seat here.1 e p).1) (record {
      front = seat.run.journal;
      newest = event_of seat.run.state c.step;
      journal = refl;
      seen = with_spec (λ (spec : PartSpec). Represents spec.class spec.blocks seat.run.journal m) seat c.step seen;
    })

-- the choice's part has a monitor
pub monitor_within : (s : Simulation) (c : Choice) (index : ℕ) (monitors : List Monitored) → IsOpenChoice s.parts c
    → HaveSeen s.parts monitors → index ≡ c.part → index < length monitors
monitor_within s c index monitors may all p =
    let here = has_seat c s.parts (slice_get s.parts c.part) refl may in
    let within : c.part < length s.parts = slice_get_within s.parts c.part here.0 here.1 in
    let count : length monitors ≡ length s.parts = seen_length s.parts monitors all in
    omega arith

all_seen : (s u : Simulation) (c : Choice) (index : ℕ) (monitors : List Monitored) (m : Monitored)
    → IsOpenChoice s.parts c → HaveSeen s.parts monitors → u ≡ stepped_by s s.order c (slice_get s.parts c.part)
    → index ≡ c.part
    → HasSeenAt (slice_get u.parts index) m → HaveSeen u.parts (slice_set monitors index m)
all_seen s u c index monitors m may all e p one =
    let here = has_seat c s.parts (slice_get s.parts c.part) refl may in
    let new : RunningPart = part_after c.step here.0 in
    let left = stepped_at s u c index here.0 here.1 e p in
    subst (λ (xs : List RunningPart). HaveSeen xs (slice_set monitors index m)) (sym left.0)
    (seen_set s.parts monitors index new m all (subst (λ (o : Option RunningPart). HasSeenAt o m) left.1 one))

pub all_seen_on : {T : Type 0} (r : Result T NoMemory) (s u : Simulation) (c : Choice) (index : ℕ)
    (monitors : List Monitored) (m : Monitored) → IsOpenChoice s.parts c → HaveSeen s.parts monitors
    → u ≡ stepped_by s s.order c (slice_get s.parts c.part) → index ≡ c.part
    → OnOk r (HasSeenAt (slice_get u.parts index) m) → OnOk r (HaveSeen u.parts (slice_set monitors index m))
all_seen_on (Err x) s u c index monitors m may all e p one = one
all_seen_on (Ok x) s u c index monitors m may all e p one = all_seen s u c index monitors m may all e p one

-- a list that was written through a slice of the whole list
pub written : (n : ℕ) (new old : List Monitored) → n ≡ length new → take n (new ++ drop (length new) old) ≡ new
written n new old e =
    ap (λ (k : ℕ). take k (new ++ drop (length new) old)) e ∙ front_taken new (drop (length new) old)

-- What is known while the search for the break continues.

-- n steps were taken, no part has broken a clause, and each part's monitor has seen its journal
pub record HasKept (scenario : Scenario) (n : ℕ) (s : Simulation) (monitors : List Monitored) : Type 0 where
  pub run : HasRun scenario n s [] []
  pub seen : HaveSeen s.parts monitors
  pub kept : NoneBreaks s

pub keeps_first : (scenario : Scenario) (s : Simulation) (monitors : List Monitored) → s ≡ begins scenario
    → HaveSeen s.parts monitors → HasKept scenario 0 s monitors
keeps_first scenario s monitors e all = record {
  run = has_begun scenario s [] e;
  seen = all;
  kept = subst NoneBreaks (sym e) (kept_at_first scenario);
}

pub keeps_to_end : (scenario : Scenario) (n : ℕ) (s : Simulation) (monitors : List Monitored) → IsValidScenario scenario
    → HasKept scenario n s monitors → 2 ^ 26 ≤ n → ⊥
keeps_to_end scenario n s monitors v h l = has_to_end scenario n s [] [] v h.run l

-- the monitors after the picked choice
pub seen_still : (s t : Simulation) (monitors : List Monitored) → t.parts ≡ s.parts → HaveSeen s.parts monitors
    → HaveSeen t.parts monitors
seen_still s t monitors same all = subst (λ (xs : List RunningPart). HaveSeen xs monitors) (sym same) all

pub keeps_on : (scenario : Scenario) (n : ℕ) (s t u : Simulation) (c : Choice) (monitors new : List Monitored)
    (found : Bool) → HasKept scenario n s monitors → IsPick s (Some c) t → t.parts ≡ s.parts
    → u ≡ stepped_by t t.order c (slice_get t.parts c.part) → HaveSeen u.parts new
    → found ≡ has_broken_at (slice_get u.parts c.part) → found ≡ false → HasKept scenario (n + 1) u new
keeps_on scenario n s t u c monitors new found h pick same e all is test =
    let here = has_seat c t.parts (slice_get t.parts c.part) refl pick.1 in
    let left = stepped_at t u c c.part here.0 here.1 e refl in record {
      run = has_run_on scenario n s u true [] [] [] h.run (pick_taken s t u c pick e) (hears_none s true) refl;
      seen = all;
      kept = subst AreUnbroken (sym left.0)
          (kept_set t.parts c.part (part_after c.step here.0) (subst AreUnbroken (sym same) h.kept)
          (unbroken (first_break_of (part_after c.step here.0)) (sym (ap has_broken_at left.1) ∙ sym is ∙ test)));
    }
  where
    unbroken : (o : Option Break) → is_some o ≡ false → o ≡ None
    unbroken None h = refl
    unbroken (Some b) h = absurd cc

-- The answers.

-- the whole run breaks no clause
pub none_breaks : (scenario : Scenario) (n : ℕ) (s t : Simulation) (monitors : List Monitored) (o : Option Choice)
    → HasKept scenario n s monitors → IsPick s o t → ((c : Choice) → o ≡ Some c → ⊥) → HasBreakAfter scenario None
none_breaks scenario n s t monitors (Some c) h pick others = absurd (others c refl)
none_breaks scenario n s t monitors None h pick others =
    (s, record { steps = n; reached = h.run.reached; ended = pick.0 }, h.kept)

-- the picked choice is the first that breaks a clause
pub breaks_here : (scenario : Scenario) (n : ℕ) (s t u : Simulation) (c : Choice) (monitors : List Monitored)
    (found : Bool) → HasKept scenario n s monitors → IsPick s (Some c) t → t.parts ≡ s.parts
    → u ≡ stepped_by t t.order c (slice_get t.parts c.part)
    → found ≡ has_broken_at (slice_get u.parts c.part) → found ≡ true → BreaksAfter scenario n
breaks_here scenario n s t u c monitors found h pick same took is test =
    let here = has_seat c t.parts (slice_get t.parts c.part) refl pick.1 in
    let seat : RunningPart = here.0 in
    let at : slice_get s.parts c.part ≡ Some seat =
    ap (λ (xs : List RunningPart). slice_get xs c.part) (sym same) ∙ here.1 in
    let left = stepped_at t u c c.part seat here.1 took refl in
    let e : Event = event_of seat.run.state c.step in
    let breaking = step_breaks seat c.step (h.kept c.part seat at) (sym (ap has_broken_at left.1) ∙ sym is ∙ test) in
    let burst = burst_breaks (known_of seat) e c.step (step_named seat.run.state c.step) breaking in
    record {
      choice = c;
      seat = seat;
      context = burst.0;
      first = record {
        kept = subst NoneBreaks (sym h.run.reached) h.kept;
        picks = subst (λ (x : Simulation). picked_choice x ≡ Some c) (sym h.run.reached) pick.4;
        at = subst (λ (x : Simulation). slice_get x.parts c.part ≡ Some seat) (sym h.run.reached) at;
        burst = burst.1;
        clause = breaking.clause;
        more = breaking.more;
        breaks =
            ap (λ (x : Step). broken (known_of seat) (event_of seat.run.state x)) (sym burst.1) ∙ breaking.breaks;
      };
    }

-- The second pass.

pub runs_on : (scenario : Scenario) (n : ℕ) (s u : Simulation) (some : Bool) → s ≡ runs n (begins scenario)
    → IsAdvanced s some u → u ≡ runs (n + 1) (begins scenario)
runs_on scenario n s u some e a =
    moves some a ∙ ap (λ (x : Simulation). moved x (choices_of x)) e ∙ sym (runs_back n (begins scenario))
    ∙ ap (λ (k : ℕ). runs k (begins scenario)) (sym (add-one n))
  where
    moves : (some : Bool) → IsAdvanced s some u → u ≡ moved s (choices_of s)
    moves true a = a.1 ∙ sym (moved_some s (choices_of s) a.0)
    moves false a = a.1 ∙ sym (ap (moved s) a.0)

pub runs_begun : (scenario : Scenario) (s : Simulation) → s ≡ begins scenario → s ≡ runs 0 (begins scenario)
unfolding runs
runs_begun scenario s e = e

-- a choice is picked after the steps before the break
pub breaks_picked : (scenario : Scenario) (n : ℕ) (s t : Simulation) (o : Option Choice) → s ≡ runs n (begins scenario)
    → BreaksAfter scenario n → IsPick s o t → ((c : Choice) → o ≡ Some c → ⊥) → ⊥
breaks_picked scenario n s t (Some c) e b pick others = others c refl
breaks_picked scenario n s t None e b pick others =
    none b.choice
    (sym (ap (λ (xs : List Choice). slice_get xs (picked s.order (map actor_of xs)).index) pick.0)
    ∙ ap picked_choice e ∙ b.first.picks)
  where
    none : (c : Choice) → None ≡ Some c → ⊥
    none c h = cc

-- its part exists
pub part_within : (c : Choice) (parts : List RunningPart) (index : ℕ) → IsOpenChoice parts c → index ≡ c.part
    → index < length parts
part_within c parts index may p =
    let here = has_seat c parts (slice_get parts c.part) refl may in
    let within : c.part < length parts = slice_get_within parts c.part here.0 here.1 in omega arith

-- the result is the first break
pub breaks_found : (scenario : Scenario) (n : ℕ) (s t : Simulation) (c : Choice) (index : ℕ) (m : Monitored)
    (burst : FoundBurst) (found : WrongBurst) → s ≡ runs n (begins scenario) → BreaksAfter scenario n
    → IsPick s (Some c) t → t.parts ≡ s.parts → index ≡ c.part → HasSeenAt (slice_get t.parts index) m
    → IsFoundIn (slice_get t.parts c.part) c.step burst
    → found.part ≡ index → found.domain ≡ burst.domain → found.event ≡ burst.event → found.monitor ≡ m
    → IsWrongBurst scenario found
breaks_found scenario n s t c index m burst found e b pick same p seen shown part domain made monitor = record {
  steps = n;
  choice = b.choice;
  seat = b.seat;
  context = b.context;
  first = b.first;
  part = part ∙ p ∙ ap (λ (x : Choice). x.part) one;
  domain = ap (λ d. d.state) domain ∙ ap (λ x. x.0) shown_there;
  event = made ∙ ap (λ x. x.1) shown_there
      ∙ ap (event_of b.seat.run.state) (ap (λ (x : Choice). x.step) one ∙ b.first.burst);
  monitor = subst (HasSeen b.seat) (sym monitor) seen_there;
}
  where
    inner : {a b : Choice} → Some a ≡ Some b → a ≡ b
    inner h = cc

    one : c ≡ b.choice
    one = inner (sym pick.4 ∙ ap picked_choice e ∙ b.first.picks)

    at : slice_get t.parts c.part ≡ Some b.seat
    at =
        ap (λ (xs : List RunningPart). slice_get xs c.part) (same ∙ ap (λ (x : Simulation). x.parts) e)
        ∙ ap (λ (x : Choice). slice_get (runs n (begins scenario)).parts x.part) one ∙ b.first.at

    shown_there : shown_burst burst ≡ shown_step b.seat.run.state c.step
    shown_there = subst (λ (o : Option RunningPart). IsFoundIn o c.step burst) at shown

    seen_there : HasSeen b.seat m
    seen_there = subst (λ (o : Option RunningPart). HasSeenAt o m) (ap (slice_get t.parts) p ∙ at) seen
