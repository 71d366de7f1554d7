-- The run up to a burst of a part.
use Rattle.std.proofs.Common.{◌≡◌, ◌⊎◌, ℕ, zero, suc, ◌+◌, ◌-◌, ◌<◌, ◌≤◌, ◌^◌, ◌==◌, ◌&&◌, ◌||◌, not, Bool, true, false, cond, nat_lt, Option, Some, None, List, [], ◌∷◌, ◌++◌, map, length, option_map, Ok, position, slice_get, slice_set, take, refl, sym, ap, ◌∙◌, subst, inl, inr, arith, append-nil, append_assoc, length-append, eqb-true}
use Rattle.std.proofs.lemmas.Bool.{eq-eqb, le-ltb, lt-ltb}
use Rattle.std.specs.List.{list_any, prefix_len}
use Rattle.nook_data.specs.declared.steps.Event.{Event}
use Rattle.nook_data.specs.declared.steps.Event.TheVariants as event
use Rattle.nook_data.specs.declared.scenario.PartSpec.{PartSpec}
use Rattle.nook_data.specs.declared.scenario.Scenario.{Scenario}
use Rattle.nook_data.specs.declared.steps.Step.{Step}
use Rattle.nook_data.specs.declared.steps.Step.TheVariants as step
use Rattle.part_defs.specs.Runs.{event_of, state_of, step_of}
use Rattle.run_defs.specs.Simulation.{Choice, IsScheduledRun, RunningPart, Simulation, begins, choices_of, journal_of}
use Rattle.run_defs.specs.Simulation.{journals_of, opening_part, runs, part_after, stepped_by, taken}
use Rattle.part_defs.specs.State.{DomainState, PartState}
use Rattle.part_defs.specs.Steps.{burst_stepped, stepped}
use Rattle.nook_data.specs.Valid.{IsValidScenario}
use Rattle.part_laws.proofs.Indices.{get_map, get_mid, get_set_same}
use Rattle.part_laws.proofs.RunsDetermined.{step_named}
use Rattle.request_taps.specs.Bus.{after_hearing_all}
use Rattle.sim_run.proofs.Choosing.{choices_open}
use Rattle.sim_run.proofs.Ending.{HasRun, has_begun, has_run_on, has_to_end, runs_add, scheduled_ends, stays}
use Rattle.sim_run.proofs.Reaching.{IsPicked, picked_one, runs_front, seats_of_runs}
use Rattle.sim_run.proofs.Taking.{last_of}
use Rattle.sim_run.specs.Advanced.{IsAdvanced, IsPick}
use Rattle.sim_run.specs.Bursts.{IsFoundIn, LeadsToBurst, burst_found, found_at, is_burst, is_burst_at, shown_burst, shown_step}
use Rattle.sim_run.specs.Published.{HearsStep, made, moved}
use Rattle.sim_run.specs.Reached.{AreSeatsOf, IsOpenChoice, IsSeatOf}
use Rattle.sim_run.specs.declared.whole_run.FoundBurst.{FoundBurst}

-- A step that is taken as the last one.

-- the domain before it, and the newest event after it
pub last_shown : (seat new : RunningPart) (s : Step) (d : DomainState) (e x : Event) → d ≡ seat.run.state.domain
    → new ≡ part_after s seat → slice_get new.run.journal (length new.run.journal - 1) ≡ Some e → x ≡ e
    → (d, x) ≡ shown_step seat.run.state s
last_shown seat new s d e x domain left newest same =
    let last : slice_get (part_after s seat).run.journal (length (part_after s seat).run.journal - 1) ≡ Some e =
    subst (λ (n : RunningPart). slice_get n.run.journal (length n.run.journal - 1) ≡ Some e) left newest in
    ap {B = DomainState × Event} (λ d. (d, x)) domain
    ∙ ap {B = DomainState × Event} (λ x. (seat.run.state.domain, x))
    (same ∙ last_of seat.run.journal (event_of seat.run.state s) e last)

-- Which step makes a burst with a given number.

-- a burst has the number after that of the part's bursts so far
pub burst_numbered : (p : PartState) (context number bursts : ℕ) → bursts ≡ p.bursts
    → (bursts + 1 == number) ≡ is_burst number (event_of p (step.Burst context))
unfolding stepped burst_stepped
burst_numbered p context number bursts e = ap (λ (n : ℕ). n + 1 == number) e

not_named : (e : Event) (s : Step) (number : ℕ) → step_of e ≡ s → ((context : ℕ) → s ≡ step.Burst context → ⊥)
    → false ≡ is_burst number e
not_named (event.Burst context call burst count end acts answer failure) s number e others =
    absurd (others context (sym e))
not_named (event.Invoke call thread o answer) s number e others = refl
not_named (event.Enter call thread attempt answer) s number e others = refl
not_named (event.Stage stage answers released) s number e others = refl
not_named (event.Arrive frame kept) s number e others = refl

-- no other step makes a burst
pub none_numbered : (p : PartState) (s : Step) (number : ℕ) → ((context : ℕ) → s ≡ step.Burst context → ⊥)
    → false ≡ is_burst number (event_of p s)
none_numbered p s number others = not_named (event_of p s) s number (step_named p s) others

-- The index of the first event of its kind.

not_either : (a b : Bool) → (a || b) ≡ false → (a ≡ false) × (b ≡ false)
not_either true b h = cc
not_either false b h = (refl, h)

one_more : (n : ℕ) → 1 + n ≡ suc n
one_more n = omega arith

none_passes : {X : Type 0} (p : X → Bool) (xs : List X) → list_any p xs ≡ false → prefix_len (λ x. not (p x)) xs ≡ length xs
none_passes p [] h = refl
none_passes p (x ∷ xs) h =
    let both = not_either (p x) (list_any p xs) h in
    ap (λ b. cond (not b) (1 + prefix_len (λ x. not (p x)) xs) 0) both.0
    ∙ one_more (prefix_len (λ x. not (p x)) xs) ∙ ap suc (none_passes p xs both.1)

first_passes : {X : Type 0} (p : X → Bool) (xs rest : List X) (e : X) → list_any p xs ≡ false → p e ≡ true
    → prefix_len (λ x. not (p x)) (xs ++ e ∷ rest) ≡ length xs
first_passes p [] rest e h is = ap (λ b. cond (not b) (1 + prefix_len (λ x. not (p x)) rest) 0) is
first_passes p (x ∷ xs) rest e h is =
    let both = not_either (p x) (list_any p xs) h in
    ap (λ b. cond (not b) (1 + prefix_len (λ x. not (p x)) (xs ++ e ∷ rest)) 0) both.0
    ∙ one_more (prefix_len (λ x. not (p x)) (xs ++ e ∷ rest)) ∙ ap suc (first_passes p xs rest e both.1 is)

no_position : {X : Type 0} (p : X → Bool) (xs : List X) → list_any p xs ≡ false → position p xs ≡ None
no_position p xs h =
    let n : prefix_len (λ x. not (p x)) xs ≡ length xs = none_passes p xs h in
    ap (λ k. cond (nat_lt k (length xs)) (Some k) None) n ∙ ap (λ b. cond b (Some (length xs)) None) (le-ltb (length xs) (length xs) (omega arith))

first_position : {X : Type 0} (p : X → Bool) (xs rest : List X) (e : X) → list_any p xs ≡ false → p e ≡ true
    → position p (xs ++ e ∷ rest) ≡ Some (length xs)
first_position p xs rest e h is =
    let n : prefix_len (λ x. not (p x)) (xs ++ e ∷ rest) ≡ length xs = first_passes p xs rest e h is in
    let long : length (xs ++ e ∷ rest) ≡ length xs + suc (length rest) = length-append xs (e ∷ rest) in
    ap (λ k. cond (nat_lt k (length (xs ++ e ∷ rest))) (Some k) None) n
    ∙ ap (λ b. cond b (Some (length xs)) None) (lt-ltb (length xs) (length (xs ++ e ∷ rest)) (omega (arith, long)))

pub front_taken : {X : Type 0} (xs ys : List X) → take (length xs) (xs ++ ys) ≡ xs
front_taken [] ys = refl
front_taken (x ∷ xs) ys = ap (λ l. x ∷ l) (front_taken xs ys)

none_more : {X : Type 0} (p : X → Bool) (xs : List X) (e : X) → list_any p xs ≡ false → p e ≡ false → list_any p (xs ++ e ∷ []) ≡ false
none_more p [] e h is = ap (λ b. b || false) is
none_more p (x ∷ xs) e h is =
    let both = not_either (p x) (list_any p xs) h in
    ap (λ b. b || list_any p (xs ++ e ∷ [])) both.0 ∙ none_more p xs e both.1 is

-- The effect of one step on one part's journal.

-- it stays the same, or gains one event
abbrev pub Follows : Option (List Event) → Option (List Event) → Type 0
Follows old new =
    (new ≡ old) ⊎ ((journal : List Event) × ((e : Event) × ((old ≡ Some journal) × (new ≡ Some (journal ++ e ∷ [])))))

some_journal : (x seat : RunningPart) → Some x ≡ Some seat → x.run.journal ≡ seat.run.journal
some_journal x seat h = cc

set_follows : (parts : List RunningPart) (i index : ℕ) (seat new : RunningPart) (e : Event) → slice_get parts i ≡ Some seat
    → new.run.journal ≡ seat.run.journal ++ e ∷ []
    → Follows (slice_get (map journal_of parts) index) (slice_get (map journal_of (slice_set parts i new)) index)
set_follows [] i index seat new e h n = cc
set_follows (x ∷ parts) zero zero seat new e h n =
    inr (seat.run.journal, (e, (ap {B = Option (List Event)} (λ (j : List Event). Some j) (some_journal x seat h), ap {B = Option (List Event)} (λ (j : List Event). Some j) n)))
set_follows (x ∷ parts) zero (suc index) seat new e h n = inl refl
set_follows (x ∷ parts) (suc i) zero seat new e h n = inl refl
set_follows (x ∷ parts) (suc i) (suc index) seat new e h n = set_follows parts i index seat new e h n

picked_follows : (s : Simulation) (choices : List Choice) (c : Choice) (seat : RunningPart) (index : ℕ) → IsPicked s choices c seat
    → Follows (slice_get (journals_of s) index) (slice_get (journals_of (taken s choices)) index)
picked_follows s choices c seat index p =
    subst (λ (x : Simulation). Follows (slice_get (journals_of s) index) (slice_get (journals_of x) index)) (sym p.step)
    (set_follows s.parts c.part index seat (part_after c.step seat) (event_of seat.run.state c.step) p.at_part refl)

moved_follows : (s : Simulation) (choices : List Choice) (index : ℕ) → choices_of s ≡ choices
    → Follows (slice_get (journals_of s) index) (slice_get (journals_of (moved s choices)) index)
moved_follows s [] index e = inl refl
moved_follows s (c ∷ choices) index e =
    let more : 0 < length (choices_of s) = subst (λ (xs : List Choice). 0 < length xs) (sym e) (omega arith) in
    let one = picked_one s (choices_of s) (choices_open s) more in
    subst (λ xs. Follows (slice_get (journals_of s) index) (slice_get (journals_of (taken s xs)) index)) e
    (picked_follows s (choices_of s) one.0 one.1.0 index one.1.1)

-- so a journal is a prefix of the later ones
front_stays : (n : ℕ) (s : Simulation) (index : ℕ) (journal : List Event) → slice_get (journals_of s) index ≡ Some journal
    → (rest : List Event) × (slice_get (journals_of (runs n s)) index ≡ Some (journal ++ rest))
unfolding runs
front_stays zero s index journal h = ([], h ∙ ap {B = Option (List Event)} (λ (j : List Event). Some j) (sym (append-nil journal)))
front_stays (suc n) s index journal h =
    subst (λ (x : Simulation). (rest : List Event) × (slice_get (journals_of x) index ≡ Some (journal ++ rest))) (sym (runs_front n s))
    (by_step (moved_follows s (choices_of s) index refl) (λ (j : List Event) at. front_stays n (moved s (choices_of s)) index j at))
  where
    inner : {a b : List Event} → Some a ≡ Some b → a ≡ b
    inner h = cc

    Stays : List Event → Type 0
    Stays j = (rest : List Event) × (slice_get (journals_of (runs n (moved s (choices_of s)))) index ≡ Some (j ++ rest))

    by_step : Follows (slice_get (journals_of s) index) (slice_get (journals_of (moved s (choices_of s))) index)
        → ((j : List Event) → slice_get (journals_of (moved s (choices_of s))) index ≡ Some j → Stays j) → Stays journal
    by_step (inl same) on = on journal (same ∙ h)
    by_step (inr more) on =
        let is : more.0 ≡ journal = inner (sym more.1.1.0 ∙ h) in
        let later = on (journal ++ more.1.0 ∷ [])
        (more.1.1.1 ∙ ap {B = Option (List Event)} (λ (j : List Event). Some (j ++ more.1.0 ∷ [])) is) in
        (more.1.0 ∷ later.0, later.1 ∙ ap {B = Option (List Event)} (λ (j : List Event). Some j) (append_assoc journal (more.1.0 ∷ []) later.0))

-- What is known while the search for the burst continues.

-- the burst is not in the journal
abbrev pub HasNoBurst : ℕ → Option (List Event) → Type 0
HasNoBurst number None = Unit {0}
HasNoBurst number (Some journal) = list_any (is_burst number) journal ≡ false

none_at_first : (specs : List PartSpec) (index number : ℕ) → HasNoBurst number (slice_get (map journal_of (map opening_part specs)) index)
none_at_first [] index number = tt
none_at_first (spec ∷ specs) zero number = refl
none_at_first (spec ∷ specs) (suc index) number = none_at_first specs index number

-- no part has made an event
none_begun : (scenario : Scenario) (s : Simulation) (index number : ℕ) → s ≡ begins scenario
    → HasNoBurst number (slice_get (journals_of s) index)
unfolding begins
none_begun scenario s index number e =
    subst (λ (x : Simulation). HasNoBurst number (slice_get (journals_of x) index)) (sym e) (none_at_first scenario.parts index number)

-- a part takes a step that is not the burst
none_set : (parts : List RunningPart) (i index number : ℕ) (seat new : RunningPart) (e : Event)
    → slice_get parts i ≡ Some seat → new.run.journal ≡ seat.run.journal ++ e ∷ []
    → (i ≡ index → is_burst number e ≡ false) → HasNoBurst number (slice_get (map journal_of parts) index)
    → HasNoBurst number (slice_get (map journal_of (slice_set parts i new)) index)
none_set [] i index number seat new e h n other none = cc
none_set (x ∷ parts) zero zero number seat new e h n other none =
    let before : list_any (is_burst number) seat.run.journal ≡ false =
    subst (λ j. list_any (is_burst number) j ≡ false) (some_journal x seat h) none in
    ap (list_any (is_burst number)) n ∙ none_more (is_burst number) seat.run.journal e before (other refl)
none_set (x ∷ parts) zero (suc index) number seat new e h n other none = none
none_set (x ∷ parts) (suc i) zero number seat new e h n other none = none
none_set (x ∷ parts) (suc i) (suc index) number seat new e h n other none =
    none_set parts i index number seat new e h n (λ same. other (ap suc same)) none

-- no tap hears anything
heard_none : (events : List (ℕ × Event)) → after_hearing_all events [] ≡ []
unfolding after_hearing_all
heard_none [] = refl
heard_none (e ∷ events) = heard_none events

pub hears_none : (s : Simulation) (some : Bool) → HearsStep s (Ok some) [] []
hears_none s true = sym (heard_none (made s (choices_of s)))
hears_none s false = refl

-- n steps were taken, and the burst was not made
pub record HasSought (scenario : Scenario) (n : ℕ) (s : Simulation) (index number : ℕ) : Type 0 where
  pub run : HasRun scenario n s [] []
  pub none : HasNoBurst number (slice_get (journals_of s) index)

pub seeks_first : (scenario : Scenario) (s : Simulation) (index number : ℕ) → s ≡ begins scenario → HasSought scenario 0 s index number
seeks_first scenario s index number e = record { run = has_begun scenario s [] e; none = none_begun scenario s index number e }

pub seeks_to_end : (scenario : Scenario) (n : ℕ) (s : Simulation) (index number : ℕ) → IsValidScenario scenario → HasSought scenario n s index number
    → 2 ^ 26 ≤ n → ⊥
seeks_to_end scenario n s index number v h l = has_to_end scenario n s [] [] v h.run l

-- the choice's part exists
pub has_seat : (c : Choice) (parts : List RunningPart) (o : Option RunningPart) → slice_get parts c.part ≡ o
    → IsOpenChoice parts c → (seat : RunningPart) × (slice_get parts c.part ≡ Some seat)
has_seat c parts None e h = absurd (none e)
  where
    none : slice_get parts c.part ≡ None → ⊥
    none e = rw e at h
has_seat c parts (Some seat) e h = (seat, e)

-- the picked choice is taken: the run has made one step
pub pick_taken : (s t u : Simulation) (c : Choice) → IsPick s (Some c) t
    → u ≡ stepped_by t t.order c (slice_get t.parts c.part) → IsAdvanced s true u
pick_taken s t u c pick e = (pick.0, e ∙ pick.2)

none_stepped : (s t : Simulation) (index number : ℕ) (c : Choice) (seat : RunningPart) → t.parts ≡ s.parts
    → slice_get t.parts c.part ≡ Some seat → is_burst_at index number c (Some seat) ≡ false
    → HasNoBurst number (slice_get (journals_of s) index)
    → HasNoBurst number (slice_get (journals_of (stepped_by t t.order c (Some seat))) index)
none_stepped s t index number c seat same at other none =
    none_set t.parts c.part index number seat (part_after c.step seat) (event_of seat.run.state c.step) at refl
    (λ e. apart (c.part == index) (is_burst number (event_of seat.run.state c.step)) (eq-eqb c.part index e) other)
    (subst (λ parts. HasNoBurst number (slice_get (map journal_of parts) index)) (sym same) none)
  where
    apart : (a b : Bool) → a ≡ true → (a && b) ≡ false → b ≡ false
    apart a b e h = rw e at h

pub seeks_on : (scenario : Scenario) (n : ℕ) (s t u : Simulation) (index number : ℕ) (c : Choice) (found : Bool)
    → HasSought scenario n s index number → IsPick s (Some c) t → t.parts ≡ s.parts
    → found ≡ is_burst_at index number c (slice_get t.parts c.part) → found ≡ false
    → u ≡ stepped_by t t.order c (slice_get t.parts c.part) → HasSought scenario (n + 1) u index number
seeks_on scenario n s t u index number c found h pick same is other e =
    let here = has_seat c t.parts (slice_get t.parts c.part) refl pick.1 in
    let at : u ≡ stepped_by t t.order c (Some here.0) = e ∙ ap (stepped_by t t.order c) here.1 in record {
      run = has_run_on scenario n s u true [] [] [] h.run (pick_taken s t u c pick e) (hears_none s true) refl;
      none = subst (λ (x : Simulation). HasNoBurst number (slice_get (journals_of x) index)) (sym at)
          (none_stepped s t index number c here.0 same here.1
          (sym (ap (is_burst_at index number c) here.1) ∙ sym is ∙ other) h.none);
    }

-- The answers.

none_by : (number : ℕ) (spec : Option PartSpec) (journal : Option (List Event)) → HasNoBurst number journal
    → burst_found number spec journal ≡ None
none_by number None journal h = refl
none_by number (Some spec) None h = refl
none_by number (Some spec) (Some journal) h = ap (found_at spec journal) (no_position (is_burst number) journal h)

-- the whole run has no such burst
pub none_found : (scenario : Scenario) (n : ℕ) (s t : Simulation) (index number : ℕ) (o : Option Choice)
    → HasSought scenario n s index number → IsPick s o t → ((c : Choice) → o ≡ Some c → ⊥)
    → LeadsToBurst scenario index number None
none_found scenario n s t index number (Some c) h pick others = absurd (others c refl)
none_found scenario n s t index number None h pick others = record {
  simulation = s;
  scheduled = record { steps = n; reached = h.run.reached; ended = pick.0 };
  same = sym (none_by number (slice_get scenario.parts index) (slice_get (journals_of s) index) h.none);
}

-- a part is in the state that its journal leads to
seat_spec : (specs : List PartSpec) (seats : List RunningPart) (k : ℕ) (seat : RunningPart) → AreSeatsOf specs seats
    → slice_get seats k ≡ Some seat → (spec : PartSpec) × ((slice_get specs k ≡ Some spec) × IsSeatOf spec seat)
seat_spec [] [] k seat are at = cc
seat_spec [] (x ∷ seats) k seat are at = absurd are
seat_spec (spec ∷ specs) [] k seat are at = cc
seat_spec (spec ∷ specs) (x ∷ seats) zero seat are at = (spec, (refl, subst (IsSeatOf spec) (inner at) are.0))
  where
    inner : {a b : RunningPart} → Some a ≡ Some b → a ≡ b
    inner h = cc
seat_spec (spec ∷ specs) (x ∷ seats) (suc k) seat are at = seat_spec specs seats k seat are.1 at

found_following : (spec : PartSpec) (front rest : List Event) (e : Event)
    → found_at spec (front ++ e ∷ rest) (Some (length front)) ≡ Some ((state_of spec front).domain, e)
found_following spec front rest e =
    ap (option_map (λ x. ((state_of spec (take (length front) (front ++ e ∷ rest))).domain, x))) (get_mid front rest e)
    ∙ ap {B = Option (DomainState × Event)} (λ events. Some ((state_of spec events).domain, e))
    (front_taken front (e ∷ rest))

-- the burst is the event after this prefix of the part's journal
found_by : (number : ℕ) (spec : PartSpec) (seat : RunningPart) (rest : List Event) (e : Event) → IsSeatOf spec seat
    → list_any (is_burst number) seat.run.journal ≡ false → is_burst number e ≡ true
    → burst_found number (Some spec) (Some ((seat.run.journal ++ e ∷ []) ++ rest)) ≡ Some (seat.run.state.domain, e)
found_by number spec seat rest e is none burst =
    let front = seat.run.journal in
    ap (λ (j : List Event). burst_found number (Some spec) (Some j)) (append_assoc front (e ∷ []) rest)
    ∙ ap (found_at spec (front ++ e ∷ rest)) (first_position (is_burst number) front rest e none burst)
    ∙ found_following spec front rest e
    ∙ ap {B = Option (DomainState × Event)} (λ (p : PartState). Some (p.domain, e)) (sym is.state)

-- the picked choice makes the burst
record IsSought (scenario : Scenario) (n : ℕ) (s : Simulation) (index number : ℕ) (seat : RunningPart) (e : Event)
    : Type 0 where
  pub reached : runs n (begins scenario) ≡ s
  pub parts : List RunningPart
  pub seats : AreSeatsOf scenario.parts parts
  pub at : slice_get parts index ≡ Some seat
  pub none : HasNoBurst number (Some seat.run.journal)
  pub burst : is_burst number e ≡ true
  pub represents : slice_get (journals_of s) index ≡ Some (seat.run.journal ++ e ∷ [])

leads_by : (scenario : Scenario) (n : ℕ) (s : Simulation) (index number : ℕ) (seat : RunningPart) (e : Event)
    (found : FoundBurst) → IsValidScenario scenario → IsSought scenario n s index number seat e
    → shown_burst found ≡ (seat.run.state.domain, e) → LeadsToBurst scenario index number (Some found)
leads_by scenario n s index number seat e found v sought shown = record {
  simulation = end.0;
  scheduled = end.1;
  same =
      ap {B = Option (DomainState × Event)} (λ b. Some b) shown
      ∙ sym (ap (λ o. burst_found number o (slice_get (journals_of end.0) index)) spec.1.0
      ∙ ap (burst_found number (Some spec.0)) whole
      ∙ found_by number spec.0 seat on.0 e spec.1.1 sought.none sought.burst);
}
  where
    end : (t : Simulation) × IsScheduledRun scenario t
    end = scheduled_ends scenario v

    spec : (spec : PartSpec) × ((slice_get scenario.parts index ≡ Some spec) × IsSeatOf spec seat)
    spec = seat_spec scenario.parts sought.parts index seat sought.seats sought.at

    on : (rest : List Event)
        × (slice_get (journals_of (runs end.1.steps s)) index ≡ Some ((seat.run.journal ++ e ∷ []) ++ rest))
    on = front_stays end.1.steps s index (seat.run.journal ++ e ∷ []) sought.represents

    swap : (a b : ℕ) → a + b ≡ b + a
    swap a b = omega arith

    same : runs end.1.steps s ≡ end.0
    same =
        ap (runs end.1.steps) (sym sought.reached) ∙ sym (runs_add n end.1.steps (begins scenario))
        ∙ ap (λ (k : ℕ). runs k (begins scenario)) (swap n end.1.steps) ∙ stays scenario end.0 end.1 n

    whole : slice_get (journals_of end.0) index ≡ Some ((seat.run.journal ++ e ∷ []) ++ on.0)
    whole = ap (λ (x : Simulation). slice_get (journals_of x) index) (sym same) ∙ on.1

both : (a b : Bool) → (a && b) ≡ true → (a ≡ true) × (b ≡ true)
both true b h = (refl, h)
both false b h = cc

-- the picked choice makes the burst
picked_burst : (scenario : Scenario) (n : ℕ) (s t : Simulation) (index number : ℕ) (c : Choice) (seat : RunningPart)
    → HasSought scenario n s index number → IsPick s (Some c) t → t.parts ≡ s.parts
    → slice_get t.parts c.part ≡ Some seat → c.part ≡ index → is_burst number (event_of seat.run.state c.step) ≡ true
    → IsSought scenario (n + 1) (taken s (choices_of s)) index number seat (event_of seat.run.state c.step)
picked_burst scenario n s t index number c seat h pick same at part burst = record {
  reached = on.reached;
  parts = s.parts;
  seats = subst (λ (x : Simulation). AreSeatsOf scenario.parts x.parts) h.run.reached (seats_of_runs scenario n);
  at = there;
  none = subst (HasNoBurst number) (get_map journal_of s.parts index seat there) h.none;
  burst = burst;
  represents =
      subst (λ (x : Simulation). slice_get (journals_of x) index ≡ Some (after.run.journal))
      (sym (ap (stepped_by t t.order c) at) ∙ pick.2)
      (get_map journal_of (slice_set t.parts c.part after) index after
      (subst (λ (k : ℕ). slice_get (slice_set t.parts c.part after) k ≡ Some after) part
      (get_set_same t.parts c.part seat after at)));
}
  where
    on : HasRun scenario (n + 1) (taken s (choices_of s)) [] []
    on = has_run_on scenario n s (taken s (choices_of s)) true [] [] [] h.run (pick.0, refl) (hears_none s true) refl

    after : RunningPart
    after = part_after c.step seat

    there : slice_get s.parts index ≡ Some seat
    there = ap (λ parts. slice_get parts index) (sym same) ∙ ap (slice_get t.parts) (sym part) ∙ at

-- the burst is found
pub leads_found : (scenario : Scenario) (n : ℕ) (s t : Simulation) (index number : ℕ) (c : Choice) (is : Bool)
    (found : FoundBurst) → IsValidScenario scenario → HasSought scenario n s index number → IsPick s (Some c) t
    → t.parts ≡ s.parts → is ≡ is_burst_at index number c (slice_get t.parts c.part) → is ≡ true
    → IsFoundIn (slice_get t.parts c.part) c.step found → LeadsToBurst scenario index number (Some found)
leads_found scenario n s t index number c is found v h pick same e test shown =
    let here = has_seat c t.parts (slice_get t.parts c.part) refl pick.1 in
    let seat : RunningPart = here.0 in
    let made : Event = event_of seat.run.state c.step in
    let passed =
    both (c.part == index) (is_burst number made) (sym (ap (is_burst_at index number c) here.1) ∙ sym e ∙ test) in
    leads_by scenario (n + 1) (taken s (choices_of s)) index number seat made found v
    (picked_burst scenario n s t index number c seat h pick same here.1 (eqb-true c.part index passed.0) passed.1)
    (subst (λ o. IsFoundIn o c.step found) here.1 shown)
