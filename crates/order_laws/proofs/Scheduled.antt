-- The journals of a simulation's run can be taken in the order of its steps.
use Rattle.std.proofs.Common.{◌≡◌, ℕ, zero, suc, ◌+◌, Option, Some, None, List, [], ◌∷◌, ◌++◌, length, map, slice_get, slice_index_or, slice_set, refl, sym, ap, ap₂, ◌∙◌, subst, arith, append_assoc, append-nil}
use Rattle.std.specs.List.{AllByRecursion}
use Rattle.nook_data.specs.Valid.{IsValidScenario}
use Rattle.nook_data.specs.declared.scenario.PartSpec.{PartSpec}
use Rattle.nook_data.specs.declared.scenario.Scenario.{Scenario}
use Rattle.nook_data.specs.declared.scenario.ThreadSpec.{ThreadSpec}
use Rattle.nook_data.specs.declared.steps.Event.{Event}
use Rattle.nook_data.proofs.Options.{none_is_some, same_inside}
use Rattle.part_defs.specs.Runs.{event_of}
use Rattle.part_laws.proofs.RunsDetermined.{step_named}
use Rattle.run_defs.specs.Schedules.{Order, picked}
use Rattle.run_defs.specs.Simulation.{Choice, IsScheduledRun, RunningPart, Simulation, ThreadState, Waiting, actor_of, answers_of_thread, begins, choices_of, journal_of, journals_of, opening_part}
use Rattle.run_defs.specs.Simulation.{part_after, runs, stepped_by, taken, threads_after}
use Rattle.run_defs.proofs.RunChanges.{taken_by}
use Rattle.run_laws.proofs.Choices.{IsGood, IsOwn, choices_good}
use Rattle.run_laws.proofs.Reached.{all_answered}
use Rattle.audited_runs.proofs.Ended.{scheduled_reached}
use Rattle.audited_runs.proofs.Reached.{IsReached}
use Rattle.audited_runs.proofs.Shares.{AreCounted, waits_for}
use Rattle.order_defs.specs.Taking.{IsAllTaken, IsThrough, Leads, Taking, opening_taking}
use Rattle.order_laws.proofs.Own.{timely_step}

-- ---- what a part's journal gains

-- each journal is that of the part, followed by the events left
abbrev Joined : List RunningPart → List (List Event) → List (List Event) → Type 0
Joined [] [] [] = Unit {0}
Joined (seat ∷ seats) (left ∷ lefts) (journal ∷ journals) = (seat.run.journal ++ left ≡ journal) × Joined seats lefts journals
Joined seats lefts journals = ⊥

-- no part has an event left
abbrev nothing_of : List RunningPart → List (List Event)
nothing_of [] = []
nothing_of (seat ∷ seats) = [] ∷ nothing_of seats

joined_none : (seats : List RunningPart) → Joined seats (nothing_of seats) (map journal_of seats)
joined_none [] = tt
joined_none (seat ∷ seats) = (append-nil seat.run.journal, joined_none seats)

nothing_left : (seats : List RunningPart) (k : ℕ) → slice_index_or (nothing_of seats) k [] ≡ []
nothing_left [] k = refl
nothing_left (seat ∷ seats) zero = refl
nothing_left (seat ∷ seats) (suc k) = nothing_left seats k

-- one more event before the events left
record IsJoinedBefore (seats : List RunningPart) (k : ℕ) (e : Event) (lefts journals : List (List Event)) : Type 0 where
  whole : List (List Event)
  rest : List Event
  at : slice_get whole k ≡ Some (e ∷ rest)
  set : slice_set whole k rest ≡ lefts
  joined : Joined seats whole journals

joined_before : (seats : List RunningPart) (k : ℕ) (seat new : RunningPart) (e : Event) (lefts journals : List (List Event)) → slice_get seats k ≡ Some seat
    → new.run.journal ≡ seat.run.journal ++ e ∷ [] → Joined (slice_set seats k new) lefts journals → IsJoinedBefore seats k e lefts journals
joined_before [] k seat new e lefts journals at is j = none_is_some at
joined_before (x ∷ seats) zero seat new e [] journals at is j = absurd j
joined_before (x ∷ seats) zero seat new e (left ∷ lefts) [] at is j = absurd j
joined_before (x ∷ seats) zero seat new e (left ∷ lefts) (journal ∷ journals) at is j = record {
  whole = (e ∷ left) ∷ lefts;
  rest = left;
  at = refl;
  set = refl;
  joined = (
    ap (λ (y : RunningPart). y.run.journal ++ e ∷ left) (same_inside at) ∙ sym (append_assoc seat.run.journal (e ∷ []) left) ∙ ap (λ xs. xs ++ left) (sym is) ∙ j.0,
    j.1,
  );
}
joined_before (x ∷ seats) (suc k) seat new e [] journals at is j = absurd j
joined_before (x ∷ seats) (suc k) seat new e (left ∷ lefts) [] at is j = absurd j
joined_before (x ∷ seats) (suc k) seat new e (left ∷ lefts) (journal ∷ journals) at is j =
    let more : IsJoinedBefore seats k e lefts journals = joined_before seats k seat new e lefts journals at is j.1 in
    record { whole = left ∷ more.whole; rest = more.rest; at = more.at; set = ap (λ xs. left ∷ xs) more.set; joined = (j.0, more.joined) }

-- ---- a run

-- the rest of the journals can be taken in an order
record IsTakenFrom (s end : Simulation) : Type 0 where
  left : List (List Event)
  order : List ℕ
  last : Taking
  joined : Joined s.parts left (journals_of end)
  leads : Leads (record { left = left; threads = s.threads }) order last
  none : (k : ℕ) → slice_index_or last.left k [] ≡ []
  threads : last.threads ≡ end.threads

taken_none : (s : Simulation) → IsTakenFrom s s
taken_none s = record {
  left = nothing_of s.parts;
  order = [];
  last = record { left = nothing_of s.parts; threads = s.threads };
  joined = joined_none s.parts;
  leads = refl;
  none = nothing_left s.parts;
  threads = refl;
}

taken_before : (s end : Simulation) (order : Order) (c : Choice) (g : IsGood s.parts s.threads c) → IsTakenFrom (stepped_by s order c (Some g.seat)) end → IsTakenFrom s end
taken_before s end order c g h =
    let e : Event = event_of g.seat.run.state c.step in
    let j : IsJoinedBefore s.parts c.part e h.left (journals_of end) =
    joined_before s.parts c.part g.seat (part_after c.step g.seat) e h.left (journals_of end) g.at refl h.joined in
    record {
      left = j.whole;
      order = c.part ∷ h.order;
      last = h.last;
      joined = j.joined;
      leads = (
        record {
          event = e;
          rest = j.rest;
          at = j.at;
          timely = timely_step s.threads c.part e (subst (IsOwn s.threads c.part) (sym (step_named g.seat.run.state c.step)) g.own);
        },
        subst (λ l. Leads (record { left = l; threads = threads_after 0 c.part e s.threads }) h.order h.last) (sym j.set) h.leads,
      );
      none = h.none;
      threads = h.threads;
    }

at_position : {X : Type 0} (P : X → Type 0) (xs : List X) (i : ℕ) (x : X) → AllByRecursion P xs → slice_get xs i ≡ Some x → P x
at_position P [] i x all h = none_is_some h
at_position P (y ∷ xs) zero x all h = subst P (same_inside h) all.0
at_position P (y ∷ xs) (suc i) x all h = at_position P xs i x all.1 h

record_same : (s end : Simulation) (order : Order) → IsTakenFrom (record s { order = order }) end → IsTakenFrom s end
record_same s end order h =
    record { left = h.left; order = h.order; last = h.last; joined = h.joined; leads = h.leads; none = h.none; threads = h.threads }

choice_taken : (s end : Simulation) (choices : List Choice) → AllByRecursion (IsGood s.parts s.threads) choices → IsTakenFrom (taken s choices) end → IsTakenFrom s end
unfolding taken
choice_taken s end choices good h = by_choice (slice_get choices (picked s.order (map actor_of choices)).index) refl h
  where
    by_choice : (o : Option Choice) → slice_get choices (picked s.order (map actor_of choices)).index ≡ o
        → IsTakenFrom (taken_by s (picked s.order (map actor_of choices)).order o) end → IsTakenFrom s end
    by_choice None e k = record_same s end (picked s.order (map actor_of choices)).order k
    by_choice (Some c) e k =
        let g : IsGood s.parts s.threads c = at_position (IsGood s.parts s.threads) choices (picked s.order (map actor_of choices)).index c good e in
        taken_before s end (picked s.order (map actor_of choices)).order c g
        (subst (λ q. IsTakenFrom (stepped_by s (picked s.order (map actor_of choices)).order c q) end) g.at k)

runs_taken : (n : ℕ) (s : Simulation) → IsTakenFrom s (runs n s)
unfolding runs
runs_taken zero s = taken_none s
runs_taken (suc n) s = by_choices (choices_of s) (choices_good s) (λ x. runs_taken n x)
  where
    by_choices : (choices : List Choice) → AllByRecursion (IsGood s.parts s.threads) choices → ((x : Simulation) → IsTakenFrom x (runs n x))
        → IsTakenFrom s (elim choices [ [] ↦ s | (c ∷ choices) ↦ runs n (taken s (c ∷ choices)) ])
    by_choices [] good more = taken_none s
    by_choices (c ∷ choices) good more = choice_taken s (runs n (taken s (c ∷ choices))) (c ∷ choices) good (more (taken s (c ∷ choices)))

-- ---- the whole run

no_length : {X : Type 0} (xs : List X) → length xs ≡ 0 → xs ≡ []
no_length [] h = refl
no_length (x ∷ xs) h = absurd (omega arith)

no_wait : (w : Option Waiting) → waits_for w ≡ 0 → w ≡ None
no_wait None h = refl
no_wait (Some w) h = absurd (omega arith)

all_through : (specs : List ThreadSpec) (threads : List ThreadState) → AreCounted specs threads
    → map length (map answers_of_thread threads) ≡ map (λ (t : ThreadSpec). length t.ops) specs → AllByRecursion IsThrough threads
all_through [] [] are same = tt
all_through [] (t ∷ threads) are same = absurd are
all_through (spec ∷ specs) [] are same = absurd are
all_through (spec ∷ specs) (t ∷ threads) are same =
    let here : length t.answers ≡ length spec.ops = cc in
    let others : map length (map answers_of_thread threads) ≡ map (λ (x : ThreadSpec). length x.ops) specs = cc in
    let none = nothing _ _ _ _ are.0 here in
    ((no_length t.rest none.1, no_wait t.waiting none.0), all_through specs threads are.1 others)
  where
    nothing : (answers waits rest ops : ℕ) → answers + waits + rest ≡ ops → answers ≡ ops → (waits ≡ 0) × (rest ≡ 0)
    nothing answers waits rest ops a b = (omega arith, omega arith)

joined_first : (parts : List RunningPart) (lefts journals : List (List Event)) → AllByRecursion (λ seat. seat.run.journal ≡ []) parts → Joined parts lefts journals → lefts ≡ journals
joined_first [] [] [] none j = refl
joined_first [] [] (x ∷ journals) none j = absurd j
joined_first [] (x ∷ lefts) journals none j = absurd j
joined_first (seat ∷ seats) [] journals none j = absurd j
joined_first (seat ∷ seats) (left ∷ lefts) [] none j = absurd j
joined_first (seat ∷ seats) (left ∷ lefts) (journal ∷ journals) none j =
    ap₂ (λ (x : List Event) xs. x ∷ xs) (ap (λ xs. xs ++ left) (sym none.0) ∙ j.0) (joined_first seats lefts journals none.1 j.1)

-- the journals of a scheduled run can be taken in the order of its steps
pub scheduled_ordered : (scenario : Scenario) (s : Simulation) → IsValidScenario scenario → IsScheduledRun scenario s
    → (order : List ℕ) × ((end : Taking) × (Leads (opening_taking scenario.threads (journals_of s)) order end × IsAllTaken end))
unfolding begins
scheduled_ordered scenario s v r =
    let h : IsTakenFrom (begins scenario) s = subst (IsTakenFrom (begins scenario)) r.reached (runs_taken r.steps (begins scenario)) in
    let left : h.left ≡ journals_of s = joined_first (map opening_part scenario.parts) h.left (journals_of s) (empty scenario.parts) h.joined in
    let reached : IsReached scenario s = scheduled_reached scenario s r in (
      h.order,
      (
        h.last,
        (
          subst (λ l. Leads (opening_taking scenario.threads l) h.order h.last) left h.leads,
          record { none_left = h.none; through = subst (AllByRecursion IsThrough) (sym h.threads) (all_through scenario.threads s.threads reached.counted (all_answered scenario s v r)) },
        ),
      ),
    )
  where
    empty : (parts : List PartSpec) → AllByRecursion (λ seat. seat.run.journal ≡ []) (map opening_part parts)
    empty [] = tt
    empty (spec ∷ parts) = (refl, empty parts)
