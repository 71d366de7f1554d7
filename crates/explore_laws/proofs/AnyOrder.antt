-- What the rows say about all schedules.
use Rattle.std.proofs.Common.{◌≡◌, ℕ, zero, suc, ◌+◌, ◌<◌, ◌||◌, ◌==◌, Bool, true, false, All, Contains, Option}
use Rattle.std.proofs.Common.{Some, None, List, []}
use Rattle.std.proofs.Common.{◌∷◌, cond, fold, is_some, map, nat_lt, slice_get, refl, sym, ap, ap₂, ◌∙◌, subst}
use Rattle.std.proofs.Common.{arith, ltb-false}
use Rattle.std.proofs.lemmas.List.Elements.{All-contains}
use Rattle.std.proofs.lemmas.Option.{slice_get_read}
use Rattle.explore_defs.specs.Explored.{AreOutcomes, HasOutcome, IsExplored, IsFirst, all_numbers, explored_status}
use Rattle.explore_defs.specs.Explored.{numbers_of, rows_of_status}
use Rattle.explore_defs.specs.Orders.{Path, with_schedule}
use Rattle.explore_defs.specs.Outcomes.{broken_by, clause_of, outcome_of, part_outcome}
use Rattle.explore_defs.specs.declared.outcome.Outcome.{Outcome}
use Rattle.explore_laws.proofs.Counted.{seat_spec, seats_led}
use Rattle.explore_laws.proofs.Led.{listing, scheduled_led, whole_listed}
use Rattle.guard_defs.specs.FirstBreaks.{NoneBreaks}
use Rattle.guard_defs.specs.GuardedRuns.{spec_of}
use Rattle.nook_data.proofs.Options.{none_is_some, same_inside}
use Rattle.nook_data.specs.Types.{Break, MemberRow, PartSpec, Scenario, ScheduleSpec}
use Rattle.part_laws.proofs.Indices.{from_map, get_map, split}
use Rattle.promise_defs.specs.Contract.{first_break}
use Rattle.report_defs.specs.Campaigns.{row_of}
use Rattle.report_defs.specs.ReportText.{has_break}
use Rattle.run_defs.specs.Simulation.{IsScheduledRun, RunningPart, Simulation, ThreadState, answer_table}
use Rattle.run_defs.specs.Simulation.{answers_of_thread, journal_of, journals_of}
use Rattle.sim_run.specs.Reached.{AreSeatsOf}

-- ---- complete and sound

outcome_same : (s t : Simulation) → s.parts ≡ t.parts → s.threads ≡ t.threads → outcome_of s ≡ outcome_of t
unfolding outcome_of
outcome_same s t p h =
    ap₂ {C = Outcome} (λ parts (threads : List ThreadState). record { answers = map answers_of_thread threads; parts = map part_outcome parts }) p h

pub is_row : (scenario : Scenario) (firsts : List Path) (spec : ScheduleSpec) (s : Simulation) → AreOutcomes scenario None firsts
    → IsScheduledRun (with_schedule scenario spec) s → HasOutcome firsts (outcome_of s)
is_row scenario firsts spec s a r =
    let p = scheduled_led scenario spec s r in
    subst (HasOutcome firsts) (outcome_same p.0.end s p.1.1 p.1.2) (a.each p.0 p.1.0 tt)

pub row_is_run : (scenario : Scenario) (cut : Option (List ℕ)) (firsts : List Path) (path : Path) → AreOutcomes scenario cut firsts
    → Contains firsts path
    → (s : Simulation) × (IsScheduledRun (listing scenario path.picks) s × (outcome_of s ≡ outcome_of path.end)
    × (row_of scenario.parts (journals_of s) (answer_table s) ≡ numbers_of scenario path))
row_is_run scenario cut firsts path a listed =
    let first : IsFirst scenario path = All-contains (IsFirst scenario) firsts path a.first listed in
    let r = whole_listed scenario path first.whole in (
      r.0,
      (
        r.1.0,
        outcome_same r.0 path.end r.1.1 r.1.2,
        ap₂ (λ parts (threads : List ThreadState). row_of scenario.parts (map journal_of parts) (map answers_of_thread threads)) r.1.1 r.1.2,
      ),
    )

-- ---- no row is broken

or_none : (a b : Bool) → (a || b) ≡ false → (a ≡ false) × (b ≡ false)
or_none false b h = (refl, h)
or_none true b h = absurd (cc)

none_of : {X : Type 0} (o : Option X) → is_some o ≡ false → o ≡ None
none_of None h = refl
none_of (Some x) h = absurd (cc)

abbrev clauses_of : List RunningPart → List (Option ℕ)
clauses_of seats = map broken_by seats

seats_kept : (specs : List PartSpec) (seats : List RunningPart) → AreSeatsOf specs seats
    → has_break specs (map journal_of seats) ≡ false → (index : ℕ) (seat : RunningPart) → slice_get seats index ≡ Some seat
    → broken_by seat ≡ None
unfolding has_break
seats_kept [] [] are h index seat at = none_is_some at
seats_kept [] (x ∷ seats) are h index seat at = absurd are
seats_kept (spec ∷ specs) [] are h index seat at = absurd are
seats_kept (spec ∷ specs) (x ∷ seats) are h zero seat at =
    let here = or_none (is_some (first_break spec.class spec.blocks x.run.journal)) (has_break specs (map journal_of seats)) h in
    ap broken_by (sym (same_inside at))
    ∙ ap (λ (made : PartSpec). clause_of (first_break made.class made.blocks x.run.journal)) (seat_spec spec x are.0)
    ∙ ap clause_of (none_of (first_break spec.class spec.blocks x.run.journal) here.0)
seats_kept (spec ∷ specs) (x ∷ seats) are h (suc index) seat at =
    let here = or_none (is_some (first_break spec.class spec.blocks x.run.journal)) (has_break specs (map journal_of seats)) h in
    seats_kept specs seats are.1 here.1 index seat at

none_counted : {X : Type 0} (p : X → Bool) (xs : List X) (n : ℕ) → fold (λ a x. a + cond (p x) 1 0) n xs ≡ 0
    → (n ≡ 0) × ((k : ℕ) (x : X) → slice_get xs k ≡ Some x → p x ≡ false)
none_counted {X = X} p [] n h = (h, λ k x at. none_is_some at)
none_counted {X = X} p (y ∷ xs) n h =
    let more = none_counted p xs (n + cond (p y) 1 0) h in
    (nothing n (cond (p y) 1 0) more.0, λ k x at. each (p y) (nothing_more n (cond (p y) 1 0) more.0) more.1 k x at refl)
  where
    nothing : (a b : ℕ) → a + b ≡ 0 → a ≡ 0
    nothing a b e = omega arith

    nothing_more : (a b : ℕ) → a + b ≡ 0 → b ≡ 0
    nothing_more a b e = omega arith

    not_counted : (b : Bool) → ◌≡◌ {A = ℕ} (cond b 1 0) 0 → b ≡ false
    not_counted true e = absurd (omega arith)
    not_counted false e = refl

    each : (b : Bool) → ◌≡◌ {A = ℕ} (cond b 1 0) 0 → ((k : ℕ) (x : X) → slice_get xs k ≡ Some x → p x ≡ false) → (k : ℕ) (x : X)
        → slice_get (y ∷ xs) k ≡ Some x → p y ≡ b → p x ≡ false
    each b e rest zero x at same = ap p (sym (same_inside at)) ∙ same ∙ not_counted b e
    each b e rest (suc k) x at same = rest k x at

row_kept : (specs : List PartSpec) (s : Simulation)
    → ((row_of specs (journals_of s) (answer_table s)).status == 7) ≡ false → has_break specs (journals_of s) ≡ false
unfolding row_of
row_kept specs s h = split (has_break specs (journals_of s)) (λ broken. absurd (broken_not (rw broken at h))) (λ kept. kept)
  where
    broken_not : true ≡ false → ⊥
    broken_not e = cc

pub first_kept : (scenario : Scenario) (firsts : List Path) (first : Path) → rows_of_status 7 (all_numbers scenario firsts) ≡ 0
    → Contains firsts first → has_break scenario.parts (journals_of first.end) ≡ false
first_kept scenario firsts first none listed =
    let counted = none_counted (λ (row : MemberRow). row.status == 7) (all_numbers scenario firsts) 0 none in
    row_kept scenario.parts first.end
    (counted.1 listed.0 (numbers_of scenario first)
    (get_map (numbers_of scenario) firsts listed.0 first
    (slice_get_read firsts _ listed.0 first refl listed.1 (sym listed.2))))

no_break : (verdict : Option Break) → clause_of verdict ≡ None → verdict ≡ None
no_break None h = refl
no_break (Some b) h = absurd (cc)

kept_alike : (seats others : List RunningPart) → map part_outcome others ≡ map part_outcome seats
    → ((index : ℕ) (seat : RunningPart) → slice_get others index ≡ Some seat → broken_by seat ≡ None)
    → (index : ℕ) (seat : RunningPart) → slice_get seats index ≡ Some seat → broken_by seat ≡ None
kept_alike seats others same kept index seat at =
    let there = from_map part_outcome others index (part_outcome seat)
    (ap (λ (xs : List _). slice_get xs index) same ∙ get_map part_outcome seats index seat at) in
    ap (λ o. o.broken) there.2 ∙ kept index there.0 there.1

outcome_parts : (s t : Simulation) → outcome_of s ≡ outcome_of t → map part_outcome s.parts ≡ map part_outcome t.parts
unfolding outcome_of
outcome_parts s t h = ap (λ (o : Outcome). o.parts) h

pub none_breaks : (scenario : Scenario) (firsts : List Path) (spec : ScheduleSpec) (s : Simulation) → AreOutcomes scenario None firsts
    → rows_of_status 7 (all_numbers scenario firsts) ≡ 0 → IsScheduledRun (with_schedule scenario spec) s → NoneBreaks s
none_breaks scenario firsts spec s a none r =
    let row : HasOutcome firsts (outcome_of s) = is_row scenario firsts spec s a r in
    let first : IsFirst scenario row.first = All-contains (IsFirst scenario) firsts row.first a.first row.listed in
    λ index seat at. no_break (first_break (spec_of seat).class (spec_of seat).blocks seat.run.journal)
    (kept_alike s.parts row.first.end.parts (outcome_parts row.first.end s row.same)
    (seats_kept scenario.parts row.first.end.parts
    (seats_led scenario row.first.picks row.first.end first.whole.led)
    (first_kept scenario firsts row.first none row.listed)) index seat at)

-- ---- the status

record IsWholeStatus (is_cut : Bool) (rows : List MemberRow) : Type 0 where
  whole : is_cut ≡ false
  none : rows_of_status 7 rows ≡ 0

status_says : (is_cut : Bool) (rows : List MemberRow) → explored_status is_cut rows < 7 → IsWholeStatus is_cut rows
status_says is_cut rows low = split (nat_lt 0 (rows_of_status 7 rows))
    (λ some. absurd (seven (rw some at low)))
    (λ none. split is_cut
    (λ cut. absurd (nine (rw (none, cut) at low)))
    (λ whole. record { whole = whole; none = zero_of (rows_of_status 7 rows) none }))
  where
    seven : 7 < 7 → ⊥
    seven l = omega arith

    nine : 9 < 7 → ⊥
    nine l = omega arith

    zero_of : (n : ℕ) → nat_lt 0 n ≡ false → n ≡ 0
    zero_of n h =
        let l = ltb-false 0 n h in omega arith

pub status_keeps : (scenario : Scenario) (text : List ℕ) (status : ℕ) (spec : ScheduleSpec) (s : Simulation)
    → IsExplored scenario text status → status < 7 → IsScheduledRun (with_schedule scenario spec) s → NoneBreaks s
status_keeps scenario text status spec s x low r =
    let says : IsWholeStatus (is_some x.cut) (all_numbers scenario x.firsts) =
    status_says (is_some x.cut) (all_numbers scenario x.firsts) (subst (λ (n : ℕ). n < 7) x.status_is low) in
    none_breaks scenario x.firsts spec s
    (subst (λ cut. AreOutcomes scenario cut x.firsts) (none_of x.cut says.whole) x.outcomes) says.none r
