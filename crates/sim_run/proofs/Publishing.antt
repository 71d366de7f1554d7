use Rattle.std.proofs.Common.{◌≡◌, ℕ, zero, suc, ◌+◌, ◌==◌, Option, Some, None, List, [], ◌∷◌, ◌++◌, map, slice_get, slice_set, refl, sym, ap, ◌∙◌, subst, arith, append_assoc, append-nil, eqb-true, option_map, add_assoc, add-zero, zero-add, Bool, true, false}
use Rattle.std.specs.List.{AllByRecursion}
use Rattle.std.proofs.lemmas.Option.{slice_get-map}
use Rattle.std.proofs.lemmas.Bool.{both_ways, eq-eqb}
use Rattle.nook_data.specs.declared.steps.Event.{Event}
use Rattle.nook_data.specs.declared.scenario.PartSpec.{PartSpec}
use Rattle.nook_data.specs.declared.scenario.Scenario.{Scenario}
use Rattle.nook_io.specs.Listening.{Listening, count_if, hears}
use Rattle.part_defs.specs.Runs.{event_of}
use Rattle.run_defs.specs.Simulation.{Choice, RunningPart, Simulation, begins, choices_of, journal_of, journals_of}
use Rattle.run_defs.specs.Simulation.{opening_part, runs, part_after, taken}
use Rattle.nook_io.specs.Listening.{heard_events}
use Rattle.machine_defs.proofs.BurstKeeps.{split}
use Rattle.part_laws.proofs.Indices.{get_set_other}
use Rattle.sim_run.proofs.Choosing.{choices_open}
use Rattle.sim_run.proofs.Reaching.{IsPicked, picked_one, runs_front}
use Rattle.run_results.specs.Journals.{with_part}
use Rattle.sim_run.specs.Published.{events_of_part, heard_in_journals, made, made_by, made_of, moved, published}
use Rattle.sim_run.specs.Reached.{IsOpenChoice}

-- The events of a run, split at its last step.

pub published_back : (n : ℕ) (s : Simulation) → published (suc n) s ≡ published n s ++ made (runs n s) (choices_of (runs n s))
unfolding published runs
published_back zero s = append-nil (made s (choices_of s))
published_back (suc n) s =
    ap (λ xs. made s (choices_of s) ++ xs) (published_back n (moved s (choices_of s)))
    ∙ sym (append_assoc (made s (choices_of s)) (published n (moved s (choices_of s)))
    (made (runs n (moved s (choices_of s))) (choices_of (runs n (moved s (choices_of s))))))
    ∙ ap (λ (x : Simulation). (made s (choices_of s) ++ published n (moved s (choices_of s))) ++ made x (choices_of x)) (sym (runs_front n s))

-- the event of one step

made_picked : (s : Simulation) (choices : List Choice) (c : Choice) (seat : RunningPart) → IsPicked s choices c seat
    → made s choices ≡ (c.part, event_of seat.run.state c.step) ∷ []
unfolding made
made_picked s choices c seat p = ap (made_by s.parts) p.found ∙ ap (made_of c) p.at_part

-- Each journal has the events of its part, in order.

more_of_part : ℕ → List (ℕ × Event) → List Event → List Event
more_of_part part events journal = journal ++ events_of_part part events

part_append : (part : ℕ) (xs ys : List (ℕ × Event)) → events_of_part part (xs ++ ys) ≡ events_of_part part xs ++ events_of_part part ys
part_append part [] ys = refl
part_append part (e ∷ xs) ys = split (e.0 == part)
    (λ h. rw h (ap (λ zs. e.1 ∷ zs) (part_append part xs ys)))
    (λ h. rw h (part_append part xs ys))

more_none : (part : ℕ) (events : List (ℕ × Event)) (o : Option (List Event)) → events_of_part part events ≡ [] → option_map (more_of_part part events) o ≡ o
unfolding more_of_part
more_none part events None e = refl
more_none part events (Some journal) e = ap {B = Option (List Event)} (λ xs. Some (journal ++ xs)) e ∙ ap {B = Option (List Event)} (λ xs. Some xs) (append-nil journal)

more_append : (part : ℕ) (xs ys : List (ℕ × Event)) (o : Option (List Event))
    → option_map (more_of_part part ys) (option_map (more_of_part part xs) o) ≡ option_map (more_of_part part (xs ++ ys)) o
unfolding more_of_part
more_append part xs ys None = refl
more_append part xs ys (Some journal) =
    ap {B = Option (List Event)} (λ zs. Some zs)
    (append_assoc journal (events_of_part part xs) (events_of_part part ys) ∙ ap (λ zs. journal ++ zs) (sym (part_append part xs ys)))

get_set_same : {X : Type 0} (xs : List X) (k : ℕ) (x y : X) → slice_get xs k ≡ Some x → slice_get (slice_set xs k y) k ≡ Some y
get_set_same [] k x y e = cc
get_set_same (z ∷ xs) zero x y e = refl
get_set_same (z ∷ xs) (suc k) x y e = get_set_same xs k x y e

set_more : (seats : List RunningPart) (at p : ℕ) (seat new : RunningPart) (event : Event) → slice_get seats at ≡ Some seat
    → new.run.journal ≡ seat.run.journal ++ event ∷ []
    → slice_get (map journal_of (slice_set seats at new)) p ≡ option_map (more_of_part p ((at, event) ∷ [])) (slice_get (map journal_of seats) p)
unfolding more_of_part
set_more seats at p seat new event e j = split (at == p)
    (λ h.
    let same : at ≡ p = eqb-true at p h in
    let one : events_of_part p ((at, event) ∷ []) ≡ event ∷ [] = rw h in
    subst (λ (q : ℕ). slice_get (map journal_of (slice_set seats at new)) q
    ≡ option_map (λ journal. journal ++ events_of_part p ((at, event) ∷ [])) (slice_get (map journal_of seats) q)) same
    (slice_get-map journal_of (slice_set seats at new) at
    ∙ ap (option_map journal_of) (get_set_same seats at seat new e)
    ∙ ap {B = Option (List Event)} (λ xs. Some xs) j
    ∙ ap {B = Option (List Event)} (λ xs. Some (seat.run.journal ++ xs)) (sym one)
    ∙ ap (λ (o : Option RunningPart). option_map (λ journal. journal ++ events_of_part p ((at, event) ∷ [])) (option_map journal_of o)) (sym e)
    ∙ ap (option_map (λ journal. journal ++ events_of_part p ((at, event) ∷ []))) (sym (slice_get-map journal_of seats at))))
    (λ h.
    let none : events_of_part p ((at, event) ∷ []) ≡ [] = rw h in
    slice_get-map journal_of (slice_set seats at new) p
    ∙ ap (option_map journal_of) (get_set_other seats p at new (λ same. both_ways (at == p) h (eq-eqb at p (sym same))))
    ∙ sym (slice_get-map journal_of seats p)
    ∙ sym (more_none p ((at, event) ∷ []) (slice_get (map journal_of seats) p) none))

picked_more : (s : Simulation) (choices : List Choice) (c : Choice) (seat : RunningPart) (p : ℕ) → IsPicked s choices c seat
    → slice_get (journals_of (taken s choices)) p ≡ option_map (more_of_part p (made s choices)) (slice_get (journals_of s) p)
picked_more s choices c seat p one =
    ap (λ (x : Simulation). slice_get (journals_of x) p) one.step
    ∙ set_more s.parts c.part p seat (part_after c.step seat) (event_of seat.run.state c.step) one.at_part refl
    ∙ ap (λ xs. option_map (more_of_part p xs) (slice_get (journals_of s) p)) (sym (made_picked s choices c seat one))

made_none : (s : Simulation) → made s [] ≡ []
unfolding made
made_none s = refl

moved_more : (s : Simulation) (choices : List Choice) (p : ℕ) → AllByRecursion (IsOpenChoice s.parts) choices
    → slice_get (journals_of (moved s choices)) p ≡ option_map (more_of_part p (made s choices)) (slice_get (journals_of s) p)
moved_more s [] p all = sym (more_none p (made s []) (slice_get (journals_of s) p) (ap (events_of_part p) (made_none s)))
moved_more s (c ∷ choices) p all =
    let one = picked_one s (c ∷ choices) all (omega arith) in
    picked_more s (c ∷ choices) one.0 one.1.0 p one.1.1

runs_more : (n : ℕ) (s : Simulation) (p : ℕ)
    → slice_get (journals_of (runs n s)) p ≡ option_map (more_of_part p (published n s)) (slice_get (journals_of s) p)
unfolding runs published
runs_more zero s p = sym (more_none p [] (slice_get (journals_of s) p) refl)
runs_more (suc n) s p =
    ap (λ (x : Simulation). slice_get (journals_of x) p) (runs_front n s)
    ∙ runs_more n (moved s (choices_of s)) p
    ∙ ap (option_map (more_of_part p (published n (moved s (choices_of s))))) (moved_more s (choices_of s) p (choices_open s))
    ∙ more_append p (made s (choices_of s)) (published n (moved s (choices_of s))) (slice_get (journals_of s) p)

empty_at_first : (specs : List PartSpec) (p : ℕ) (f : List Event → List Event) (journal : List Event)
    → option_map f (slice_get (map journal_of (map opening_part specs)) p) ≡ Some journal → f [] ≡ journal
empty_at_first [] p f journal e = cc
empty_at_first (spec ∷ specs) zero f journal e = inner e
  where
    inner : {a b : List Event} → Some a ≡ Some b → a ≡ b
    inner h = cc
empty_at_first (spec ∷ specs) (suc p) f journal e = empty_at_first specs p f journal e

pub events_are_published : (scenario : Scenario) (n p : ℕ) (journal : List Event) → slice_get (journals_of (runs n (begins scenario))) p ≡ Some journal
    → events_of_part p (published n (begins scenario)) ≡ journal
unfolding more_of_part begins
events_are_published scenario n p journal e =
    empty_at_first scenario.parts p (more_of_part p (published n (begins scenario))) journal (sym (runs_more n (begins scenario) p) ∙ e)

-- What a listener hears of a run is what it hears of the journals.

heard_append : (l : Listening) (xs ys : List (ℕ × Event)) → heard_events l (xs ++ ys) ≡ heard_events l xs + heard_events l ys
unfolding heard_events
heard_append l [] ys = sym (zero-add (heard_events l ys))
heard_append l (e ∷ xs) ys = ap (count_if (hears l e.0 e.1)) (heard_append l xs ys) ∙ count_plus (hears l e.0 e.1) (heard_events l xs) (heard_events l ys)
  where
    count_plus : (b : Bool) (n m : ℕ) → count_if b (n + m) ≡ count_if b n + m
    count_plus true n m = omega arith
    count_plus false n m = refl

part_push : (part : ℕ) (journal : List Event) (event : Event) → with_part part (journal ++ event ∷ []) ≡ with_part part journal ++ (part, event) ∷ []
part_push part [] event = refl
part_push part (e ∷ journal) event = ap (λ xs. (part, e) ∷ xs) (part_push part journal event)

heard_set : (l : Listening) (first : ℕ) (seats : List RunningPart) (at : ℕ) (seat new : RunningPart) (event : Event) → slice_get seats at ≡ Some seat
    → new.run.journal ≡ seat.run.journal ++ event ∷ []
    → heard_in_journals l first (map journal_of (slice_set seats at new))
    ≡ heard_in_journals l first (map journal_of seats) + heard_events l ((first + at, event) ∷ [])
heard_set l first [] at seat new event e j = cc
heard_set l first (x ∷ seats) zero seat new event e j =
    let same : x.run.journal ≡ seat.run.journal = ap (λ (y : RunningPart). y.run.journal) (inner e) in
    let here : heard_events l (with_part first new.run.journal) ≡ heard_events l (with_part first x.run.journal) + heard_events l ((first, event) ∷ []) =
    ap (λ xs. heard_events l (with_part first xs)) (j ∙ ap (λ xs. xs ++ event ∷ []) (sym same))
    ∙ ap (heard_events l) (part_push first x.run.journal event) ∙ heard_append l (with_part first x.run.journal) ((first, event) ∷ []) in
    let at' : heard_events l ((first, event) ∷ []) ≡ heard_events l ((first + 0, event) ∷ []) = ap (λ (n : ℕ). heard_events l ((n, event) ∷ [])) (plus first) in
    sum (heard_events l (with_part first new.run.journal)) (heard_events l (with_part first x.run.journal)) (heard_events l ((first, event) ∷ []))
    (heard_events l ((first + 0, event) ∷ [])) (heard_in_journals l (first + 1) (map journal_of seats)) here at'
  where
    inner : {a b : RunningPart} → Some a ≡ Some b → a ≡ b
    inner h = cc

    plus : (n : ℕ) → n ≡ n + 0
    plus n = omega arith

    sum : (a b c d k : ℕ) → a ≡ b + c → c ≡ d → a + k ≡ b + k + d
    sum a b c d k e f = omega arith
heard_set l first (x ∷ seats) (suc at) seat new event e j =
    sum (heard_events l (with_part first x.run.journal)) _ _ _ (heard_set l (first + 1) seats at seat new event e j
    ∙ ap (λ (n : ℕ). heard_in_journals l (first + 1) (map journal_of seats) + heard_events l ((n, event) ∷ [])) (plus first at))
  where
    plus : (n k : ℕ) → n + 1 + k ≡ n + suc k
    plus n k = omega arith

    sum : (k a b c : ℕ) → a ≡ b + c → k + a ≡ k + b + c
    sum k a b c e = omega arith

picked_heard : (l : Listening) (s : Simulation) (choices : List Choice) (c : Choice) (seat : RunningPart) → IsPicked s choices c seat
    → heard_in_journals l 0 (journals_of (taken s choices)) ≡ heard_in_journals l 0 (journals_of s) + heard_events l (made s choices)
picked_heard l s choices c seat one =
    ap (λ (x : Simulation). heard_in_journals l 0 (journals_of x)) one.step
    ∙ heard_set l 0 s.parts c.part seat (part_after c.step seat) (event_of seat.run.state c.step) one.at_part refl
    ∙ ap (λ (n : ℕ). heard_in_journals l 0 (journals_of s) + heard_events l ((n, event_of seat.run.state c.step) ∷ [])) (zero-add c.part)
    ∙ ap (λ xs. heard_in_journals l 0 (journals_of s) + heard_events l xs) (sym (made_picked s choices c seat one))

moved_heard : (l : Listening) (s : Simulation) (choices : List Choice) → AllByRecursion (IsOpenChoice s.parts) choices
    → heard_in_journals l 0 (journals_of (moved s choices)) ≡ heard_in_journals l 0 (journals_of s) + heard_events l (made s choices)
unfolding heard_events
moved_heard l s [] all = sym (ap (λ xs. heard_in_journals l 0 (journals_of s) + heard_events l xs) (made_none s) ∙ add-zero (heard_in_journals l 0 (journals_of s)))
moved_heard l s (c ∷ choices) all =
    let one = picked_one s (c ∷ choices) all (omega arith) in
    picked_heard l s (c ∷ choices) one.0 one.1.0 one.1.1

runs_heard : (l : Listening) (n : ℕ) (s : Simulation)
    → heard_in_journals l 0 (journals_of (runs n s)) ≡ heard_in_journals l 0 (journals_of s) + heard_events l (published n s)
unfolding runs published heard_events
runs_heard l zero s = sym (add-zero (heard_in_journals l 0 (journals_of s)))
runs_heard l (suc n) s =
    ap (λ (x : Simulation). heard_in_journals l 0 (journals_of x)) (runs_front n s)
    ∙ runs_heard l n (moved s (choices_of s))
    ∙ ap (λ k. k + heard_events l (published n (moved s (choices_of s)))) (moved_heard l s (choices_of s) (choices_open s))
    ∙ add_assoc (heard_in_journals l 0 (journals_of s)) (heard_events l (made s (choices_of s))) (heard_events l (published n (moved s (choices_of s))))
    ∙ ap (λ k. heard_in_journals l 0 (journals_of s) + k) (sym (heard_append l (made s (choices_of s)) (published n (moved s (choices_of s)))))

silent_at_first : (l : Listening) (part : ℕ) (specs : List PartSpec) → heard_in_journals l part (map journal_of (map opening_part specs)) ≡ 0
unfolding heard_events
silent_at_first l part [] = refl
silent_at_first l part (spec ∷ specs) = sum (heard_in_journals l (part + 1) (map journal_of (map opening_part specs))) (silent_at_first l (part + 1) specs)
  where
    sum : (n : ℕ) → n ≡ 0 → 0 + n ≡ 0
    sum n e = omega arith

pub journals_are_heard : (l : Listening) (scenario : Scenario) (n : ℕ)
    → heard_events l (published n (begins scenario)) ≡ heard_in_journals l 0 (journals_of (runs n (begins scenario)))
unfolding begins
journals_are_heard l scenario n =
    let none : heard_in_journals l 0 (journals_of (begins scenario)) ≡ 0 = silent_at_first l 0 scenario.parts in
    let all : heard_in_journals l 0 (journals_of (runs n (begins scenario)))
    ≡ heard_in_journals l 0 (journals_of (begins scenario)) + heard_events l (published n (begins scenario)) = runs_heard l n (begins scenario) in
    sum (heard_events l (published n (begins scenario))) (heard_in_journals l 0 (journals_of (runs n (begins scenario))))
    (heard_in_journals l 0 (journals_of (begins scenario))) all none
  where
    sum : (a b c : ℕ) → b ≡ c + a → c ≡ 0 → a ≡ b
    sum a b c e f = omega arith
