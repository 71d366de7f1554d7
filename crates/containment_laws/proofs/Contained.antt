use Rattle.std.proofs.Common.{◌≡◌, ◌≢◌, inl, inr, ℕ, zero, suc, ◌+◌, ◌*◌, ◌^◌, ◌<◌, ◌≤◌, ◌==◌, false, Option, Some, None, List, [], ◌∷◌, ◌++◌, find, length, map, slice_get, slice_set, refl, sym, ap, ◌∙◌, subst, arith, eq-eqb, eqb-true, length-append}
use Rattle.explore_defs.specs.Orders.{IsWholePath, Path, choice_of_actor, follows, led}
use Rattle.nook_data.proofs.Options.{none_is_some, same_inside}
use Rattle.nook_data.specs.Valid.{IsValidScenario}
use Rattle.nook_data.specs.declared.calls.Op.{Op}
use Rattle.nook_data.specs.declared.scenario.Scenario.{Scenario}
use Rattle.part_defs.specs.Runs.{event_of}
use Rattle.part_laws.proofs.Indices.{get_set_same, split}
use Rattle.run_defs.specs.Simulation.{Choice, RunningPart, Simulation, ThreadState, Waiting, begins, choice_of}
use Rattle.run_defs.specs.Simulation.{choices_of, going_on, invocation, opening_part, opening_thread, part_after}
use Rattle.run_laws.proofs.Choices.{IsGood}
use Rattle.containment_laws.proofs.Holding.{HasStepIn, Holds, begins_holds, good_choice, holds_after, is_due, own_choice, seat_small}
use Rattle.containment_laws.proofs.Lookups.{IsKnown, IsParts, choices_known, chosen_by_arrival, chosen_by_recovery}
use Rattle.containment_laws.proofs.Lookups.{chosen_by_thread, found_all, made_of, thread_choice}
use Rattle.containment_laws.proofs.Outside.{SameOutside, SameThread, followed, head_elsewhere, joined_outside, looks_alike}
use Rattle.containment_laws.proofs.Outside.{ops_elsewhere, other_step, own_step, same_mapped, same_outside, some_at}
use Rattle.containment_laws.proofs.Outside.{swapped_outside, waits_elsewhere, within}
use Rattle.containment_laws.specs.Containment.{DifferIn, HasRunLike, LookAlike}

-- Whatever one part is, the others can have the same journals: their steps are taken in the same order, and whenever a
-- thread has something to do in the one part first, that part is run until it has answered.

-- ---- picks

abbrev led_by : Simulation → List ℕ → Option Choice → Option Simulation
led_by s picks o = elim o as (λ x. Option Simulation) [ None ↦ None | Some c ↦ led (follows s c) picks ]

-- picks that lead somewhere begin with a choice
record HasStep (s : Simulation) (actor : ℕ) (picks : List ℕ) (t : Simulation) : Type 0 where
  choice : Choice
  chosen : choice_of_actor actor s ≡ Some choice
  leads : led (follows s choice) picks ≡ Some t

led_step : (s t : Simulation) (actor : ℕ) (picks : List ℕ) → led s (actor ∷ picks) ≡ Some t → HasStep s actor picks t
unfolding led
led_step s t actor picks h = by_choice (choice_of_actor actor s) refl h
  where
    by_choice : (o : Option Choice) → choice_of_actor actor s ≡ o → led_by s picks o ≡ Some t → HasStep s actor picks t
    by_choice None e k = none_is_some k
    by_choice (Some c) e k = record { choice = c; chosen = e; leads = k }

led_none : (s t : Simulation) → led s [] ≡ Some t → s ≡ t
unfolding led
led_none s t h = same_inside h

led_on : (picks : List ℕ) (s y : Simulation) (actor : ℕ) (c : Choice) → led s picks ≡ Some y → choice_of_actor actor y ≡ Some c
    → led s (picks ++ actor ∷ []) ≡ Some (follows y c)
unfolding led
led_on [] s y actor c h chosen =
    let same : s ≡ y = same_inside h in
    ap (led_by s []) (ap (choice_of_actor actor) same ∙ chosen) ∙ ap (λ (z : Simulation). Some (follows z c)) same
led_on (p ∷ picks) s y actor c h chosen =
    let one = led_step s y p picks h in
    ap (led_by s (picks ++ actor ∷ [])) one.chosen ∙ led_on picks (follows s one.choice) y actor c one.leads chosen

-- ---- what is reached

record Reached (scenario : Scenario) (s : Simulation) : Type 0 where
  picks : List ℕ
  leads : led (begins scenario) picks ≡ Some s
  holds : Holds scenario s

reached_first : (scenario : Scenario) → IsValidScenario scenario → Reached scenario (begins scenario)
unfolding led
reached_first scenario valid = record { picks = []; leads = refl; holds = begins_holds scenario valid }

reached_next : (scenario : Scenario) (s : Simulation) (actor : ℕ) (c : Choice) → IsValidScenario scenario → Reached scenario s
    → choice_of_actor actor s ≡ Some c → Reached scenario (follows s c)
reached_next scenario s actor c valid r chosen = record {
  picks = r.picks ++ actor ∷ [];
  leads = led_on r.picks (begins scenario) s actor c r.leads chosen;
  holds = holds_after scenario valid s actor c r.holds chosen;
}

reached_by : (scenario : Scenario) (picks : List ℕ) (s t : Simulation) → IsValidScenario scenario → Reached scenario s → led s picks ≡ Some t
    → Reached scenario t
reached_by scenario [] s t valid r h = subst (Reached scenario) (led_none s t h) r
reached_by scenario (actor ∷ picks) s t valid r h =
    let one = led_step s t actor picks h in
    reached_by scenario picks (follows s one.choice) t valid (reached_next scenario s actor one.choice valid r one.chosen) one.leads

-- the part with an index
record HasSeat (a : ℕ) (s : Simulation) : Type 0 where
  seat : RunningPart
  at : slice_get s.parts a ≡ Some seat

has_seat : (scenario : Scenario) (a : ℕ) (s : Simulation) → Holds scenario s → a < length scenario.parts → HasSeat a s
has_seat scenario a s h low =
    let one = some_at s.parts a (subst (λ (n : ℕ). a < n) (sym h.size) low) in
    record { seat = one.0; at = one.1 }

-- a step of the part makes its journal longer
longer : (a : ℕ) (s : Simulation) (c : Choice) (seat : RunningPart) → IsGood s.parts s.threads c → c.part ≡ a → slice_get s.parts a ≡ Some seat
    → (new : RunningPart) × (slice_get (follows s c).parts a ≡ Some new) × (length new.run.journal ≡ length seat.run.journal + 1)
longer a s c seat g here at =
    let same : g.seat ≡ seat = same_inside (sym g.at ∙ ap (slice_get s.parts) here ∙ at) in (
      part_after c.step g.seat,
      ap (λ (x : Simulation). slice_get x.parts a) (followed s c g.seat g.at)
          ∙ ap (slice_get (slice_set s.parts c.part (part_after c.step g.seat))) (sym here)
          ∙ get_set_same s.parts c.part g.seat (part_after c.step g.seat) g.at,
      length-append g.seat.run.journal (event_of g.seat.run.state c.step ∷ []) ∙ ap (λ (x : RunningPart). length x.run.journal + 1) same,
    )

-- the part was run until a thread has nothing to do there
record CaughtUp (scenario : Scenario) (a n : ℕ) (s : Simulation) : Type 0 where
  later : Simulation
  reached : Reached scenario later
  same : SameOutside a s later
  thread : ThreadState
  at : slice_get later.threads n ≡ Some thread
  ready : is_due a thread.waiting thread.rest ≡ false

catch_up : (fuel : ℕ) (scenario : Scenario) (a n : ℕ) (s : Simulation) (seat : RunningPart) (t : ThreadState) → IsValidScenario scenario
    → Reached scenario s → slice_get s.parts a ≡ Some seat → slice_get s.threads n ≡ Some t → 2 ^ 23 ≤ fuel + length seat.run.journal
    → CaughtUp scenario a n s
catch_up zero scenario a n s seat t valid r at_part at_thread enough =
    let small : length seat.run.journal < 2 ^ 23 = seat_small scenario valid a seat (r.holds.seats a seat at_part) in
    absurd (over (length seat.run.journal) small enough)
  where
    over : (n : ℕ) → n < 2 ^ 23 → 2 ^ 23 ≤ 0 + n → ⊥
    over n l m = omega arith
catch_up (suc fuel) scenario a n s seat t valid r at_part at_thread enough = split (is_due a t.waiting t.rest)
    (λ due.
    let c : HasStepIn a s = own_choice scenario valid a s seat n t r.holds at_part at_thread due in
    let g : IsGood s.parts s.threads c.choice = good_choice scenario valid s c.actor c.choice c.chosen in
    let next : Simulation = follows s c.choice in
    let kept : SameOutside a s next = own_step a s c.choice g c.here in
    let new = longer a s c.choice seat g c.here at_part in
    let u = some_at next.threads n (subst (λ (m : ℕ). n < m) kept.count (within s.threads n t at_thread)) in
    let more = catch_up fuel scenario a n next new.0 u.0 valid (reached_next scenario s c.actor c.choice valid r c.chosen) new.1 u.1
    (still fuel (length seat.run.journal) (length new.0.run.journal) enough new.2) in
    record {
      later = more.later;
      reached = more.reached;
      same = joined_outside a s next more.later kept more.same;
      thread = more.thread;
      at = more.at;
      ready = more.ready;
    })
    (λ ready. record { later = s; reached = r; same = same_outside a s; thread = t; at = at_thread; ready = ready })
  where
    still : (f n m : ℕ) → 2 ^ 23 ≤ suc f + n → m ≡ n + 1 → 2 ^ 23 ≤ f + m
    still f n m l e = omega arith

-- ---- the same choice in both

waits_same : (a : ℕ) (o : Option Waiting) (w : Waiting) → waits_elsewhere a o ≡ Some w → o ≡ Some w
waits_same a None w h = none_is_some h
waits_same a (Some v) w h = split (v.part == a)
    (λ here. none_is_some (rw here at h))
    (λ other. rw other at h)

waits_nowhere : (a : ℕ) (o : Option Waiting) (rest : List (ℕ × Op)) → waits_elsewhere a o ≡ None → is_due a o rest ≡ false → o ≡ None
waits_nowhere a None rest h ready = refl
waits_nowhere a (Some v) rest h ready = none_is_some (sym (rw ready at h))

heads : {X : Type 0} {x y : X} {xs ys : List X} → x ∷ xs ≡ y ∷ ys → x ≡ y
heads e = cc

empty_not : {X G : Type 0} {x : X} {xs : List X} → [] ≡ x ∷ xs → G
empty_not e = cc

mirror_invocation : (a n b : ℕ) (o : Op) (more rest : List (ℕ × Op)) (x y : Simulation) (c : Choice) → SameOutside a x y → (b == a) ≡ false
    → ops_elsewhere a ((b, o) ∷ more) ≡ ops_elsewhere a rest → is_due a None rest ≡ false
    → thread_choice n x.parts ((b, o) ∷ more) None ≡ Some c → thread_choice n y.parts rest None ≡ Some c
mirror_invocation a n b o more [] x y c s apart ops ready h = empty_not (sym ops ∙ head_elsewhere a b o more apart)
mirror_invocation a n b o more ((b', o') ∷ rest) x y c s apart ops ready h =
    let away : b ≢ a = λ same. absurd cc (apart, eq-eqb b a same) in
    let first : (b, o) ≡ (b', o') = heads (sym (head_elsewhere a b o more apart) ∙ ops ∙ head_elsewhere a b' o' rest ready) in
    ap (λ (z : ℕ × Op). choice_of n z.0 (invocation n z.1 (slice_get y.parts z.0))) (sym first)
    ∙ ap (λ q. choice_of n b (invocation n o q)) (sym (s.parts b away)) ∙ h

mirror_thread : (a n : ℕ) (x y : Simulation) (t u : ThreadState) (c : Choice) → SameOutside a x y → SameThread a t u → (c.part == a) ≡ false
    → is_due a u.waiting u.rest ≡ false → thread_choice n x.parts t.rest t.waiting ≡ Some c → thread_choice n y.parts u.rest u.waiting ≡ Some c
mirror_thread a n x y t u c s same apart ready h = by_thread t.waiting t.rest refl refl h
  where
    by_thread : (w : Option Waiting) (rest : List (ℕ × Op)) → t.waiting ≡ w → t.rest ≡ rest → thread_choice n x.parts rest w ≡ Some c
        → thread_choice n y.parts u.rest u.waiting ≡ Some c
    by_thread None [] e r k = none_is_some k
    by_thread None ((b, o) ∷ more) e r k =
        let part : c.part ≡ b = (made_of n b (invocation n o (slice_get x.parts b)) c k).part in
        let free : u.waiting ≡ None = waits_nowhere a u.waiting u.rest (sym same.waits ∙ ap (waits_elsewhere a) e) ready in
        ap (thread_choice n y.parts u.rest) free
        ∙ mirror_invocation a n b o more u.rest x y c s (ap (λ (m : ℕ). m == a) (sym part) ∙ apart)
        (ap (ops_elsewhere a) (sym r) ∙ same.rest) (ap (λ w. is_due a w u.rest) (sym free) ∙ ready) k
    by_thread (Some w) rest e r k =
        let part : c.part ≡ w.part = (made_of n w.part (going_on n (slice_get x.parts w.part)) c k).part in
        let other : (w.part == a) ≡ false = ap (λ (m : ℕ). m == a) (sym part) ∙ apart in
        let away : w.part ≢ a = λ i. absurd cc (other, eq-eqb w.part a i) in
        let elsewhere : waits_elsewhere a (Some w) ≡ Some w = rw other refl in
        let waits : u.waiting ≡ Some w =
        waits_same a u.waiting w (sym same.waits ∙ ap (waits_elsewhere a) e ∙ elsewhere) in
        ap (thread_choice n y.parts u.rest) waits ∙ ap (λ q. choice_of n w.part (going_on n q)) (sym (s.parts w.part away)) ∙ k

mirror_part : (a : ℕ) (x y : Simulation) (c : Choice) → SameOutside a x y → (c.part == a) ≡ false → IsParts x c
    → choice_of_actor c.actor y ≡ Some c
mirror_part a x y c s apart is =
    let away : c.part ≢ a = λ i. absurd cc (apart, eq-eqb c.part a i) in
    let at : slice_get y.parts c.part ≡ Some is.seat = sym (s.parts c.part away) ∙ is.at in
    elim is.is [
      | inl r ↦ by_actor (length y.threads + 2 * c.part) (r.0 ∙ ap (λ (n : ℕ). n + 2 * c.part) s.count)
          (chosen_by_recovery y c.part is.seat at ∙ ap (choice_of (length y.threads + 2 * c.part) c.part) r.1)
      | inr r ↦ by_actor (length y.threads + 2 * c.part + 1) (r.0 ∙ ap (λ (n : ℕ). n + 2 * c.part + 1) s.count)
          (chosen_by_arrival y c.part is.seat at ∙ ap (choice_of (length y.threads + 2 * c.part + 1) c.part) r.1)
    ]
  where
    by_actor : (n : ℕ) → c.actor ≡ n → choice_of_actor n y ≡ Some (record { actor = n; part = c.part; step = c.step })
        → choice_of_actor c.actor y ≡ Some c
    by_actor n e h =
        ap (λ (m : ℕ). choice_of_actor m y) e ∙ h
        ∙ ap {B = Option Choice} (λ (m : ℕ). Some (record { actor = m; part = c.part; step = c.step })) (sym e)

-- ---- one step after another

record Follows (scenario : Scenario) (a : ℕ) (x : Simulation) : Type 0 where
  end : Simulation
  reached : Reached scenario end
  same : SameOutside a x end

known_choice : (s : Simulation) (actor : ℕ) (c : Choice) → choice_of_actor actor s ≡ Some c → IsKnown s c
known_choice s actor c h = found_all (IsKnown s) actor (choices_of s) c (choices_known s) h

-- the other scenario's run after one more step
follow_one : (u : Scenario) (a actor : ℕ) (x y : Simulation) (c : Choice) → IsValidScenario u → a < length u.parts
    → choice_of_actor actor x ≡ Some c → IsGood x.parts x.threads c → SameOutside a x y → Reached u y → Follows u a (follows x c)
follow_one u a actor x y c valid low chosen g s r = split (c.part == a)
    (λ here.
    let kept : SameOutside a x (follows x c) = own_step a x c g (eqb-true c.part a here) in
    record { end = y; reached = r; same = joined_outside a (follows x c) x y (swapped_outside a x (follows x c) kept) s })
    (λ apart. elim (known_choice x actor c chosen) [
      | inl k ↦
          let seat = has_seat u a y r.holds low in
          let t = some_at y.threads c.actor (subst (λ (m : ℕ). c.actor < m) s.count (within x.threads c.actor k.t k.at)) in
          let up = catch_up (2 ^ 23) u a c.actor y seat.seat t.0 valid r seat.at t.1 (much (length seat.seat.run.journal)) in
          let same : SameOutside a x up.later = joined_outside a x y up.later s up.same in
          let there : choice_of_actor c.actor up.later ≡ Some c =
          chosen_by_thread up.later c.actor up.thread up.at
          ∙ mirror_thread a c.actor x up.later k.t up.thread c same (same.threads c.actor k.t up.thread k.at up.at) apart up.ready k.is in
          onwards apart up.later up.reached same c.actor there
      | inr k ↦ onwards apart y r s c.actor (mirror_part a x y c s apart k)
    ])
  where
    much : (n : ℕ) → 2 ^ 23 ≤ 2 ^ 23 + n
    much n = omega arith

    onwards : (c.part == a) ≡ false → (z : Simulation) → Reached u z → SameOutside a x z → (n : ℕ) → choice_of_actor n z ≡ Some c
        → Follows u a (follows x c)
    onwards apart z reached same n there = record {
      end = follows z c;
      reached = reached_next u z n c valid reached there;
      same = other_step a x z c same apart g (good_choice u valid z n c there);
    }

follow_all : (picks : List ℕ) (s u : Scenario) (a : ℕ) (x x' y : Simulation) → IsValidScenario s → IsValidScenario u → a < length u.parts
    → led x picks ≡ Some x' → SameOutside a x y → Reached u y → Follows u a x'
follow_all [] s u a x x' y vs vu low h same r =
    record { end = y; reached = r; same = subst (λ (z : Simulation). SameOutside a z y) (led_none x x' h) same }
follow_all (actor ∷ picks) s u a x x' y vs vu low h same r =
    let one = led_step x x' actor picks h in
    let next = follow_one u a actor x y one.choice vu low one.chosen (good_choice s vs x actor one.choice one.chosen) same r in
    follow_all picks s u a (follows x one.choice) x' next.end vs vu low one.leads next.same next.reached

first_same : (s u : Scenario) (a : ℕ) → DifferIn a s u → SameOutside a (begins s) (begins u)
unfolding begins
first_same s u a d =
    let threads : map opening_thread s.threads ≡ map opening_thread u.threads = ap (map opening_thread) (sym d.threads) in
    let kept = same_outside a (begins s) in
    record {
      count = ap length threads;
      parts = λ k n. same_mapped opening_part s.parts u.parts k (sym (d.others k n));
      threads = λ n t v h i. kept.threads n t v h (ap (λ (xs : List ThreadState). slice_get xs n) threads ∙ i);
    }

low_part : (s u : Scenario) (a : ℕ) → DifferIn a s u → (a < length s.parts) × (a < length u.parts)
low_part s u a d = (within s.parts a d.one d.at_one, within u.parts a d.other d.at_other)

pub run_like : (s u : Scenario) (a : ℕ) (path : Path) → IsValidScenario s → IsValidScenario u → DifferIn a s u
    → led (begins s) path.picks ≡ Some path.end → HasRunLike a u path.end
run_like s u a path vs vu d h =
    let f = follow_all path.picks s u a (begins s) path.end (begins u) vs vu (low_part s u a d).1 h (first_same s u a d) (reached_first u vu) in
    record {
      path = record { picks = f.reached.picks; end = f.end };
      led = f.reached.leads;
      alike = looks_alike a path.end f.end f.same;
    }

-- ---- whole runs

no_choice : (s : Simulation) (actor : ℕ) (c : Choice) → choices_of s ≡ [] → choice_of_actor actor s ≡ Some c → ⊥
no_choice s actor c ended h = none_is_some (sym (ap (find (λ (x : Choice). x.actor == actor)) ended) ∙ h)

-- if no actor has a step in the first run, the second has steps of the part alone
only_own : (s u : Scenario) (a : ℕ) (x y : Simulation) (c : Choice) → IsValidScenario s → a < length s.parts → Reached s x → choices_of x ≡ []
    → SameOutside a y x → (actor : ℕ) → choice_of_actor actor y ≡ Some c → c.part ≡ a
only_own s u a x y c vs low r ended same actor chosen = split (c.part == a)
    (λ here. eqb-true c.part a here)
    (λ apart. absurd (elim (known_choice y actor c chosen) [
      | inl k ↦
          let t = some_at x.threads c.actor (subst (λ (m : ℕ). c.actor < m) same.count (within y.threads c.actor k.t k.at)) in
          no_choice x c.actor c ended (chosen_by_thread x c.actor t.0 t.1
          ∙ mirror_thread a c.actor y x k.t t.0 c same (same.threads c.actor k.t t.0 k.at t.1) apart (ready t.0 c.actor t.1) k.is)
      | inr k ↦ no_choice x c.actor c ended (mirror_part a y x c same apart k)
    ]))
  where
    ready : (t : ThreadState) (n : ℕ) → slice_get x.threads n ≡ Some t → is_due a t.waiting t.rest ≡ false
    ready t n at = split (is_due a t.waiting t.rest)
        (λ due.
        let seat = has_seat s a x r.holds low in
        let c : HasStepIn a x = own_choice s vs a x seat.seat n t r.holds seat.at at due in
        absurd (no_choice x c.actor c.choice ended c.chosen))
        (λ not_due. not_due)

-- the second run to its end
record Ends (scenario : Scenario) (a : ℕ) (x : Simulation) : Type 0 where
  end : Simulation
  reached : Reached scenario end
  same : SameOutside a x end
  ended : choices_of end ≡ []

finish : (fuel : ℕ) (s u : Scenario) (a : ℕ) (x y : Simulation) (seat : RunningPart) → IsValidScenario s → IsValidScenario u
    → a < length s.parts → Reached s x → choices_of x ≡ [] → SameOutside a x y → Reached u y → slice_get y.parts a ≡ Some seat
    → 2 ^ 23 ≤ fuel + length seat.run.journal → Ends u a x
finish zero s u a x y seat vs vu low r ended same ry at enough =
    let small : length seat.run.journal < 2 ^ 23 = seat_small u vu a seat (ry.holds.seats a seat at) in
    absurd (over (length seat.run.journal) small enough)
  where
    over : (n : ℕ) → n < 2 ^ 23 → 2 ^ 23 ≤ 0 + n → ⊥
    over n l m = omega arith
finish (suc fuel) s u a x y seat vs vu low r ended same ry at enough =
    by_choices (choices_of y) refl (λ z new kept reached there enough. finish fuel s u a x z new vs vu low r ended kept reached there enough)
  where
    still : (f n m : ℕ) → 2 ^ 23 ≤ suc f + n → m ≡ n + 1 → 2 ^ 23 ≤ f + m
    still f n m l e = omega arith

    by_choices : (choices : List Choice) → choices_of y ≡ choices
        → ((z : Simulation) (new : RunningPart) → SameOutside a x z → Reached u z → slice_get z.parts a ≡ Some new
        → 2 ^ 23 ≤ fuel + length new.run.journal → Ends u a x)
        → Ends u a x
    by_choices [] e more = record { end = y; reached = ry; same = same; ended = e }
    by_choices (c ∷ choices) e more =
        let first : find (λ (z : Choice). z.actor == c.actor) (c ∷ choices) ≡ Some c = rw (eq-eqb c.actor c.actor refl) refl in
        let chosen : choice_of_actor c.actor y ≡ Some c = ap (find (λ (z : Choice). z.actor == c.actor)) e ∙ first in
        let here : c.part ≡ a = only_own s u a x y c vs low r ended (swapped_outside a x y same) c.actor chosen in
        let g : IsGood y.parts y.threads c = good_choice u vu y c.actor c chosen in
        let new = longer a y c seat g here at in
        more (follows y c) new.0 (joined_outside a x y (follows y c) same (own_step a y c g here))
        (reached_next u y c.actor c vu ry chosen) new.1 (still fuel (length seat.run.journal) (length new.0.run.journal) enough new.2)

pub whole_like : (s u : Scenario) (a : ℕ) (path : Path) → IsValidScenario s → IsValidScenario u → DifferIn a s u → IsWholePath s path
    → (other : Path) × IsWholePath u other × LookAlike a path.end other.end
whole_like s u a path vs vu d whole =
    let low = low_part s u a d in
    let f = follow_all path.picks s u a (begins s) path.end (begins u) vs vu low.1 whole.led (first_same s u a d) (reached_first u vu) in
    let seat = has_seat u a f.end f.reached.holds low.1 in
    let e = finish (2 ^ 23) s u a path.end f.end seat.seat vs vu low.0
    (reached_by s path.picks (begins s) path.end vs (reached_first s vs) whole.led) whole.ended f.same f.reached seat.at
    (much (length seat.seat.run.journal)) in (
      record { picks = e.reached.picks; end = e.end },
      record { led = e.reached.leads; ended = e.ended },
      looks_alike a path.end e.end e.same,
    )
  where
    much : (n : ℕ) → 2 ^ 23 ≤ 2 ^ 23 + n
    much n = omega arith
