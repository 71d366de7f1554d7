-- Every valid scenario has an exploration.
use Rattle.std.proofs.Common.{◌≡◌, ◌⊎◌, inl, inr, ℕ, zero, suc, ◌+◌, ◌^◌, ◌<◌, ◌≤◌, false, true, All, Contains, Some, None, List, [], ◌∷◌, ◌++◌, length, slice_get, refl, sym, ap, ◌∙◌, subst, arith, append_assoc, append-nil, length-append}
use Rattle.std.proofs.lemmas.List.Elements.{All-append, All-contains, All-contains_itself, All-cons, All-head, All-nil, All-weaker}
use Rattle.answer_laws.proofs.Alike.{outcome_alike}
use Rattle.explore_defs.specs.Explored.{AreRising, IsExplored, all_numbers, explored_status, explored_text}
use Rattle.explore_defs.specs.Orders.{IsOfLevel, Path, comes_before, goes_on, led}
use Rattle.explore_defs.specs.declared.outcome.Outcome.{Outcome}
use Rattle.explore_laws.proofs.Counted.{order_ends}
use Rattle.explore_laws.proofs.HeldRuns.{held_rows}
use Rattle.explore_laws.proofs.Led.{chosen_at}
use Rattle.explore_laws.proofs.Merged.{contains_get, led_more}
use Rattle.explore_laws.proofs.SamePresent.{choices_bare, present_follows}
use Rattle.explore_laws.proofs.Words.{before_self}
use Rattle.explore_laws.specs.Held.{AreFirstHeld, AreHeldLevels, AreJoined, AreRowsOf, DoRise, Held, IsWayFrom}
use Rattle.explore_laws.specs.Held.{all_levels, choices_in, held_after, held_first, ways_from}
use Rattle.explore_laws.specs.Present.{bare_run, goes_on_by, outcome_in, present}
use Rattle.nook_data.specs.Valid.{IsValidScenario}
use Rattle.nook_data.specs.declared.scenario.Scenario.{Scenario}
use Rattle.order_search.proofs.FirstEnds.{ends_more, ends_none, ends_same, ends_then}
use Rattle.order_search.proofs.Rising.{AreLong, after_shorter, contains_cases, contains_head, contains_tail, none_contained, rise_append, rise_rest}
use Rattle.order_search.proofs.Rising.{way_contained, ways_contain, ways_long, ways_rise}
use Rattle.order_search.specs.Ends.{AreFirstEnds, HasOutcome, CoverEnds, TakesEnds, end_from}
use Rattle.order_search.specs.Ways.{all_ways}
use Rattle.order_search.specs.declared.ends.FirstEnd.{FirstEnd}
use Rattle.part_laws.proofs.Indices.{from_map}
use Rattle.run_defs.specs.Simulation.{Choice, begins, choices_of}

-- ---- all continuations, level by level

-- the levels after a first one
levels : ℕ → List Held → List (List Held)
levels zero held = []
levels (suc n) held = all_ways held ∷ levels n (all_ways held)

-- the last of them
last_level : ℕ → List Held → List Held
last_level zero held = held
last_level (suc n) held = last_level n (all_ways held)

joined : (held : List Held) → AreJoined None held (all_ways held)
joined held = record {
  ways = All-weaker (Contains (all_ways held)) (IsWayFrom held) (λ h c. way_contained held h c) (all_ways held) (All-contains_itself (all_ways held));
  each = λ h way within. record { by = h; is_held = ways_contain held h way; alike = refl; early = before_self h.picks };
}

are_levels : (n : ℕ) (held : List Held) → last_level n held ≡ [] → AreHeldLevels None held (levels n held)
unfolding levels last_level AreHeldLevels
are_levels zero held none = λ h way within. none_contained way.from (subst (λ (xs : List Held). Contains xs way.from) none way.is_held)
are_levels (suc n) held none = (joined held, are_levels n (all_ways held) none)

-- their picks increase
levels_rise : (n steps : ℕ) (before held : List Held) → DoRise (before ++ held) → AreLong steps held
    → All (λ (h : Held). length h.picks ≤ steps) before → DoRise (before ++ all_levels (held ∷ levels n held))
unfolding levels
levels_rise zero steps before held rise long short = subst (λ (xs : List Held). DoRise (before ++ xs)) (sym (append-nil held)) rise
levels_rise (suc n) steps before held rise long short =
    let more : AreLong (steps + 1) (all_ways held) = ways_long steps held long in
    let all_short : All (λ (h : Held). length h.picks ≤ steps) (before ++ held) =
    All-append (λ (h : Held). length h.picks ≤ steps) before held short
    (All-weaker (λ (h : Held). length h.picks ≡ steps) (λ (h : Held). length h.picks ≤ steps) (λ h l. at_most h l) held long) in
    subst DoRise (append_assoc before held (all_levels (all_ways held ∷ levels n (all_ways held))))
    (levels_rise n (steps + 1) (before ++ held) (all_ways held)
    (rise_append (before ++ held) (all_ways held) rise (ways_rise steps held (rise_rest before held rise) long)
    (after_shorter steps (before ++ held) (all_ways held) all_short more))
    more
    (All-weaker (λ (h : Held). length h.picks ≤ steps) (λ (h : Held). length h.picks ≤ steps + 1) (λ h l. one_more h l) (before ++ held) all_short))
  where
    at_most : (h : Held) → length h.picks ≡ steps → length h.picks ≤ steps
    at_most h l = omega arith

    one_more : (h : Held) → length h.picks ≤ steps → length h.picks ≤ steps + 1
    one_more h l = omega arith

-- ---- there is a last level

module _ (scenario : Scenario) where
  -- a state that is held belongs to a run of this number of steps
  record IsReal (steps : ℕ) (h : Held) : Type 0 where
    path : Path
    level : IsOfLevel scenario steps path
    picks : path.picks ≡ h.picks
    now : present path.end ≡ h.now

  way_real : (steps : ℕ) (from h : Held) → IsReal steps from → Contains (ways_from from) h → IsReal (suc steps) h
  way_real steps from h r way =
      let k = contains_get (ways_from from) h way in
      let one = from_map (held_after from) (choices_in from.now) k.0 h k.1 in
      let same : choices_of r.path.end ≡ choices_in from.now =
      sym (choices_bare r.path.end) ∙ ap (λ now. choices_of (bare_run now)) r.now in
      let chosen = chosen_at r.path.end k.0 one.0 (ap (λ (xs : List Choice). slice_get xs k.0) same ∙ one.1) in record {
        path = goes_on r.path one.0;
        level = record {
          led = led_more r.path.picks (begins scenario) r.path.end one.0.actor one.0 r.level.led chosen;
          count = sum (length (r.path.picks ++ one.0.actor ∷ [])) (length r.path.picks) steps
              (length-append r.path.picks (one.0.actor ∷ [])) r.level.count;
        };
        picks = ap (λ picks. picks ++ one.0.actor ∷ []) r.picks ∙ ap (λ (x : Held). x.picks) (sym one.2);
        now = present_follows r.path.end one.0
            ∙ (ap (λ now. goes_on_by now one.0) r.now ∙ ap (λ (x : Held). x.now) (sym one.2));
      }
    where
      sum : (a b n : ℕ) → a ≡ b + 1 → b ≡ n → a ≡ suc n
      sum a b n e f = omega arith

  ways_real : (steps : ℕ) (held : List Held) → All (IsReal steps) held → All (IsReal (suc steps)) (all_ways held)
  ways_real steps held real =
      All-weaker (Contains (all_ways held)) (IsReal (suc steps)) (λ h c.
      let way : IsWayFrom held h = way_contained held h c in
      way_real steps way.from h (All-contains (IsReal steps) held way.from real way.is_held) way.is_way) (all_ways held)
      (All-contains_itself (all_ways held))

  last_real : (n steps : ℕ) (held : List Held) → All (IsReal steps) held → All (IsReal (n + steps)) (last_level n held)
  unfolding last_level
  last_real zero steps held real = subst (λ (m : ℕ). All (IsReal m) held) (same steps) real
    where
      same : (m : ℕ) → m ≡ 0 + m
      same m = omega arith
  last_real (suc n) steps held real =
      subst (λ (m : ℕ). All (IsReal m) (last_level n (all_ways held))) (same n steps)
      (last_real n (suc steps) (all_ways held) (ways_real steps held real))
    where
      same : (n m : ℕ) → n + suc m ≡ suc n + m
      same n m = omega arith

  none_late : IsValidScenario scenario → (steps : ℕ) (held : List Held) → 2 ^ 26 ≤ steps → All (IsReal steps) held → held ≡ []
  none_late valid steps [] late real = refl
  none_late valid steps (h ∷ held) late real =
      let r : IsReal steps h = All-head (IsReal steps) h held real in
      let l : steps < 2 ^ 26 = order_ends scenario steps r.path valid r.level in absurd (omega (arith, l, late))

  first_real : IsReal 0 (held_first scenario)
  unfolding led
  first_real = record {
    path = record { picks = []; end = begins scenario };
    level = record { led = refl; count = refl };
    picks = refl;
    now = refl;
  }

  none_last : IsValidScenario scenario → (n : ℕ) → 2 ^ 26 ≤ n → last_level n (held_first scenario ∷ []) ≡ []
  none_last valid n late =
      none_late valid (n + 0) (last_level n (held_first scenario ∷ [])) (omega (arith, late))
      (last_real n 0 (held_first scenario ∷ []) (All-cons (IsReal 0) (held_first scenario) [] first_real (All-nil (IsReal 0))))

-- ---- the first end of each outcome

has_outcome : (ends : List FirstEnd) (outcome : Outcome) → HasOutcome ends outcome ⊎ (HasOutcome ends outcome → ⊥)
has_outcome [] outcome = inr (λ has. none_contained has.by has.listed)
has_outcome (e ∷ ends) outcome = elim (outcome_alike e.outcome outcome) [
  | inl same ↦ inl (record { by = e; listed = contains_head e ends; same = same })
  | inr other ↦ elim (has_outcome ends outcome) [
    | inl has ↦ inl (record { by = has.by; listed = contains_tail e has.by ends has.listed; same = has.same })
    | inr none ↦ inr (λ has. elim (contains_cases e has.by ends has.listed) [
      | inl is ↦ other (ap (λ (x : FirstEnd). x.outcome) is ∙ has.same)
      | inr later ↦ none (record { by = has.by; listed = later; same = has.same })
    ])
  ]
]

end_taken : (h : Held) (ends : List FirstEnd) (choices : List Choice) → choices_in h.now ≡ choices
    → (more : List FirstEnd) × TakesEnds (h ∷ []) ends more
end_taken h ends (c ∷ choices) is = (ends, ends_same h ends (λ ended. absurd (cc)))
end_taken h ends [] ended = elim (has_outcome ends (outcome_in h.now)) [
  | inl has ↦ (ends, ends_same h ends (λ e. has))
  | inr new ↦ (ends ++ end_from h ∷ [], ends_more h ends ended new)
]

ends_taken : (helds : List Held) (ends : List FirstEnd) → (more : List FirstEnd) × TakesEnds helds ends more
ends_taken [] ends = (ends, ends_none ends)
ends_taken (h ∷ helds) ends =
    let one = end_taken h ends (choices_in h.now) refl in
    let rest = ends_taken helds one.0 in
    (rest.0, ends_then (h ∷ []) helds ends one.0 rest.0 one.1 rest.1)

none_ended : AreFirstEnds [] []
unfolding DoRise
none_ended = record {
  is_seen = All-nil (Contains []);
  ended = All-nil (λ (h : Held). choices_in h.now ≡ []);
  least = λ first h c d ended same. absurd (none_contained first c);
  each = λ h c ended. absurd (none_contained h c);
  rising = tt;
}

first_ends : (helds : List Held) → DoRise helds → (firsts : List Held) × AreFirstEnds helds firsts
first_ends helds rise =
    let taken = ends_taken helds [] in
    let cover : CoverEnds helds taken.0 = taken.1.ends [] rise (record { firsts = []; same = refl; are = none_ended }) in
    (cover.firsts, cover.are)

first_held : (helds firsts : List Held) → AreFirstEnds helds firsts → AreFirstHeld None helds firsts
first_held helds firsts e = record {
  is_held = e.is_seen;
  ended = e.ended;
  within = All-weaker (Contains helds) (λ (h : Held). Unit {0}) (λ h c. tt) firsts e.is_seen;
  least = e.least;
  each = λ h c ended within. e.each h c ended;
  rising = e.rising;
}

-- ---- the exploration

first_rises : (scenario : Scenario) → DoRise (held_first scenario ∷ [])
unfolding DoRise
first_rises scenario = (All-nil (λ (next : Held). comes_before [] next.picks ≡ true), tt)

rows_exist : (scenario : Scenario) → IsValidScenario scenario → (firsts : List Held) × AreRowsOf scenario None firsts
rows_exist scenario valid = by_steps (2 ^ 26) (omega arith)
  where
    first_long : AreLong 0 (held_first scenario ∷ [])
    first_long = All-cons (λ (h : Held). length h.picks ≡ 0) (held_first scenario) [] refl (All-nil (λ (h : Held). length h.picks ≡ 0))

    by_steps : (n : ℕ) → 2 ^ 26 ≤ n → (firsts : List Held) × AreRowsOf scenario None firsts
    by_steps n late =
        let first : List Held = held_first scenario ∷ [] in
        let all : List Held = all_levels (first ∷ levels n first) in
        let ends = first_ends all (levels_rise n 0 [] first (first_rises scenario) first_long (All-nil (λ (h : Held). length h.picks ≤ 0))) in (
          ends.0,
          held_rows scenario None (levels n first) ends.0 (are_levels n first (none_last scenario valid n late)) (first_held all ends.0 ends.1),
        )

-- a scenario has an exploration in which no state is held: the program decides how many it holds
pub exploration_exists : (scenario : Scenario) → IsValidScenario scenario
    → (text : List ℕ) × ((status : ℕ) × IsExplored scenario text status)
unfolding AreRising
exploration_exists scenario valid =
    let found = rows_exist scenario valid in
    let paths : List Path = found.1.paths in (
      explored_text scenario false 0 paths,
      (
        explored_status false (all_numbers scenario paths),
        record {
          cut = None;
          states = 0;
          are_states = record {
            held = [];
            reached = All-nil (λ (path : Path). led (begins scenario) path.picks ≡ Some path.end);
            rising = tt;
            count = refl;
            few = omega arith;
            full = tt;
          };
          firsts = paths;
          outcomes = found.1.outcomes;
          text_is = refl;
          status_is = refl;
        },
      ),
    )
