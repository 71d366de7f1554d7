-- One run for each present is enough, level by level.
use Rattle.std.proofs.Common.{◌≡◌, ◌⊎◌, inl, inr, ℕ, zero, suc, ◌+◌, ◌-◌, ◌<◌, ◌≤◌, false, All, Contains, Option}
use Rattle.std.proofs.Common.{Some, None}
use Rattle.std.proofs.Common.{List, [], ◌∷◌, ◌++◌, flat_map, get_or, length, slice_get, refl, sym, ap, ◌∙◌, subst}
use Rattle.std.proofs.Common.{arith, ◌==◌, eqb-true, length-append}
use Rattle.std.proofs.lemmas.Bool.{eqb-false}
use Rattle.std.proofs.lemmas.List.Elements.{All-append, All-contains, All-nil, All-weaker, Contains-append_left}
use Rattle.std.proofs.lemmas.List.Elements.{Contains-append_right}
use Rattle.std.proofs.lemmas.Option.{get_or_from_slice_get, slice_get_read, slice_get_within}
use Rattle.explore_defs.specs.Explored.{AreOutcomes, HasOutcome, IsFirst}
use Rattle.explore_defs.specs.Orders.{IsOfLevel, IsWholePath, IsWithin, Path, choice_of_actor, comes_before}
use Rattle.explore_defs.specs.Orders.{follows, goes_on, is_lower, led, ways_on}
use Rattle.explore_defs.specs.Outcomes.{outcome_of}
use Rattle.explore_laws.proofs.Led.{HasStep, IsFoundAt, chosen_at, led_one, led_step, indexed}
use Rattle.explore_laws.proofs.SamePresent.{same_choices, same_follows, same_outcome}
use Rattle.explore_laws.proofs.Words.{before_asym, before_front, before_more, before_trans}
use Rattle.explore_laws.specs.Present.{present}
use Rattle.explore_laws.specs.Worklists.{AreFirstsOf, AreLevels, AreMerged, IsWayOn, Cover, IsCoveredIn, start}
use Rattle.nook_data.proofs.Options.{same_inside}
use Rattle.nook_data.specs.Types.{Scenario}
use Rattle.part_laws.proofs.Indices.{from_map, get_map, split}
use Rattle.run_defs.specs.Simulation.{Choice, Simulation, begins, choices_of}

-- ---- members of lists

pub contains_get : {X : Type 0} (xs : List X) (x : X) → Contains xs x → (k : ℕ) × (slice_get xs k ≡ Some x)
contains_get xs x h = (h.0, slice_get_read xs (length xs) h.0 x refl h.1 (sym h.2))

pub get_contains : {X : Type 0} (xs : List X) (k : ℕ) (x : X) → slice_get xs k ≡ Some x → Contains xs x
get_contains xs k x h = (k, slice_get_within xs k x h, get_or_from_slice_get xs k x x h)

none_contained : {X : Type 0} (x : X) → Contains [] x → ⊥
none_contained x h =
    let l : h.0 < 0 = h.1 in omega arith

-- an item of a list, regardless of the default past its end
pub contains_at : {X : Type 0} (xs : List X) (k : ℕ) (d : X) → k < length xs → Contains xs (get_or xs k d)
contains_at xs k d l = (k, l, same_past xs k d l)
  where
    same_past : {X : Type 0} (xs : List X) (k : ℕ) (d : X) → k < length xs → get_or xs k (get_or xs k d) ≡ get_or xs k d
    same_past [] k d l = refl
    same_past (x ∷ xs) zero d l = refl
    same_past (x ∷ xs) (suc k) d l = same_past xs k d (omega arith)

-- ---- one more step at the end

pub led_more : (picks : List ℕ) (s t : Simulation) (actor : ℕ) (c : Choice) → led s picks ≡ Some t
    → choice_of_actor actor t ≡ Some c → led s (picks ++ actor ∷ []) ≡ Some (follows t c)
unfolding led
led_more [] s t actor c h chosen =
    led_one s actor [] c (ap (choice_of_actor actor) (same_inside h) ∙ chosen)
    ∙ ap (λ (x : Simulation). Some (follows x c)) (same_inside h)
led_more (pick ∷ picks) s t actor c h chosen =
    let one : HasStep s pick picks t = led_step s t pick picks h in
    led_one s pick (picks ++ actor ∷ []) one.choice one.chosen
    ∙ led_more picks (follows s one.choice) t actor c one.leads chosen

-- a run of some steps: the run before its last step, and that step
record HasLast (s : Simulation) (n : ℕ) (picks : List ℕ) (t : Simulation) : Type 0 where
  front : List ℕ
  actor : ℕ
  before : Simulation
  choice : Choice
  split_at : picks ≡ front ++ actor ∷ []
  count : length front ≡ n
  leads : led s front ≡ Some before
  chosen : choice_of_actor actor before ≡ Some choice
  end : t ≡ follows before choice

led_last : (picks : List ℕ) (n : ℕ) (s t : Simulation) → length picks ≡ suc n → led s picks ≡ Some t → HasLast s n picks t
unfolding led
led_last [] n s t l h = absurd (omega arith)
led_last (pick ∷ []) n s t l h =
    let one : HasStep s pick [] t = led_step s t pick [] h in record {
      front = [];
      actor = pick;
      before = s;
      choice = one.choice;
      split_at = refl;
      count = omega arith;
      leads = refl;
      chosen = one.chosen;
      end = sym (same_inside one.leads);
    }
led_last (pick ∷ next ∷ picks) zero s t l h = absurd (omega arith)
led_last (pick ∷ next ∷ picks) (suc n) s t l h =
    let one : HasStep s pick (next ∷ picks) t = led_step s t pick (next ∷ picks) h in
    let last : HasLast (follows s one.choice) n (next ∷ picks) t =
    led_last (next ∷ picks) n (follows s one.choice) t (omega arith) one.leads in record {
      front = pick ∷ last.front;
      actor = last.actor;
      before = last.before;
      choice = last.choice;
      split_at = ap (λ xs. pick ∷ xs) last.split_at;
      count = ap suc last.count;
      leads = led_one s pick last.front one.choice one.chosen ∙ last.leads;
      chosen = last.chosen;
      end = last.end;
    }

-- ---- the limit

-- what comes before picks within the limit is also within it
within_front : (cut : Option (List ℕ)) (front : List ℕ) (actor : ℕ) → IsWithin cut (front ++ actor ∷ []) → IsWithin cut front
within_front None front actor h = tt
within_front (Some last) front actor h = before_front last front actor h

within_early : (cut : Option (List ℕ)) (picks early : List ℕ) → IsWithin cut picks → comes_before picks early ≡ false
    → IsWithin cut early
within_early None picks early h e = tt
within_early (Some last) picks early h e = before_trans last picks early h e

-- picks past the limit do not come before picks within it
past_cut : (cut : Option (List ℕ)) (picks other : List ℕ) → IsWithin cut picks
    → IsWithin cut other ⊎ (comes_before other picks ≡ false)
past_cut None picks other h = inl tt
past_cut (Some last) picks other h = split (comes_before last other)
    (λ past. inr (before_trans other last picks (before_asym last other past) h))
    (λ within. inl within)

-- ---- a level

at_start : (scenario : Scenario) (path : Path) → IsOfLevel scenario 0 path → path ≡ start scenario
unfolding led
at_start scenario path l = by_picks path.picks path.end l.count l.led
  where
    by_picks : (picks : List ℕ) (end : Simulation) → length picks ≡ 0 → led (begins scenario) picks ≡ Some end
        → ◌≡◌ {A = Path} (record { picks = picks; end = end }) (start scenario)
    by_picks [] end n h = ap (λ (x : Simulation). record { picks = []; end = x }) (sym (same_inside h))
    by_picks (pick ∷ picks) end n h = absurd (omega arith)

pub first_holds : (scenario : Scenario) (cut : Option (List ℕ)) → Cover scenario cut 0 (start scenario ∷ [])
unfolding led is_lower
first_holds scenario cut = record {
  reached = λ k d l. first_reached k d l;
  each = λ path level within. record {
    by = start scenario;
    is_held = (0, omega arith, refl);
    alike = ap (λ (x : Path). present x.end) (sym (at_start scenario path level));
    early = ap (λ (x : Path). comes_before x.picks []) (at_start scenario path level);
  };
}
  where
    first_reached : (k : ℕ) (d : Path) → k < 1 → IsOfLevel scenario 0 (get_or (start scenario ∷ []) k d)
    first_reached zero d l = record { led = refl; count = refl }
    first_reached (suc k) d l = absurd (omega arith)

-- the choice that leads to a continuation
record IsWayBy (from path : Path) : Type 0 where
  choice : Choice
  index : ℕ
  at : slice_get (choices_of from.end) index ≡ Some choice
  is : path ≡ goes_on from choice

way_by : (from path : Path) → Contains (ways_on from) path → IsWayBy from path
way_by from path h =
    let k = contains_get (ways_on from) path h in
    let one = from_map (goes_on from) (choices_of from.end) k.0 path k.1 in
    record { choice = one.0; index = k.0; at = one.1; is = one.2 }

way_reached : (scenario : Scenario) (n : ℕ) (from : Path) (c : Choice) (index : ℕ) → slice_get (choices_of from.end) index ≡ Some c
    → IsOfLevel scenario n from → IsOfLevel scenario (suc n) (goes_on from c)
way_reached scenario n from c index at l = record {
  led = led_more from.picks (begins scenario) from.end c.actor c l.led (chosen_at from.end index c at);
  count = sum (length (from.picks ++ c.actor ∷ [])) (length from.picks) n (length-append from.picks (c.actor ∷ [])) l.count;
}
  where
    sum : (a b n : ℕ) → a ≡ b + 1 → b ≡ n → a ≡ suc n
    sum a b n e f = omega arith

ways_reached : (scenario : Scenario) (n : ℕ) (held : List Path) (path : Path) → All (IsOfLevel scenario n) held
    → IsWayOn held path → IsOfLevel scenario (suc n) path
ways_reached scenario n held path all w =
    let by : IsWayBy w.from path = way_by w.from path w.is_way in
    subst (IsOfLevel scenario (suc n)) (sym by.is)
    (way_reached scenario n w.from by.choice by.index by.at (All-contains (IsOfLevel scenario n) held w.from all w.is_held))

-- for a run of the next level, some continuation of these runs has the same present
record HasWay (held : List Path) (cut : Option (List ℕ)) (path : Path) : Type 0 where
  way : Path
  is_way : IsWayOn held way
  within : IsWithin cut way.picks
  alike : present way.end ≡ present path.end
  early : comes_before path.picks way.picks ≡ false

has_way : (scenario : Scenario) (cut : Option (List ℕ)) (n : ℕ) (held : List Path) (path : Path) → Cover scenario cut n held
    → IsOfLevel scenario (suc n) path → IsWithin cut path.picks → HasWay held cut path
has_way scenario cut n held path s l within =
    let last : HasLast (begins scenario) n path.picks path.end = led_last path.picks n (begins scenario) path.end l.count l.led in
    let front : Path = record { picks = last.front; end = last.before } in
    let level : IsOfLevel scenario n front = record { led = last.leads; count = last.count } in
    let found : IsCoveredIn held front = s.each front level
    (within_front cut last.front last.actor (subst (IsWithin cut) last.split_at within)) in
    let f : IsFoundAt last.actor last.choice (choices_of last.before) =
    indexed last.actor last.choice (choices_of last.before) last.chosen in
    let at : slice_get (choices_of found.by.end) f.index ≡ Some last.choice =
    ap (λ (xs : List Choice). slice_get xs f.index) (same_choices found.by.end last.before found.alike) ∙ f.at in
    let by_level : IsOfLevel scenario n found.by = All-contains (IsOfLevel scenario n) held found.by s.reached found.is_held in
    let way : Path = goes_on found.by last.choice in
    let early : comes_before path.picks way.picks ≡ false =
    ap (λ xs. comes_before xs way.picks) (last.split_at ∙ ap (λ a. last.front ++ a ∷ []) (sym f.own))
    ∙ before_more last.front found.by.picks last.choice.actor (last.count ∙ sym by_level.count) found.early
    in record {
      way = way;
      is_way = record {
        from = found.by;
        is_held = found.is_held;
        is_way = get_contains (ways_on found.by) f.index way (get_map (goes_on found.by) (choices_of found.by.end) f.index last.choice at);
      };
      within = within_early cut path.picks way.picks within early;
      alike = same_follows found.by.end last.before last.choice found.alike ∙ ap present (sym last.end);
      early = early;
    }

pub next_holds : (scenario : Scenario) (cut : Option (List ℕ)) (n : ℕ) (held next : List Path) → Cover scenario cut n held
    → AreMerged cut held next → Cover scenario cut (suc n) next
next_holds scenario cut n held next s m = record {
  reached = All-weaker (IsWayOn held) (IsOfLevel scenario (suc n)) (λ path w. ways_reached scenario n held path s.reached w) next m.ways;
  each = λ path l within.
      let w : HasWay held cut path = has_way scenario cut n held path s l within in
      let found : IsCoveredIn next w.way = m.each w.way w.is_way w.within in record {
        by = found.by;
        is_held = found.is_held;
        alike = found.alike ∙ w.alike;
        early = before_trans path.picks w.way.picks found.by.picks w.early found.early;
      };
}

-- ---- all levels

-- no run can be continued
abbrev GoNoFurther : Option (List ℕ) → List Path → Type 0
GoNoFurther cut held = (path : Path) → IsWayOn held path → IsWithin cut path.picks → ⊥

none_next : (cut : Option (List ℕ)) (held : List Path) → GoNoFurther cut held → AreMerged cut held []
none_next cut held none = record { ways = All-nil (IsWayOn held); each = λ path w within. absurd (none path w within) }

none_later : (scenario : Scenario) (cut : Option (List ℕ)) (n k : ℕ) → Cover scenario cut n [] → Cover scenario cut (k + n) []
none_later scenario cut n zero s = subst (λ (m : ℕ). Cover scenario cut m []) (same n) s
  where
    same : (n : ℕ) → n ≡ 0 + n
    same n = omega arith
none_later scenario cut n (suc k) s =
    subst (λ (m : ℕ). Cover scenario cut m []) (same n k)
    (next_holds scenario cut (k + n) [] [] (none_later scenario cut n k s)
    (none_next cut [] (λ path w within. none_contained w.from w.is_held)))
  where
    same : (n k : ℕ) → suc (k + n) ≡ suc k + n
    same n k = omega arith

abbrev joined : List (List Path) → List Path
joined levels = flat_map (λ level. level) levels

more_held : (held more : List Path) (path : Path) → IsCoveredIn held path → IsCoveredIn (held ++ more) path
more_held held more path s =
    record { by = s.by; is_held = Contains-append_left held more s.by s.is_held; alike = s.alike; early = s.early }

held_later : (held more : List Path) (path : Path) → IsCoveredIn more path → IsCoveredIn (held ++ more) path
held_later held more path s =
    record { by = s.by; is_held = Contains-append_right held more s.by s.is_held; alike = s.alike; early = s.early }

same_or_later : (n m : ℕ) → n ≤ m → (m ≡ n) ⊎ (suc n ≤ m)
same_or_later n m l = split (n == m)
    (λ same. inl (sym (eqb-true n m same)))
    (λ other.
    let no : n ≡ m → ⊥ = eqb-false n m other in inr (omega arith))

holds_somewhere : (scenario : Scenario) (cut : Option (List ℕ)) (levels : List (List Path)) (n m : ℕ) (held : List Path) (path : Path)
    → Cover scenario cut n held → AreLevels cut held levels → n ≤ m → IsOfLevel scenario m path → IsWithin cut path.picks
    → IsCoveredIn (joined (held ∷ levels)) path
unfolding AreLevels
holds_somewhere scenario cut [] n m held path s are l level within = elim (same_or_later n m l) [
  | inl same ↦ more_held held [] path (s.each path (subst (λ (k : ℕ). IsOfLevel scenario k path) same level) within)
  | inr later ↦ absurd (nothing later)
]
  where
    sum : (a b : ℕ) → suc a ≤ b → b ≡ (b - suc a) + suc a
    sum a b l = omega arith

    nothing : suc n ≤ m → ⊥
    nothing later =
        let none : Cover scenario cut ((m - suc n) + suc n) [] =
        none_later scenario cut (suc n) (m - suc n) (next_holds scenario cut n held [] s (none_next cut held are)) in
        let found : IsCoveredIn [] path = none.each path (subst (λ (k : ℕ). IsOfLevel scenario k path) (sum n m later) level) within in
        none_contained found.by found.is_held
holds_somewhere scenario cut (next ∷ levels) n m held path s are l level within = elim (same_or_later n m l) [
  | inl same ↦ more_held held (joined (next ∷ levels)) path
      (s.each path (subst (λ (k : ℕ). IsOfLevel scenario k path) same level) within)
  | inr later ↦ held_later held (joined (next ∷ levels)) path
      (holds_somewhere scenario cut levels (suc n) m next path (next_holds scenario cut n held next s are.0) are.1 later level within)
]

-- after some number of steps
abbrev IsReached : Scenario → Path → Type 0
IsReached scenario path = (n : ℕ) × IsOfLevel scenario n path

all_reached : (scenario : Scenario) (cut : Option (List ℕ)) (levels : List (List Path)) (n : ℕ) (held : List Path)
    → Cover scenario cut n held → AreLevels cut held levels → All (IsReached scenario) (joined (held ∷ levels))
unfolding AreLevels
all_reached scenario cut [] n held s are =
    All-append (IsReached scenario) held []
    (All-weaker (IsOfLevel scenario n) (IsReached scenario) (λ path l. (n, l)) held s.reached) (All-nil (IsReached scenario))
all_reached scenario cut (next ∷ levels) n held s are =
    All-append (IsReached scenario) held (joined (next ∷ levels))
    (All-weaker (IsOfLevel scenario n) (IsReached scenario) (λ path l. (n, l)) held s.reached)
    (all_reached scenario cut levels (suc n) next (next_holds scenario cut n held next s are.0) are.1)

-- ---- what they find

module _ (scenario : Scenario) (cut : Option (List ℕ)) (held firsts : List Path)
    (reached : All (IsReached scenario) held)
    (cover : (n : ℕ) (path : Path) → IsOfLevel scenario n path → IsWithin cut path.picks → IsCoveredIn held path)
    (f : AreFirstsOf cut held firsts) where
  ended_alike : (path : Path) → IsWholePath scenario path → (found : IsCoveredIn held path) → choices_of found.by.end ≡ []
  ended_alike path w found = same_choices found.by.end path.end found.alike ∙ w.ended

  whole_holds : (path : Path) → IsWholePath scenario path → IsWithin cut path.picks → IsCoveredIn held path
  whole_holds path w within = cover (length path.picks) path (record { led = w.led; count = refl }) within

  least_of : (first : Path) → Contains firsts first → IsWithin cut first.picks → (other : Path) → IsWholePath scenario other
      → outcome_of other.end ≡ outcome_of first.end → comes_before other.picks first.picks ≡ false
  least_of first listed within other w same = elim (past_cut cut first.picks other.picks within) [
    | inr late ↦ late
    | inl other_within ↦
        let found : IsCoveredIn held other = whole_holds other w other_within in
        before_trans other.picks found.by.picks first.picks found.early
        (f.least first found.by listed found.is_held (ended_alike other w found) (same_outcome found.by.end other.end found.alike ∙ same))
  ]

  is_first : (first : Path) → Contains firsts first → Contains held first → choices_of first.end ≡ [] → IsWithin cut first.picks
      → IsFirst scenario first
  is_first first listed is_held ended within = record {
    whole = record { led = (All-contains (IsReached scenario) held first reached is_held).1.led; ended = ended };
    least = least_of first listed within;
  }

  has_outcome : (path : Path) → IsWholePath scenario path → IsWithin cut path.picks → HasOutcome firsts (outcome_of path.end)
  has_outcome path w within =
      let found : IsCoveredIn held path = whole_holds path w within in
      subst (HasOutcome firsts) (same_outcome found.by.end path.end found.alike)
      (f.each found.by found.is_held (ended_alike path w found) (within_early cut path.picks found.by.picks within found.early))

  all_found : AreOutcomes scenario cut firsts
  all_found = record {
    first = λ k d l. is_first (get_or firsts k d) (contains_at firsts k d l) (f.is_held k d l) (f.ended k d l) (f.within k d l);
    within = f.within;
    each = has_outcome;
    rising = f.rising;
  }

pub levels_find : (scenario : Scenario) (cut : Option (List ℕ)) (levels : List (List Path)) (firsts : List Path)
    → AreLevels cut (start scenario ∷ []) levels → AreFirstsOf cut (joined ((start scenario ∷ []) ∷ levels)) firsts
    → AreOutcomes scenario cut firsts
levels_find scenario cut levels firsts are f =
    let s : Cover scenario cut 0 (start scenario ∷ []) = first_holds scenario cut in
    all_found scenario cut (joined ((start scenario ∷ []) ∷ levels)) firsts
    (all_reached scenario cut levels 0 (start scenario ∷ []) s are)
    (λ n path level within. holds_somewhere scenario cut levels 0 n (start scenario ∷ []) path s are (omega arith) level within) f
