-- A worklist of picks and presents represents one of runs.
use Rattle.std.proofs.Common.{◌≡◌, ℕ, suc, ◌+◌, false, true, All, Contains, IfSome, is_some, Option, Some}
use Rattle.std.proofs.Common.{None, List, [], ◌∷◌, ◌++◌, flat_map}
use Rattle.std.proofs.Common.{get_or, length, map, slice_get, refl, sym, ap, ap₂, ◌∙◌, subst, arith, length-append}
use Rattle.std.proofs.lemmas.List.Elements.{All-append, All-contains, All-cons, All-head, All-map, All-nil}
use Rattle.std.proofs.lemmas.List.Elements.{All-tail, All-weaker}
use Rattle.explore_defs.specs.Explored.{AreRising, AreStates, HasOutcome, IsExplored, all_numbers, explored_line}
use Rattle.explore_defs.specs.Explored.{explored_status, last_picks, outcome_line, outcome_lines}
use Rattle.explore_defs.specs.declared.TheConstants.{MOST_STATES}
use Rattle.explore_defs.specs.Orders.{IsOfLevel, IsWithin, Path, comes_before, follows, goes_on, led, ways_on}
use Rattle.explore_defs.specs.Outcomes.{outcome_of}
use Rattle.explore_laws.proofs.Led.{chosen_at}
use Rattle.explore_laws.proofs.Merged.{contains_at, contains_get, get_contains, led_more, levels_find}
use Rattle.explore_laws.proofs.RowNumbers.{numbers_reported}
use Rattle.explore_laws.proofs.SamePresent.{choices_bare, outcome_present, present_follows}
use Rattle.explore_laws.specs.Held.{AreFirstHeld, AreHeldLevels, AreJoined, AreRowsOf, DoRise, HasHeldOutcome}
use Rattle.explore_laws.specs.Held.{Held, IsFilled, IsWayFrom}
use Rattle.explore_laws.specs.Held.{IsCoveredAmong, all_levels, choices_in, held_after, held_first, held_lines}
use Rattle.explore_laws.specs.Held.{held_numbers, held_status, held_text, last_held, ways_from}
use Rattle.explore_laws.specs.Present.{bare_run, goes_on_by, numbers_in, outcome_in, present}
use Rattle.explore_laws.specs.Worklists.{AreFirstsOf, AreLevels, AreMerged, IsWayOn, start}
use Rattle.nook_data.specs.Types.{MemberRow, Scenario}
use Rattle.part_laws.proofs.Indices.{from_map, get_map, length_map}
use Rattle.run_defs.specs.Simulation.{Choice, Simulation, begins, choices_of}

abbrev or_else : Simulation → Option Simulation → Simulation
or_else s None = s
or_else s (Some t) = t

module _ (scenario : Scenario) where
  -- the run of a stored state
  abbrev path_at : Held → Path
  path_at h = record { picks = h.picks; end = or_else (begins scenario) (led (begins scenario) h.picks) }

  -- a stored state is that of a run of this many steps
  record IsReal (n : ℕ) (h : Held) : Type 0 where
    level : IsOfLevel scenario n (path_at h)
    now : present (path_at h).end ≡ h.now

  real_at : (n : ℕ) (picks : List ℕ) (end : Simulation) → led (begins scenario) picks ≡ Some end
      → or_else (begins scenario) (led (begins scenario) picks) ≡ end
  real_at n picks end h = ap (or_else (begins scenario)) h

  real_by : (n : ℕ) (h : Held) (end : Simulation) → led (begins scenario) h.picks ≡ Some end → present end ≡ h.now
      → length h.picks ≡ n → IsReal n h
  real_by n h end leads now count =
      let same : or_else (begins scenario) (led (begins scenario) h.picks) ≡ end = real_at n h.picks end leads in record {
        level = record { led = leads ∙ ap (λ (s : Simulation). Some s) (sym same); count = count };
        now = ap present same ∙ now;
      }

  first_real : IsReal 0 (held_first scenario)
  unfolding led
  first_real = real_by 0 (held_first scenario) (begins scenario) refl refl refl

  -- ---- one step

  same_choices_in : (n : ℕ) (h : Held) → IsReal n h → choices_of (path_at h).end ≡ choices_in h.now
  same_choices_in n h r = sym (choices_bare (path_at h).end) ∙ ap (λ now. choices_of (bare_run now)) r.now

  module _ (n : ℕ) (from : Held) (r : IsReal n from) (c : Choice) (index : ℕ) (at : slice_get (choices_of (path_at from).end) index ≡ Some c) where
    after_leads : led (begins scenario) (from.picks ++ c.actor ∷ []) ≡ Some (follows (path_at from).end c)
    after_leads = led_more from.picks (begins scenario) (path_at from).end c.actor c r.level.led (chosen_at (path_at from).end index c at)

    after_now : present (follows (path_at from).end c) ≡ goes_on_by from.now c
    after_now = present_follows (path_at from).end c ∙ ap (λ now. goes_on_by now c) r.now

    after_real : IsReal (suc n) (held_after from c)
    after_real = real_by (suc n) (held_after from c) (follows (path_at from).end c) after_leads after_now
        (sum (length (from.picks ++ c.actor ∷ [])) (length from.picks) n (length-append from.picks (c.actor ∷ [])) r.level.count)
      where
        sum : (a b n : ℕ) → a ≡ b + 1 → b ≡ n → a ≡ suc n
        sum a b n e f = omega arith

    after_path : path_at (held_after from c) ≡ goes_on (path_at from) c
    after_path = ap (λ (end : Simulation). record { picks = from.picks ++ c.actor ∷ []; end = end })
        (real_at (suc n) (from.picks ++ c.actor ∷ []) (follows (path_at from).end c) after_leads)

  -- the choice that leads from one state to the next
  record IsBy (from h : Held) : Type 0 where
    choice : Choice
    index : ℕ
    at : slice_get (choices_in from.now) index ≡ Some choice
    is : h ≡ held_after from choice

  by_choice : (from h : Held) → Contains (ways_from from) h → IsBy from h
  by_choice from h w =
      let k = contains_get (ways_from from) h w in
      let one = from_map (held_after from) (choices_in from.now) k.0 h k.1 in
      record { choice = one.0; index = k.0; at = one.1; is = one.2 }

  way_real : (n : ℕ) (held : List Held) (h : Held) → All (IsReal n) held → IsWayFrom held h → IsReal (suc n) h
  way_real n held h all w =
      let r : IsReal n w.from = All-contains (IsReal n) held w.from all w.is_held in
      let by : IsBy w.from h = by_choice w.from h w.is_way in
      subst (IsReal (suc n)) (sym by.is) (after_real n w.from r by.choice by.index
      (ap (λ (xs : List Choice). slice_get xs by.index) (same_choices_in n w.from r) ∙ by.at))

  -- ---- members

  abbrev paths : List Held → List Path
  paths held = map path_at held

  member_path : (held : List Held) (h : Held) → Contains held h → Contains (paths held) (path_at h)
  member_path held h c =
      let k = contains_get held h c in get_contains (paths held) k.0 (path_at h) (get_map path_at held k.0 h k.1)

  record IsMember (held : List Held) (path : Path) : Type 0 where
    of : Held
    is_held : Contains held of
    is : path ≡ path_at of

  path_member : (held : List Held) (path : Path) → Contains (paths held) path → IsMember held path
  path_member held path c =
      let k = contains_get (paths held) path c in
      let one = from_map path_at held k.0 path k.1 in
      record { of = one.0; is_held = get_contains held k.0 one.0 one.1; is = one.2 }

  -- ---- a level

  way_path : (n : ℕ) (held : List Held) (h : Held) → All (IsReal n) held → IsWayFrom held h → IsWayOn (paths held) (path_at h)
  way_path n held h all w =
      let r : IsReal n w.from = All-contains (IsReal n) held w.from all w.is_held in
      let by : IsBy w.from h = by_choice w.from h w.is_way in
      let at : slice_get (choices_of (path_at w.from).end) by.index ≡ Some by.choice =
      ap (λ (xs : List Choice). slice_get xs by.index) (same_choices_in n w.from r) ∙ by.at in
      record {
        from = path_at w.from;
        is_held = member_path held w.from w.is_held;
        is_way = subst (Contains (ways_on (path_at w.from)))
            (sym (ap path_at by.is ∙ after_path n w.from r by.choice by.index at))
            (get_contains (ways_on (path_at w.from)) by.index (goes_on (path_at w.from) by.choice)
            (get_map (goes_on (path_at w.from)) (choices_of (path_at w.from).end) by.index by.choice at));
      }

  -- a run that continues a run of the worklist is the run of a state one step after a stored one
  record IsHeldWay (held : List Held) (path : Path) : Type 0 where
    of : Held
    is_way : IsWayFrom held of
    picks : of.picks ≡ path.picks
    now : of.now ≡ present path.end

  held_way : (n : ℕ) (held : List Held) (path : Path) → All (IsReal n) held → IsWayOn (paths held) path → IsHeldWay held path
  held_way n held path all w =
      let m : IsMember held w.from = path_member held w.from w.is_held in
      let r : IsReal n m.of = All-contains (IsReal n) held m.of all m.is_held in
      let way : Contains (ways_on (path_at m.of)) path = subst (λ (x : Path). Contains (ways_on x) path) m.is w.is_way in
      let k = contains_get (ways_on (path_at m.of)) path way in
      let one = from_map (goes_on (path_at m.of)) (choices_of (path_at m.of).end) k.0 path k.1 in
      record {
        of = held_after m.of one.0;
        is_way = record {
          from = m.of;
          is_held = m.is_held;
          is_way = get_contains (ways_from m.of) k.0 (held_after m.of one.0)
              (get_map (held_after m.of) (choices_in m.of.now) k.0 one.0
              (ap (λ (xs : List Choice). slice_get xs k.0) (sym (same_choices_in n m.of r)) ∙ one.1));
        };
        picks = sym (ap (λ (x : Path). x.picks) one.2);
        now = sym (after_now n m.of r one.0 k.0 one.1) ∙ sym (ap (λ (x : Path). present x.end) one.2);
      }

  module _ (cut : Option (List ℕ)) where
    merged : (n : ℕ) (held next : List Held) → All (IsReal n) held → All (IsReal (suc n)) next → AreJoined cut held next
        → AreMerged cut (paths held) (paths next)
    merged n held next all more j = record {
      ways = All-map (IsWayOn (paths held)) path_at next
          (All-weaker (IsWayFrom held) (λ h. IsWayOn (paths held) (path_at h)) (λ h w. way_path n held h all w) next j.ways);
      each = λ path w within.
          let of : IsHeldWay held path = held_way n held path all w in
          let among : IsCoveredAmong next of.of = j.each of.of of.is_way (subst (IsWithin cut) (sym of.picks) within) in
          let r : IsReal (suc n) among.by = All-contains (IsReal (suc n)) next among.by more among.is_held in record {
            by = path_at among.by;
            is_held = member_path next among.by among.is_held;
            alike = r.now ∙ among.alike ∙ of.now;
            early = ap (λ xs. comes_before xs among.by.picks) (sym of.picks) ∙ among.early;
          };
    }

    next_real : (n : ℕ) (held next : List Held) → All (IsReal n) held → AreJoined cut held next → All (IsReal (suc n)) next
    next_real n held next all j =
        All-weaker (IsWayFrom held) (IsReal (suc n)) (λ h w. way_real n held h all w) next j.ways

    levels_paths : (levels : List (List Held)) (n : ℕ) (held : List Held) → All (IsReal n) held → AreHeldLevels cut held levels
        → AreLevels cut (paths held) (map paths levels)
    unfolding AreHeldLevels AreLevels
    levels_paths [] n held all are = λ path w within.
        let of : IsHeldWay held path = held_way n held path all w in
        are of.of of.is_way (subst (IsWithin cut) (sym of.picks) within)
    levels_paths (next ∷ levels) n held all are =
        let more : All (IsReal (suc n)) next = next_real n held next all are.0 in
        (merged n held next all more are.0, levels_paths levels (suc n) next more are.1)

    -- ---- all levels

    abbrev IsSomeReal : Held → Type 0
    IsSomeReal h = (n : ℕ) × IsReal n h

    levels_real : (levels : List (List Held)) (n : ℕ) (held : List Held) → All (IsReal n) held → AreHeldLevels cut held levels
        → All IsSomeReal (all_levels (held ∷ levels))
    unfolding AreHeldLevels
    levels_real [] n held all are =
        All-append IsSomeReal held [] (All-weaker (IsReal n) IsSomeReal (λ h r. (n, r)) held all) (All-nil IsSomeReal)
    levels_real (next ∷ levels) n held all are =
        All-append IsSomeReal held (all_levels (next ∷ levels)) (All-weaker (IsReal n) IsSomeReal (λ h r. (n, r)) held all)
        (levels_real levels (suc n) next (next_real n held next all are.0) are.1)

    map_append : (xs ys : List Held) → paths (xs ++ ys) ≡ paths xs ++ paths ys
    map_append [] ys = refl
    map_append (x ∷ xs) ys = ap (λ zs. path_at x ∷ zs) (map_append xs ys)

    levels_map : (levels : List (List Held)) → flat_map (λ level. level) (map paths levels) ≡ paths (all_levels levels)
    levels_map [] = refl
    levels_map (level ∷ levels) =
        ap (λ zs. paths level ++ zs) (levels_map levels) ∙ sym (map_append level (all_levels levels))

    -- ---- what is found

    outcome_real : (h : Held) → IsSomeReal h → outcome_of (path_at h).end ≡ outcome_in h.now
    outcome_real h r = outcome_present (path_at h).end ∙ ap outcome_in r.1.now

    module _ (held firsts : List Held) (real : All IsSomeReal held) (f : AreFirstHeld cut held firsts) where
      real_of : (h : Held) → Contains held h → IsSomeReal h
      real_of h c = All-contains IsSomeReal held h real c

      first_real_of : (h : Held) → Contains firsts h → IsSomeReal h
      first_real_of h c = real_of h (All-contains (Contains held) firsts h f.is_held c)

      ended_in : (h : Held) (path : Path) → IsSomeReal h → path ≡ path_at h → choices_of path.end ≡ [] → choices_in h.now ≡ []
      ended_in h path r is ended =
          sym (same_choices_in r.0 h r.1) ∙ ap (λ (x : Path). choices_of x.end) (sym is) ∙ ended

      first_least : (first path : Path) → Contains (paths firsts) first → Contains (paths held) path → choices_of path.end ≡ []
          → outcome_of path.end ≡ outcome_of first.end → comes_before path.picks first.picks ≡ false
      first_least first path listed is_held ended same =
          let m : IsMember firsts first = path_member firsts first listed in
          let p : IsMember held path = path_member held path is_held in
          let rm : IsSomeReal m.of = first_real_of m.of m.is_held in
          let rp : IsSomeReal p.of = real_of p.of p.is_held in
          ap₂ comes_before (ap (λ (x : Path). x.picks) p.is) (ap (λ (x : Path). x.picks) m.is)
          ∙ f.least m.of p.of m.is_held p.is_held (ended_in p.of path rp p.is ended)
          (sym (outcome_real p.of rp) ∙ ap (λ (x : Path). outcome_of x.end) (sym p.is) ∙ same
          ∙ ap (λ (x : Path). outcome_of x.end) m.is ∙ outcome_real m.of rm)

      first_each : (path : Path) → Contains (paths held) path → choices_of path.end ≡ [] → IsWithin cut path.picks
          → HasOutcome (paths firsts) (outcome_of path.end)
      first_each path is_held ended within =
          let p : IsMember held path = path_member held path is_held in
          let rp : IsSomeReal p.of = real_of p.of p.is_held in
          let has : HasHeldOutcome firsts (outcome_in p.of.now) =
          f.each p.of p.is_held (ended_in p.of path rp p.is ended) (subst (λ (x : Path). IsWithin cut x.picks) p.is within) in record {
            first = path_at has.first;
            listed = member_path firsts has.first has.listed;
            same = outcome_real has.first (first_real_of has.first has.listed) ∙ has.same ∙ sym (outcome_real p.of rp)
                ∙ ap (λ (x : Path). outcome_of x.end) (sym p.is);
          }

      firsts_paths : AreRising (paths firsts) → AreFirstsOf cut (paths held) (paths firsts)
      firsts_paths rising = record {
        is_held = All-map (Contains (paths held)) path_at firsts
            (All-weaker (Contains held) (λ h. Contains (paths held) (path_at h)) (λ h c. member_path held h c) firsts f.is_held);
        ended = All-map (λ (path : Path). choices_of path.end ≡ []) path_at firsts
            (λ k d l.
            let h : Held = get_or firsts k d in
            let r : IsSomeReal h = first_real_of h (contains_at firsts k d l) in
            same_choices_in r.0 h r.1 ∙ f.ended k d l);
        within = All-map (λ (path : Path). IsWithin cut path.picks) path_at firsts f.within;
        least = first_least;
        each = first_each;
        rising = rising;
      }

      all_firsts_real : All IsSomeReal firsts
      all_firsts_real = λ k d l. first_real_of (get_or firsts k d) (contains_at firsts k d l)

    rising_paths : (firsts : List Held) → DoRise firsts → AreRising (paths firsts)
    unfolding DoRise AreRising
    rising_paths [] rise = tt
    rising_paths (h ∷ firsts) rise =
        (All-map (λ (next : Path). comes_before h.picks next.picks ≡ true) path_at firsts rise.0, rising_paths firsts rise.1)

    numbers_held : (firsts : List Held) → All IsSomeReal firsts → all_numbers scenario (paths firsts) ≡ map held_numbers firsts
    numbers_held [] real = refl
    numbers_held (h ∷ firsts) real =
        let r : IsSomeReal h = All-head IsSomeReal h firsts real in
        ap₂ (λ (row : MemberRow) rows. row ∷ rows)
        (numbers_reported scenario r.0 (path_at h) r.1.level
        ∙ ap₂ numbers_in (sym r.1.level.count) r.1.now)
        (numbers_held firsts (All-tail IsSomeReal h firsts real))

    lines_held : (index : ℕ) (firsts : List Held) → All IsSomeReal firsts
        → outcome_lines index scenario (paths firsts) ≡ held_lines index firsts
    unfolding outcome_lines
    lines_held index [] real = refl
    lines_held index (h ∷ firsts) real =
        let r : IsSomeReal h = All-head IsSomeReal h firsts real in
        ap₂ (λ (a b : List ℕ). a ++ b)
        (ap (λ (row : MemberRow). outcome_line index row h.picks)
        (numbers_reported scenario r.0 (path_at h) r.1.level ∙ ap₂ numbers_in (sym r.1.level.count) r.1.now))
        (lines_held (suc index) firsts (All-tail IsSomeReal h firsts real))

    last_path : (held : List Held) → last_picks (paths held) ≡ last_held held
    unfolding last_picks last_held
    last_path [] = refl
    last_path (h ∷ []) = refl
    last_path (h ∷ next ∷ helds) = last_path (next ∷ helds)

    full_path : (cut : Option (List ℕ)) (held : List Held)
        → IfSome cut (λ last. (length held ≡ MOST_STATES) × (last_held held ≡ Some last))
        → IfSome cut (λ last. (length held ≡ MOST_STATES) × (last_picks (paths held) ≡ Some last))
    full_path None held h = h
    full_path (Some last) held h = (h.0, last_path held ∙ h.1)

    states_held : (held : List Held) → All IsSomeReal held → IsFilled cut held → AreStates scenario cut (length held)
    states_held held real filled = record {
      held = paths held;
      reached = All-map (λ (path : Path). led (begins scenario) path.picks ≡ Some path.end) path_at held
          (All-weaker IsSomeReal (λ h. led (begins scenario) h.picks ≡ Some (path_at h).end) (λ h r. r.1.level.led) held real);
      rising = rising_paths held filled.rising;
      count = sym (length_map path_at held);
      few = filled.few;
      full = full_path cut held filled.full;
    }

    start_path : path_at (held_first scenario) ≡ start scenario
    unfolding led
    start_path = refl

    first_levels_real : (levels : List (List Held)) → AreHeldLevels cut (held_first scenario ∷ []) levels
        → All IsSomeReal (all_levels ((held_first scenario ∷ []) ∷ levels))
    first_levels_real levels are = levels_real levels 0 (held_first scenario ∷ [])
        (All-cons (IsReal 0) (held_first scenario) [] first_real (All-nil (IsReal 0))) are

    rows_found : (levels : List (List Held)) (firsts : List Held) → AreHeldLevels cut (held_first scenario ∷ []) levels
        → AreFirstHeld cut (all_levels ((held_first scenario ∷ []) ∷ levels)) firsts → AreRowsOf scenario cut firsts
    rows_found levels firsts are f =
        let one : All (IsReal 0) (held_first scenario ∷ []) =
        All-cons (IsReal 0) (held_first scenario) [] first_real (All-nil (IsReal 0)) in
        let held : List Held = all_levels ((held_first scenario ∷ []) ∷ levels) in
        let real : All IsSomeReal held = first_levels_real levels are in
        record {
          paths = paths firsts;
          outcomes = levels_find scenario cut (map paths levels) (paths firsts)
              (subst (λ (x : Path). AreLevels cut (x ∷ []) (map paths levels)) start_path
              (levels_paths levels 0 (held_first scenario ∷ []) one are))
              (subst (λ xs. AreFirstsOf cut xs (paths firsts))
              (sym (levels_map ((held_first scenario ∷ []) ∷ levels))
              ∙ ap (λ (x : Path). flat_map (λ (level : List Path). level) ((x ∷ []) ∷ map paths levels)) start_path)
              (firsts_paths held firsts real f (rising_paths firsts f.rising)));
          lines = lines_held 1 firsts (all_firsts_real held firsts real f);
          numbers = numbers_held firsts (all_firsts_real held firsts real f);
        }

pub held_rows : (scenario : Scenario) (cut : Option (List ℕ)) (levels : List (List Held)) (firsts : List Held)
    → AreHeldLevels cut (held_first scenario ∷ []) levels
    → AreFirstHeld cut (all_levels ((held_first scenario ∷ []) ∷ levels)) firsts → AreRowsOf scenario cut firsts
held_rows scenario cut levels firsts are f = rows_found scenario cut levels firsts are f

-- ---- the answer

pub held_answer : (scenario : Scenario) (cut : Option (List ℕ)) (levels : List (List Held)) (firsts : List Held)
    → AreHeldLevels cut (held_first scenario ∷ []) levels
    → AreFirstHeld cut (all_levels ((held_first scenario ∷ []) ∷ levels)) firsts
    → IsFilled cut (all_levels ((held_first scenario ∷ []) ∷ levels))
    → IsExplored scenario (held_text (is_some cut) (length (all_levels ((held_first scenario ∷ []) ∷ levels))) firsts)
    (held_status (is_some cut) firsts)
held_answer scenario cut levels firsts are f filled =
    let held : List Held = all_levels ((held_first scenario ∷ []) ∷ levels) in
    let r : AreRowsOf scenario cut firsts = held_rows scenario cut levels firsts are f in record {
      cut = cut;
      states = length held;
      are_states = states_held scenario cut held (first_levels_real scenario cut levels are) filled;
      firsts = r.paths;
      outcomes = r.outcomes;
      text_is = ap₂ (λ (lines : List ℕ) rows. lines ++ explored_line (is_some cut) (length held) rows) (sym r.lines) (sym r.numbers);
      status_is = ap (explored_status (is_some cut)) (sym r.numbers);
    }
