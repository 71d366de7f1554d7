-- A search from its first state on, level by level.
use Rattle.std.proofs.Common.{◌≡◌, inl, inr, ℕ, ◌+◌, ◌<◌, ◌≤◌, Bool, false, true, All, Contains, IfSome, is_some}
use Rattle.std.proofs.Common.{Option, Some, None, List, [], ◌∷◌, ◌++◌, append_assoc, append-nil, length, map, refl}
use Rattle.std.proofs.Common.{sym, ap, ◌∙◌}
use Rattle.std.proofs.Common.{◌-◌, min, subst, arith, length-append}
use Rattle.std.proofs.lemmas.List.Elements.{All-append, All-contains, All-cons, All-nil, All-weaker}
use Rattle.explore_defs.specs.Orders.{IsWithin, comes_before}
use Rattle.explore_defs.specs.declared.TheConstants.{MOST_STATES}
use Rattle.explore_laws.specs.Held.{AreFirstHeld, AreHeldLevels, AreJoined, DoRise, Held, IsFilled, IsWayFrom}
use Rattle.explore_laws.specs.Held.{IsCoveredAmong}
use Rattle.explore_laws.specs.Held.{all_levels, held_first, last_held}
use Rattle.explore_laws.specs.Present.{Present, present}
use Rattle.nook_data.specs.Types.{Scenario}
use Rattle.order_search.proofs.KeptEnds.{same_rows}
use Rattle.order_search.proofs.Rising.{AreLong, after_shorter, none_contained, past_last, rise_append, rise_rest}
use Rattle.order_search.proofs.Rising.{some_last, way_contained, ways_contain, ways_long, ways_rise, within_last}
use Rattle.order_search.specs.Ends.{AreFirstEnds, CoverEnds, TakesEnds}
use Rattle.order_search.specs.Found.{AreLevelsTo, GoesOn, IsAt, IsFound, row_of_end}
use Rattle.order_search.specs.Moments.{held_at_first}
use Rattle.order_search.specs.Ways.{AreAfter, ComeBefore, IsSettled, IsSifted, Made, TakesWays, all_ways}
use Rattle.order_search.specs.declared.ends.FirstEnd.{FirstEnd}
use Rattle.order_search.specs.declared.rows.Explored.{Explored}
use Rattle.part_laws.proofs.Indices.{split}
use Rattle.run_defs.specs.Simulation.{begins}

true_not_false : true ≡ false → ⊥
true_not_false e = cc

-- ---- levels

levels_more : (cut : Option (List ℕ)) (levels : List (List Held)) (held last next : List Held)
    → AreLevelsTo cut held levels last
    → AreJoined cut last next → AreLevelsTo cut held (levels ++ next ∷ []) next
unfolding AreLevelsTo
levels_more cut [] held last next a j = (subst (λ (x : List Held). AreJoined cut x next) (sym a) j, refl)
levels_more cut (level ∷ levels) held last next a j = (a.0, levels_more cut levels level last next a.1 j)

-- a limit requires less
joined_cut : (cut : Option (List ℕ)) (held next : List Held) → AreJoined None held next → AreJoined cut held next
joined_cut cut held next j = record { ways = j.ways; each = λ h w within. j.each h w tt }

levels_cut : (cut : Option (List ℕ)) (levels : List (List Held)) (held last : List Held)
    → AreLevelsTo None held levels last
    → AreLevelsTo cut held levels last
unfolding AreLevelsTo
levels_cut cut [] held last a = a
levels_cut cut (level ∷ levels) held last a = (joined_cut cut held level a.0, levels_cut cut levels level last a.1)

levels_end : (cut : Option (List ℕ)) (levels : List (List Held)) (held : List Held) → AreLevelsTo cut held levels []
    → AreHeldLevels cut held levels
unfolding AreLevelsTo AreHeldLevels
levels_end cut [] held a = λ h w within. none_contained w.from
    (subst (λ (x : List Held). Contains x w.from) a w.is_held)
levels_end cut (level ∷ levels) held a = (a.0, levels_end cut levels level a.1)

all_more : (levels : List (List Held)) (next : List Held) → all_levels (levels ++ next ∷ []) ≡ all_levels levels ++ next
all_more [] next = append-nil next
all_more (level ∷ levels) next =
    ap (λ xs. level ++ xs) (all_more levels next) ∙ sym (append_assoc level (all_levels levels) next)

-- ---- a level that is made of all continuations

module _ (was : Bool) (all level : List Held) (m : Made) (s : IsSifted was all (all_ways level) m) where
  joined_ways : All (IsWayFrom level) m.level
  joined_ways = All-weaker (Contains (all_ways level)) (IsWayFrom level) (λ w c. way_contained level w c) m.level s.ways

  joined_whole : m.is_cut ≡ false → AreJoined None level m.level
  joined_whole whole = record {
    ways = joined_ways;
    each = λ h w within. by_settled h (s.each h (ways_contain level h w));
  }
    where
      by_settled : (h : Held) → IsSettled all m h → IsCoveredAmong m.level h
      by_settled h (inl among) = among
      by_settled h (inr past) = absurd (true_not_false (sym past.is_cut ∙ whole))

  joined_to : (last : List ℕ) → last_held (all ++ m.level) ≡ Some last → AreJoined (Some last) level m.level
  joined_to last e = record {
    ways = joined_ways;
    each = λ h w within. by_settled h within (s.each h (ways_contain level h w));
  }
    where
      by_settled : (h : Held) → comes_before last h.picks ≡ false → IsSettled all m h → IsCoveredAmong m.level h
      by_settled h within (inl among) = among
      by_settled h within (inr past) =
          absurd (true_not_false (sym (past_last (all ++ m.level) last h e past.past) ∙ within))

-- ---- from one level to the next

-- at the limit as many states are stored as allowed, up to the last picks
abbrev IsFull : Option (List ℕ) → List Held → Type 0
IsFull cut all = IfSome cut (λ last. (length all ≡ MOST_STATES) × (last_held all ≡ Some last))

module _ (old new : Made) (before after : List FirstEnd)
    (t : TakesWays (all_ways old.level) (record { level = []; states = old.states; is_cut = old.is_cut }) new)
    (e : TakesEnds old.level before after) (first : Held) (a : IsAt first old before) where
  abbrev all : List Held
  all = a.before ++ old.level

  abbrev start : Made
  start = record { level = []; states = old.states; is_cut = old.is_cut }

  ways_later : AreAfter all (all_ways old.level)
  ways_later = after_shorter a.steps all (all_ways old.level)
      (All-append (λ (h : Held). length h.picks ≤ a.steps) a.before old.level a.short
      (All-weaker (λ (h : Held). length h.picks ≡ a.steps) (λ (h : Held). length h.picks ≤ a.steps)
      (λ h l. at_most h l) old.level a.long))
      (ways_long a.steps old.level a.long)
    where
      at_most : (h : Held) → length h.picks ≡ a.steps → length h.picks ≤ a.steps
      at_most h l = omega arith

  full_at : (cut : Option (List ℕ)) → old.is_cut ≡ is_some cut → IsFull cut all → old.is_cut ≡ true
      → old.states ≡ MOST_STATES
  full_at None is full cut = absurd (true_not_false (sym cut ∙ is))
  full_at (Some last) is full cut = a.count ∙ full.0

  sifted_start : IsSifted old.is_cut all [] start
  unfolding DoRise
  sifted_start = record {
    ways = All-nil (Contains []);
    rising = tt;
    each = λ h c. absurd (none_contained h c);
    count = counted a.count;
    few = fits a.count a.filled.few;
    full = full_at a.cut a.is_cut a.filled.full;
    stays = λ cut. (refl, cut);
  }
    where
      counted : old.states ≡ length all → old.states ≡ length all + 0
      counted c = omega arith

      fits : old.states ≡ length all → length all ≤ MOST_STATES → old.states ≤ MOST_STATES
      fits c few = omega arith

  sifted_next : IsSifted old.is_cut all (all_ways old.level) new
  sifted_next = t.sifted old.is_cut all []
      (ways_rise a.steps old.level (rise_rest a.before old.level a.filled.rising) a.long) ways_later sifted_start

  held_count : new.states ≡ length (all ++ new.level)
  held_count = sifted_next.count ∙ sym (length-append all new.level)

  next_long : AreLong (a.steps + 1) new.level
  next_long = All-weaker (Contains (all_ways old.level)) (λ (h : Held). length h.picks ≡ a.steps + 1)
      (λ w c. All-contains (λ (h : Held). length h.picks ≡ a.steps + 1) (all_ways old.level) w
      (ways_long a.steps old.level a.long) c)
      new.level sifted_next.ways

  next_later : AreAfter all new.level
  next_later = All-weaker (Contains (all_ways old.level)) (ComeBefore all)
      (λ w c. All-contains (ComeBefore all) (all_ways old.level) w ways_later c) new.level sifted_next.ways

  all_short : All (λ (h : Held). length h.picks ≤ a.steps + 1) all
  all_short = All-append (λ (h : Held). length h.picks ≤ a.steps + 1) a.before old.level
      (All-weaker (λ (h : Held). length h.picks ≤ a.steps) (λ (h : Held). length h.picks ≤ a.steps + 1)
      (λ h l. more h l) a.before a.short)
      (All-weaker (λ (h : Held). length h.picks ≡ a.steps) (λ (h : Held). length h.picks ≤ a.steps + 1)
      (λ h l. at_most h l) old.level a.long)
    where
      more : (h : Held) → length h.picks ≤ a.steps → length h.picks ≤ a.steps + 1
      more h l = omega arith

      at_most : (h : Held) → length h.picks ≡ a.steps → length h.picks ≤ a.steps + 1
      at_most h l = omega arith

  arrived : (cut : Option (List ℕ)) → AreLevelsTo cut (first ∷ []) a.levels old.level
      → AreJoined cut old.level new.level
      → new.is_cut ≡ is_some cut → IsFull cut (all ++ new.level) → IsAt first new after
  arrived cut are j is full = record {
    cut = cut;
    levels = a.levels ++ new.level ∷ [];
    before = all;
    steps = a.steps + 1;
    is_cut = is;
    are_levels = levels_more cut a.levels (first ∷ []) old.level new.level are j;
    all = all_more ((first ∷ []) ∷ a.levels) new.level ∙ ap (λ xs. xs ++ new.level) a.all;
    count = held_count;
    filled = record {
      rising = rise_append all new.level a.filled.rising sifted_next.rising next_later;
      few = fits held_count sifted_next.few;
      full = full;
    };
    long = next_long;
    short = all_short;
    ends = e.ends a.before a.filled.rising a.ends;
  }
    where
      fits : new.states ≡ length (all ++ new.level) → new.states ≤ MOST_STATES → length (all ++ new.level) ≤ MOST_STATES
      fits c few = omega arith

  some_held : new.is_cut ≡ true → 0 < length (all ++ new.level)
  some_held is = some held_count (sifted_next.full is)
    where
      some : new.states ≡ length (all ++ new.level) → new.states ≡ MOST_STATES → 0 < length (all ++ new.level)
      some c f = omega arith

  by_cut : (cut : Option (List ℕ)) → old.is_cut ≡ is_some cut → AreLevelsTo cut (first ∷ []) a.levels old.level
      → IsFull cut all
      → IsAt first new after
  by_cut None is are full = split new.is_cut
      (λ cut.
      let last = some_last (all ++ new.level) (some_held cut) in
      arrived (Some last.0) (levels_cut (Some last.0) a.levels (first ∷ []) old.level are)
      (joined_to old.is_cut all old.level new sifted_next last.0 last.1) cut
      (sym held_count ∙ sifted_next.full cut, last.1))
      (λ whole. arrived None are (joined_whole old.is_cut all old.level new sifted_next whole) whole tt)
  by_cut (Some last) is are full =
      let stays : (new.level ≡ []) × (new.is_cut ≡ true) = sifted_next.stays is in
      let same : last_held (all ++ new.level) ≡ Some last =
      ap (λ (xs : List Held). last_held (all ++ xs)) stays.0 ∙ ap last_held (append-nil all) ∙ full.1 in
      arrived (Some last) are (joined_to old.is_cut all old.level new sifted_next last same) stays.1
      (sym held_count ∙ sifted_next.full stays.1, same)

  next_at : IsAt first new after
  next_at = by_cut a.cut a.is_cut a.are_levels a.filled.full

  next_grown : new.states ≡ old.states + length new.level
  next_grown = grown a.count sifted_next.count
    where
      grown : old.states ≡ length all → new.states ≡ length all + length new.level
          → new.states ≡ old.states + length new.level
      grown c d = omega arith

pub goes_on : (old new : Made) (before after : List FirstEnd)
    → TakesWays (all_ways old.level) (record { level = []; states = old.states; is_cut = old.is_cut }) new
    → TakesEnds old.level before after → GoesOn old new before after
goes_on old new before after t e = record {
  at = λ first a. next_at old new before after t e first a;
  grown = λ first a. next_grown old new before after t e first a;
}

-- ---- the first state

none_ended : AreFirstEnds [] []
unfolding DoRise
none_ended = record {
  is_seen = All-nil (Contains []);
  ended = λ k d l. absurd (omega arith);
  least = λ first h c d ended same. absurd (none_contained first c);
  each = λ h c ended. absurd (none_contained h c);
  rising = tt;
}

none_kept : CoverEnds [] []
none_kept = record { firsts = []; same = refl; are = none_ended }

pub at_first : (now : Present)
    → IsAt (held_at_first now) (record { level = held_at_first now ∷ []; states = 1; is_cut = false }) []
unfolding AreLevelsTo DoRise
at_first now = record {
  cut = None;
  levels = [];
  before = [];
  steps = 0;
  is_cut = refl;
  are_levels = refl;
  all = refl;
  count = refl;
  filled = record {
    rising = (All-nil (λ (next : Held). comes_before [] next.picks ≡ true), tt);
    few = omega arith;
    full = tt;
  };
  long = All-cons (λ (h : Held). length h.picks ≡ 0) (held_at_first now) [] refl
      (All-nil (λ (h : Held). length h.picks ≡ 0));
  short = All-nil (λ (h : Held). length h.picks ≤ 0);
  ends = none_kept;
}

-- ---- the last level

module _ (first : Held) (m : Made) (ends : List FirstEnd) (none : m.level ≡ []) (a : IsAt first m ends) where
  abbrev whole : List Held
  whole = all_levels ((first ∷ []) ∷ a.levels)

  all_before : whole ≡ a.before
  all_before = a.all ∙ ap (λ (xs : List Held). a.before ++ xs) none ∙ append-nil a.before

  filled_whole : IsFilled a.cut whole
  filled_whole = subst (IsFilled a.cut) (sym a.all) a.filled

  abbrev firsts : List Held
  firsts = a.ends.firsts

  ends_whole : AreFirstEnds whole firsts
  ends_whole = subst (λ (xs : List Held). AreFirstEnds xs firsts) (sym all_before) a.ends.are

  within_cut : (cut : Option (List ℕ)) → IsFull cut whole → (h : Held) → Contains whole h → IsWithin cut h.picks
  within_cut None full h c = tt
  within_cut (Some last) full h c = within_last whole last h filled_whole.rising full.1 c

  firsts_whole : AreFirstHeld a.cut whole firsts
  firsts_whole = record {
    is_held = ends_whole.is_seen;
    ended = ends_whole.ended;
    within = All-weaker (Contains whole) (λ (h : Held). IsWithin a.cut h.picks)
        (λ h c. within_cut a.cut filled_whole.full h c) firsts ends_whole.is_seen;
    least = ends_whole.least;
    each = λ h c ended within. ends_whole.each h c ended;
    rising = ends_whole.rising;
  }

  found_last : (found : Explored) → found.rows ≡ map row_of_end ends → found.states ≡ m.states
      → found.is_cut ≡ m.is_cut → IsFound first found
  found_last found rows states is_cut = record {
    cut = a.cut;
    levels = a.levels;
    firsts = firsts;
    are_levels = levels_end a.cut a.levels (first ∷ [])
        (subst (λ (xs : List Held). AreLevelsTo a.cut (first ∷ []) a.levels xs) none a.are_levels);
    are_firsts = firsts_whole;
    filled = filled_whole;
    states = states ∙ a.count ∙ ap length (sym a.all);
    is_cut = is_cut ∙ a.is_cut;
    rows = rows ∙ ap (map row_of_end) a.ends.same ∙ same_rows firsts;
  }

-- what is found from the first state of a scenario on
pub is_found : (now : Present) (m : Made) (ends : List FirstEnd) (found : Explored) → m.level ≡ []
    → IsAt (held_at_first now) m ends
    → found.rows ≡ map row_of_end ends → found.states ≡ m.states → found.is_cut ≡ m.is_cut
    → (scenario : Scenario) → now ≡ present (begins scenario) → IsFound (held_first scenario) found
is_found now m ends found none a rows states is_cut scenario same =
    subst (λ (p : Present). IsFound (held_at_first p) found) same
    (found_last (held_at_first now) m ends none a found rows states is_cut)

-- ---- the end of the search

pub level_falls : (a b m n : ℕ) → b ≡ a + n → b ≤ MOST_STATES → 0 < m
    → (MOST_STATES - b) + min 1 n < (MOST_STATES - a) + min 1 m
level_falls a b m n e few some = omega arith

pub falls : (first : Held) (old new : Made) (before after : List FirstEnd) → IsAt first old before
    → GoesOn old new before after
    → 0 < length old.level
    → (MOST_STATES - new.states) + min 1 (length new.level) < (MOST_STATES - old.states) + min 1 (length old.level)
falls first old new before after a goes some =
    level_falls old.states new.states (length old.level) (length new.level) (goes.grown first a)
    (fits (goes.at first a).count (goes.at first a).filled.few) some
  where
    fits : {n : ℕ} → new.states ≡ n → n ≤ MOST_STATES → new.states ≤ MOST_STATES
    fits c few = omega arith
