-- Lists of states whose picks rise, and their continuations.
use Rattle.std.proofs.Common.{◌≡◌, ◌⊎◌, inl, inr, ℕ, zero, suc, ◌+◌, ◌<◌, ◌≤◌, false, true, All, Contains, Some}
use Rattle.std.proofs.Common.{List, [], ◌∷◌, ◌++◌, get_or, length, map, refl, sym, ap, ◌∙◌, subst, arith}
use Rattle.std.proofs.Common.{length-append}
use Rattle.std.proofs.lemmas.List.Elements.{All-append, All-cons, All-contains, All-contains_itself, All-head, All-map}
use Rattle.std.proofs.lemmas.List.Elements.{All-nil, All-tail, All-weaker, Contains-append_cases, Contains-append_left}
use Rattle.std.proofs.lemmas.List.Elements.{Contains-append_right}
use Rattle.explore_defs.specs.Orders.{comes_before}
use Rattle.explore_laws.proofs.Words.{before_asym, before_self}
use Rattle.explore_laws.specs.Held.{DoRise, Held, IsWayFrom, choices_in, held_after, last_held, ways_from}
use Rattle.nook_data.proofs.Options.{none_is_some, same_inside}
use Rattle.order_search.proofs.ActorsRise.{RiseFrom, all_later, choices_rise}
use Rattle.order_search.proofs.Picks.{before_actor, before_longer, before_shorter}
use Rattle.order_search.specs.Ways.{AreAfter, ComeBefore, all_ways}
use Rattle.run_defs.specs.Simulation.{Choice}

-- ---- members

pub contains_head : {X : Type 0} (x : X) (xs : List X) → Contains (x ∷ xs) x
contains_head x xs = (0, omega arith, refl)

pub contains_tail : {X : Type 0} (x y : X) (xs : List X) → Contains xs y → Contains (x ∷ xs) y
contains_tail x y xs h =
    let l : h.0 < length xs = h.1 in (suc h.0, omega arith, h.2)

pub contains_cases : {X : Type 0} (x y : X) (xs : List X) → Contains (x ∷ xs) y → (x ≡ y) ⊎ Contains xs y
contains_cases x y xs h = by_index h.0 h.1 h.2
  where
    by_index : (k : ℕ) → k < suc (length xs) → get_or (x ∷ xs) k y ≡ y → (x ≡ y) ⊎ Contains xs y
    by_index zero l e = inl e
    by_index (suc k) l e = inr (k, omega arith, e)

pub none_contained : {X : Type 0} (x : X) → Contains [] x → ⊥
none_contained x h =
    let l : h.0 < 0 = h.1 in omega arith

pub all_front : {X : Type 0} (P : X → Type 0) (xs ys : List X) → All P (xs ++ ys) → All P xs
all_front P xs ys h =
    All-weaker (Contains xs) P (λ x c. All-contains P (xs ++ ys) x h (Contains-append_left xs ys x c)) xs
    (All-contains_itself xs)

pub all_rest : {X : Type 0} (P : X → Type 0) (xs ys : List X) → All P (xs ++ ys) → All P ys
all_rest P xs ys h =
    All-weaker (Contains ys) P (λ y c. All-contains P (xs ++ ys) y h (Contains-append_right xs ys y c)) ys
    (All-contains_itself ys)

-- ---- lists that rise

-- the first comes before the second
abbrev pub IsBefore : Held → Held → Type 0
IsBefore x y = comes_before x.picks y.picks ≡ true

pub rise_front : (xs ys : List Held) → DoRise (xs ++ ys) → DoRise xs
unfolding DoRise
rise_front [] ys r = tt
rise_front (x ∷ xs) ys r = (all_front (IsBefore x) xs ys r.0, rise_front xs ys r.1)

pub rise_rest : (xs ys : List Held) → DoRise (xs ++ ys) → DoRise ys
unfolding DoRise
rise_rest [] ys r = r
rise_rest (x ∷ xs) ys r = rise_rest xs ys r.1

-- what is listed before one of them comes before it
pub rise_at : (xs ys : List Held) (y : Held) → DoRise (xs ++ y ∷ ys) → ComeBefore xs y
unfolding DoRise
rise_at [] ys y r = All-nil (λ (x : Held). IsBefore x y)
rise_at (x ∷ xs) ys y r =
    All-cons (λ (z : Held). IsBefore z y) x xs
    (All-contains (IsBefore x) (xs ++ y ∷ ys) y r.0 (Contains-append_right xs (y ∷ ys) y (contains_head y ys)))
    (rise_at xs ys y r.1)

pub rise_append : (xs ys : List Held) → DoRise xs → DoRise ys → AreAfter xs ys → DoRise (xs ++ ys)
unfolding DoRise
rise_append [] ys r s a = s
rise_append (x ∷ xs) ys r s a = (
  All-append (IsBefore x) xs ys r.0
      (All-weaker (ComeBefore (x ∷ xs)) (IsBefore x) (λ y b. All-head (λ (z : Held). IsBefore z y) x xs b) ys a),
  rise_append xs ys r.1 s
      (All-weaker (ComeBefore (x ∷ xs)) (ComeBefore xs) (λ y b. All-tail (λ (z : Held). IsBefore z y) x xs b) ys a),
)

pub rise_push : (xs : List Held) (y : Held) → DoRise xs → ComeBefore xs y → DoRise (xs ++ y ∷ [])
unfolding DoRise
rise_push xs y r b =
    rise_append xs (y ∷ []) r (All-nil (IsBefore y), tt) (All-cons (ComeBefore xs) y [] b (All-nil (ComeBefore xs)))

-- ---- the last one

-- the state with the last picks
record HasLast (xs : List Held) (last : List ℕ) : Type 0 where
  at : Held
  is_held : Contains xs at
  picks : at.picks ≡ last

last_in : (xs : List Held) (last : List ℕ) → last_held xs ≡ Some last → HasLast xs last
unfolding last_held
last_in [] last h = none_is_some h
last_in (x ∷ []) last h = record { at = x; is_held = contains_head x []; picks = same_inside h }
last_in (x ∷ y ∷ xs) last h =
    let r : HasLast (y ∷ xs) last = last_in (y ∷ xs) last h in
    record { at = r.at; is_held = contains_tail x r.at (y ∷ xs) r.is_held; picks = r.picks }

pub some_last : (xs : List Held) → 0 < length xs → (last : List ℕ) × (last_held xs ≡ Some last)
unfolding last_held
some_last [] l = absurd (omega arith)
some_last (x ∷ []) l = (x.picks, refl)
some_last (x ∷ y ∷ xs) l = some_last (y ∷ xs) (omega arith)

-- what comes after all of them is past the last one
pub past_last : (xs : List Held) (last : List ℕ) (h : Held) → last_held xs ≡ Some last → ComeBefore xs h
    → comes_before last h.picks ≡ true
past_last xs last h e b =
    let r : HasLast xs last = last_in xs last e in
    ap (λ picks. comes_before picks h.picks) (sym r.picks)
    ∙ All-contains (λ (x : Held). IsBefore x h) xs r.at b r.is_held

-- none of them is past the last one
pub within_last : (xs : List Held) (last : List ℕ) (h : Held) → DoRise xs → last_held xs ≡ Some last → Contains xs h
    → comes_before last h.picks ≡ false
unfolding DoRise last_held
within_last [] last h r e c = none_is_some e
within_last (x ∷ []) last h r e c = elim (contains_cases x h [] c) [
  | inl same ↦ ap (λ picks. comes_before picks h.picks) (sym (same_inside e) ∙ ap (λ (z : Held). z.picks) same)
      ∙ before_self h.picks
  | inr later ↦ absurd (none_contained h later)
]
within_last (x ∷ y ∷ xs) last h r e c = elim (contains_cases x h (y ∷ xs) c) [
  | inl same ↦ let m : HasLast (y ∷ xs) last = last_in (y ∷ xs) last e in
      ap (λ picks. comes_before picks h.picks) (sym m.picks)
      ∙ ap (λ (z : Held). comes_before m.at.picks z.picks) (sym same)
      ∙ before_asym x.picks m.at.picks (All-contains (IsBefore x) (y ∷ xs) m.at r.0 m.is_held)
  | inr later ↦ within_last (y ∷ xs) last h r.1 e later
]

-- ---- the continuations

ways_rise_from : (n : ℕ) (h : Held) (choices : List Choice) → RiseFrom n choices → DoRise (map (held_after h) choices)
unfolding DoRise
ways_rise_from n h [] r = tt
ways_rise_from n h (c ∷ choices) r = (
  All-map (IsBefore (held_after h c)) (held_after h) choices
      (All-weaker (λ (d : Choice). suc c.actor ≤ d.actor) (λ (d : Choice). IsBefore (held_after h c) (held_after h d))
      (λ d l. before_actor h.picks c.actor d.actor (less c.actor d.actor l)) choices
      (all_later (suc c.actor) choices r.1)),
  ways_rise_from (suc c.actor) h choices r.1,
)
  where
    less : (a b : ℕ) → suc a ≤ b → a < b
    less a b l = omega arith

-- states of this many steps
abbrev pub AreLong : ℕ → List Held → Type 0
AreLong n level = All (λ (h : Held). length h.picks ≡ n) level

one_before : (n : ℕ) (h x : Held) (c : Choice) → IsBefore h x → length h.picks ≡ n → length x.picks ≡ n
    → ComeBefore (ways_from h) (held_after x c)
one_before n h x c b l m =
    All-map (λ (z : Held). IsBefore z (held_after x c)) (held_after h) (choices_in h.now)
    (λ k d w. before_longer h.picks x.picks (get_or (choices_in h.now) k d).actor c.actor (l ∙ sym m) b)

later_ways : (n : ℕ) (h : Held) (level : List Held) → All (IsBefore h) level → length h.picks ≡ n → AreLong n level
    → AreAfter (ways_from h) (all_ways level)
later_ways n h [] b l a = All-nil (ComeBefore (ways_from h))
later_ways n h (x ∷ level) b l a =
    All-append (ComeBefore (ways_from h)) (ways_from x) (all_ways level)
    (All-map (ComeBefore (ways_from h)) (held_after x) (choices_in x.now)
    (λ k d w. one_before n h x (get_or (choices_in x.now) k d) (All-head (IsBefore h) x level b) l
    (All-head (λ (z : Held). length z.picks ≡ n) x level a)))
    (later_ways n h level (All-tail (IsBefore h) x level b) l (All-tail (λ (z : Held). length z.picks ≡ n) x level a))

pub ways_rise : (n : ℕ) (level : List Held) → DoRise level → AreLong n level → DoRise (all_ways level)
unfolding DoRise
ways_rise n [] r a = tt
ways_rise n (h ∷ level) r a =
    let more : AreLong n level = All-tail (λ (z : Held). length z.picks ≡ n) h level a in
    rise_append (ways_from h) (all_ways level) (ways_rise_from 0 h (choices_in h.now) (choices_rise h.now))
    (ways_rise n level r.1 more)
    (later_ways n h level r.0 (All-head (λ (z : Held). length z.picks ≡ n) h level a) more)

pub ways_long : (n : ℕ) (level : List Held) → AreLong n level → AreLong (n + 1) (all_ways level)
ways_long n [] a = All-nil (λ (h : Held). length h.picks ≡ n + 1)
ways_long n (h ∷ level) a =
    All-append (λ (z : Held). length z.picks ≡ n + 1) (ways_from h) (all_ways level)
    (All-map (λ (z : Held). length z.picks ≡ n + 1) (held_after h) (choices_in h.now)
    (λ k d w. length-append h.picks ((get_or (choices_in h.now) k d).actor ∷ [])
    ∙ ap (λ m. m + 1) (All-head (λ (z : Held). length z.picks ≡ n) h level a)))
    (ways_long n level (All-tail (λ (z : Held). length z.picks ≡ n) h level a))

-- longer picks come later
pub after_shorter : (n : ℕ) (helds ways : List Held) → All (λ (h : Held). length h.picks ≤ n) helds
    → AreLong (n + 1) ways
    → AreAfter helds ways
after_shorter n helds ways s a =
    All-weaker (λ (w : Held). length w.picks ≡ n + 1) (ComeBefore helds)
    (λ w l. All-weaker (λ (h : Held). length h.picks ≤ n) (λ (h : Held). IsBefore h w)
    (λ h m. before_shorter h.picks w.picks (less (length h.picks) (length w.picks) m l)) helds s) ways a
  where
    less : (x y : ℕ) → x ≤ n → y ≡ n + 1 → x < y
    less x y l e = omega arith

-- ---- members of the continuations

pub way_contained : (level : List Held) (w : Held) → Contains (all_ways level) w → IsWayFrom level w
way_contained [] w c = absurd (none_contained w c)
way_contained (h ∷ level) w c = elim (Contains-append_cases (ways_from h) (all_ways level) w c) [
  | inl here ↦ record { from = h; is_held = contains_head h level; is_way = here }
  | inr later ↦ let way : IsWayFrom level w = way_contained level w later in
      record { from = way.from; is_held = contains_tail h way.from level way.is_held; is_way = way.is_way }
]

ways_of_one : (level : List Held) (from w : Held) → Contains level from → Contains (ways_from from) w
    → Contains (all_ways level) w
ways_of_one [] from w c h = absurd (none_contained from c)
ways_of_one (x ∷ level) from w c h = elim (contains_cases x from level c) [
  | inl same ↦ Contains-append_left (ways_from x) (all_ways level) w
      (subst (λ (z : Held). Contains (ways_from z) w) (sym same) h)
  | inr later ↦ Contains-append_right (ways_from x) (all_ways level) w (ways_of_one level from w later h)
]

pub ways_contain : (level : List Held) (w : Held) → IsWayFrom level w → Contains (all_ways level) w
ways_contain level w way = ways_of_one level way.from w way.is_held way.is_way
