-- The rule of a turn, and what a seat learns from each step that it takes.
-- The word is twice the number of entries, plus one while the turn is out. The slot has the value while the turn is in.
use Rattle.std.specs.Prelude.{◌≡◌, ◌≢◌, ℕ, ◌+◌, ◌*◌, ◌/◌, ◌^◌, ◌<◌, ◌≤◌, Bool, true, false, List, [], ◌∷◌, length, All}
use Rattle.std.specs.Prelude.{Contains, Option, Some, None}
use mathlib.Core.List.{IsPrefix}
use mathlib.Core.Option.{some}
use lib.ListN.{get_elem?}
use Rattle.atomic_table.specs.Table.{State, Step, Me, rest}
use Rattle.shares.specs.Shares.{owns}
use Rattle.turn_lock.specs.declared.view.View.{View}
use Rattle.turn_lock.specs.Seats.{IsAlone, MadeIsSeen}
use Rattle.turn_lock.specs.Views.{took, committed, gave, learnt, spent}

abbrev pub bit : Bool → ℕ
bit true = 1
bit false = 0

-- the entries of the value in a slot
abbrev pub list_of : {T E : Type 0} → (T → List E) → Option T → List E
list_of list (Some x) = list x
list_of list None = []

-- the entries of the value in the first of a seat's slots
abbrev pub carried_list : {T E : Type 0} → (T → List E) → List (ℕ × Option T) → List E
carried_list list [] = []
carried_list list (x ∷ xs) = list_of list x.1

module _ {E O : Type 0} where
  -- what holds for the view v of the seat with the number j: `all` has all entries, `start` of them were there when the
  -- turn was made, and `holder` has the turn if it is out
  pub record Fits (all : List E) (home : O) (start : ℕ) (out : Bool) (holder j : ℕ) (v : View E O) : Type 0 where
    pub seen : IsPrefix v.seen all
    pub pending : IsPrefix v.pending v.seen
    pub made : All (λ p. (start < p) × (p ≤ length v.seen)) v.made
    pub origin : (o : O) → v.origin ≡ Some o → o ≡ home
    pub begins : (o : O) → v.origin ≡ Some o → (v.start ≡ start) × (start ≤ length v.seen)
    pub owner : (o : O) → v.origin ≡ Some o → (point : ℕ → Bool) × (owns v.share point ≡ true)
    pub gone : v.origin ≡ None → v ≡ spent
    pub turn : v.has ≡ true → (j ≡ holder) × (out ≡ true) × (v.taken ≡ all)

  -- what holds for the views of two seats: their shares have no point in common, and no entry was made through both
  pub record Apart (v w : View E O) : Type 0 where
    pub share : (point : ℕ → Bool) → owns v.share point ≡ true → owns w.share point ≡ true → ⊥
    pub made : (p : ℕ) → Contains v.made p → Contains w.made p → ⊥

  pub record AreViews (all : List E) (home : O) (start : ℕ) (out : Bool) (holder : ℕ)
      (views : List (View E O)) : Type 0 where
    pub fits : (j : ℕ) (v : View E O) → get_elem? views j ≡ some v → Fits all home start out holder j v
    pub apart : (i j : ℕ) (v w : View E O) → i ≢ j → get_elem? views i ≡ some v → get_elem? views j ≡ some w → Apart v w

  -- some seat made the entry with this number
  abbrev pub IsMade : List (View E O) → ℕ → Type 0
  IsMade views p = (j : ℕ) × (v : View E O) × (get_elem? views j ≡ some v) × Contains v.made p

  -- each entry that was not there when the turn was made was committed through some seat
  abbrev pub AreMade : ℕ → ℕ → List (View E O) → Type 0
  AreMade start last views = (p : ℕ) → start < p → p ≤ last → IsMade views p

module _ {T E O : Type 0} (list : T → List E) (origin : T → O) where
  pub record IsTurn (home : O) (start : ℕ) (s : State (Option T) (View E O)) : Type 0 where
    pub all : List E
    pub out : Bool
    pub holder : ℕ
    pub word : s.words ≡ (2 * length all + bit out) ∷ []
    pub short : length all < 2 ^ 62
    pub slots : 0 < length s.homes
    pub slot : out ≡ false → (x : T) × (get_elem? s.homes 0 ≡ some (some (Some x))) × (list x ≡ all) × (origin x ≡ home)
    pub held : out ≡ true → (v : View E O) × (get_elem? s.views holder ≡ some v) × (v.has ≡ true)
    pub views : AreViews all home start out holder s.views
    pub made : AreMade start (length all) s.views

  abbrev M : Type 0
  M = Me (Option T) (View E O)

  -- the seat m took the turn with some value, and became m'
  pub record Wins (m m' : M) : Type 0 where
    pub value : T
    pub slot : m'.1 ≡ (0, Some value) ∷ []
    pub view : m'.0 ≡ took m.0 (list value)
    pub begins : IsPrefix m.0.seen (list value)
    pub home : (o : O) → m.0.origin ≡ Some o → origin value ≡ o
    pub alone : IsAlone m.0 → list value ≡ m.0.seen
    pub short : length (list value) < 2 ^ 62
    pub made_is_seen : MadeIsSeen m'.0

  abbrev pub Takes : Step (Option T) → M → ℕ → M → Type 0
  Takes st m found m' = (found ≡ st.first → Wins m m') × (found ≢ st.first → m' ≡ m)

module _ {T E O : Type 0} where
  abbrev pub Commits : (T → List E) → Step (Option T) → Me (Option T) (View E O) → ℕ → Me (Option T) (View E O) → Type 0
  Commits list st m found m' = m' ≡ (committed m.0 (carried_list list m.1), m.1)

  abbrev pub Gives : Step (Option T) → Me (Option T) (View E O) → ℕ → Me (Option T) (View E O) → Type 0
  Gives st m found m' = (m' ≡ (gave m.0, rest m.1)) × MadeIsSeen m'.0

  abbrev pub Learns : Step (Option T) → Me (Option T) (View E O) → ℕ → Me (Option T) (View E O) → Type 0
  Learns st m found m' = (m' ≡ (learnt m.0, m.1)) × IsPrefix m.0.pending m.0.seen × MadeIsSeen m'.0

  -- half the word is the number of entries
  pub record Looks (st : Step (Option T)) (m : Me (Option T) (View E O)) (found : ℕ)
      (m' : Me (Option T) (View E O)) : Type 0 where
    pub same : m' ≡ m
    pub seen : length m.0.seen ≤ found / 2
    pub taken : m.0.has ≡ true → found / 2 ≡ length m.0.taken
    pub alone : IsAlone m.0 → found / 2 ≡ length m.0.seen
    pub made_is_seen : MadeIsSeen m'.0
