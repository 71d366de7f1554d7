use Rattle.std.specs.Prelude.{◌≡◌, ◌≤◌, ◌⊎◌, ℕ, ◌+◌, Bool, true, All, Contains, List, [], ◌++◌, flat_map, length, map}
use Rattle.explore_defs.specs.Orders.{comes_before}
use Rattle.explore_defs.specs.declared.TheConstants.{MOST_STATES}
use Rattle.explore_laws.specs.Held.{DoRise, Held, IsCoveredAmong, ways_from}
use Rattle.explore_laws.specs.Present.{Present}
use Rattle.order_search.specs.Moments.{held_as}
use Rattle.order_search.specs.declared.states.HeldState.{HeldState}

-- How a level is made of the continuations of the level before it: of those with the same present the first is stored.

-- a level so far, how many states are stored in all, and whether one more would have had to be stored
pub record Made : Type 0 where
  pub level : List Held
  pub states : ℕ
  pub is_cut : Bool

-- what the states of a program represent
abbrev pub made_as : {M : Type 0} → (M → Present) → List (HeldState M) → ℕ → Bool → Made
made_as now level states is_cut = record { level = map (held_as now) level; states = states; is_cut = is_cut }

-- one of these has the present
pub record HasPresent (level : List Held) (now : Present) : Type 0 where
  pub by : Held
  pub is_held : Contains level by
  pub alike : by.now ≡ now

-- all continuations of these, in order
abbrev pub all_ways : List Held → List Held
all_ways level = flat_map ways_from level

-- the picks of all of these come before those of another
abbrev pub ComeBefore : List Held → Held → Type 0
ComeBefore helds h = All (λ (x : Held). comes_before x.picks h.picks ≡ true) helds

-- all of these come before each of those
abbrev pub AreAfter : List Held → List Held → Type 0
AreAfter helds ways = All (ComeBefore helds) ways

-- a continuation that comes after all stored states, if no more may be stored
pub record IsPast (all : List Held) (m : Made) (h : Held) : Type 0 where
  pub is_cut : m.is_cut ≡ true
  pub past : ComeBefore (all ++ m.level) h

-- a continuation that is represented by some state of the level, or is past all of them
abbrev pub IsSettled : List Held → Made → Held → Type 0
IsSettled all m h = IsCoveredAmong m.level h ⊎ IsPast all m h

-- a level made of the continuations followed so far; `all` was stored before it. A level after truncation is empty.
pub record IsSifted (was_cut : Bool) (all done : List Held) (m : Made) : Type 0 where
  pub ways : All (Contains done) m.level
  pub rising : DoRise m.level
  pub each : (h : Held) → Contains done h → IsSettled all m h
  pub count : m.states ≡ length all + length m.level
  pub few : m.states ≤ MOST_STATES
  pub full : m.is_cut ≡ true → m.states ≡ MOST_STATES
  pub stays : was_cut ≡ true → (m.level ≡ []) × (m.is_cut ≡ true)

-- a level is extended by these continuations
pub record TakesWays (ways : List Held) (old new : Made) : Type 0 where
  pub sifted : (was_cut : Bool) (all done : List Held) → DoRise (done ++ ways) → AreAfter all ways
      → IsSifted was_cut all done old → IsSifted was_cut all (done ++ ways) new
