-- A turn as contracts see it, its seats, and what each seat may claim.
use Rattle.std.specs.Prelude.{◌≡◌, ℕ, ◌<◌, ◌≤◌, Bool, true, false, List, [], ◌∷◌, length, All, Contains, Option, Some}
use Rattle.std.specs.Prelude.{None}
use Rattle.atomic_table.specs.Seated.{TableId}
use Rattle.atomic_table.specs.declared.shared.Seat.{Seat}
use Rattle.shares.specs.Shares.{IsWhole}
use Rattle.turn_lock.specs.declared.view.View.{View}

-- a turn as contracts see it: its table, the origin of its value, and how many entries the value had when the turn was
-- made
pub record Lock (O : Type 0) : Type 0 where
  pub table : TableId
  pub home : O
  pub start : ℕ

-- a seat that has the turn has the turn's slot, which is empty between two calls
abbrev pub held_by : {T : Type 0} → Bool → List (ℕ × Option T)
held_by true = (0, None) ∷ []
held_by false = []

module _ {E O : Type 0} where
  -- the seat is the only one
  abbrev pub IsAlone : View E O → Type 0
  IsAlone v = IsWhole v.share

  -- what a seat made is in what it has seen, after the entries with which the turn was made; a seat that is the only
  -- one made all the later entries, itself or through the seats that were joined into it
  pub record MadeIsSeen (v : View E O) : Type 0 where
    pub within : All (λ p. (v.start < p) × (p ≤ length v.seen)) v.made
    pub all : IsAlone v → (p : ℕ) → v.start < p → p ≤ length v.seen → Contains v.made p

module _ {T E O : Type 0} where
  -- what the seat knows
  abbrev pub seat_view : Seat (Option T) (View E O) → View E O
  seat_view s = s.me.0

  -- the seat belongs to the turn, and knows the origin of the turn's value and from which length its list grew
  abbrev pub IsSeatOf : Lock O → Seat (Option T) (View E O) → Type 0
  IsSeatOf turn s = (s.table_id ≡ turn.table) × (s.me.0.origin ≡ Some turn.home) × (s.me.1 ≡ held_by s.me.0.has)
      × (s.me.0.start ≡ turn.start)
