-- The stamps of a part's events, by one clock over all parts, and what a seat knows of them.
use Rattle.std.specs.Prelude.{◌≡◌, ℕ, ◌<◌, ◌≤◌, List, [], ◌∷◌, ◌++◌, All, length, slice_index_or}
use mathlib.Core.List.{IsPrefix}
use Rattle.clocks.specs.Clocks.{last_of, latest}
use Rattle.desk_like.specs.Desks.{DeskView, IsRisingFrom}
use Rattle.nook_data.specs.declared.steps.Event.{Event}

-- ---- stamps

-- the stamp of the event with this number, from 1, in a journal; for number 0 it is 0, which is below every stamp
abbrev pub stamp_of : List ℕ → ℕ → ℕ
stamp_of stamps number = slice_index_or (0 ∷ stamps) number 0

-- the stamps of a part's events, in the order of its journal
abbrev pub stamps_on : List (List ℕ) → ℕ → List ℕ
stamps_on stamps part = slice_index_or stamps part []

-- the stamp of the event with this number in a part's journal
abbrev pub stamp_at : List (List ℕ) → ℕ → ℕ → ℕ
stamp_at stamps part number = stamp_of (stamps_on stamps part) number

-- each event of a journal has a stamp, and the stamps rise
pub record IsStamped (journal : List Event) (stamps : List ℕ) : Type 0 where
  pub count : length stamps ≡ length journal
  pub rising : IsRisingFrom 0 stamps

-- the events of a journal are stamped, and their stamps begin with these
pub record IsStampedFrom (begun : List ℕ) (journal : List Event) : Type 0 where
  pub stamps : List ℕ
  pub begins : IsPrefix begun stamps
  pub stamped : IsStamped journal stamps

-- ---- what a seat knows

-- what holds for every seat between calls: the events that it has seen are stamped, none of them later than its clock
pub record Clocked (v : DeskView) : Type 0 where
  pub stamped : IsStamped v.seen v.stamps
  pub last : last_of v.stamps ≤ v.clock

-- how a call changes a seat's clock: what was added through the seat is stamped later than the clock was
pub record Ticks (old new : DeskView) : Type 0 where
  pub stamps : IsPrefix old.stamps new.stamps
  pub clock : old.clock ≤ new.clock
  pub numbers : List ℕ
  pub made : new.made ≡ old.made ++ numbers
  pub later : All (λ number. old.clock < stamp_of new.stamps number) numbers

-- another seat was joined into a seat: its stamps begin with those of both, and its clock is the later of the two
pub record JoinsClocks (old other new : DeskView) : Type 0 where
  pub stamps : IsPrefix old.stamps new.stamps
  pub other_stamps : IsPrefix other.stamps new.stamps
  pub clock : new.clock ≡ latest old.clock other.clock

-- a seat whose clock was raised to another time
abbrev pub raised_view : DeskView → ℕ → DeskView
raised_view v clock = record v { clock = latest v.clock clock }
