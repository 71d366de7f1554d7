-- What is left of several journals.
use Rattle.std.specs.Prelude.{◌≡◌, ◌<◌, ℕ, Option, Some, None, List, [], ◌∷◌, length, slice_get, slice_index_or}
use Rattle.event_order.specs.declared.first.FirstLeft.{FirstLeft}
use Rattle.nook_data.specs.Views.Room.{Kept}
use Rattle.nook_data.specs.declared.steps.Event.{Event}

-- the events of a journal
abbrev pub events_in : Kept Event → List Event
events_in journal = journal.list

-- the first of these lists with an event is that of this part, and it has this many
pub record IsFirst (left : List (List Event)) (first : FirstLeft) : Type 0 where
  pub event : Event
  pub rest : List Event
  pub here : slice_get left first.part ≡ Some (event ∷ rest)
  pub count : first.count ≡ length (event ∷ rest)
  pub before : (part : ℕ) → part < first.part → slice_index_or left part [] ≡ []

-- this is the first list with an event, or none has one
abbrev pub IsFirstIn : List (List Event) → Option FirstLeft → Type 0
IsFirstIn left None = (part : ℕ) → slice_index_or left part [] ≡ []
IsFirstIn left (Some first) = IsFirst left first
