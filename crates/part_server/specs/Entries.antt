-- A part's events with their stamps: the entries of a desk's turn.
use Rattle.std.specs.Prelude.{ℕ, List, [], ◌∷◌}
use Rattle.nook_data.specs.declared.steps.Event.{Event}
use Rattle.nook_data.specs.declared.scenario.PartSpec.{PartSpec}
use Rattle.part_defs.specs.Runs.{PartRun}
use Rattle.turn_lock.specs.declared.view.View.{View}
use Rattle.part_server.specs.declared.stamped.Stamped.{Stamped}

-- a part with the stamps of its events
pub record DatedRun : Type 0 where
  pub run : PartRun
  pub stamps : List ℕ

-- each event with its stamp
abbrev pub entries : List Event → List ℕ → List Stamped
entries [] stamps = []
entries (event ∷ events) [] = []
entries (event ∷ events) (stamp ∷ stamps) = record { event = event; stamp = stamp } ∷ entries events stamps

abbrev pub events_of : List Stamped → List Event
events_of [] = []
events_of (entry ∷ entries) = entry.event ∷ events_of entries

abbrev pub stamps_of : List Stamped → List ℕ
stamps_of [] = []
stamps_of (entry ∷ entries) = entry.stamp ∷ stamps_of entries

-- what a seat of the turn knows
abbrev pub TurnView : Type 0
TurnView = View Stamped PartSpec

-- what a seat of the turn knows, without the stamps
abbrev pub journal_view : TurnView → View Event PartSpec
journal_view v = record {
  origin = v.origin;
  seen = events_of v.seen;
  pending = events_of v.pending;
  made = v.made;
  start = v.start;
  share = v.share;
  has = v.has;
  taken = events_of v.taken;
}
