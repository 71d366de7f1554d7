-- What a bus stores: for each listener what it hears and has heard, or the total of a dropped one.
use Rattle.std.specs.Prelude.{ℕ, Bool, true, false, nat_lt, List, [], ◌∷◌, map, Option, Some, None, if◌then◌else◌}
use Rattle.std.specs.Prelude.{slice_index_or}
use Rattle.nook_data.specs.declared.steps.Event.{Event}
use Rattle.nook_io.specs.Listening.{Listening, heard}
use Rattle.request_taps.specs.declared.tap.Tap.{Tap}
use Rattle.request_taps.specs.declared.tap.Tap.TheVariants as tap

-- a tap with its listener's masks, limit and total, if it is attached
abbrev pub seen : {L : Type 0} → (L → Listening) → Tap L → Tap Listening
seen listening (tap.Present l) = tap.Present (listening l)
seen listening (tap.Dropped total) = tap.Dropped total

-- a listener at its limit is dropped, and its total is stored
abbrev pub settled : Listening → Tap Listening
settled l = if nat_lt l.total l.limit then tap.Present l else tap.Dropped l.total

abbrev pub settled_tap : Tap Listening → Tap Listening
settled_tap (tap.Present l) = settled l
settled_tap (tap.Dropped total) = tap.Dropped total

-- a listener at its limit hears nothing more
abbrev pub heard_below : ℕ → Event → Listening → Listening
heard_below part event l = if nat_lt l.total l.limit then heard part event l else l

-- a tap after an event: an attached listener hears it, and is dropped if its total reaches its limit
abbrev pub after_hearing : ℕ → Event → Tap Listening → Tap Listening
after_hearing part event (tap.Present l) = settled (heard_below part event l)
after_hearing part event (tap.Dropped total) = tap.Dropped total

-- a tap's total
abbrev pub total_of : Tap Listening → ℕ
total_of (tap.Present l) = l.total
total_of (tap.Dropped total) = total

-- whether a tap's listener is attached
abbrev pub is_present : {L : Type 0} → Tap L → Bool
is_present (tap.Present l) = true
is_present (tap.Dropped total) = false

-- the total, and whether the listener is still attached
abbrev pub result_of : Tap Listening → ℕ × Bool
result_of t = (total_of t, is_present t)

-- the answer of a detach: the total of an attached listener
abbrev pub detach_answer : Tap Listening → Option ℕ
detach_answer (tap.Present l) = Some l.total
detach_answer (tap.Dropped total) = None

-- a tap without its listener
abbrev pub detached : Tap Listening → Tap Listening
detached t = tap.Dropped (total_of t)

-- the tap with an index
abbrev pub tap_at : ℕ → List (Tap Listening) → Tap Listening
tap_at i taps = slice_index_or taps i (tap.Dropped 0)

-- taps after events, each of a part
unfoldable pub after_hearing_all : List (ℕ × Event) → List (Tap Listening) → List (Tap Listening)
after_hearing_all [] taps = taps
after_hearing_all (e ∷ published) taps = after_hearing_all published (map (after_hearing e.0 e.1) taps)
