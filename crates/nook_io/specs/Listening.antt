use Rattle.std.specs.Prelude.{ℕ, ◌+◌, ◌^◌, ◌&&◌, nat_le, nat_lt, min, bit_and, List, [], ◌∷◌, length, Bool, true, false}
use Rattle.std.specs.Prelude.{is_some, if◌then◌else◌}
use Rattle.nook_data.specs.Types.{Event}
use Rattle.nook_data.specs.declared.steps.Event.TheVariants as events

-- which parts and kinds of event a listener hears, the total at which it is done, and its total so far
pub record Listening : Type 0 where
  pub part_mask : ℕ
  pub kind_mask : ℕ
  pub limit : ℕ
  pub total : ℕ

-- the kinds of an event as bits: 0 Invoke, 1 Enter, 2 Burst, 3 Stage, 4 Arrive, 5 a failure, 6 an answer
abbrev pub kinds_of : Event → ℕ
kinds_of (events.Invoke call thread op answer) = 1 + (if is_some answer then 64 else 0)
kinds_of (events.Enter call thread attempt answer) = 2 + (if is_some answer then 64 else 0)
kinds_of (events.Burst context call burst count end acts answer failure) =
    4 + (if is_some failure then 32 else 0) + (if is_some answer then 64 else 0)
kinds_of (events.Stage stage answers released) = 8 + (if nat_lt 0 (length answers) then 64 else 0)
kinds_of (events.Arrive frame kept) = 16

-- whether a listener hears an event of part 0 to 7: its masks have the part's bit and a bit of the event's kinds
abbrev pub hears : Listening → ℕ → Event → Bool
hears l part event =
    nat_lt part 8 && nat_lt 0 (bit_and l.part_mask (2 ^ part)) && nat_lt 0 (bit_and l.kind_mask (kinds_of event))

-- a count, plus one if the test holds
abbrev pub count_if : Bool → ℕ → ℕ
count_if true n = n + 1
count_if false n = n

-- a listener after an event: its total rises by one exactly if it hears the event
abbrev pub heard : ℕ → Event → Listening → Listening
heard part event l = record l { total = count_if (hears l part event) l.total }

-- how many of the published events, each with its part, the listener hears
unfoldable pub heard_events : Listening → List (ℕ × Event) → ℕ
heard_events l [] = 0
heard_events l (e ∷ published) = count_if (hears l e.0 e.1) (heard_events l published)

-- the total: it rises up to the limit, or keeps its first value if that has already reached the limit
abbrev pub tap_total : Listening → List (ℕ × Event) → ℕ
tap_total l published = if nat_le l.limit l.total then l.total else min l.limit (l.total + heard_events l published)

-- the total, and whether the listener stays attached: its total is below its limit
abbrev pub tap_result : Listening → List (ℕ × Event) → ℕ × Bool
tap_result l published = (tap_total l published, nat_lt (tap_total l published) l.limit)
