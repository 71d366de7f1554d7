use Rattle.std.specs.Prelude.{◌≡◌, ℕ, ◌≤◌, if◌then◌else◌, Bool, true, false, List, [], ◌∷◌, count_by, length}
use Rattle.std.specs.List.{AllByRecursion}
use Rattle.nook_data.specs.Types.{Event, Mode}
use Rattle.nook_data.specs.declared.limits.TheConstants.{SHADOW}
use Rattle.nook_data.specs.declared.steps.Event.TheVariants as event
use Rattle.nook_data.specs.declared.steps.Mode.TheVariants as mode
use Rattle.machine_defs.specs.Burst.{Burst}
use Rattle.part_defs.specs.Runs.{state_after, step_of}
use Rattle.part_defs.specs.State.{PartState}
use Rattle.part_laws.specs.Bound.{carries_failure, is_burst}

-- How long applications wait at most for their driver to return.

-- the driver is away: it boots, or the part recovers
abbrev pub is_away : Mode → Bool
is_away (mode.Boot s) = true
is_away mode.Running = false
is_away (mode.Recovering s) = true
is_away (mode.Dead collected) = false

-- the events while the driver is away: up to the one after which the part is Running or Dead, or up to the next
-- failure, inclusive
unfoldable pub while_away : PartState → List Event → List Event
while_away p [] = []
while_away p (e ∷ events) = if is_away p.mode
    then e ∷ (if carries_failure e then [] else while_away (state_after p (step_of e)) events)
    else []

-- a stage of a boot or of a recovery is done or begun
abbrev pub is_stage : Event → Bool
is_stage (event.Stage s answers released) = true
is_stage _ = false

-- the machine instructions of an event's burst
abbrev pub turns_of : Event → ℕ
turns_of (event.Burst context call burst count e acts answer failure) = count
turns_of _ = 0

-- an event while the driver is away: no call enters, and the driver runs only for the shadow
abbrev pub IsShadows : Event → Type 0
IsShadows (event.Enter call thread attempt answer) = ⊥
IsShadows (event.Burst context call burst count e acts answer failure) = context ≡ SHADOW
IsShadows _ = Unit {0}

-- at most Stop, Collect, Reset, Load, Init, four replays of a key, that of the stream, and Resume; six of these call
-- the driver, with at most 32 bursts of at most 4,096 instructions each
pub record IsShort (events : List Event) : Type 0 where
  pub stages : count_by is_stage events ≤ 11
  pub bursts : count_by is_burst events ≤ 192
  pub turns : AllByRecursion (λ e. turns_of e ≤ 4096) events
  pub shadows : AllByRecursion IsShadows events

-- a burst of the machine has at most 4,096 instructions and at most 64 acts
pub record IsBounded (b : Burst) : Type 0 where
  pub turns : b.count ≤ 4096
  pub acts : length b.acts ≤ 64
