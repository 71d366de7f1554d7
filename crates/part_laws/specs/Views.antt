use Rattle.std.specs.Prelude.{ℕ, suc, Bool, true, false, Option, Some, None, List, [], ◌∷◌, ◌++◌, map, nat_lt}
use Rattle.nook_data.specs.declared.calls.CallEntry.{CallEntry}
use Rattle.nook_data.specs.declared.classes.Class.{Class}
use Rattle.nook_data.specs.declared.steps.Mode.{Mode}
use Rattle.nook_data.specs.declared.steps.Mode.TheVariants as mode
use Rattle.nook_data.specs.declared.calls.Op.{Op}
use Rattle.nook_data.specs.declared.steps.Stage.{Stage}
use Rattle.nook_data.specs.declared.steps.Stage.TheVariants as stage
use Rattle.part_laws.specs.Watch.{Watch, Watched}
use Rattle.promise_defs.specs.Ideal.{Ideal, Opened}
use Rattle.part_defs.specs.State.{PartState}
use Rattle.part_defs.specs.Steps.{is_driven}
use Rattle.promise_defs.specs.Trace.{Track}
use Rattle.part_laws.specs.ActsOn.{Dev, dev_of}

-- A part as recovery sees it, and what is known of its past. The two determine what the monitor knows, the state of the
-- never-failing device, and what the trace keeps of each call.

-- what the monitor and the applications can see of a part
pub record View : Type 0 where
  pub class : Class
  pub size : ℕ
  pub dev : Dev
  pub pending : List CallEntry
  pub count : ℕ
  pub config : List ℕ
  pub defaults : List ℕ
  pub holder : Option ℕ
  pub queue : List (List ℕ)
  pub mode : Mode
  pub driven : Bool

-- the view of a part
abbrev pub view_of : PartState → View
view_of p = record {
  class = p.spec.class;
  size = p.spec.blocks;
  dev = dev_of p.domain.device;
  pending = p.log.pending;
  count = p.log.count;
  config = p.log.config;
  defaults = p.log.defaults;
  holder = p.log.holder;
  queue = p.queue;
  mode = p.mode;
  driven = is_driven p;
}

-- a call: whether it is open, whether it is Inside, how often it was entered, and which of its blocks were stored
-- since it was first entered
pub record Core : Type 0 where
  pub thread : ℕ
  pub op : Op
  pub waits : Bool
  pub inside : Bool
  pub attempts : ℕ
  pub stored : List ℕ

-- a call with what its bursts did: frames sent and samples played; and, in its attempt, whether a frame was handed up
-- and which blocks failed
pub record Call : Type 0 where
  pub core : Core
  pub sent : ℕ
  pub played : ℕ
  pub handed : Bool
  pub failed : List ℕ

-- what is known in addition to the part: all calls in the order of their numbers; the plain disk's blocks; the frames
-- that are pending on the link; and of the frames popped since the last Load, those handed up and the rest
pub record Past : Type 0 where
  pub calls : List Call
  pub blocks : List (List ℕ)
  pub frames : List (List ℕ)
  pub handed : List (List ℕ)
  pub rest : List (List ℕ)

-- the part of a call that the open calls and the trace know
abbrev pub core_of : Call → Core
core_of c = c.core

-- the same of every call
abbrev pub cores : Past → List Core
cores b = map core_of b.calls

-- ---- the part's open calls

-- a call as the part's log has it, by its number
abbrev pub entry_of : ℕ → Core → CallEntry
entry_of number c =
    record { call = number; thread = c.thread; op = c.op; inside = c.inside; attempts = c.attempts }

-- a list, preceded by an entry if its call is open
abbrev pub keep_waiting : Bool → CallEntry → List CallEntry → List CallEntry
keep_waiting true e entries = e ∷ entries
keep_waiting false e entries = entries

-- the open calls of a list whose first call has this number
abbrev pub open_from : ℕ → List Core → List CallEntry
open_from number [] = []
open_from number (c ∷ cs) = keep_waiting c.waits (entry_of number c) (open_from (suc number) cs)

-- ---- the monitor

-- a call as the monitor knows it
abbrev pub as_watched : Call → Watched
as_watched c = record
    { op = c.core.op; inside = c.core.inside; sent = c.sent; played = c.played; handed = c.handed; failed = c.failed }

-- the stage of a boot or a recovery
abbrev pub stage_of : Mode → Option Stage
stage_of (mode.Boot s) = Some s
stage_of mode.Running = None
stage_of (mode.Recovering s) = Some s
stage_of (mode.Dead collected) = None

-- the key and value of a replay
abbrev pub replay_at : Option Stage → Option (ℕ × ℕ)
replay_at (Some (stage.ReplaySet key value)) = Some (key, value)
replay_at s = None

-- the key and value of the ReplaySet that is Inside
abbrev pub replay_of : Bool → Mode → Option (ℕ × ℕ)
replay_of true m = replay_at (stage_of m)
replay_of false m = None

-- what the monitor knows
abbrev pub watch_of : View → Past → Watch
watch_of v b = record {
  class = v.class;
  medium = v.dev.medium;
  ring = v.dev.ring;
  registers = v.dev.registers;
  popped = b.handed ++ b.rest;
  handed = b.handed;
  calls = map as_watched b.calls;
  replay = replay_of v.driven v.mode;
  clause = None;
}

-- ---- the never-failing device

-- a call as the device knows it
abbrev pub as_opened : Call → Opened
as_opened c = record
    { thread = c.core.thread; op = c.core.op; waits = c.core.waits; wired = nat_lt 0 c.sent; played = c.played }

-- the state of the device
abbrev pub ideal_of : View → Past → Ideal
ideal_of v b = record {
  class = v.class;
  size = v.size;
  opened = map as_opened b.calls;
  blocks = b.blocks;
  pending = b.frames;
  holder = v.holder;
  config = v.config;
}

-- ---- the trace

-- a call as the trace keeps it
abbrev pub as_track : Core → Track
as_track c = record { op = c.op; entered = nat_lt 0 c.attempts; stored = c.stored }

-- what the trace keeps of each call
abbrev pub tracks_of : Past → List Track
tracks_of b = map as_track (cores b)
