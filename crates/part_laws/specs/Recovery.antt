use Rattle.std.specs.Prelude.{◌≡◌, ◌&&◌, Bool, true, false, Some, None, List, [], ◌++◌, fold, length}
use Rattle.std.specs.List.{list_any}
use Rattle.nook_data.specs.declared.calls.CallEntry.{CallEntry}
use Rattle.nook_data.specs.declared.steps.Event.{Event}
use Rattle.nook_data.specs.declared.steps.Mode.TheVariants as mode
use Rattle.nook_data.specs.declared.scenario.PartSpec.{PartSpec}
use Rattle.nook_data.specs.declared.limits.TheConstants.{CONTEXTS}
use Rattle.part_defs.specs.Calls.{Stepped}
use Rattle.nook_data.specs.Classes.{is_set, is_write}
use Rattle.promise_defs.specs.Contract.{first_break}
use Rattle.part_laws.specs.Watch.{first_watch, sees}
use Rattle.machine_defs.specs.Devices.{medium_of}
use Rattle.promise_defs.specs.Ideal.{Ideal, never_failing, ran}
use Rattle.part_laws.specs.Allowed.{licenses}
use Rattle.part_laws.specs.Counts.{Counts, count_event}
use Rattle.part_defs.specs.Runs.{IsRun, state_of}
use Rattle.part_defs.specs.State.{PartState}
use Rattle.part_defs.specs.Steps.{is_driven}
use Rattle.promise_defs.specs.Trace.{Visible, shown, trace, tracks_after}
use Rattle.part_laws.specs.Balance.{Balanced}
use Rattle.part_laws.specs.Facts.{Facts, is_dead}
use Rattle.part_laws.specs.Views.{Past, view_of, watch_of, ideal_of, tracks_of}

-- Recovery is transparent: what holds of a part that kept its class contract and was not given up.

-- a journal that is a run of a part whose driver kept the contract, and that does not end given up
pub record IsKeptRun (spec : PartSpec) (journal : List Event) : Type 0 where
  pub run : IsRun spec journal
  pub contract : first_break spec.class spec.blocks journal ≡ None
  pub alive : is_dead (state_of spec journal).mode ≡ false

-- the never-failing device is in this state after the journal's trace
abbrev pub ShowsDevice : PartSpec → List Event → Ideal → Type 0
ShowsDevice spec journal device = ran (never_failing spec.class spec.blocks) (trace journal) ≡ Some device

-- a Write
abbrev pub is_write_call : CallEntry → Bool
is_write_call c = is_write c.op

-- a Write is open
abbrev pub has_write : PartState → Bool
has_write p = list_any is_write_call p.log.pending

-- a Set that is Inside
abbrev pub is_set_inside : CallEntry → Bool
is_set_inside c = c.inside && is_set c.op

-- a Set is Inside
abbrev pub has_set_inside : PartState → Bool
has_set_inside p = list_any is_set_inside p.log.pending

-- what a part shares with the device: the record is the configuration, and the holder that of the stream; if no Write
-- is open, the medium is the plain disk's blocks; in Running, with no Set Inside, the registers are the record
pub record Agrees (p : PartState) (device : Ideal) : Type 0 where
  pub config : p.log.config ≡ device.config
  pub holder : p.log.holder ≡ device.holder
  pub medium : has_write p ≡ false → medium_of p.domain.device ≡ device.blocks
  pub registers : p.mode ≡ mode.Running → has_set_inside p ≡ false → p.domain.device.registers ≡ device.config

-- given up, and nothing runs
abbrev pub Gone : PartState → Type 0
Gone p = (is_dead p.mode ≡ true) × (is_driven p ≡ false)

-- what a step keeps: the facts, and with them what the monitor knows, what the trace keeps of the calls, the state of
-- the never-failing device, the licence of the step's answers, and the balance of frames
pub record StepKeeps (p : PartState) (b : Past) (t : Stepped) : Type 0 where
  pub after : Past
  pub facts : Facts (view_of t.state) after
  pub contexts : length t.state.domain.contexts ≡ CONTEXTS
  pub seen : sees (watch_of (view_of p) b) t.event ≡ watch_of (view_of t.state) after
  pub tracked : tracks_after t.event (tracks_of b) ≡ tracks_of after
  pub shown : (more : List Visible)
      → ran (ideal_of (view_of p) b) (shown t.event (tracks_of after) ++ more)
      ≡ ran (ideal_of (view_of t.state) after) more
  pub licensed : licenses p (watch_of (view_of t.state) after) t.event ≡ true
  pub counted : (n : Counts) → Balanced (view_of p) b n → Balanced (view_of t.state) after (count_event n t.event)

-- the facts hold after a journal, of a past that determines what the monitor knows, what the trace keeps of each call,
-- and which state the never-failing device is in
pub record HasFacts (spec : PartSpec) (journal : List Event) : Type 0 where
  pub past : Past
  pub facts : Facts (view_of (state_of spec journal)) past
  pub seen : fold sees (first_watch spec.class spec.blocks) journal ≡ watch_of (view_of (state_of spec journal)) past
  pub tracked : fold (λ ts e. tracks_after e ts) [] journal ≡ tracks_of past
  pub shown : ShowsDevice spec journal (ideal_of (view_of (state_of spec journal)) past)
