use Rattle.std.specs.Prelude.{ℕ, ◌+◌, ◌==◌, ◌&&◌, nat_lt, nat_le, not, if◌then◌else◌, Bool, true, false, is_some}
use Rattle.std.specs.Prelude.{is_none, Option, Some, None, List, [], length}
use Rattle.nook_data.specs.Types.{CallEntry, Mode, PartSpec, Step}
use Rattle.nook_data.specs.declared.classes.Class.TheVariants as class
use Rattle.nook_data.specs.declared.steps.Event.TheVariants as event
use Rattle.nook_data.specs.declared.steps.Mode.TheVariants as mode
use Rattle.nook_data.specs.declared.steps.Stage.TheVariants as stage
use Rattle.nook_data.specs.declared.steps.Step.TheVariants as step
use Rattle.nook_data.specs.declared.limits.TheConstants.{MOST_CALLS, MOST_FRAME_WORDS, MOST_THREADS, SHADOW}
use Rattle.part_defs.specs.Calls.{Stepped, after_invoke, after_enter}
use Rattle.nook_data.specs.Classes.{defaults_of, same_class}
use Rattle.part_defs.specs.Crossing.{Crossed, after_crossing}
use Rattle.machine_defs.specs.Devices.{has_room, with_arrival}
use Rattle.part_defs.specs.Domain.{DomainBurst, opening_domain, domain_burst, context_of}
use Rattle.part_defs.specs.Log.{opening_log, call_of_thread, is_blocked}
use Rattle.part_defs.specs.Stages.{stage_due, stage_stepped}
use Rattle.part_defs.specs.State.{PartState}
use Rattle.machine_defs.specs.BurstFaults.{faults_of_burst}

-- The steps of a part.

-- the initial part: it boots, beginning with Load
unfoldable pub opening : PartSpec → PartState
opening spec = record {
  spec = spec;
  domain = opening_domain spec;
  log = opening_log (defaults_of spec.class);
  queue = [];
  mode = mode.Boot stage.Load;
  failures = 0;
  bursts = 0;
  arrived = 0;
}

-- Which steps may be taken

-- the driver serves applications
abbrev pub is_running : Mode → Bool
is_running m = elim m [ mode.Running ↦ true | _ ↦ false ]

-- the shadow's own call is Inside
abbrev pub is_driven : PartState → Bool
is_driven p = is_some (context_of SHADOW p.domain.contexts)

-- a held call that does not conflict with an open call with a smaller number
abbrev pub is_ready : PartState → Option CallEntry → Bool
is_ready p o = elim o [ None ↦ false | Some c ↦ not c.inside && not (is_blocked p.spec.class c p.log.pending) ]

-- a call that is Inside
abbrev pub is_inside : Option CallEntry → Bool
is_inside o = elim o [ None ↦ false | Some c ↦ c.inside ]

-- a thread without an open call may invoke: one of 16 threads, up to 100,000 calls
abbrev pub can_invoke : PartState → ℕ → Bool
can_invoke p thread =
    nat_lt thread MOST_THREADS && is_none (call_of_thread thread p.log.pending) && nat_lt p.log.count MOST_CALLS

-- a thread's open call may be entered while the driver serves, if it is Held and nothing blocks it
abbrev pub can_enter : PartState → ℕ → Bool
can_enter p thread = is_running p.mode && is_ready p (call_of_thread thread p.log.pending)

-- the shadow may run if its own call is Inside, and a thread if the driver serves and its call is Inside
abbrev pub can_burst : PartState → ℕ → Bool
can_burst p context = if context == SHADOW then is_driven p
    else is_running p.mode && is_inside (call_of_thread context p.log.pending)

-- a stage is due, and the shadow has no call Inside
abbrev pub can_stage : PartState → Bool
can_stage p = is_some (stage_due p.mode) && not (is_driven p)

-- a frame of 1 to 64 words may arrive on a link, up to 100,000 of them
abbrev pub can_arrive : PartState → List ℕ → Bool
can_arrive p frame =
    same_class p.spec.class class.Net && (nat_le 1 (length frame) && nat_le (length frame) MOST_FRAME_WORDS)
    && nat_lt p.arrived MOST_CALLS

-- the step may be taken
unfoldable pub enabled : PartState → Step → Bool
enabled p (step.Invoke thread o) = can_invoke p thread
enabled p (step.Enter thread) = can_enter p thread
enabled p (step.Burst context) = can_burst p context
enabled p step.Stage = can_stage p
enabled p (step.Arrive frame) = can_arrive p frame

-- A burst of a context

-- the number of the call that a context serves; 0 for the shadow's own. A context that serves no call has no burst
abbrev pub served_number : ℕ → PartState → ℕ
served_number context p =
    if context == SHADOW then 0 else elim (call_of_thread context p.log.pending) [ None ↦ 0 | Some c ↦ c.call ]

-- a burst of a context with the faults for its number, followed by what its crossing requests, with the event of both
unfoldable pub burst_stepped : ℕ → PartState → Stepped
burst_stepped context p =
    let b : DomainBurst = domain_burst context (faults_of_burst (p.bursts + 1) p.spec.faults) p.domain in
    let ran : PartState = record p { domain = b.domain; bursts = p.bursts + 1 } in
    let c : Crossed = after_crossing context b.ending ran in record {
      state = c.state;
      event = event.Burst context (served_number context p) (p.bursts + 1) b.count c.end b.acts c.answer c.failure;
    }

-- a frame arrives: the ring takes it, or loses it if the ring is full
unfoldable pub after_arrival : List ℕ → PartState → Stepped
after_arrival frame p = record {
  state = record p {
    domain = record p.domain { device = with_arrival frame p.domain.device };
    arrived = p.arrived + 1;
  };
  event = event.Arrive frame (has_room p.domain.device);
}

-- the part after a step that may be taken, and the step's event
unfoldable pub stepped : PartState → Step → Stepped
stepped p (step.Invoke thread o) = after_invoke thread o p
stepped p (step.Enter thread) = after_enter thread p
stepped p (step.Burst context) = burst_stepped context p
stepped p step.Stage = stage_stepped p
stepped p (step.Arrive frame) = after_arrival frame p
