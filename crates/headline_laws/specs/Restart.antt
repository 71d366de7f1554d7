use Rattle.std.specs.Prelude.{◌≡◌, ℕ, Bool, true, false, List, [], ◌∷◌, ◌++◌, take, drop}
use Rattle.nook_data.specs.Types.{DeviceKind, DeviceState, Event, Mode, PartSpec}
use Rattle.nook_data.specs.declared.devices.DeviceKind.TheVariants as kind
use Rattle.nook_data.specs.declared.memory_map.TheConstants.{BUFFERS_END}
use Rattle.nook_data.specs.declared.steps.Event.TheVariants as event
use Rattle.nook_data.specs.declared.steps.Mode.TheVariants as mode
use Rattle.nook_data.specs.declared.steps.Stage.TheVariants as stage
use Rattle.nook_data.specs.declared.steps.Step.TheVariants as step
use Rattle.machine_defs.specs.Devices.{medium_of, ring_of}
use Rattle.part_defs.specs.Runs.{IsRun, state_after, state_of}
use Rattle.part_defs.specs.State.{DomainState, PartState}
use Rattle.part_defs.specs.Steps.{opening}

-- What a restarted driver begins with.

-- the domain after the Load of a boot, if no frame arrived before it
abbrev pub fresh_domain : PartSpec → DomainState
fresh_domain spec = (state_after (opening spec) step.Stage).domain

-- how many commands each block of a disk had; other devices have no blocks
abbrev pub counts_of : DeviceState → List ℕ
counts_of d = elim d.kind [ (kind.Disk k) ↦ k.counts | _ ↦ [] ]

-- what of a domain a restart does not renew: the words of the kernel objects, a disk's blocks and their counts of
-- commands, and the frames in a link's ring
pub record Kept : Type 0 where
  pub objects : List ℕ
  pub medium : List (List ℕ)
  pub counts : List ℕ
  pub ring : List (List ℕ)

abbrev pub kept_of : DomainState → Kept
kept_of d = record {
  objects = drop BUFFERS_END d.memory;
  medium = medium_of d.device;
  counts = counts_of d.device;
  ring = ring_of d.device;
}

-- a device with what was kept
abbrev pub kind_with : Kept → DeviceKind → DeviceKind
kind_with kept (kind.Disk k) = kind.Disk (record k { medium = kept.medium; counts = kept.counts })
kind_with kept (kind.Link k) = kind.Link (record k { ring = kept.ring })
kind_with kept kind.Speaker = kind.Speaker

-- a domain with what was kept
abbrev pub domain_with : Kept → DomainState → DomainState
domain_with kept d = record d {
  memory = take BUFFERS_END d.memory ++ kept.objects;
  device = record d.device { kind = kind_with kept d.device.kind };
}

-- except for what is kept, the domain is that after the Load of a boot: text, data, stacks and buffers, the contexts,
-- the driver's entries, what it holds, and its device
abbrev pub IsClean : PartSpec → DomainState → Type 0
IsClean spec d = d ≡ domain_with (kept_of d) (fresh_domain spec)

-- the image is loaded
abbrev pub is_load : Event → Bool
is_load (event.Stage stage.Load answers released) = true
is_load _ = false

-- the device is reset
abbrev pub is_reset : Event → Bool
is_reset (event.Stage stage.Reset answers released) = true
is_reset _ = false

-- a recovery is between the failure and its Init
abbrev pub is_renewing : Mode → Bool
is_renewing (mode.Recovering stage.Stop) = true
is_renewing (mode.Recovering stage.Collect) = true
is_renewing (mode.Recovering stage.Reset) = true
is_renewing (mode.Recovering stage.Load) = true
is_renewing _ = false

-- the kernel objects, a disk's blocks and their counts of commands are the same
pub record Survive (before after : DomainState) : Type 0 where
  pub objects : (kept_of after).objects ≡ (kept_of before).objects
  pub medium : (kept_of after).medium ≡ (kept_of before).medium
  pub counts : (kept_of after).counts ≡ (kept_of before).counts

-- a run whose last event is the Load of a recovery
pub record IsRestart (spec : PartSpec) (journal : List Event) : Type 0 where
  pub run : IsRun spec journal
  pub front : List Event
  pub load : Event
  pub parts : journal ≡ front ++ load ∷ []
  pub is_load : is_load load ≡ true
  pub recovering : (state_of spec front).mode ≡ mode.Recovering stage.Load

-- two parts agree in all that a restart does not renew: what is kept of the domain, the configuration last
-- acknowledged, the thread that holds the stream, the open calls, the kernel's queue, and how many calls, failures,
-- bursts and arrivals there were. A call's answer, the limit, a fault and an arrival refer to these counts
pub record AreAlike (p q : PartState) : Type 0 where
  pub kept : kept_of p.domain ≡ kept_of q.domain
  pub config : p.log.config ≡ q.log.config
  pub holder : p.log.holder ≡ q.log.holder
  pub pending : p.log.pending ≡ q.log.pending
  pub queue : p.queue ≡ q.queue
  pub calls : p.log.count ≡ q.log.count
  pub failures : p.failures ≡ q.failures
  pub bursts : p.bursts ≡ q.bursts
  pub arrived : p.arrived ≡ q.arrived
