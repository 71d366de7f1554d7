-- What is claimed of each part of a run.
use Rattle.std.specs.Prelude.{◌≡◌, ◌≤◌, ℕ, ◌+◌, nat_lt, is_some, true, false, None, List, [], ◌∷◌, ◌++◌, length}
use Rattle.std.specs.List.{AllByRecursion}
use Rattle.nook_data.specs.declared.calls.Answer.{Answer}
use Rattle.nook_data.specs.declared.entries.Entry.{Entry}
use Rattle.nook_data.specs.declared.steps.Event.{Event}
use Rattle.nook_data.specs.declared.steps.Event.TheVariants as event
use Rattle.nook_data.specs.declared.scenario.PartSpec.{PartSpec}
use Rattle.nook_data.specs.declared.steps.Mode.TheVariants as mode
use Rattle.nook_data.specs.declared.steps.Stage.TheVariants as stage
use Rattle.machine_defs.specs.Devices.{medium_of}
use Rattle.promise_defs.specs.Contract.{first_break}
use Rattle.promise_defs.specs.Ideal.{Ideal, IsClassRun}
use Rattle.promise_defs.specs.Isolation.{IsIsolated}
use Rattle.promise_defs.specs.Licence.{IsLicensed}
use Rattle.part_defs.specs.Runs.{IsRun, next_recovery, state_of}
use Rattle.promise_defs.specs.Trace.{trace}
use Rattle.part_laws.specs.Bound.{carries_failure, failures_of, most_events}
use Rattle.part_laws.specs.Collection.{IsCollecting}
use Rattle.part_laws.specs.Facts.{is_dead}
use Rattle.part_laws.specs.Progress.{HasProgress}
use Rattle.part_laws.specs.Recovery.{Agrees, ShowsDevice}
use Rattle.headline_laws.specs.Durable.{IsDurable}
use Rattle.headline_laws.specs.GivenUp.{IsGivingUp, IsOfGivenUp}
use Rattle.headline_laws.specs.Recoveries.{IsShort, is_away, while_away}

-- for its applications a part is a device that never fails
pub record IsTransparent (spec : PartSpec) (journal : List Event) : Type 0 where
  -- they saw one run of the class's never-failing device, with the configuration last acknowledged: a plain disk whose
  -- blocks may be bad, a link that may lose frames, or a stream that may skip samples
  pub class_run : IsClassRun spec.class spec.blocks (trace journal)
  -- each loss and each answer Busy is licensed
  pub licensed : IsLicensed spec journal
  -- at the end record and holder are those of the never-failing device; if no Write is open, the medium is the plain
  -- disk's; in Running, with no Set Inside, the registers are the record
  pub agrees : (device : Ideal) → ShowsDevice spec journal device → Agrees (state_of spec journal) device
  -- also while Writes are open, each block of the medium holds the words last acknowledged for it, or those of an open
  -- Write that covers it
  pub durable : (device : Ideal) → ShowsDevice spec journal device
      → IsDurable (state_of spec journal).log.pending device.blocks
      (medium_of (state_of spec journal).domain.device)

-- everything that is promised of a part's journal, whatever its driver executes and in any order of the steps
pub record IsSafe (spec : PartSpec) (journal : List Event) : Type 0 where
  -- the journal is a run of the part
  pub run : IsRun spec journal
  -- no driver changed a word that it may not write, nor a kernel object that was not lent to it
  pub isolated : IsIsolated spec journal
  -- each Collect released everything that the driver held, and left only the registration
  pub collecting : IsCollecting spec journal
  -- the journal has no more events than its calls, failures and arrivals allow, so every recovery ends
  pub bounded : length journal ≤ most_events journal
  -- an event that carries a failure begins a recovery
  pub failing : (front back : List Event) (e : Event) → journal ≡ front ++ e ∷ back → carries_failure e ≡ true
      → (state_of spec (front ++ e ∷ [])).mode ≡ mode.Recovering stage.Stop
  -- after every prefix of the journal, even one that ends with a failure, the driver is back soon: until the part is
  -- Running or Dead, or fails again, it takes at most 11 stages and 192 bursts of at most 4,096 instructions each
  pub recovery : (front back : List Event) → journal ≡ front ++ back
      → IsShort (while_away (state_of spec front) back)
  -- after every prefix in which the drivers kept the class contract, and which does not end given up, the applications
  -- saw a device that never fails; the whole journal is one of its prefixes
  pub fronts : (front back : List Event) → journal ≡ front ++ back
      → first_break spec.class spec.blocks front ≡ None → is_dead (state_of spec front).mode ≡ false
      → IsTransparent spec front
  -- the event that gives the part up answers each open call Gone
  pub giving_up : (front back : List Event) (e : Event) → journal ≡ front ++ e ∷ back
      → is_dead (state_of spec front).mode ≡ false → is_dead (state_of spec (front ++ e ∷ [])).mode ≡ true
      → IsGivingUp (state_of spec front) (failures_of front) e
  -- after that each operation is answered at its invocation, Gone or as the static check says, and nothing runs
  pub given_up : (front back : List Event) → journal ≡ front ++ back → is_dead (state_of spec front).mode ≡ true
      → AllByRecursion (IsOfGivenUp spec (failures_of front)) back
  -- the medium of a part that was given up after drivers that kept the class contract: each block holds the words last
  -- acknowledged for it, or those of a Write that covers it and was answered Gone when the part was given up
  pub remains : (front back : List Event) (e : Event) → journal ≡ front ++ e ∷ back
      → first_break spec.class spec.blocks front ≡ None
      → is_dead (state_of spec front).mode ≡ false → is_dead (state_of spec (front ++ e ∷ [])).mode ≡ true
      → (device : Ideal) → ShowsDevice spec front device
      → IsDurable (state_of spec front).log.pending device.blocks
      (medium_of (state_of spec journal).domain.device)
  -- a Stop gives the part up exactly if there were more failures before it than the limit
  pub limit : (front back : List Event) (answers : List (ℕ × Answer)) (released : List Entry)
      → journal ≡ front ++ event.Stage stage.Stop answers released ∷ back
      → is_dead (state_of spec (front ++ event.Stage stage.Stop answers released ∷ [])).mode
      ≡ nat_lt spec.limit (failures_of front)
  -- there is at most one failure more than the limit, so that one is the last
  pub failures : failures_of journal ≤ spec.limit + 1
  -- after every prefix of the journal the next step, if there is one, may be taken; if there is none, no call is open
  pub progress : (front back : List Event) → journal ≡ front ++ back → HasProgress (state_of spec front)
  -- while the driver is away, there is one: the next stage, or a burst of the shadow
  pub returning : (front back : List Event) → journal ≡ front ++ back → is_away (state_of spec front).mode ≡ true
      → is_some (next_recovery (state_of spec front)) ≡ true

-- the same of each part, in order; each part has one journal
unfoldable pub AreSafe : List PartSpec → List (List Event) → Type 0
AreSafe [] [] = Unit {0}
AreSafe [] (journal ∷ journals) = ⊥
AreSafe (spec ∷ specs) [] = ⊥
AreSafe (spec ∷ specs) (journal ∷ journals) = IsSafe spec journal × AreSafe specs journals
