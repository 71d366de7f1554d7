-- The numbers of frames that a report prints are the lengths of what they count.
use Rattle.std.proofs.Common.{◌≡◌, ◌∙◌, ◌-◌, ℕ, Bool, List, [], ◌∷◌, ◌++◌, fold, length, length-append, refl, sym, ap, subst, arith}
use Rattle.machine_defs.specs.Devices.{opening_device}
use Rattle.nook_data.specs.Classes.{defaults_of, same_class}
use Rattle.nook_data.specs.declared.classes.Class.{Class}
use Rattle.nook_data.specs.declared.classes.Class.TheVariants as class
use Rattle.nook_data.specs.declared.scenario.BadBlock.{BadBlock}
use Rattle.nook_data.specs.declared.scenario.PartSpec.{PartSpec}
use Rattle.nook_data.specs.declared.steps.Event.{Event}
use Rattle.nook_data.specs.declared.steps.Mode.{Mode}
use Rattle.nook_data.specs.declared.steps.Mode.TheVariants as mode
use Rattle.nook_data.specs.declared.steps.Stage.TheVariants as stage
use Rattle.part_defs.specs.Domain.{opening_domain}
use Rattle.part_defs.specs.Runs.{state_of}
use Rattle.part_defs.specs.Steps.{opening}
use Rattle.part_laws.specs.ActsOn.{Dev, dev_of}
use Rattle.part_laws.specs.Balance.{Balance, Balanced, held_at, frame_counts}
use Rattle.part_laws.specs.Counts.{Counts, count_event, counted_losses, no_counts}
use Rattle.part_laws.specs.Orderly.{IsOrderlyFrom, flags_after}
use Rattle.part_laws.specs.Recovery.{IsKeptRun}
use Rattle.part_laws.specs.Views.{stage_of, view_of, watch_of}
use Rattle.part_laws.specs.Watch.{Watch, first_watch, sees}
use Rattle.part_laws.proofs.Breaks.{SeesAlike, event_alike}
use Rattle.part_laws.proofs.Judged.{same_break, same_losses}
use Rattle.part_laws.proofs.Known.{known_of}
use Rattle.part_laws.proofs.OrderlyRuns.{run_orderly}
use Rattle.part_laws.proofs.Picked.{AreShut}
use Rattle.part_laws.proofs.Recovered.{IsWatchedRun, recovered}
use Rattle.promise_defs.specs.Blocks.{blank_blocks}
use Rattle.promise_defs.specs.Contract.{Known, known_after, known_first}
use Rattle.run_laws.specs.Lengths.{ReportsLengths, in_hands}

watched : (spec : PartSpec) (journal : List Event) → IsKeptRun spec journal → IsWatchedRun spec journal
watched spec journal h = record
    { run = h.run; contract = sym (same_break spec journal h.run) ∙ h.contract; alive = h.alive }

-- ---- the opening part

opening_dev : (c : Class) (blocks : ℕ) (bad : List BadBlock) (defaults : List ℕ)
    → dev_of (opening_device c blocks bad defaults)
    ≡ record { linked = same_class c class.Net; medium = blank_blocks c blocks; ring = []; registers = defaults }
unfolding opening_device
opening_dev class.Block blocks bad defaults = refl
opening_dev class.Net blocks bad defaults = refl
opening_dev class.Sound blocks bad defaults = refl

opening_watch : (spec : PartSpec)
    → watch_of (view_of (opening spec)) (record { calls = []; blocks = blank_blocks spec.class spec.blocks; frames = []; handed = []; rest = [] })
    ≡ first_watch spec.class spec.blocks
unfolding opening opening_domain
opening_watch spec =
    ap (λ (d : Dev). record (first_watch spec.class spec.blocks) { medium = d.medium; ring = d.ring; registers = d.registers })
    (opening_dev spec.class spec.blocks spec.bad (defaults_of spec.class))

-- ---- what the contract knows of frames

known_alike : (flags : List Bool) (w : Watch) (events : List Event) → AreShut flags w.calls → IsOrderlyFrom flags events
    → (after : List Bool) × (fold known_after (known_of flags w) events ≡ known_of after (fold sees w events))
known_alike flags w [] s h = (flags, refl)
known_alike flags w (e ∷ events) s h =
    let alike : SeesAlike flags w e = event_alike flags w e s h.0 in
    let more = known_alike (flags_after flags e) (sees w e) events alike.shut h.1 in
    (more.0, ap (λ k. fold known_after k events) alike.known ∙ more.1)

all_but : (handed rest : List (List ℕ)) → length (handed ++ rest) - length handed ≡ length rest
all_but handed rest = omega (arith, length-append handed rest)

known_rest : (spec : PartSpec) (journal : List Event) (h : IsWatchedRun spec journal)
    → length (fold known_after (known_first spec.class spec.blocks) journal).popped
    - length (fold known_after (known_first spec.class spec.blocks) journal).handed
    ≡ length (recovered spec journal h).after.rest
known_rest spec journal h =
    let alike = known_alike [] (first_watch spec.class spec.blocks) journal tt (run_orderly spec journal h.run) in
    let past = (recovered spec journal h).after in
    ap (λ (k : Known). length k.popped - length k.handed) alike.1
    ∙ (ap (λ (w : Watch). length w.popped - length w.handed)
    (ap (λ (w : Watch). fold sees w journal) (sym (opening_watch spec)) ∙ (recovered spec journal h).seen) ∙ all_but past.handed past.rest)

-- between Reset and Load the driver has no frame
held_is : (m : Mode) (k : Known) (rest : List (List ℕ)) → length k.popped - length k.handed ≡ length rest
    → held_at (stage_of m) rest ≡ in_hands m k
held_is mode.Running k rest e = sym e
held_is (mode.Dead collected) k rest e = sym e
held_is (mode.Boot stage.Stop) k rest e = sym e
held_is (mode.Boot stage.Collect) k rest e = sym e
held_is (mode.Boot stage.Reset) k rest e = sym e
held_is (mode.Boot stage.Load) k rest e = refl
held_is (mode.Boot stage.Init) k rest e = sym e
held_is (mode.Boot (stage.ReplaySet key value)) k rest e = sym e
held_is (mode.Boot stage.ReplayOpen) k rest e = sym e
held_is (mode.Boot stage.Resume) k rest e = sym e
held_is (mode.Recovering stage.Stop) k rest e = sym e
held_is (mode.Recovering stage.Collect) k rest e = sym e
held_is (mode.Recovering stage.Reset) k rest e = sym e
held_is (mode.Recovering stage.Load) k rest e = refl
held_is (mode.Recovering stage.Init) k rest e = sym e
held_is (mode.Recovering (stage.ReplaySet key value)) k rest e = sym e
held_is (mode.Recovering stage.ReplayOpen) k rest e = sym e
held_is (mode.Recovering stage.Resume) k rest e = sym e

-- ---- the balance

opening_balance : (spec : PartSpec)
    → Balance (length (view_of (opening spec)).dev.ring) (length (view_of (opening spec)).queue) (held_at (stage_of (view_of (opening spec)).mode) []) (frame_counts no_counts)
unfolding opening opening_domain
opening_balance spec =
    subst (λ (d : Dev). Balance (length d.ring) 0 0 (frame_counts no_counts))
    (sym (opening_dev spec.class spec.blocks spec.bad (defaults_of spec.class)))
    (record { arrived = refl; kept = refl; taken = refl; driver = refl; flow = refl })

balanced : (spec : PartSpec) (journal : List Event) (h : IsWatchedRun spec journal)
    → Balanced (view_of (state_of spec journal)) (recovered spec journal h).after (fold count_event no_counts journal)
balanced spec journal h = (recovered spec journal h).counted no_counts (opening_balance spec)

reports : (spec : PartSpec) (journal : List Event) → IsWatchedRun spec journal → ReportsLengths spec journal
unfolding counted_losses
reports spec journal h =
    let n : Counts = fold count_event no_counts journal in
    let reported = same_losses spec journal h.run in
    let b = balanced spec journal h in
    record {
      queued = ap (λ l. l.queued) reported ∙ omega (arith, b.taken);
      ring = ap (λ l. l.ring) reported ∙ omega (arith, b.kept);
      driver = ap (λ l. l.driver) reported
          ∙ (omega (arith, b.driver)
          ∙ held_is (state_of spec journal).mode (fold known_after (known_first spec.class spec.blocks) journal) (recovered spec journal h).after.rest
          (known_rest spec journal h));
    }

pub reports_lengths : (spec : PartSpec) (journal : List Event) → IsKeptRun spec journal → ReportsLengths spec journal
reports_lengths spec journal h = reports spec journal (watched spec journal h)
