use Rattle.std.proofs.Common.{◌≡◌, Bool, true, false, None, List, sym, refl, ap, ◌∙◌}
use Rattle.nook_data.specs.declared.steps.Event.{Event}
use Rattle.nook_data.specs.declared.scenario.PartSpec.{PartSpec}
use Rattle.promise_defs.specs.Ideal.{Ideal, IsClassRun}
use Rattle.promise_defs.specs.Licence.{IsLicensed}
use Rattle.part_defs.specs.Runs.{state_of}
use Rattle.promise_defs.specs.Trace.{trace}
use Rattle.part_laws.specs.Recovery.{Agrees, HasFacts, IsKeptRun, ShowsDevice}
use Rattle.part_laws.proofs.Judged.{same_break, same_licence}
use Rattle.part_laws.proofs.Recovered.{IsWatchedRun, agrees, has_facts, losses_licensed, sees_one_run}

-- The recovery theorem by the contract as it is read: over runs the fold has the same first break as the contract.

watched : (spec : PartSpec) (journal : List Event) → IsKeptRun spec journal → IsWatchedRun spec journal
watched spec journal h = record
    { run = h.run; contract = sym (same_break spec journal h.run) ∙ h.contract; alive = h.alive }

pub kept_shows_one_run : (spec : PartSpec) (journal : List Event) → IsKeptRun spec journal → IsClassRun spec.class spec.blocks (trace journal)
kept_shows_one_run spec journal h = sees_one_run spec journal (watched spec journal h)

pub kept_agrees : (spec : PartSpec) (journal : List Event) (device : Ideal) → IsKeptRun spec journal → ShowsDevice spec journal device
    → Agrees (state_of spec journal) device
kept_agrees spec journal device h s = agrees spec journal device (watched spec journal h) s

pub kept_licensed : (spec : PartSpec) (journal : List Event) → IsKeptRun spec journal → IsLicensed spec journal
kept_licensed spec journal h = same_licence spec journal h.run (losses_licensed spec journal (watched spec journal h))

pub kept_facts : (spec : PartSpec) (journal : List Event) → IsKeptRun spec journal → HasFacts spec journal
kept_facts spec journal h = has_facts spec journal (watched spec journal h)
