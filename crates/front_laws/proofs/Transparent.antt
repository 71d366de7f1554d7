-- What the headline says of a guarded part, and of each prefix of a journal.
use Rattle.std.proofs.Common.{◌≡◌, false, None, List, [], ◌++◌, refl, sym, ap, ◌∙◌, append-nil}
use Rattle.nook_data.specs.Valid.{IsValidPart}
use Rattle.nook_data.specs.declared.scenario.PartSpec.{PartSpec}
use Rattle.nook_data.specs.declared.steps.Event.{Event}
use Rattle.guard_defs.specs.Guard.{HasRoom, IsGuardedRun, traps_of, with_after}
use Rattle.headline_laws.proofs.Safe.{run_safe}
use Rattle.headline_laws.specs.Headline.{IsTransparent}
use Rattle.part_defs.specs.Runs.{IsRun, state_of}
use Rattle.part_defs.specs.State.{PartState}
use Rattle.part_laws.proofs.ValidFits.{valid_fits}
use Rattle.part_laws.specs.Facts.{is_dead}
use Rattle.promise_defs.specs.Contract.{first_break}
use Rattle.front_laws.specs.Guarded.{IsGuardedWell, guarded_at}
use Rattle.front_laws.proofs.GuardRun.{guarded_well}
use Rattle.front_laws.proofs.ValidGuarded.{valid_part}

pub front_transparent : (spec : PartSpec) (front back : List Event) → IsValidPart spec → IsRun spec (front ++ back)
    → first_break spec.class spec.blocks front ≡ None → is_dead (state_of spec front).mode ≡ false → IsTransparent spec front
front_transparent spec front back valid run kept alive =
    (run_safe spec (front ++ back) valid run).fronts front back refl kept alive

pub guarded_transparent : (spec : PartSpec) (journal : List Event) → IsValidPart spec → HasRoom spec → IsGuardedRun spec journal
    → is_dead (guarded_at spec journal).mode ≡ false → IsTransparent (with_after (traps_of spec journal) spec) journal
guarded_transparent spec journal valid room run alive =
    let well : IsGuardedWell spec journal = guarded_well spec journal (valid_fits spec valid) run in
    (run_safe (with_after (traps_of spec journal) spec) journal (valid_part spec journal valid room run) well.run).fronts
    journal [] (sym (append-nil journal)) well.kept (ap (λ (p : PartState). is_dead p.mode) well.state ∙ alive)
