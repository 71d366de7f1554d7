use Rattle.std.proofs.Common.{◌≡◌, ◌&&◌, Bool, true, false, None, List, [], sym, refl, ap, ap₂, ◌∙◌}
use Rattle.nook_data.specs.declared.steps.Event.{Event}
use Rattle.nook_data.specs.declared.scenario.PartSpec.{PartSpec}
use Rattle.promise_defs.specs.Contract.{first_break}
use Rattle.promise_defs.specs.Licence.{IsLicensed, is_balanced, is_licensed}
use Rattle.promise_defs.specs.Losses.{losses}
use Rattle.part_defs.specs.Runs.{IsRun}
use Rattle.part_defs.specs.Steps.{opening}
use Rattle.part_laws.specs.Allowed.{IsAllowed, licensed as allowed}
use Rattle.part_laws.specs.Counts.{counted_losses}
use Rattle.part_laws.specs.Watch.{first_watch, watched_break}
use Rattle.part_laws.proofs.Breaks.{first_alike}
use Rattle.part_laws.proofs.Licences.{licensed_alike}
use Rattle.part_laws.proofs.Lost.{losses_alike}
use Rattle.part_laws.proofs.OrderlyRuns.{run_orderly}

-- Over a run the folds that prove the recovery theorem agree with the definitions.

pub same_break : (spec : PartSpec) (journal : List Event) → IsRun spec journal
    → first_break spec.class spec.blocks journal ≡ watched_break spec.class spec.blocks journal
same_break spec journal run = first_alike spec.class spec.blocks journal (run_orderly spec journal run)

pub same_losses : (spec : PartSpec) (journal : List Event) → IsRun spec journal → losses journal ≡ counted_losses journal
same_losses spec journal run = losses_alike journal (run_orderly spec journal run)

pub same_licence : (spec : PartSpec) (journal : List Event) → IsRun spec journal → IsAllowed spec journal → IsLicensed spec journal
unfolding is_licensed allowed
same_licence spec journal run a =
    ap₂ ◌&&◌ (licensed_alike (opening spec) [] (first_watch spec.class spec.blocks) journal tt (run_orderly spec journal run))
    (ap is_balanced (same_losses spec journal run))
    ∙ a
