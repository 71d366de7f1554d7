use Rattle.std.specs.Prelude.{◌≡◌, Bool, List, [], ◌∷◌, ◌++◌}
use Rattle.nook_data.specs.declared.entries.Entry.{Entry}
use Rattle.nook_data.specs.declared.entries.Entry.TheVariants as entry
use Rattle.nook_data.specs.declared.steps.Event.{Event}
use Rattle.nook_data.specs.declared.steps.Event.TheVariants as event
use Rattle.nook_data.specs.declared.scenario.PartSpec.{PartSpec}
use Rattle.nook_data.specs.declared.steps.Stage.TheVariants as stage
use Rattle.part_defs.specs.Runs.{step_of, state_after}
use Rattle.part_defs.specs.State.{PartState}
use Rattle.part_defs.specs.Steps.{opening}
use Rattle.part_laws.specs.Fit.{IsOrdered}

-- Collect releases everything but the registration, and reports it in order.

-- the entries were in Collect's order; those before the registration are released, and only it is left
pub record IsCollection (before released after : List Entry) : Type 0 where
  pub in_order : IsOrdered before
  pub live : Bool
  pub reported : before ≡ released ++ entry.Registration live ∷ []
  pub left : after ≡ entry.Registration live ∷ []

abbrev pub CollectsAt : PartState → Event → PartState → Type 0
CollectsAt p (event.Stage stage.Collect answers released) q = IsCollection p.domain.entries released q.domain.entries
CollectsAt p _ q = Unit {0}

unfoldable pub CollectsFrom : PartState → List Event → Type 0
CollectsFrom p [] = Unit {0}
CollectsFrom p (e ∷ events) =
    CollectsAt p e (state_after p (step_of e)) × CollectsFrom (state_after p (step_of e)) events

-- each Collect of a journal is a collection
abbrev pub IsCollecting : PartSpec → List Event → Type 0
IsCollecting spec journal = CollectsFrom (opening spec) journal
