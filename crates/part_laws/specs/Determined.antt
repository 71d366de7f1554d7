use Rattle.std.specs.Prelude.{List, [], ◌∷◌}
use Rattle.nook_data.specs.declared.steps.Event.{Event}
use Rattle.nook_data.specs.declared.steps.Step.{Step}
use Rattle.part_defs.specs.Runs.{event_of, state_after}
use Rattle.part_defs.specs.State.{PartState}

-- What a list of steps does to a part.

-- the events that steps make, in order
unfoldable pub events_made : PartState → List Step → List Event
events_made p [] = []
events_made p (s ∷ steps) = event_of p s ∷ events_made (state_after p s) steps

-- the part that the steps lead to
unfoldable pub state_made : PartState → List Step → PartState
state_made p [] = p
state_made p (s ∷ steps) = state_made (state_after p s) steps
