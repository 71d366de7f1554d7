use Rattle.run_defs.specs.Simulation.{choices_of}
use Rattle.search_cases.proofs.still.StillMoment.choices.Goals as goal

pub returns : goal.returns
unfolding choices_of
returns c = c.new.ensures
