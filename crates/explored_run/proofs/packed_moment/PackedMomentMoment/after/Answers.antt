use Rattle.std.proofs.Common.{◌<◌, length, subst, sym}
use Rattle.explore_laws.specs.Held.{choices_in}
use Rattle.explore_laws.specs.Present.{present}
use Rattle.explored_run.proofs.Presents.{after_held, index_within}
use Rattle.explored_run.proofs.packed_moment.PackedMomentMoment.after.Goals as goal
use Rattle.run_defs.specs.Simulation.{Simulation}

pub choice-requires : goal.choice-requires
choice-requires c =
    index_within c.in_ok-simulation.simulation c.args.index
    (subst (λ (s : Simulation). c.args.index < length (choices_in (present s))) (sym c.in_ok-simulation.ensures) c.requires)

pub returns : goal.returns
returns c =
    after_held c.args.self.now c.in_ok-simulation.simulation c.take_judged.new.simulation c.in_ok-chosen.chosen c.args.index
    c.held.result c.in_ok-chosen.ensures.at c.in_ok-simulation.ensures c.in_ok-take_judged.ensures.taken c.held.ensures
