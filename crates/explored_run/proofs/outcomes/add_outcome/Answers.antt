use Rattle.std.proofs.Common.{◌++◌, ◌∷◌, [], ap, ◌∙◌}
use Rattle.std.proofs.lemmas.Result.{on_ok_weaker}
use Rattle.explored_run.proofs.outcomes.add_outcome.Goals as goal
use Rattle.explore_defs.specs.declared.outcome.PartOutcome.{PartOutcome}

pub returns-in-Ok : goal.returns-in-Ok
returns-in-Ok c =
    on_ok_weaker c.push.result
    (λ e. e ∙ ap (λ (o : PartOutcome). c.args.made.now ++ o ∷ []) c.in-Ok.ensures) c.push.ensures.ok
