use Rattle.run_defs.specs.Generated.{generated}
use Rattle.scenario_gen.proofs.Limits.{generated_is_valid}
use Rattle.scenario_gen.proofs.generated.generate.Goals as goal

pub returns-clause-valid : goal.returns-clause-valid
unfolding generated
returns-clause-valid c =
    rw (c.from.ensures, c.in_ok-parts.ensures, c.in_ok-threads.ensures) (generated_is_valid c.args.n c.requires)
