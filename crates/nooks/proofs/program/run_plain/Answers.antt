use Rattle.std.proofs.Common.{Some}
use Rattle.nooks.proofs.Runs.{never_rose, plain_ends}
use Rattle.nooks.proofs.program.run_plain.Goals as goal

pub returns : goal.returns
returns g c = rw (← c.new-source.ensures) (plain_ends _ _ c.new-source.result (Some c.run.new.source) 0 0 _ c.run.result c.run.ensures.written.0
    (c.run.ensures.complete never_rose never_rose))
