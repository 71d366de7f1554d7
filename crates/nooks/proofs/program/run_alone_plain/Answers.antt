use Rattle.std.proofs.Common.{Some}
use Rattle.nooks.proofs.Called.{words_complete, words_written}
use Rattle.nooks.proofs.Runs.{never_rose, plain_ends}
use Rattle.nooks.proofs.program.run_alone_plain.Goals as goal

pub returns : goal.returns
returns g c = rw (← c.new-source.ensures) (plain_ends _ _ c.new-source.result (Some c.run_alone.new.source) 0 0 _ c.run_alone.result
    (words_written _ _ _ _ c.run_alone.result c.run_alone.ensures.ends).0
    (words_complete _ _ _ _ c.run_alone.result c.run_alone.ensures.ends never_rose never_rose))
