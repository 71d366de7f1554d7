use Rattle.nooks.proofs.guarding.judge_guarded.Goals as goal

pub returns : goal.returns
returns g c hearing begun = record { guarded = c.in_ok-guarded.ensures; run = c.in_ok-report.ensures hearing begun }
