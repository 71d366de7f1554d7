use Rattle.sim_run.proofs.FirstBreak.{all_seen_on, is_one_after, monitor_within}
use Rattle.sim_run.proofs.breaking.take_judged.Goals as goal

pub bounds-monitors-index : goal.bounds-monitors-index
bounds-monitors-index c =
    monitor_within c.args.simulation.now c.args.chosen c.part-index.result c.args.monitors.now c.requires.choice
    c.requires.seen c.part-index.ensures

pub judge_newest-requires : goal.judge_newest-requires
judge_newest-requires c =
    is_one_after c.args.simulation.now c.take.new.self c.args.chosen c.part-index.result c.args.monitors.now
    c.index-monitors-index.result c.requires.choice c.requires.seen c.in_ok-take.ensures.taken c.part-index.ensures

pub returns-clause-seen : goal.returns-clause-seen
returns-clause-seen c =
    all_seen_on c.judge_newest.result c.args.simulation.now c.take.new.self c.args.chosen c.part-index.result
    c.args.monitors.now c.judge_newest.new.monitor c.requires.choice c.requires.seen c.in_ok-take.ensures.taken
    c.part-index.ensures c.judge_newest.ensures.seen
