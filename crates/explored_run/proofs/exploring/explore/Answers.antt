use Rattle.explored_run.proofs.Presents.{explored}
use Rattle.explored_run.proofs.exploring.explore.Goals as goal

pub returns : goal.returns
returns c = explored c.args.scenario.now c.search.result (c.search.ensures c.args.scenario.now c.in_ok-first.ensures)
