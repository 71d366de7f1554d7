use Rattle.run_defs.specs.Schedules.{round}
use Rattle.sim_run.proofs.Branching.{at_chosen, chosen_is, none_chosen, open_chosen}
use Rattle.sim_run.proofs.simulating.branching.choice_among.Goals as goal
use Rattle.sim_run.specs.Advanced.{state_at}

pub unreachable-requires : goal.unreachable-requires
unreachable-requires c =
    none_chosen (state_at (round 0) c.args.seats.now c.args.threads.now) c.args.index c.in_ok-chosen.field-0
    (chosen_is c.args.seats.now c.args.threads.now c.args.ready.now c.args.index c.in_ok-chosen.field-0
    c.requires.ready c.requires.index c.in_ok-chosen.ensures) c.in-None.is

pub returns-clause-at : goal.returns-clause-at
returns-clause-at c =
    at_chosen (state_at (round 0) c.args.seats.now c.args.threads.now) c.args.index c.in_ok-chosen.field-0 c.in-Some.chosen
    (chosen_is c.args.seats.now c.args.threads.now c.args.ready.now c.args.index c.in_ok-chosen.field-0
    c.requires.ready c.requires.index c.in_ok-chosen.ensures) c.in-Some.is

pub returns-clause-open : goal.returns-clause-open
returns-clause-open c =
    open_chosen (state_at (round 0) c.args.seats.now c.args.threads.now) c.args.index c.in_ok-chosen.field-0 c.in-Some.chosen
    (chosen_is c.args.seats.now c.args.threads.now c.args.ready.now c.args.index c.in_ok-chosen.field-0
    c.requires.ready c.requires.index c.in_ok-chosen.ensures) c.in-Some.is
