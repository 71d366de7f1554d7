use Rattle.std.proofs.Common.{◌∙◌, sym}
use Rattle.sim_run.proofs.NextActor.{next_choice, no_choice}
use Rattle.sim_run.proofs.simulating.pick_next.Goals as goal

pub returns-in_default : goal.returns-in_default
returns-in_default c =
    no_choice c.args.schedule.now c.args.cursor c.args.seats.now c.args.threads.now c.args.able.now c.requires.able
    (sym c.next_ready.ensures ∙ c.in_default.is)

pub returns : goal.returns
returns c =
    next_choice c.choice_of.result c.args.schedule.now c.go_on_from.new.self c.args.cursor c.in-Some.actor c.args.seats.now c.args.threads.now c.args.able.now
    c.requires.round c.go_on_from.ensures c.requires.able (sym c.next_ready.ensures ∙ c.in-Some.is) c.choice_of.ensures
