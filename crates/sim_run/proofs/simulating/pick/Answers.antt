use Rattle.std.proofs.Common.{◌≡◌, length, arith}
use Rattle.std.proofs.lemmas.Grind.{common_steps}
use Rattle.sim_run.proofs.AbleThreads.{ready_named}
use Rattle.sim_run.proofs.Advancing.{none_picked, pick_result}
use Rattle.sim_run.specs.Advanced.{state_at}
use Rattle.sim_run.proofs.simulating.pick.Goals as goal

pub returns-then-is_empty : goal.returns-then-is_empty
returns-then-is_empty c =
    let none' : length c.list_ready.new.ready.items ≡ 0 = grind (arith, common_steps) in
    none_picked (state_at c.args.schedule.now c.args.seats.now c.args.threads.now) c.list_ready.new.ready.items
    (ready_named c.args.seats.now c.args.threads.now c.args.able.now c.list_ready.new.ready.items c.requires.able c.in_ok-list_ready.ensures) none'

pub returns : goal.returns
returns c =
    pick_result c.choice_of.result c.args.schedule.now c.pick_position-index.new.schedule c.args.seats.now c.args.threads.now
    c.list_ready.new.ready.items c.deref.result.now c.pick_position-index.result c.index.result.now
    (ready_named c.args.seats.now c.args.threads.now c.args.able.now c.list_ready.new.ready.items c.requires.able c.in_ok-list_ready.ensures)
    c.deref.ensures.value c.pick_position-index.ensures.index c.pick_position-index.ensures.order c.pick_position-index.ensures.within c.index.ensures c.choice_of.ensures
