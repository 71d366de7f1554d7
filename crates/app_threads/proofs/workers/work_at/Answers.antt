use Rattle.std.proofs.Common.{◌<◌, [], map, length, get_or, ap}
use Rattle.std.proofs.lemmas.List.{get_or_read}
use Rattle.app_threads.proofs.Working.{arrivals_work, script_work}
use Rattle.app_threads.proofs.workers.work_at.Goals as goal

pub returns-in-Script-clause-ends : goal.returns-in-Script-clause-ends
returns-in-Script-clause-ends g c =
    rw c.in-Script.is
    (script_work (map g.D.DeskLike.spec c.args.access.now.desks.now) c.args.tasks.now.scripts.now c.args.tasks.now.arrivals.now (map g.D.DeskLike.view c.args.seats.now) (map g.D.DeskLike.view c.run_script.new.seats)
    c.in-Script.thread c.get-script.result.now c.run_script.result c.get-script.ensures c.run_script.ensures.ends c.run_script.ensures.order)

pub returns-in-Arrivals-clause-ends : goal.returns-in-Arrivals-clause-ends
returns-in-Arrivals-clause-ends g c =
    let arrivals = c.args.tasks.now.arrivals.now in
    let part = c.in-Arrivals.part in
    let frames = get_or arrivals part c.index-tasks-part.result in
    let l : part < length arrivals = rw c.in-Arrivals.is at c.requires.work in
    rw c.in-Arrivals.is
    (arrivals_work (map g.D.DeskLike.spec c.args.access.now.desks.now) c.args.tasks.now.scripts.now arrivals (map g.D.DeskLike.view c.args.seats.now) (map g.D.DeskLike.view c.run_arrivals.new.seats)
    part frames c.run_arrivals.result (get_or_read arrivals part frames l (ap (get_or arrivals part) c.index-tasks-part.is) []) c.run_arrivals.ensures.ends)
