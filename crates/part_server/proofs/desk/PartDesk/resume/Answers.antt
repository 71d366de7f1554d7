use Rattle.part_server.specs.Desk.{desk_spec, desk_view}
use Rattle.part_server.proofs.Calls.{resume_any}
use Rattle.part_server.proofs.Ticking.{ticks_more}
use Rattle.part_server.proofs.desk.PartDesk.resume.Goals as goal

pub returns-clause-ends : goal.returns-clause-ends
returns-clause-ends g c =
    resume_any (desk_spec c.args.self.now) (desk_view c.args.seat.now) (desk_view c.find.new.seat) (desk_view c.finish.new.seat) c.args.thread
    c.in_ok-waiting.waiting c.finish.result c.in_ok-waiting.ensures.ends c.finish.ensures.ends

pub returns-clause-ticks : goal.returns-clause-ticks
returns-clause-ticks g c =
    ticks_more (desk_view c.args.seat.now) (desk_view c.find.new.seat) (desk_view c.finish.new.seat) c.find.ensures.ticks c.finish.ensures.ticks
