use Rattle.std.proofs.Common.{subst, Ok}
use Rattle.nook_data.specs.declared.calls.Op.{Op}
use Rattle.desk_like.specs.Desks.{CallEnds}
use Rattle.part_server.specs.declared.waiting.Progress.{Progress}
use Rattle.part_server.specs.Desk.{desk_spec, desk_view}
use Rattle.part_server.specs.Turns.{InvokeEnds}
use Rattle.part_server.proofs.Calls.{call_any}
use Rattle.part_server.proofs.Ticking.{ticks_more}
use Rattle.part_server.proofs.desk.PartDeskDeskLike.call.Goals as goal

pub returns-in-Open-clause-ends : goal.returns-in-Open-clause-ends
returns-in-Open-clause-ends g c =
    subst (λ (o : Op). CallEnds (desk_spec c.args.self.now) (desk_view c.args.seat.now) (desk_view c.finish.new.seat) c.args.thread o c.finish.result)
    c.in-Ok-copy.ensures
    (call_any (desk_spec c.args.self.now) (desk_view c.args.seat.now) (desk_view c.invoke.new.seat) (desk_view c.finish.new.seat) c.args.thread
    c.in-Ok-copy.op c.in-Open.waiting c.finish.result
    (subst (λ (p : Progress). InvokeEnds (desk_spec c.args.self.now) (desk_view c.args.seat.now) (desk_view c.invoke.new.seat) c.args.thread c.in-Ok-copy.op (Ok p))
    c.in-Open.is c.in_ok-receipt.ensures.ends)
    c.finish.ensures.ends)

pub returns-in-Open-clause-ticks : goal.returns-in-Open-clause-ticks
returns-in-Open-clause-ticks g c =
    ticks_more (desk_view c.args.seat.now) (desk_view c.invoke.new.seat) (desk_view c.finish.new.seat) c.invoke.ensures.ticks c.finish.ensures.ticks
