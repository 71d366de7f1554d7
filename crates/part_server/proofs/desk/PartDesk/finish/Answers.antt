use Rattle.std.proofs.Common.{rules, subst, Ok}
use Rattle.part_server.specs.declared.waiting.Progress.{Progress}
use Rattle.part_server.specs.Desk.{desk_spec, desk_view}
use Rattle.part_server.specs.Turns.{AdvanceEnds}
use Rattle.part_server.proofs.Calls.{finish_err, finish_more, finish_ok}
use Rattle.part_server.proofs.Ticking.{ticks_more}
use Rattle.part_server.proofs.desk.PartDesk.finish.Goals as goal

pub returns-in-Ok-Answered-clause-ends : goal.returns-in-Ok-Answered-clause-ends
returns-in-Ok-Answered-clause-ends g c =
    finish_ok (desk_spec c.args.self.now) (desk_view c.args.seat.now) (desk_view c.loop.seat) (desk_view c.advance.new.seat) c.args.waiting c.loop.waiting
    c.in-Ok-Answered.receipt c.loop.invariant.waits c.loop.invariant.same
    (subst (λ (p : Progress). AdvanceEnds (desk_spec c.args.self.now) (desk_view c.loop.seat) (desk_view c.advance.new.seat) c.loop.waiting (Ok p))
    c.in-Ok-Answered.field-0-is c.in-Ok-Answered.ensures.ends)

pub returns-in-Err-clause-ends : goal.returns-in-Err-clause-ends
returns-in-Err-clause-ends g c =
    finish_err (desk_spec c.args.self.now) (desk_view c.args.seat.now) (desk_view c.loop.seat) (desk_view c.advance.new.seat) c.args.waiting c.loop.waiting
    c.in-Err.refused c.loop.invariant.waits c.loop.invariant.same c.in-Err.ensures.ends

pub loop-preserved : goal.loop-preserved
loop-preserved g c =
    let more = finish_more (desk_spec c.args.self.now) (desk_view c.args.seat.now) (desk_view c.loop.seat) (desk_view c.advance.new.seat) c.args.waiting c.loop.waiting
    c.in-Ok-Open.next c.loop.invariant.waits c.loop.invariant.same
    (subst (λ (p : Progress). AdvanceEnds (desk_spec c.args.self.now) (desk_view c.loop.seat) (desk_view c.advance.new.seat) c.loop.waiting (Ok p))
    c.in-Ok-Open.field-0-is c.in-Ok-Open.ensures.ends) in
    record { seat = c.advance.ensures.seat; waits = more.0; ticks = ticks_more (desk_view c.args.seat.now) (desk_view c.loop.seat) (desk_view c.advance.new.seat) c.loop.invariant.ticks c.advance.ensures.ticks; same = more.1; waiting = more.2; next = search rules; ends = search rules }

pub returns-in-Ok-Answered-clause-ticks : goal.returns-in-Ok-Answered-clause-ticks
returns-in-Ok-Answered-clause-ticks g c =
    ticks_more (desk_view c.args.seat.now) (desk_view c.loop.seat) (desk_view c.advance.new.seat) c.loop.invariant.ticks c.advance.ensures.ticks

pub returns-in-Err-clause-ticks : goal.returns-in-Err-clause-ticks
returns-in-Err-clause-ticks g c =
    ticks_more (desk_view c.args.seat.now) (desk_view c.loop.seat) (desk_view c.advance.new.seat) c.loop.invariant.ticks c.advance.ensures.ticks
