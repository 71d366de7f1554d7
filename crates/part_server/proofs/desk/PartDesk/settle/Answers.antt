use Rattle.std.proofs.Common.{rules}
use Rattle.part_server.specs.Desk.{desk_spec, desk_view}
use Rattle.part_server.proofs.Calls.{settle_any, settle_err}
use Rattle.part_server.proofs.Ticking.{ticks_more}
use Rattle.part_server.proofs.desk.PartDesk.settle.Goals as goal

pub returns-in_err-settle_once-clause-waits : goal.returns-in_err-settle_once-clause-waits
returns-in_err-settle_once-clause-waits g c =
    settle_err (desk_spec c.args.self.now) (desk_view c.args.seat.now) (desk_view c.loop.seat) (desk_view c.settle_once.new.seat) _
    c.loop.invariant.waits c.in_err-settle_once.ensures.ends

pub returns-then-not-branch-clause-waits : goal.returns-then-not-branch-clause-waits
returns-then-not-branch-clause-waits g c =
    settle_any (desk_spec c.args.self.now) (desk_view c.args.seat.now) (desk_view c.loop.seat) (desk_view c.settle_once.new.seat) c.in_ok-settle_once.field-0
    c.loop.invariant.waits c.in_ok-settle_once.ensures.ends

pub loop-preserved : goal.loop-preserved
loop-preserved g c = record {
  seat = c.settle_once.ensures.seat;
  waits = settle_any (desk_spec c.args.self.now) (desk_view c.args.seat.now) (desk_view c.loop.seat) (desk_view c.settle_once.new.seat) c.in_ok-settle_once.field-0
      c.loop.invariant.waits c.in_ok-settle_once.ensures.ends;
  ticks = ticks_more (desk_view c.args.seat.now) (desk_view c.loop.seat) (desk_view c.settle_once.new.seat) c.loop.invariant.ticks c.settle_once.ensures.ticks;
  next = search rules;
  ends = search rules;
}

pub returns-in_err-settle_once-clause-ticks : goal.returns-in_err-settle_once-clause-ticks
returns-in_err-settle_once-clause-ticks g c =
    ticks_more (desk_view c.args.seat.now) (desk_view c.loop.seat) (desk_view c.settle_once.new.seat) c.loop.invariant.ticks c.settle_once.ensures.ticks

pub returns-then-not-branch-clause-ticks : goal.returns-then-not-branch-clause-ticks
returns-then-not-branch-clause-ticks g c =
    ticks_more (desk_view c.args.seat.now) (desk_view c.loop.seat) (desk_view c.settle_once.new.seat) c.loop.invariant.ticks c.settle_once.ensures.ticks
