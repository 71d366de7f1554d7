use Rattle.std.proofs.Common.{rules, ◌∙◌}
use Rattle.std.specs.Prelude.{is_ok}
use Rattle.part_server.specs.Desk.{desk_spec}
use Rattle.part_server.specs.Entries.{journal_view, stamps_of}
use Rattle.part_server.proofs.Seats.{arrive_ends}
use Rattle.part_server.proofs.Turning.{turn, turn_accounts, turn_clocked, turn_grown, turn_start, turn_taken, turn_ticks}
use Rattle.part_server.proofs.desk.PartDesk.let_arrive.Goals as goal

pub end_turn-requires-clause-grown : goal.end_turn-requires-clause-grown
end_turn-requires-clause-grown g c = turn_grown c.seat.inside.seat.me.0 c.take-dated.new.seat.me.0 c.take-dated.ensures.view c.is_ok.ensures.value c.arrive-arrived.ensures.dates

pub end_turn-requires-clause-stamped : goal.end_turn-requires-clause-stamped
end_turn-requires-clause-stamped g c = c.arrive-arrived.ensures.dates.ends.stamped

pub end_turn-requires-clause-home : goal.end_turn-requires-clause-home
end_turn-requires-clause-home g c = c.arrive-arrived.ensures.dates.spec ∙ c.take-dated.ensures.origin

pub returns-clause-ends : goal.returns-clause-ends
returns-clause-ends g c =
    let t = turn c.seat.inside.seat.me.0 c.take-dated.new.seat.me.0 c.end_turn.new.seat.me.0 c.take-dated.result c.arrive-arrived.new.self (is_ok c.arrive-arrived.result) c.is_ok.result c.seat.inside.clock c.arrive-arrived.new.clock
    c.take-dated.ensures.view c.take-dated.ensures.begins c.take-dated.ensures.alone c.is_ok.ensures.value c.arrive-arrived.ensures.dates c.end_turn.ensures.view c.end_turn.ensures.seen c.end_turn.ensures.stamps c.end_turn.ensures.made in
    arrive_ends (stamps_of c.args.seat.now.seat.me.0.seen) (stamps_of c.end_turn.new.seat.me.0.seen) c.args.seat.now.clock c.arrive-arrived.new.clock
    (desk_spec c.args.self.now) (journal_view c.args.seat.now.seat.me.0) (journal_view c.seat.inside.seat.me.0) (journal_view c.end_turn.new.seat.me.0) c.take-dated.result.run c.arrive-arrived.new.self.run
    (turn_taken c.seat.view_is t (desk_spec c.args.self.now) c.take-dated.ensures.origin)
    c.arrive-arrived.ensures.kept c.args.frame c.arrive-arrived.result t.view c.arrive-arrived.ensures.gives

pub invariant_of-seat : goal.invariant_of-seat
invariant_of-seat g c =
    let t = turn c.seat.inside.seat.me.0 c.take-dated.new.seat.me.0 c.end_turn.new.seat.me.0 c.take-dated.result c.arrive-arrived.new.self (is_ok c.arrive-arrived.result) c.is_ok.result c.seat.inside.clock c.arrive-arrived.new.clock
    c.take-dated.ensures.view c.take-dated.ensures.begins c.take-dated.ensures.alone c.is_ok.ensures.value c.arrive-arrived.ensures.dates c.end_turn.ensures.view c.end_turn.ensures.seen c.end_turn.ensures.stamps c.end_turn.ensures.made in
    (search rules, search rules, turn_start t c.seat.invariant.2, turn_accounts t c.seat.invariant.2, turn_clocked t)

pub returns-clause-accounts : goal.returns-clause-accounts
returns-clause-accounts g c =
    turn_accounts
    (turn c.seat.inside.seat.me.0 c.take-dated.new.seat.me.0 c.end_turn.new.seat.me.0 c.take-dated.result c.arrive-arrived.new.self (is_ok c.arrive-arrived.result) c.is_ok.result c.seat.inside.clock c.arrive-arrived.new.clock
    c.take-dated.ensures.view c.take-dated.ensures.begins c.take-dated.ensures.alone c.is_ok.ensures.value c.arrive-arrived.ensures.dates c.end_turn.ensures.view c.end_turn.ensures.seen c.end_turn.ensures.stamps c.end_turn.ensures.made)
    c.seat.invariant.2

pub returns-clause-clocked : goal.returns-clause-clocked
returns-clause-clocked g c =
    turn_clocked
    (turn c.seat.inside.seat.me.0 c.take-dated.new.seat.me.0 c.end_turn.new.seat.me.0 c.take-dated.result c.arrive-arrived.new.self (is_ok c.arrive-arrived.result) c.is_ok.result c.seat.inside.clock c.arrive-arrived.new.clock
    c.take-dated.ensures.view c.take-dated.ensures.begins c.take-dated.ensures.alone c.is_ok.ensures.value c.arrive-arrived.ensures.dates c.end_turn.ensures.view c.end_turn.ensures.seen c.end_turn.ensures.stamps c.end_turn.ensures.made)

pub returns-clause-ticks : goal.returns-clause-ticks
returns-clause-ticks g c =
    turn_ticks c.seat.view_is
    (turn c.seat.inside.seat.me.0 c.take-dated.new.seat.me.0 c.end_turn.new.seat.me.0 c.take-dated.result c.arrive-arrived.new.self (is_ok c.arrive-arrived.result) c.is_ok.result c.seat.inside.clock c.arrive-arrived.new.clock
    c.take-dated.ensures.view c.take-dated.ensures.begins c.take-dated.ensures.alone c.is_ok.ensures.value c.arrive-arrived.ensures.dates c.end_turn.ensures.view c.end_turn.ensures.seen c.end_turn.ensures.stamps c.end_turn.ensures.made)
