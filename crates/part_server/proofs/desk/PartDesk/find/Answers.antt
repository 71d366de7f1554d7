use Rattle.std.proofs.Common.{rules, ◌∙◌, false, refl}
use Rattle.part_server.specs.Desk.{desk_spec}
use Rattle.part_server.specs.Entries.{journal_view, stamps_of}
use Rattle.part_server.proofs.Seats.{find_returns}
use Rattle.part_server.proofs.Turning.{turn, turn_accounts, turn_clocked, turn_grown, turn_start, turn_taken, turn_ticks}
use Rattle.part_server.proofs.desk.PartDesk.find.Goals as goal

pub end_turn-requires-clause-grown : goal.end_turn-requires-clause-grown
end_turn-requires-clause-grown g c = turn_grown c.seat.inside.seat.me.0 c.take-dated.new.seat.me.0 c.take-dated.ensures.view refl c.find-found.ensures.dates

pub end_turn-requires-clause-stamped : goal.end_turn-requires-clause-stamped
end_turn-requires-clause-stamped g c = c.find-found.ensures.dates.ends.stamped

pub end_turn-requires-clause-home : goal.end_turn-requires-clause-home
end_turn-requires-clause-home g c = c.find-found.ensures.dates.spec ∙ c.take-dated.ensures.origin

pub returns-clause-ends : goal.returns-clause-ends
returns-clause-ends g c =
    let t = turn c.seat.inside.seat.me.0 c.take-dated.new.seat.me.0 c.end_turn.new.seat.me.0 c.take-dated.result c.take-dated.result false false c.seat.inside.clock c.find-found.new.clock
    c.take-dated.ensures.view c.take-dated.ensures.begins c.take-dated.ensures.alone refl c.find-found.ensures.dates c.end_turn.ensures.view c.end_turn.ensures.seen c.end_turn.ensures.stamps c.end_turn.ensures.made in
    find_returns (stamps_of c.args.seat.now.seat.me.0.seen) (stamps_of c.end_turn.new.seat.me.0.seen) c.args.seat.now.clock c.find-found.new.clock
    (desk_spec c.args.self.now) (journal_view c.args.seat.now.seat.me.0) (journal_view c.seat.inside.seat.me.0) (journal_view c.end_turn.new.seat.me.0) c.take-dated.result.run
    (turn_taken c.seat.view_is t (desk_spec c.args.self.now) c.take-dated.ensures.origin)
    c.find-found.ensures.kept c.args.thread c.find-found.result t.view c.find-found.ensures.gives

pub invariant_of-seat : goal.invariant_of-seat
invariant_of-seat g c =
    let t = turn c.seat.inside.seat.me.0 c.take-dated.new.seat.me.0 c.end_turn.new.seat.me.0 c.take-dated.result c.take-dated.result false false c.seat.inside.clock c.find-found.new.clock
    c.take-dated.ensures.view c.take-dated.ensures.begins c.take-dated.ensures.alone refl c.find-found.ensures.dates c.end_turn.ensures.view c.end_turn.ensures.seen c.end_turn.ensures.stamps c.end_turn.ensures.made in
    (search rules, search rules, turn_start t c.seat.invariant.2, turn_accounts t c.seat.invariant.2, turn_clocked t)

pub returns-clause-accounts : goal.returns-clause-accounts
returns-clause-accounts g c =
    turn_accounts
    (turn c.seat.inside.seat.me.0 c.take-dated.new.seat.me.0 c.end_turn.new.seat.me.0 c.take-dated.result c.take-dated.result false false c.seat.inside.clock c.find-found.new.clock
    c.take-dated.ensures.view c.take-dated.ensures.begins c.take-dated.ensures.alone refl c.find-found.ensures.dates c.end_turn.ensures.view c.end_turn.ensures.seen c.end_turn.ensures.stamps c.end_turn.ensures.made)
    c.seat.invariant.2

pub returns-clause-clocked : goal.returns-clause-clocked
returns-clause-clocked g c =
    turn_clocked
    (turn c.seat.inside.seat.me.0 c.take-dated.new.seat.me.0 c.end_turn.new.seat.me.0 c.take-dated.result c.take-dated.result false false c.seat.inside.clock c.find-found.new.clock
    c.take-dated.ensures.view c.take-dated.ensures.begins c.take-dated.ensures.alone refl c.find-found.ensures.dates c.end_turn.ensures.view c.end_turn.ensures.seen c.end_turn.ensures.stamps c.end_turn.ensures.made)

pub returns-clause-ticks : goal.returns-clause-ticks
returns-clause-ticks g c =
    turn_ticks c.seat.view_is
    (turn c.seat.inside.seat.me.0 c.take-dated.new.seat.me.0 c.end_turn.new.seat.me.0 c.take-dated.result c.take-dated.result false false c.seat.inside.clock c.find-found.new.clock
    c.take-dated.ensures.view c.take-dated.ensures.begins c.take-dated.ensures.alone refl c.find-found.ensures.dates c.end_turn.ensures.view c.end_turn.ensures.seen c.end_turn.ensures.stamps c.end_turn.ensures.made)
