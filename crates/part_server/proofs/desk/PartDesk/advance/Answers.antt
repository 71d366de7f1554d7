use Rattle.std.proofs.Common.{rules, false, refl, subst, ap, ◌∙◌}
use Rattle.std.specs.Prelude.{is_ok}
use Rattle.desk_like.specs.Desks.{HasOpen}
use Rattle.part_server.specs.declared.waiting.Waiting.{Waiting}
use Rattle.part_server.specs.Desk.{desk_spec}
use Rattle.part_server.specs.Entries.{journal_view, stamps_of}
use Rattle.part_server.specs.Turns.{GoOnGives, SeatValue}
use Rattle.part_server.proofs.Seats.{advance_ends, look_goes_on, look_returns}
use Rattle.part_server.proofs.Ticking.{then_dates}
use Rattle.part_server.proofs.Turning.{looked_within, taken_through, turn, turn_accounts, turn_clocked, turn_grown, turn_start, turn_taken, turn_ticks}
use Rattle.part_server.proofs.desk.PartDesk.advance.Goals as goal

pub look-requires-clause-looked : goal.look-requires-clause-looked
look-requires-clause-looked g c = looked_within c.take-dated.result (desk_spec c.args.self.now) c.args.waiting c.seat.view_is c.take-dated.ensures.begins c.requires.waiting

pub go_on-went_on-requires : goal.go_on-went_on-requires
go_on-went_on-requires g c =
    look_goes_on (stamps_of c.args.seat.now.seat.me.0.seen) (stamps_of c.args.seat.now.seat.me.0.seen) c.args.seat.now.clock c.args.seat.now.clock
    (desk_spec c.args.self.now) (journal_view c.args.seat.now.seat.me.0) (journal_view c.seat.inside.seat.me.0) (journal_view c.args.seat.now.seat.me.0) c.take-dated.result.run
    (taken_through c.args.seat.now c.seat.inside.seat c.take-dated.result c.seat.inside.clock c.seat.view_is c.look.ensures.dates.was c.take-dated.ensures.begins c.take-dated.ensures.alone (desk_spec c.args.self.now) c.take-dated.ensures.origin)
    c.look.ensures.kept c.args.waiting c.in-Err.waiting c.seat.invariant.1 (ap (λ (s : SeatValue). s.seat.me.0.origin) c.seat.view_is ∙ c.requires.seat.1) c.requires.waiting c.in-Err.ensures.gives

pub end_turn-requires-2-clause-grown : goal.end_turn-requires-2-clause-grown
end_turn-requires-2-clause-grown g c = turn_grown c.seat.inside.seat.me.0 c.take-dated.new.seat.me.0 c.take-dated.ensures.view c.is_ok.ensures.value (then_dates c.look.ensures.dates c.go_on-went_on.ensures.dates)

pub end_turn-requires-2-clause-stamped : goal.end_turn-requires-2-clause-stamped
end_turn-requires-2-clause-stamped g c = (then_dates c.look.ensures.dates c.go_on-went_on.ensures.dates).ends.stamped

pub end_turn-requires-2-clause-home : goal.end_turn-requires-2-clause-home
end_turn-requires-2-clause-home g c = (then_dates c.look.ensures.dates c.go_on-went_on.ensures.dates).spec ∙ c.take-dated.ensures.origin

pub returns-clause-ends : goal.returns-clause-ends
returns-clause-ends g c =
    let t = turn c.seat.inside.seat.me.0 c.take-dated.new.seat.me.0 c.end_turn-2.new.seat.me.0 c.take-dated.result c.go_on-went_on.new.self (is_ok c.go_on-went_on.result) c.is_ok.result c.seat.inside.clock c.go_on-went_on.new.clock
    c.take-dated.ensures.view c.take-dated.ensures.begins c.take-dated.ensures.alone c.is_ok.ensures.value (then_dates c.look.ensures.dates c.go_on-went_on.ensures.dates) c.end_turn-2.ensures.view c.end_turn-2.ensures.seen c.end_turn-2.ensures.stamps c.end_turn-2.ensures.made in
    advance_ends (stamps_of c.args.seat.now.seat.me.0.seen) (stamps_of c.end_turn-2.new.seat.me.0.seen) c.args.seat.now.clock c.go_on-went_on.new.clock
    (desk_spec c.args.self.now) (journal_view c.args.seat.now.seat.me.0) (journal_view c.seat.inside.seat.me.0) (journal_view c.end_turn-2.new.seat.me.0) c.take-dated.result.run c.go_on-went_on.new.self.run
    (turn_taken c.seat.view_is t (desk_spec c.args.self.now) c.take-dated.ensures.origin)
    c.go_on-went_on.ensures.kept c.args.waiting c.go_on-went_on.result t.view
    (subst (λ (x : Waiting). HasOpen c.take-dated.result.run.state x.thread x.call) c.in-Err.ensures.gives.0
    (look_goes_on (stamps_of c.args.seat.now.seat.me.0.seen) (stamps_of c.args.seat.now.seat.me.0.seen) c.args.seat.now.clock c.args.seat.now.clock
    (desk_spec c.args.self.now) (journal_view c.args.seat.now.seat.me.0) (journal_view c.seat.inside.seat.me.0) (journal_view c.args.seat.now.seat.me.0) c.take-dated.result.run
    (taken_through c.args.seat.now c.seat.inside.seat c.take-dated.result c.seat.inside.clock c.seat.view_is c.look.ensures.dates.was c.take-dated.ensures.begins c.take-dated.ensures.alone (desk_spec c.args.self.now) c.take-dated.ensures.origin)
    c.look.ensures.kept c.args.waiting c.in-Err.waiting c.seat.invariant.1 (ap (λ (s : SeatValue). s.seat.me.0.origin) c.seat.view_is ∙ c.requires.seat.1) c.requires.waiting c.in-Err.ensures.gives).0)
    (subst (λ (x : Waiting). GoOnGives c.take-dated.result.run c.go_on-went_on.new.self.run x c.go_on-went_on.result) c.in-Err.ensures.gives.0 c.go_on-went_on.ensures.gives)

pub invariant_of-seat-2 : goal.invariant_of-seat-2
invariant_of-seat-2 g c =
    let t = turn c.seat.inside.seat.me.0 c.take-dated.new.seat.me.0 c.end_turn-2.new.seat.me.0 c.take-dated.result c.go_on-went_on.new.self (is_ok c.go_on-went_on.result) c.is_ok.result c.seat.inside.clock c.go_on-went_on.new.clock
    c.take-dated.ensures.view c.take-dated.ensures.begins c.take-dated.ensures.alone c.is_ok.ensures.value (then_dates c.look.ensures.dates c.go_on-went_on.ensures.dates) c.end_turn-2.ensures.view c.end_turn-2.ensures.seen c.end_turn-2.ensures.stamps c.end_turn-2.ensures.made in
    (search rules, search rules, turn_start t c.seat.invariant.2, turn_accounts t c.seat.invariant.2, turn_clocked t)

pub returns-clause-accounts : goal.returns-clause-accounts
returns-clause-accounts g c =
    turn_accounts
    (turn c.seat.inside.seat.me.0 c.take-dated.new.seat.me.0 c.end_turn-2.new.seat.me.0 c.take-dated.result c.go_on-went_on.new.self (is_ok c.go_on-went_on.result) c.is_ok.result c.seat.inside.clock c.go_on-went_on.new.clock
    c.take-dated.ensures.view c.take-dated.ensures.begins c.take-dated.ensures.alone c.is_ok.ensures.value (then_dates c.look.ensures.dates c.go_on-went_on.ensures.dates) c.end_turn-2.ensures.view c.end_turn-2.ensures.seen c.end_turn-2.ensures.stamps c.end_turn-2.ensures.made)
    c.seat.invariant.2

pub returns-clause-clocked : goal.returns-clause-clocked
returns-clause-clocked g c =
    turn_clocked
    (turn c.seat.inside.seat.me.0 c.take-dated.new.seat.me.0 c.end_turn-2.new.seat.me.0 c.take-dated.result c.go_on-went_on.new.self (is_ok c.go_on-went_on.result) c.is_ok.result c.seat.inside.clock c.go_on-went_on.new.clock
    c.take-dated.ensures.view c.take-dated.ensures.begins c.take-dated.ensures.alone c.is_ok.ensures.value (then_dates c.look.ensures.dates c.go_on-went_on.ensures.dates) c.end_turn-2.ensures.view c.end_turn-2.ensures.seen c.end_turn-2.ensures.stamps c.end_turn-2.ensures.made)

pub returns-clause-ticks : goal.returns-clause-ticks
returns-clause-ticks g c =
    turn_ticks c.seat.view_is
    (turn c.seat.inside.seat.me.0 c.take-dated.new.seat.me.0 c.end_turn-2.new.seat.me.0 c.take-dated.result c.go_on-went_on.new.self (is_ok c.go_on-went_on.result) c.is_ok.result c.seat.inside.clock c.go_on-went_on.new.clock
    c.take-dated.ensures.view c.take-dated.ensures.begins c.take-dated.ensures.alone c.is_ok.ensures.value (then_dates c.look.ensures.dates c.go_on-went_on.ensures.dates) c.end_turn-2.ensures.view c.end_turn-2.ensures.seen c.end_turn-2.ensures.stamps c.end_turn-2.ensures.made)

pub end_turn-requires-clause-grown : goal.end_turn-requires-clause-grown
end_turn-requires-clause-grown g c = turn_grown c.seat.inside.seat.me.0 c.take-dated.new.seat.me.0 c.take-dated.ensures.view refl c.look.ensures.dates

pub end_turn-requires-clause-stamped : goal.end_turn-requires-clause-stamped
end_turn-requires-clause-stamped g c = c.look.ensures.dates.ends.stamped

pub end_turn-requires-clause-home : goal.end_turn-requires-clause-home
end_turn-requires-clause-home g c = c.look.ensures.dates.spec ∙ c.take-dated.ensures.origin

pub returns-in-Ok-clause-ends : goal.returns-in-Ok-clause-ends
returns-in-Ok-clause-ends g c =
    let t = turn c.seat.inside.seat.me.0 c.take-dated.new.seat.me.0 c.end_turn.new.seat.me.0 c.take-dated.result c.take-dated.result false false c.seat.inside.clock c.look.new.clock
    c.take-dated.ensures.view c.take-dated.ensures.begins c.take-dated.ensures.alone refl c.look.ensures.dates c.end_turn.ensures.view c.end_turn.ensures.seen c.end_turn.ensures.stamps c.end_turn.ensures.made in
    look_returns (stamps_of c.args.seat.now.seat.me.0.seen) (stamps_of c.end_turn.new.seat.me.0.seen) c.args.seat.now.clock c.look.new.clock
    (desk_spec c.args.self.now) (journal_view c.args.seat.now.seat.me.0) (journal_view c.seat.inside.seat.me.0) (journal_view c.end_turn.new.seat.me.0) c.take-dated.result.run
    (turn_taken c.seat.view_is t (desk_spec c.args.self.now) c.take-dated.ensures.origin)
    c.look.ensures.kept c.args.waiting c.in-Ok.receipt t.view c.requires.waiting c.in-Ok.ensures.gives

pub invariant_of-seat : goal.invariant_of-seat
invariant_of-seat g c =
    let t = turn c.seat.inside.seat.me.0 c.take-dated.new.seat.me.0 c.end_turn.new.seat.me.0 c.take-dated.result c.take-dated.result false false c.seat.inside.clock c.look.new.clock
    c.take-dated.ensures.view c.take-dated.ensures.begins c.take-dated.ensures.alone refl c.look.ensures.dates c.end_turn.ensures.view c.end_turn.ensures.seen c.end_turn.ensures.stamps c.end_turn.ensures.made in
    (search rules, search rules, turn_start t c.seat.invariant.2, turn_accounts t c.seat.invariant.2, turn_clocked t)

pub returns-in-Ok-clause-accounts : goal.returns-in-Ok-clause-accounts
returns-in-Ok-clause-accounts g c =
    turn_accounts
    (turn c.seat.inside.seat.me.0 c.take-dated.new.seat.me.0 c.end_turn.new.seat.me.0 c.take-dated.result c.take-dated.result false false c.seat.inside.clock c.look.new.clock
    c.take-dated.ensures.view c.take-dated.ensures.begins c.take-dated.ensures.alone refl c.look.ensures.dates c.end_turn.ensures.view c.end_turn.ensures.seen c.end_turn.ensures.stamps c.end_turn.ensures.made)
    c.seat.invariant.2

pub returns-in-Ok-clause-clocked : goal.returns-in-Ok-clause-clocked
returns-in-Ok-clause-clocked g c =
    turn_clocked
    (turn c.seat.inside.seat.me.0 c.take-dated.new.seat.me.0 c.end_turn.new.seat.me.0 c.take-dated.result c.take-dated.result false false c.seat.inside.clock c.look.new.clock
    c.take-dated.ensures.view c.take-dated.ensures.begins c.take-dated.ensures.alone refl c.look.ensures.dates c.end_turn.ensures.view c.end_turn.ensures.seen c.end_turn.ensures.stamps c.end_turn.ensures.made)

pub returns-in-Ok-clause-ticks : goal.returns-in-Ok-clause-ticks
returns-in-Ok-clause-ticks g c =
    turn_ticks c.seat.view_is
    (turn c.seat.inside.seat.me.0 c.take-dated.new.seat.me.0 c.end_turn.new.seat.me.0 c.take-dated.result c.take-dated.result false false c.seat.inside.clock c.look.new.clock
    c.take-dated.ensures.view c.take-dated.ensures.begins c.take-dated.ensures.alone refl c.look.ensures.dates c.end_turn.ensures.view c.end_turn.ensures.seen c.end_turn.ensures.stamps c.end_turn.ensures.made)
