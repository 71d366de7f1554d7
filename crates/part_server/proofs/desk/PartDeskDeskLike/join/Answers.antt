use Rattle.std.proofs.Common.{◌∙◌, ap}
use Rattle.desk_like.specs.Desks.{Joins}
use Rattle.desk_like.specs.Stamps.{JoinsClocks}
use Rattle.part_server.specs.Desk.{desk_spec}
use Rattle.part_server.specs.Entries.{journal_view, stamps_of, TurnView}
use Rattle.part_server.specs.Turns.{SeatValue, timed_view}
use Rattle.part_server.proofs.Alone.{accounts_of}
use Rattle.part_server.proofs.Entries.{joined_one, made_is_seen_view}
use Rattle.part_server.proofs.Joining.{joined_seen, joined_views, of_views}
use Rattle.part_server.proofs.Ticking.{joined_clocked, joined_clocks}
use Rattle.part_server.proofs.desk.PartDeskDeskLike.join.Goals as goal

pub invariant_of-seat : goal.invariant_of-seat
invariant_of-seat c = (
  ap (λ (v : TurnView). v.has) c.join.ensures.view ∙ c.seat.invariant.0,
  joined_seen (desk_spec c.args.self.now) c.seat.inside.seat.me.0 c.other.inside.seat.me.0 c.join.new.seat.me.0 (joined_one c.seat.inside.seat.me.0 c.other.inside.seat.me.0 c.join.new.seat.me.0 c.join.ensures.view)
      (ap (λ (s : SeatValue). s.seat.me.0.origin) c.seat.view_is ∙ c.requires.seat.1)
      (ap (λ (s : SeatValue). s.seat.me.0.origin) c.other.view_is ∙ c.requires.other.1)
      c.join.ensures.seat.1 c.seat.invariant.1 c.other.invariant.1,
  ap (λ (v : TurnView). v.start) c.join.ensures.view ∙ c.seat.invariant.2,
  accounts_of (journal_view c.join.new.seat.me.0) (stamps_of c.join.new.seat.me.0.seen) c.raise.new.self
      (ap (λ (v : TurnView). v.start) c.join.ensures.view ∙ c.seat.invariant.2) (made_is_seen_view c.join.new.seat.me.0 c.join.ensures.made),
  joined_clocked c.seat.inside.seat.me.0 c.other.inside.seat.me.0 c.join.new.seat.me.0 c.seat.inside.clock c.other.inside.clock c.raise.new.self (joined_one c.seat.inside.seat.me.0 c.other.inside.seat.me.0 c.join.new.seat.me.0 c.join.ensures.view) c.raise.ensures
      c.seat.invariant.4 c.other.invariant.4,
)

pub returns-clause-joins : goal.returns-clause-joins
returns-clause-joins c =
    of_views (λ s o. Joins (timed_view s.seat.me.0 s.clock) (timed_view o.seat.me.0 o.clock) (timed_view c.join.new.seat.me.0 c.raise.new.self))
    c.seat.inside.seat c.seat.inside.clock c.other.inside.seat c.other.inside.clock c.args.seat.now c.args.other c.seat.view_is c.other.view_is
    (joined_views c.seat.inside.seat.me.0 c.other.inside.seat.me.0 c.join.new.seat.me.0 c.seat.inside.clock c.other.inside.clock c.raise.new.self c.join.ensures.view c.join.ensures.begins c.join.ensures.other_begins)

pub returns-clause-accounts : goal.returns-clause-accounts
returns-clause-accounts c =
    accounts_of (journal_view c.join.new.seat.me.0) (stamps_of c.join.new.seat.me.0.seen) c.raise.new.self
    (ap (λ (v : TurnView). v.start) c.join.ensures.view ∙ c.seat.invariant.2) (made_is_seen_view c.join.new.seat.me.0 c.join.ensures.made)

pub returns-clause-joins_clocks : goal.returns-clause-joins_clocks
returns-clause-joins_clocks c =
    of_views (λ s o. JoinsClocks (timed_view s.seat.me.0 s.clock) (timed_view o.seat.me.0 o.clock) (timed_view c.join.new.seat.me.0 c.raise.new.self))
    c.seat.inside.seat c.seat.inside.clock c.other.inside.seat c.other.inside.clock c.args.seat.now c.args.other c.seat.view_is c.other.view_is
    (joined_clocks c.seat.inside.seat.me.0 c.other.inside.seat.me.0 c.join.new.seat.me.0 c.seat.inside.clock c.other.inside.clock c.raise.new.self c.join.ensures.begins c.join.ensures.other_begins c.raise.ensures)
