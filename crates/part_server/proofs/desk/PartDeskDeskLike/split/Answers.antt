use Rattle.std.proofs.Common.{rules, ap, ◌∙◌}
use Rattle.part_server.specs.Entries.{TurnView}
use Rattle.part_server.proofs.Alone.{halved_accounts, newcomer_accounts}
use Rattle.part_server.proofs.desk.PartDeskDeskLike.split.Goals as goal

pub invariant_of-seat : goal.invariant_of-seat
invariant_of-seat c = (
  search rules,
  search rules,
  ap (λ (v : TurnView). v.start) c.split-other.ensures.view ∙ c.seat.invariant.2,
  halved_accounts c.seat.inside.seat.me.0 c.split-other.new.seat.me.0 c.seat.inside.clock c.seat.inside.clock c.split-other.ensures.view c.seat.invariant.3,
  search rules,
)

pub invariant_of-result : goal.invariant_of-result
invariant_of-result c = (
  search rules,
  search rules,
  ap (λ (v : TurnView). v.start) c.split-other.ensures.other_view ∙ c.seat.invariant.2,
  newcomer_accounts c.seat.inside.seat.me.0 c.split-other.result.me.0 c.copy.result c.split-other.ensures.other_view,
  search rules,
)

pub returns-clause-accounts : goal.returns-clause-accounts
returns-clause-accounts c =
    halved_accounts c.seat.inside.seat.me.0 c.split-other.new.seat.me.0 c.seat.inside.clock c.seat.inside.clock c.split-other.ensures.view c.seat.invariant.3
