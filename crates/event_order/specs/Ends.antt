-- What is left of several journals if events are taken as long as one may be taken.
use Rattle.std.specs.Prelude.{ℕ, Option, List}
use Rattle.event_order.specs.Lefts.{IsFirstIn}
use Rattle.event_order.specs.declared.first.FirstLeft.{FirstLeft}
use Rattle.nook_data.specs.declared.scenario.ThreadSpec.{ThreadSpec}
use Rattle.nook_data.specs.declared.steps.Event.{Event}
use Rattle.order_defs.specs.Taking.{IsStuck, Leads, Taking, opening_taking}

-- events are taken until none may be taken, and this is the first part with events left then
pub record IsLeftOver (threads : List ThreadSpec) (journals : List (List Event)) (first : Option FirstLeft) : Type 0 where
  pub order : List ℕ
  pub end : Taking
  pub leads : Leads (opening_taking threads journals) order end
  pub stuck : IsStuck end
  pub is_first : IsFirstIn end.left first
