-- The outcome that the program decides on, compared with the rule's.
use Rattle.std.specs.Prelude.{◌≡◌}
use Rattle.mirror_block.specs.declared.outcome.Outcome as decided
use Rattle.mirror_block.specs.Rule as rule

-- the same sides stay, with the same answer
pub record Decides (d : decided.Outcome) (o : rule.Outcome) : Type 0 where
  pub left : d.left ≡ o.present.left
  pub right : d.right ≡ o.present.right
  pub answer : d.answer ≡ o.answer
