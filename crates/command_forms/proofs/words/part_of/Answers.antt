use Rattle.std.proofs.Common.{rules}
use Rattle.command_forms.proofs.Numerals.{part_none, part_zero}
use Rattle.command_forms.proofs.words.part_of.Goals as goal

pub returns-then-eq-clause-found : goal.returns-then-eq-clause-found
returns-then-eq-clause-found c = part_zero c.args.text.now (search rules)

pub returns-else-eq-clause-none : goal.returns-else-eq-clause-none
returns-else-eq-clause-none c = part_none c.args.text.now c.number_up_to.result (search rules) c.number_up_to.ensures.none
