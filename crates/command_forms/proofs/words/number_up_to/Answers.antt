use Rattle.std.proofs.Common.{rules}
use Rattle.command_forms.proofs.Numerals.{number_failed, number_found, number_none}
use Rattle.command_forms.proofs.words.number_up_to.Goals as goal

pub returns-in-Ok-clause-found : goal.returns-in-Ok-clause-found
returns-in-Ok-clause-found c = number_found _ c.args.most c.args.text.now c.parse.result c.in-Ok.number c.within.result c.parse.ensures.value.0 c.in-Ok.is (rw (← c.is_plain.ensures) c.within.ensures)

pub returns-in-Ok-clause-none : goal.returns-in-Ok-clause-none
returns-in-Ok-clause-none c = number_none _ c.args.most c.args.text.now c.parse.result c.in-Ok.number c.within.result (search rules) c.parse.ensures.value.0 c.in-Ok.is (rw (← c.is_plain.ensures) c.within.ensures)

pub returns-in-Err-clause-none : goal.returns-in-Err-clause-none
returns-in-Err-clause-none c = number_failed _ c.args.most c.args.text.now c.parse.result c.in-Err.field-0 (search rules) c.parse.ensures.value.0 c.in-Err.is
