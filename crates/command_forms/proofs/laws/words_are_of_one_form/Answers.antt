use Rattle.command_forms.proofs.OneForm.{one_form}
use Rattle.command_forms.proofs.laws.words_are_of_one_form.Goals as goal

pub returns : goal.returns
returns c = one_form
