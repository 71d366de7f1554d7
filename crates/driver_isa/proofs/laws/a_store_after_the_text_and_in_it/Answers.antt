use Rattle.driver_isa.proofs.OneWord.{store_after, store_inside}
use Rattle.driver_isa.proofs.laws.a_store_after_the_text_and_in_it.Goals as goal

pub returns-clause-rest_after : goal.returns-clause-rest_after
returns-clause-rest_after c = store_after

pub returns-clause-inside : goal.returns-clause-inside
returns-clause-inside c = store_inside
