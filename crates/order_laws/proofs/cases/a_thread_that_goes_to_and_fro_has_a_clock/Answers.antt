use Rattle.order_laws.proofs.Worked.{woven_one_run, woven_so}
use Rattle.order_laws.proofs.cases.a_thread_that_goes_to_and_fro_has_a_clock.Goals as goal

pub returns-clause-clock : goal.returns-clause-clock
returns-clause-clock c = woven_one_run

pub returns-clause-woven : goal.returns-clause-woven
returns-clause-woven c = woven_so
