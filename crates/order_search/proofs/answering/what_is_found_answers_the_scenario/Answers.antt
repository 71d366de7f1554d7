use Rattle.order_search.proofs.Answered.{found_answer, found_rows}
use Rattle.order_search.proofs.answering.what_is_found_answers_the_scenario.Goals as goal

pub returns : goal.returns
returns c = record { rows = found_rows; answer = found_answer }
