use Rattle.std.proofs.Common.{sym, ◌∙◌}
use Rattle.part_core.proofs.Replies.{failed_blocks, taken_reply}
use Rattle.part_core.proofs.state.State.reply_to_call.Goals as goal

pub returns-in-Take : goal.returns-in-Take
returns-in-Take c = taken_reply c.args.self.now c.take_answer-answer.new.self c.close.new.self c.args.context c.args.status c.in-Some.entry.now
    c.take_answer-answer.result c.answered.result (rw (← c.self.view_is) (sym c.in-Some.ensures.call)) (sym c.accept.ensures ∙ c.in-Take.is)
    c.take_answer-answer.ensures.answer c.take_answer-answer.ensures.state c.close.ensures
    c.answered.ensures.end c.answered.ensures.answer c.answered.ensures.failure

pub returns-in-IoError : goal.returns-in-IoError
returns-in-IoError c = failed_blocks c.args.self.now c.close-in-IoError.new.self c.args.context c.args.status c.in-IoError.block c.in-Some.entry.now
    c.answered-in-IoError.result (rw (← c.self.view_is) (sym c.in-Some.ensures.call)) (sym c.accept.ensures ∙ c.in-IoError.is)
    c.close-in-IoError.ensures c.answered-in-IoError.ensures.end c.answered-in-IoError.ensures.answer c.answered-in-IoError.ensures.failure
