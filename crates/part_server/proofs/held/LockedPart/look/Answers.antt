use Rattle.std.proofs.Common.{sym, ◌∙◌, ap}
use Rattle.part_defs.specs.Runs.{PartRun}
use Rattle.part_server.proofs.Steps.{look_answers, look_gives, look_position}
use Rattle.part_server.proofs.held.LockedPart.look.Goals as goal

pub event-requires : goal.event-requires
event-requires c =
    look_position c.args.self.now c.as_slice-events.result.now c.args.waiting.looked c.args.waiting.call c.in-Some.number
    (c.as_slice-events.ensures ∙ c.journal.ensures.journal ∙ ap (λ (r : PartRun). r.journal) c.self.view_is) (sym c.first_answer.ensures ∙ c.in-Some.is)

pub receipt-requires-clause-answers : goal.receipt-requires-clause-answers
receipt-requires-clause-answers c =
    look_answers c.args.self.now c.as_slice-events.result.now c.args.waiting.looked c.args.waiting.call c.in-Some.number
    (c.as_slice-events.ensures ∙ c.journal.ensures.journal ∙ ap (λ (r : PartRun). r.journal) c.self.view_is) (sym c.first_answer.ensures ∙ c.in-Some.is)
    c.event.result.now c.event.ensures.there

pub returns-in-Some-clause-gives : goal.returns-in-Some-clause-gives
returns-in-Some-clause-gives c =
    look_gives c.args.self.now c.as_slice-events.result.now c.args.waiting c.receipt.result c.in-Some.number c.event.result.now
    (c.as_slice-events.ensures ∙ c.journal.ensures.journal ∙ ap (λ (r : PartRun). r.journal) c.self.view_is) (sym c.first_answer.ensures ∙ c.in-Some.is)
    c.event.ensures.there c.receipt.ensures.call c.receipt.ensures.at_invoke c.receipt.ensures.at_reply c.receipt.ensures.answer
