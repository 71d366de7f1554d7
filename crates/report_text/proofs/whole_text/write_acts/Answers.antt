use Rattle.std.proofs.Common.{◌+◌, drop}
use Rattle.std.proofs.lemmas.Result.{err_from_is_err_and}
use Rattle.report_text.proofs.WroteLemmas.{next_text, no_text, progress_halt, progress_last, spill_step, spill_stop}
use Rattle.report_text.specs.Whole.{event_text}
use Rattle.report_text.specs.Writing.{each_text}
use Rattle.report_text.proofs.whole_text.write_acts.Goals as goal

pub returns-in_err-spill : goal.returns-in_err-spill
returns-in_err-spill g c =
    let q = err_from_is_err_and c.from_residual-in_err-spill.result c.from_residual-in_err-spill.ensures.1 in
    let next = next_text (event_text c.args.kind) c.args.events.now c.loop-event.event-index c.loop-event.event-index c.event-item.result c.loop-event-test.true c.event-item.is in
    let lines = event_text c.args.kind c.loop-event.event-index c.event-item.result in
    let rest = each_text (event_text c.args.kind) (c.loop-event.event-index + 1) (drop (c.loop-event.event-index + 1) c.args.events.now) in
    rw (q.1, q.2) (spill_stop c.loop-event.buffer lines rest (rw next at c.loop-event.invariant) c.in_ok-push_acts.ensures c.in_err-spill.ensures)

pub loop-event-preserved : goal.loop-event-preserved
loop-event-preserved g c =
    let next = next_text (event_text c.args.kind) c.args.events.now c.loop-event.event-index c.loop-event.event-index c.event-item.result c.loop-event-test.true c.event-item.is in
    spill_step _ _ _ (rw next at c.loop-event.invariant) c.in_ok-push_acts.ensures c.in_ok-spill.ensures

pub returns-in_err-push_acts : goal.returns-in_err-push_acts
returns-in_err-push_acts g c =
    let q = err_from_is_err_and c.from_residual.result c.from_residual.ensures.1 in
    rw (q.1, q.2) (progress_halt c.loop-event.invariant (λ e. cc))

pub returns : goal.returns
returns g c =
    progress_last c.loop-event.invariant
    (no_text (event_text c.args.kind) c.args.events.now c.loop-event.event-index c.loop-event.event-index c.loop-event-test.false) c.write_text.ensures
