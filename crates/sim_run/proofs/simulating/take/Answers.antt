use Rattle.std.proofs.Common.{◌∙◌, ℕ, ap, map, refl, slice_get}
use Rattle.request_taps.specs.Bus.{seen, after_hearing}
use Rattle.sim_run.proofs.AbleThreads.{able_stepped}
use Rattle.sim_run.proofs.Taking.{has_taken, is_heard, is_taken}
use Rattle.sim_run.proofs.simulating.take.Goals as goal

pub hear_all-requires-clause-able : goal.hear_all-requires-clause-able
hear_all-requires-clause-able g c =
    able_stepped (slice_get c.args.seats.now c.part-part.result) c.part-part.result c.part-part.result c.into_step.result c.newest-event.result.now
    c.args.seats.now c.take_at.new.seats c.args.threads.now c.args.able.now refl c.in_ok-take_at.ensures c.requires.able

pub returns-clause-heard : goal.returns-clause-heard
returns-clause-heard g c =
    is_heard c.hear_all.result c.args.chosen (slice_get c.args.seats.now c.args.chosen.part) c.args.seats.now c.take_at.new.seats c.newest-event.result.now
    (map (seen g.L.Listener.listening) c.args.taps.now) (map (seen g.L.Listener.listening) c.publish.new.self)
    (has_taken c.args.chosen c.args.seats.now c.take_at.new.seats c.part-part.result c.into_step.result c.index-seats-index.result c.newest-event.result.now
    c.part-part.ensures c.into_step.ensures c.in_ok-take_at.ensures c.index-seats-index.is c.newest-event.ensures)
    (c.publish.ensures
    ∙ ap (λ (n : ℕ). map (after_hearing n c.newest-event.result.now) (map (seen g.L.Listener.listening) c.args.taps.now)) c.part-part.ensures)

pub returns-clause-taken : goal.returns-clause-taken
returns-clause-taken g c =
    is_taken c.hear_all.result c.args.chosen c.part-part.result (slice_get c.args.seats.now c.args.chosen.part) c.args.seats.now c.take_at.new.seats
    c.newest-event.result.now c.args.threads.now c.hear_all.new.threads c.part-part.ensures
    (has_taken c.args.chosen c.args.seats.now c.take_at.new.seats c.part-part.result c.into_step.result c.index-seats-index.result c.newest-event.result.now
    c.part-part.ensures c.into_step.ensures c.in_ok-take_at.ensures c.index-seats-index.is c.newest-event.ensures)
    c.hear_all.ensures.threads
