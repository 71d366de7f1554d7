use Rattle.std.proofs.Common.{◌≡◌, ◌<◌, ◌≤◌, length, map, get_or, sym, ap, ◌∙◌, arith}
use Rattle.journal_audit.specs.Sections.{state_in}
use Rattle.journal_audit.proofs.Hearing.{all_below, all_heard, is_heard, on_set, one_more, states_heard}
use Rattle.journal_audit.proofs.section.hear_all.Goals as goal

pub returns-in_err-hear-clause-parts : goal.returns-in_err-hear-clause-parts
returns-in_err-hear-clause-parts c =
    let within : c.loop-index.index < length c.loop-index.threads = omega (arith, c.loop-index-test.true, c.loop-index.auto.threads) in
    λ part on. on_set part c.loop-index.index c.loop-index.threads c.index-threads-index.result c.hear.new.self within c.hear.ensures.part (c.loop-index.invariant.parts part on)

pub loop-index-preserved : goal.loop-index-preserved
loop-index-preserved c =
    let index = c.loop-index.index in
    let threads = c.loop-index.threads in
    let event = c.args.event.now in
    let old = c.index-threads-index.result in
    let within : index < length threads = omega (arith, c.loop-index-test.true, c.loop-index.auto.threads) in
    let heard = is_heard index event (get_or threads index old) c.hear.new.self c.hear.ensures.part c.in_ok-hear.ensures.state in
    record {
      heard = one_more index event threads old c.hear.new.self within heard ∙ c.loop-index.invariant.heard;
      parts = λ part on. on_set part index threads old c.hear.new.self within c.hear.ensures.part (c.loop-index.invariant.parts part on);
    }

pub returns-clause-states : goal.returns-clause-states
returns-clause-states c =
    let over : length c.loop-index.threads ≤ c.loop-index.index = omega (arith, c.loop-index-test.false, c.loop-index.auto.threads) in
    let whole : c.loop-index.threads ≡ all_heard 0 c.args.event.now c.args.threads.now =
    sym (all_below c.loop-index.index c.args.event.now c.loop-index.threads over) ∙ c.loop-index.invariant.heard in
    λ part on. ap (map state_in) whole ∙ states_heard 0 part c.args.event.now c.args.threads.now on
