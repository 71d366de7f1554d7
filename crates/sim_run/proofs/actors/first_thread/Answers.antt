use Rattle.std.proofs.Common.{false, get_or}
use Rattle.std.proofs.lemmas.Option.{slice_get-get_or}
use Rattle.sim_run.proofs.NextActor.{flag_found, flag_passed, flags_over, named_below, named_found, named_off}
use Rattle.sim_run.proofs.actors.first_thread.Goals as goal
use Rattle.sim_run.proofs.actors.first_thread.Goals.{else-is_able-via-then-is_able+else-least-index, else-is_able-via-else-is_able}

pub returns-then-least-index : goal.returns-then-least-index
returns-then-least-index c =
    let able = c.args.able.now in
    let index = c.loop-index.index in
    let flag = get_or able index false in
    flag_found c.args.least able index index flag _ (slice_get-get_or able index false c.loop-index-test.true)
    (named_found flag c.args.least index c.if-is_able.true c.if-least-index.true) c.loop-index.invariant

pub loop-index-preserved : goal.loop-index-preserved
loop-index-preserved c =
    let able = c.args.able.now in
    let index = c.loop-index.index in
    let flag = get_or able index false in
    let at = slice_get-get_or able index false c.loop-index-test.true in
    elim c.else-is_able.branch [
      | else-is_able-via-then-is_able+else-least-index w ↦
          flag_passed c.args.least able index flag _ at (named_below flag c.args.least index w.if-least-index.false) c.loop-index.invariant
      | else-is_able-via-else-is_able w ↦
          flag_passed c.args.least able index flag _ at (named_off flag c.args.least index w.if-is_able.false) c.loop-index.invariant
    ]

pub returns : goal.returns
returns c = flags_over c.args.least c.args.able.now c.loop-index.index _ c.loop-index-test.false c.loop-index.invariant
