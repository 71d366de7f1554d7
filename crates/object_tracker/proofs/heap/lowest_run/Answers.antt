use Rattle.std.proofs.Common.{◌+◌, ◌-◌, ◌∙◌, sym, arith}
use Rattle.object_tracker.proofs.Steps.{run_found, run_more, run_none}
use Rattle.object_tracker.proofs.heap.lowest_run.Goals as goal

pub returns-then-is_free_run : goal.returns-then-is_free_run
returns-then-is_free_run c =
    run_found (4097 - (c.loop-start.start + c.args.n)) c.args.entries.now c.loop-start.start c.args.n (omega (arith, c.loop-start-test.true))
    (sym c.is_free_run.ensures ∙ c.if-is_free_run.true)
    ∙ c.loop-start.invariant

pub loop-start-preserved : goal.loop-start-preserved
loop-start-preserved c =
    let start = c.loop-start.start in
    let n = c.args.n in
    run_more (4097 - (start + n)) (4097 - (start + 1 + n)) c.args.entries.now start n (omega (arith, c.loop-start-test.true))
    (sym c.is_free_run.ensures ∙ c.if-is_free_run.false)
    ∙ c.loop-start.invariant

pub returns : goal.returns
returns c =
    run_none (4097 - (c.loop-start.start + c.args.n)) c.args.entries.now c.loop-start.start c.args.n (omega (arith, c.loop-start-test.false))
    ∙ c.loop-start.invariant
