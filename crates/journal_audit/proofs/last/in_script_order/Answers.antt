use Rattle.run_laws.specs.Audit.{in_script_order}
use Rattle.journal_audit.proofs.Scripts.{script_done, script_next, script_over}
use Rattle.journal_audit.proofs.last.in_script_order.Goals as goal

pub returns-in_default : goal.returns-in_default
returns-in_default c =
    script_over c.args.ops.now c.loop-op.op-index c.op-item.result c.loop-op.given c.loop-op.made
    (in_script_order c.args.ops.now c.args.given.now) c.loop-op-test.true c.op-item.is c.in_default.ensures c.loop-op.invariant

pub loop-op-preserved : goal.loop-op-preserved
loop-op-preserved c =
    let taken = c.in-Some.ensures in
    rw (c.in_ok-push.ensures.ok, c.in_ok-copy.ensures, taken.2)
    (script_next c.args.ops.now c.loop-op.op-index c.op-item.result c.loop-op.given c.loop-op.made
    (in_script_order c.args.ops.now c.args.given.now) c.in-Some.answer.now taken.0 c.loop-op-test.true c.op-item.is taken.1
    c.loop-op.invariant)

pub returns : goal.returns
returns c =
    script_done c.args.ops.now c.loop-op.op-index c.loop-op.given c.loop-op.made (in_script_order c.args.ops.now c.args.given.now)
    c.loop-op-test.false c.loop-op.invariant
