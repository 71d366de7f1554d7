use Rattle.std.proofs.Common.{arith}
use Rattle.run_ends.proofs.Objects.{all_objects, first_objects, more_objects}
use Rattle.run_ends.proofs.ends.objects_of.Goals as goal

pub loop-object-init : goal.loop-object-init
loop-object-init c = first_objects c.new-objects.result c.args.part.now.state.domain.memory c.new-objects.ensures

pub loop-object-preserved : goal.loop-object-preserved
loop-object-preserved c = more_objects c.loop-object.objects c.push.new.self c.loop-object.object c.in_ok-object.field-0 c.args.part.now.state.domain.memory
    c.loop-object-test.true c.in_ok-object.ensures c.in_ok-push.ensures.ok c.loop-object.invariant

pub returns : goal.returns
returns c = all_objects c.loop-object.objects c.loop-object.object c.args.part.now.state.domain.memory
    (omega (arith, c.loop-object-test.false, c.loop-object.auto.object-end)) c.loop-object.invariant
