use Rattle.std.proofs.Common.{subst}
use Rattle.guard_point.specs.Stopping.{StopsBurst}
use Rattle.guarded_run.proofs.Stopping.{first_stop, some_stop, wrong_index}
use Rattle.guarded_run.proofs.guarded.stop_before.Goals as goal

pub get-requires : goal.get-requires
get-requires c = wrong_index c.args.scenario.now c.args.wrong c.requires

pub unreachable-requires : goal.unreachable-requires
unreachable-requires c =
    some_stop c.args.scenario.now c.args.wrong c.get.result.now c.as_slice-faults.result.now c.in_ok-trap.field-0 c.requires c.get.ensures
    c.as_slice-faults.ensures c.in_ok-trap.ensures c.in_default.not-Some

pub returns : goal.returns
returns c =
    first_stop c.args.scenario.now c.args.wrong c.get.result.now c.as_slice-faults.result.now c.in-Some.trap c.in-Some.clause c.requires
    c.get.ensures c.as_slice-faults.ensures
    (subst (StopsBurst c.args.wrong.domain.state c.args.wrong.event c.as_slice-faults.result.now c.args.wrong.monitor) c.in-Some.is c.in_ok-trap.ensures)
