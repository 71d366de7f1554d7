use Rattle.std.proofs.Common.{map, subst, sym}
use Rattle.std.proofs.lemmas.Result.{err_from_is_err_and}
use Rattle.campaign_defs.specs.Members.{CanRunMember, alone}
use Rattle.fault_campaign.proofs.EveryFaults.{bursts_as}
use Rattle.fault_campaign.proofs.Given.{all_in_back, all_in_front, gives_cut, gives_then}
use Rattle.fault_campaign.proofs.KnownRows.{right_instrs}
use Rattle.fault_campaign.specs.Known.{AreInstrsOf}
use Rattle.fault_points.specs.Points.{faults_at}
use Rattle.guard_defs.specs.Every.{faults_in}
use Rattle.fault_campaign.proofs.writing.+write_bursts.Goals as goal

pub write_burst-requires-clause-can_run : goal.write_burst-requires-clause-can_run
write_burst-requires-clause-can_run g t c κs within =
    all_in_front (CanRunMember c.args.run.now.plan.now) (map alone (faults_in c.args.kinds.now c.all_turns-turns.result.burst c.all_turns-turns.result.after c.all_turns-turns.result.count))
    (map alone (faults_at c.args.kinds.now c.in-Some.more.now)) (map alone (faults_at c.args.kinds.now c.args.points.now))
    (bursts_as c.args.kinds.now c.args.points.now c.in-Some.first.now c.in-Some.more.now c.all_turns-turns.result.burst c.all_turns-turns.result.after
    c.all_turns-turns.result.count c.in-Some.ensures.cases.0 c.all_turns-turns.ensures.burst c.all_turns-turns.ensures.after c.all_turns-turns.ensures.count)
    c.requires.can_run

pub write_burst-requires-clause-right : goal.write_burst-requires-clause-right
write_burst-requires-clause-right g t c κs within =
    right_instrs c.args.run.now.plan.now c.args.run.now.shown.now c.args.run.now.base.now c.in-Some.first.now.burst c.as_slice.result.now
    c.requires.valid c.requires.base
    (subst (AreInstrsOf c.args.run.now.plan.now c.in-Some.first.now.burst) (sym c.as_slice.ensures) c.in_ok-instrs.ensures)

pub returns-in_err-write_burst : goal.returns-in_err-write_burst
returns-in_err-write_burst g t c own shown =
    let q = err_from_is_err_and c.from_residual-in_err-write_burst.result c.from_residual-in_err-write_burst.ensures.1 in
    rw (q.1, q.2)
    (gives_cut c.args.run.now.plan.now own (map alone (faults_in c.args.kinds.now c.all_turns-turns.result.burst c.all_turns-turns.result.after c.all_turns-turns.result.count))
    (map alone (faults_at c.args.kinds.now c.in-Some.more.now)) (map alone (faults_at c.args.kinds.now c.args.points.now)) _ _ _ _ _
    (bursts_as c.args.kinds.now c.args.points.now c.in-Some.first.now c.in-Some.more.now c.all_turns-turns.result.burst c.all_turns-turns.result.after
    c.all_turns-turns.result.count c.in-Some.ensures.cases.0 c.all_turns-turns.ensures.burst c.all_turns-turns.ensures.after c.all_turns-turns.ensures.count)
    (c.in_err-write_burst.ensures own shown))

pub write_bursts-requires-clause-can_run : goal.write_bursts-requires-clause-can_run
write_bursts-requires-clause-can_run g t c κs within =
    all_in_back (CanRunMember c.args.run.now.plan.now) (map alone (faults_in c.args.kinds.now c.all_turns-turns.result.burst c.all_turns-turns.result.after c.all_turns-turns.result.count))
    (map alone (faults_at c.args.kinds.now c.in-Some.more.now)) (map alone (faults_at c.args.kinds.now c.args.points.now))
    (bursts_as c.args.kinds.now c.args.points.now c.in-Some.first.now c.in-Some.more.now c.all_turns-turns.result.burst c.all_turns-turns.result.after
    c.all_turns-turns.result.count c.in-Some.ensures.cases.0 c.all_turns-turns.ensures.burst c.all_turns-turns.ensures.after c.all_turns-turns.ensures.count)
    c.requires.can_run

pub returns : goal.returns
returns g t c own shown =
    gives_then c.args.run.now.plan.now own (map alone (faults_in c.args.kinds.now c.all_turns-turns.result.burst c.all_turns-turns.result.after c.all_turns-turns.result.count))
    (map alone (faults_at c.args.kinds.now c.in-Some.more.now)) (map alone (faults_at c.args.kinds.now c.args.points.now)) _ _ _ _ _ _ _ _
    (bursts_as c.args.kinds.now c.args.points.now c.in-Some.first.now c.in-Some.more.now c.all_turns-turns.result.burst c.all_turns-turns.result.after
    c.all_turns-turns.result.count c.in-Some.ensures.cases.0 c.all_turns-turns.ensures.burst c.all_turns-turns.ensures.after c.all_turns-turns.ensures.count)
    (c.in_ok-write_burst.ensures own shown) (c.write_bursts.ensures own shown)
