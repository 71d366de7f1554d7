use Rattle.std.proofs.Common.{subst}
use Rattle.guarded_run.specs.NextStop.{IsNextStop}
use Rattle.guarded_run.proofs.Rounds.{before_rounds, few_rounds, round_more, round_valid, rounds_end}
use Rattle.guarded_run.proofs.Stopping.{stop_index}
use Rattle.guarded_run.proofs.guarded.guard_scenario.Goals as goal

pub loop-round-init : goal.loop-round-init
loop-round-init c =
    before_rounds c.args.scenario.now c.in_ok-guarded.guarded c.in_ok-guarded.ensures.scenario c.in_ok-guarded.ensures.stops

pub next_stop-requires : goal.next_stop-requires
next_stop-requires c =
    round_valid c.args.scenario.now c.loop-round._round c.loop-round.guarded c.requires.valid c.requires.room c.loop-round.invariant

pub add-requires : goal.add-requires
add-requires c =
    stop_index c.loop-round.guarded.scenario c.in-Some.stop
    (subst (IsNextStop c.loop-round.guarded.scenario) c.in-Some.is c.in_ok-stop.ensures)

pub loop-round-preserved : goal.loop-round-preserved
loop-round-preserved c =
    round_more c.args.scenario.now c.loop-round._round c.loop-round.guarded c.add.new.self c.in-Some.stop c.loop-round.invariant
    (subst (IsNextStop c.loop-round.guarded.scenario) c.in-Some.is c.in_ok-stop.ensures)
    c.in_ok-add.ensures.scenario c.in_ok-add.ensures.stops

pub returns-in_default : goal.returns-in_default
returns-in_default c =
    rounds_end c.args.scenario.now c.loop-round._round c.loop-round.guarded c.in_ok-stop.field-0 c.requires.valid c.requires.room
    c.loop-round.invariant c.in_ok-stop.ensures c.in_default.not-Some

pub unreachable-requires : goal.unreachable-requires
unreachable-requires c =
    few_rounds c.args.scenario.now c.loop-round._round c.loop-round.guarded c.requires.valid c.loop-round.invariant
    c.loop-round-test.false
