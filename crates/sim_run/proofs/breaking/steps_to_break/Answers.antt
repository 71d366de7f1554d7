use Rattle.std.proofs.Common.{◌≡◌, ◌+◌, length, arith, subst, sym}
use Rattle.sim_run.proofs.FirstBreak.{HasKept, breaks_here, keeps_first, keeps_on, keeps_to_end, written}
use Rattle.sim_run.specs.Advanced.{IsPick}
use Rattle.sim_run.proofs.breaking.steps_to_break.Goals as goal

pub loop-step-init : goal.loop-step-init
loop-step-init c =
    keeps_first c.args.scenario.now c.in_ok-simulation.simulation c.in_ok-monitors.monitors.items
    c.in_ok-simulation.ensures c.in_ok-monitors.ensures

pub returns-then-branch : goal.returns-then-branch
returns-then-branch c =
    breaks_here c.args.scenario.now c.loop-step.step c.loop-step.simulation c.choose.new.self
    c.take_judged.new.simulation c.in-Some.chosen c.loop-step.monitors.items c.in_ok-take_judged.field-0
    c.loop-step.invariant
    (subst (λ o. IsPick c.loop-step.simulation o c.choose.new.self) c.in-Some.is c.in_ok-chosen.ensures.picked)
    c.in_ok-chosen.ensures.parts c.in_ok-take_judged.ensures.taken c.in_ok-take_judged.ensures.broken c.if-branch.true

pub loop-step-preserved : goal.loop-step-preserved
loop-step-preserved c =
    let size : c.loop-step.monitors.len ≡ length c.take_judged.new.monitors = omega arith in
    subst (HasKept c.args.scenario.now (c.loop-step.step + 1) c.take_judged.new.simulation)
    (sym (written c.loop-step.monitors.len c.take_judged.new.monitors c.loop-step.monitors.items size))
    (keeps_on c.args.scenario.now c.loop-step.step c.loop-step.simulation c.choose.new.self
    c.take_judged.new.simulation c.in-Some.chosen c.loop-step.monitors.items c.take_judged.new.monitors
    c.in_ok-take_judged.field-0 c.loop-step.invariant
    (subst (λ o. IsPick c.loop-step.simulation o c.choose.new.self) c.in-Some.is c.in_ok-chosen.ensures.picked)
    c.in_ok-chosen.ensures.parts c.in_ok-take_judged.ensures.taken c.in_ok-take_judged.ensures.seen
    c.in_ok-take_judged.ensures.broken c.if-branch.false)

pub unreachable-requires : goal.unreachable-requires
unreachable-requires c =
    keeps_to_end c.args.scenario.now c.loop-step.step c.loop-step.simulation c.loop-step.monitors.items c.requires
    c.loop-step.invariant c.loop-step-test.false
