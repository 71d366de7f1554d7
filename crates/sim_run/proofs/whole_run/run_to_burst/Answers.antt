use Rattle.std.proofs.Common.{subst}
use Rattle.sim_run.specs.Advanced.{IsPick}
use Rattle.sim_run.proofs.Seeking.{leads_found, none_found, seeks_first, seeks_on, seeks_to_end}
use Rattle.sim_run.proofs.whole_run.run_to_burst.Goals as goal

pub loop-step-init : goal.loop-step-init
loop-step-init c =
    seeks_first c.args.scenario.now c.in_ok-simulation.simulation c.args.index c.args.number c.in_ok-simulation.ensures

pub returns-in_default : goal.returns-in_default
returns-in_default c =
    none_found c.args.scenario.now c.loop-step._step c.loop-step.simulation c.choose.new.self c.args.index c.args.number
    c.in_ok-chosen.field-0 c.loop-step.invariant c.in_ok-chosen.ensures.picked c.in_default.not-Some

pub returns-then-is_burst : goal.returns-then-is_burst
returns-then-is_burst c =
    leads_found c.args.scenario.now c.loop-step._step c.loop-step.simulation c.choose.new.self c.args.index c.args.number
    c.in-Some.chosen c.is_burst.result c.in_ok-into_last.field-0 c.requires c.loop-step.invariant
    (subst (λ o. IsPick c.loop-step.simulation o c.choose.new.self) c.in-Some.is c.in_ok-chosen.ensures.picked)
    c.in_ok-chosen.ensures.parts c.is_burst.ensures c.if-is_burst.true
    c.in_ok-into_last.ensures

pub loop-step-preserved : goal.loop-step-preserved
loop-step-preserved c =
    seeks_on c.args.scenario.now c.loop-step._step c.loop-step.simulation c.choose.new.self c.take.new.self c.args.index
    c.args.number c.in-Some.chosen c.is_burst.result c.loop-step.invariant
    (subst (λ o. IsPick c.loop-step.simulation o c.choose.new.self) c.in-Some.is c.in_ok-chosen.ensures.picked)
    c.in_ok-chosen.ensures.parts c.is_burst.ensures c.if-is_burst.false c.in_ok-take.ensures.taken

pub unreachable-requires : goal.unreachable-requires
unreachable-requires c =
    seeks_to_end c.args.scenario.now c.loop-step._step c.loop-step.simulation c.args.index c.args.number c.requires
    c.loop-step.invariant c.loop-step-test.false
