-- The trap of the first burst of a run that breaks a clause.
use Rattle.std.proofs.Common.{◌≡◌, ◌<◌, true, Option, Some, None, List, length, slice_get, refl, sym, ap, subst, ◌∙◌}
use Rattle.std.proofs.lemmas.Option.{slice_get_within}
use Rattle.nook_data.proofs.Options.{none_is_some, same_inside}
use Rattle.nook_data.specs.declared.clause.Clause.{Clause}
use Rattle.nook_data.specs.declared.scenario.Fault.{Fault}
use Rattle.nook_data.specs.declared.scenario.PartSpec.{PartSpec}
use Rattle.nook_data.specs.declared.scenario.Scenario.{Scenario}
use Rattle.nook_data.specs.declared.steps.Step.TheVariants as step
use Rattle.front_laws.proofs.FirstStops.{first_trap, guard_is, spec_there}
use Rattle.front_laws.proofs.GuardedParts.{MayTake, may_take}
use Rattle.guard_defs.specs.FirstBreaks.{IsFirstStop}
use Rattle.guard_defs.specs.Guard.{guard, guard_trap}
use Rattle.guard_defs.specs.GuardedRuns.{known_of, spec_of}
use Rattle.guard_defs.specs.declared.stop.Stop.{Stop}
use Rattle.guard_point.specs.Stopping.{IsStop, StopsBurst}
use Rattle.part_defs.specs.Steps.{enabled}
use Rattle.run_defs.specs.Simulation.{RunningPart, Simulation, begins, choices_of, runs}
use Rattle.run_laws.proofs.Choices.{IsGood, choices_good}
use Rattle.sim_run.specs.Breaks.{IsWrongBurst}
use Rattle.sim_run.specs.declared.breaking.WrongBurst.{WrongBurst}

-- the scenario's part with the index of a burst
wrong_spec : (scenario : Scenario) (wrong : WrongBurst) (w : IsWrongBurst scenario wrong)
    → slice_get scenario.parts wrong.part ≡ Some (spec_of w.seat)
wrong_spec scenario wrong w = ap (slice_get scenario.parts) w.part ∙ spec_there scenario w.steps w.choice.part w.seat w.first.at

pub wrong_index : (scenario : Scenario) (wrong : WrongBurst) → IsWrongBurst scenario wrong → wrong.part < length scenario.parts
wrong_index scenario wrong w = slice_get_within scenario.parts wrong.part (spec_of w.seat) (wrong_spec scenario wrong w)

-- the burst may be run
wrong_may : (scenario : Scenario) (wrong : WrongBurst) (w : IsWrongBurst scenario wrong)
    → enabled w.seat.run.state (step.Burst w.context) ≡ true
wrong_may scenario wrong w =
    let t : Simulation = runs w.steps (begins scenario) in
    let good : IsGood t.parts t.threads w.choice =
    subst (MayTake t) w.first.picks (may_take t (choices_of t) _ (choices_good t)) in
    let one : good.seat ≡ w.seat = same_inside (sym good.at ∙ w.first.at) in
    ap (enabled w.seat.run.state) (sym w.first.burst)
    ∙ ap (λ (x : RunningPart). enabled x.run.state w.choice.step) (sym one) ∙ good.may

-- so what is found of the burst is its trap
wrong_stop : (scenario : Scenario) (wrong : WrongBurst) (w : IsWrongBurst scenario wrong) (part : PartSpec) (faults : List Fault)
    (stop : Option (Fault × Clause)) → slice_get scenario.parts wrong.part ≡ Some part → faults ≡ part.faults
    → StopsBurst wrong.domain.state wrong.event faults wrong.monitor stop → IsStop w.context w.seat.run.state (known_of w.seat) stop
wrong_stop scenario wrong w part faults stop at same stops =
    let own : spec_of w.seat ≡ part = same_inside (sym (wrong_spec scenario wrong w) ∙ at) in
    stops w.seat.run.state w.context (spec_of w.seat).class (spec_of w.seat).blocks w.seat.run.journal (sym w.domain)
    (ap (λ (spec : PartSpec). spec.faults) own ∙ sym same) (wrong_may scenario wrong w) w.event w.monitor
    (w.first.kept w.choice.part w.seat w.first.at)

wrong_trap : (scenario : Scenario) (wrong : WrongBurst) (w : IsWrongBurst scenario wrong)
    → guard w.seat.run.state (known_of w.seat) (step.Burst w.context) ≡ Some (guard_trap w.context w.seat.run.state (known_of w.seat))
wrong_trap scenario wrong w =
    guard_is w.seat.run.state (known_of w.seat) (step.Burst w.context) w.context w.first.clause w.first.more refl w.first.breaks

-- the burst has a trap
pub some_stop : (scenario : Scenario) (wrong : WrongBurst) (part : PartSpec) (faults : List Fault) (stop : Option (Fault × Clause))
    → IsWrongBurst scenario wrong → slice_get scenario.parts wrong.part ≡ Some part → faults ≡ part.faults
    → StopsBurst wrong.domain.state wrong.event faults wrong.monitor stop → ((x : Fault × Clause) → stop ≡ Some x → ⊥) → ⊥
some_stop scenario wrong part faults (Some x) w at same stops none = none x refl
some_stop scenario wrong part faults None w at same stops none =
    none_is_some (sym (wrong_stop scenario wrong w part faults None at same stops) ∙ wrong_trap scenario wrong w)

-- this trap is the first of the scenario
pub first_stop : (scenario : Scenario) (wrong : WrongBurst) (part : PartSpec) (faults : List Fault) (trap : Fault) (clause : Clause)
    → IsWrongBurst scenario wrong → slice_get scenario.parts wrong.part ≡ Some part → faults ≡ part.faults
    → StopsBurst wrong.domain.state wrong.event faults wrong.monitor (Some (trap, clause))
    → IsFirstStop scenario (record { part = wrong.part; trap = trap; clause = clause })
first_stop scenario wrong part faults trap clause w at same stops =
    let h : IsStop w.context w.seat.run.state (known_of w.seat) (Some (trap, clause)) =
    wrong_stop scenario wrong w part faults (Some (trap, clause)) at same stops in
    record {
      steps = w.steps;
      choice = w.choice;
      seat = w.seat;
      context = w.context;
      first = w.first;
      part = w.part;
      trap = same_inside (sym h.0 ∙ wrong_trap scenario wrong w);
      clause = h.1;
    }

pub stop_index : (scenario : Scenario) (stop : Stop) → IsFirstStop scenario stop → stop.part < length scenario.parts
stop_index scenario stop h = slice_get_within scenario.parts stop.part (first_trap scenario stop h).spec (first_trap scenario stop h).there
