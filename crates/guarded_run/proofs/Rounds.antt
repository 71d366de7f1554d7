-- The rounds in which a scenario is guarded: each adds one trap, until the run breaks nothing.
use Rattle.std.proofs.Common.{◌≡◌, ◌≤◌, ℕ, ◌+◌, ◌*◌, List, [], ◌∷◌, ◌++◌, All, length, refl, sym, ap, subst, ◌∙◌, arith, length-append}
use Rattle.std.proofs.lemmas.List.Elements.{recursion_from_All}
use Rattle.std.specs.List.{AllByRecursion}
use Rattle.std.specs.Prelude.{Option, Some, None}
use Rattle.front_laws.proofs.StopChain.{guarded_by_stops, stopped_valid}
use Rattle.front_laws.proofs.StopCount.{few_needed}
use Rattle.front_laws.specs.Stops.{IsGuardedBy, most_traps}
use Rattle.guard_defs.specs.FirstBreaks.{AreNeeded, IsFirstStop, stopped}
use Rattle.guard_defs.specs.Guard.{HasRoom}
use Rattle.guard_defs.specs.declared.stop.Stop.{Stop}
use Rattle.guarded_run.specs.Guarded.{IsGuarded}
use Rattle.guarded_run.specs.NextStop.{IsNextStop}
use Rattle.guarded_run.specs.declared.guarded.Guarded.{Guarded}
use Rattle.nook_data.specs.Members.{struck}
use Rattle.nook_data.specs.Valid.{IsValidPart, IsValidScenario}
use Rattle.nook_data.specs.declared.scenario.PartSpec.{PartSpec}
use Rattle.nook_data.specs.declared.scenario.Scenario.{Scenario}
use Rattle.run_defs.specs.Simulation.{IsScheduledRun}

-- one more trap

stopped_more : (scenario : Scenario) (stops : List Stop) (stop : Stop)
    → stopped scenario (stops ++ stop ∷ []) ≡ struck (stopped scenario stops) stop.part stop.trap
unfolding stopped
stopped_more scenario [] stop = refl
stopped_more scenario (x ∷ stops) stop = stopped_more (struck scenario x.part x.trap) stops stop

needed_more : (scenario : Scenario) (stops : List Stop) (stop : Stop) → AreNeeded scenario stops → IsFirstStop (stopped scenario stops) stop
    → AreNeeded scenario (stops ++ stop ∷ [])
unfolding stopped AreNeeded
needed_more scenario [] stop needed first = (first, tt)
needed_more scenario (x ∷ stops) stop needed first =
    (needed.0, needed_more (struck scenario x.part x.trap) stops stop needed.1 first)

-- what holds after this many rounds

pub record IsGuardedSoFar (scenario : Scenario) (rounds : ℕ) (made : Guarded) : Type 0 where
  pub stopped_is : made.scenario ≡ stopped scenario made.stops
  pub needed : AreNeeded scenario made.stops
  pub count : length made.stops ≡ rounds

pub before_rounds : (scenario : Scenario) (made : Guarded) → made.scenario ≡ scenario → made.stops ≡ [] → IsGuardedSoFar scenario 0 made
unfolding stopped AreNeeded
before_rounds scenario made same none = record {
  stopped_is = same ∙ ap (stopped scenario) (sym none);
  needed = subst (AreNeeded scenario) (sym none) tt;
  count = ap (λ (stops : List Stop). length stops) none;
}

pub round_more : (scenario : Scenario) (rounds : ℕ) (made new : Guarded) (stop : Stop) → IsGuardedSoFar scenario rounds made
    → IsFirstStop made.scenario stop → new.scenario ≡ struck made.scenario stop.part stop.trap → new.stops ≡ made.stops ++ stop ∷ []
    → IsGuardedSoFar scenario (rounds + 1) new
round_more scenario rounds made new stop h first struck_is stops_are = record {
  stopped_is = struck_is ∙ ap (λ (x : Scenario). struck x stop.part stop.trap) h.stopped_is
      ∙ sym (stopped_more scenario made.stops stop) ∙ ap (stopped scenario) (sym stops_are);
  needed = subst (AreNeeded scenario) (sym stops_are)
      (needed_more scenario made.stops stop h.needed (subst (λ (x : Scenario). IsFirstStop x stop) h.stopped_is first));
  count = ap (λ (stops : List Stop). length stops) stops_are ∙ length-append made.stops (stop ∷ []) ∙ ap (λ (n : ℕ). n + 1) h.count;
}

pub round_valid : (scenario : Scenario) (rounds : ℕ) (made : Guarded) → IsValidScenario scenario → All HasRoom scenario.parts
    → IsGuardedSoFar scenario rounds made → IsValidScenario made.scenario
round_valid scenario rounds made valid room h =
    subst IsValidScenario (sym h.stopped_is) (stopped_valid scenario made.stops valid room h.needed)

pub rounds_end : (scenario : Scenario) (rounds : ℕ) (made : Guarded) (o : Option Stop) → IsValidScenario scenario
    → All HasRoom scenario.parts → IsGuardedSoFar scenario rounds made → IsNextStop made.scenario o → ((stop : Stop) → o ≡ Some stop → ⊥)
    → IsGuarded scenario made
rounds_end scenario rounds made (Some stop) valid room h end others = absurd (others stop refl)
rounds_end scenario rounds made None valid room h end others =
    let run : IsScheduledRun (stopped scenario made.stops) end.0 = subst (λ (x : Scenario). IsScheduledRun x end.0) h.stopped_is end.1 in
    let g : IsGuardedBy scenario made.stops end.0 = guarded_by_stops scenario made.stops end.0 h.needed run end.2 in
    record {
      simulation = end.0;
      guarded = g.guarded;
      same = h.stopped_is ∙ g.same;
      stopped_is = h.stopped_is;
      stops = g.found;
      needed = h.needed;
      scheduled = end.1;
      none_breaks = end.2;
      valid = round_valid scenario rounds made valid room h;
    }

-- there are fewer rounds than this

few_traps : (specs : List PartSpec) → AllByRecursion IsValidPart specs → most_traps specs ≤ 17 * length specs
few_traps [] a = omega arith
few_traps (spec ∷ specs) a =
    let limit : spec.limit ≤ 16 = a.0.limit in
    let rest : most_traps specs ≤ 17 * length specs = few_traps specs a.1 in
    omega arith

pub few_rounds : (scenario : Scenario) (rounds : ℕ) (made : Guarded) → IsValidScenario scenario → IsGuardedSoFar scenario rounds made
    → 137 ≤ rounds → ⊥
few_rounds scenario rounds made valid h l =
    let few : length made.stops ≤ most_traps scenario.parts = few_needed scenario made.stops valid h.needed in
    let low : most_traps scenario.parts ≤ 17 * length scenario.parts =
    few_traps scenario.parts (recursion_from_All IsValidPart scenario.parts valid.parts) in
    let parts : length scenario.parts ≤ 8 = valid.part_count.1 in
    let count : length made.stops ≡ rounds = h.count in
    omega arith
