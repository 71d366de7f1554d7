-- Traps that are found one by one: the scenario with them is valid, and its run is the guarded run in the end.
use Rattle.std.proofs.Common.{◌≡◌, ◌⊎◌, ◌≤◌, ◌<◌, inl, inr, ℕ, zero, suc, ◌+◌, ◌-◌, List, [], ◌∷◌, ◌++◌, All, map, refl, sym, ap, subst, ◌∙◌, arith, append_assoc, append-nil}
use Rattle.std.proofs.lemmas.Bool.{cases_lt}
use Rattle.nook_data.specs.Members.{struck, struck_parts}
use Rattle.nook_data.specs.Valid.{IsValidScenario}
use Rattle.nook_data.specs.declared.scenario.PartSpec.{PartSpec}
use Rattle.nook_data.specs.declared.scenario.Scenario.{Scenario}
use Rattle.guard_defs.specs.declared.stop.Stop.{Stop}
use Rattle.guard_defs.specs.FirstBreaks.{AreNeeded, IsFirstStop, NoneBreaks, stopped}
use Rattle.guard_defs.specs.Guard.{HasRoom}
use Rattle.guard_defs.specs.GuardedRuns.{guarded_runs, guarded_scenario, spec_of, stops_found}
use Rattle.run_defs.specs.Simulation.{IsScheduledRun, Simulation, begins, runs}
use Rattle.front_laws.specs.FirstTrap.{IsFirstTrap}
use Rattle.front_laws.specs.Stops.{IsGuardedBy}
use Rattle.front_laws.proofs.FirstStops.{first_trap, guarded_keeps, never_found, none_found, specs_of_run, stop_found, stops_more, struck_keeps}
use Rattle.front_laws.proofs.FirstTrap.{guarded_more, kept_before, put_first}
use Rattle.front_laws.proofs.Free.{free_runs}
use Rattle.front_laws.proofs.Unique.{guarded_still}
use Rattle.front_laws.proofs.ValidGuarded.{guarded_valid}

-- the scenario with these traps: for this number of steps its run breaks nothing, the guarded run is the same with the
-- traps and without, and exactly these traps are found in it
pub record IsChained (scenario with : Scenario) (stops : List Stop) (n : ℕ) : Type 0 where
  pub kept : NoneBreaks (runs n (begins with))
  pub same : guarded_runs n (begins with) ≡ guarded_runs n (begins scenario)
  pub found : stops_found n (begins scenario) ≡ stops
  pub own : with ≡ record scenario { parts = with.parts }

pub chain_starts : (scenario : Scenario) → IsChained scenario scenario [] zero
unfolding runs guarded_runs stops_found
chain_starts scenario = record { kept = guarded_keeps scenario zero; same = refl; found = refl; own = refl }

-- the next trap belongs to a later step
rises : (scenario with : Scenario) (stops : List Stop) (n : ℕ) (stop : Stop) → IsChained scenario with stops n
    → (h : IsFirstStop with stop) → n ≤ h.steps
rises scenario with stops n stop chain h = by_order (cases_lt h.steps n)
  where
    by_order : (h.steps < n) ⊎ (n ≤ h.steps) → n ≤ h.steps
    by_order (inl l) =
        let none : stops_found (suc h.steps) (begins with) ≡ [] =
        none_found (suc h.steps) (begins with) (kept_before (suc h.steps) (n - suc h.steps) n (begins with) (omega arith) chain.kept) in
        let no : ◌≡◌ {A = List Stop} [] (stop ∷ []) = sym none ∙ stop_found with stop h in
        absurd cc
    by_order (inr l) = l

-- after more steps the guarded run is still the same
same_later : (scenario with : Scenario) (stops : List Stop) (n d m : ℕ) → IsChained scenario with stops n → m ≡ n + d
    → guarded_runs m (begins with) ≡ guarded_runs m (begins scenario)
same_later scenario with stops n d m chain e =
    guarded_more n d m (begins with) e ∙ ap (guarded_runs d) chain.same ∙ sym (guarded_more n d m (begins scenario) e)

-- what is found in it is also found with the traps
found_later : (scenario with : Scenario) (stops : List Stop) (n d m : ℕ) → IsChained scenario with stops n → m ≡ n + d
    → stops_found m (begins scenario) ≡ stops ++ stops_found m (begins with)
found_later scenario with stops n d m chain e =
    stops_more n d m (begins scenario) e
    ∙ ap (λ (xs : List Stop). xs ++ stops_found d (guarded_runs n (begins scenario))) chain.found
    ∙ ap (λ (t : Simulation). stops ++ stops_found d t) (sym chain.same)
    ∙ ap (λ (xs : List Stop). stops ++ (xs ++ stops_found d (guarded_runs n (begins with)))) (sym (none_found n (begins with) chain.kept))
    ∙ ap (λ (xs : List Stop). stops ++ xs) (sym (stops_more n d m (begins with) e))

pub chain_next : (scenario with : Scenario) (stops : List Stop) (n : ℕ) (stop : Stop) → IsChained scenario with stops n
    → (h : IsFirstStop with stop) → IsChained scenario (struck with stop.part stop.trap) (stops ++ stop ∷ []) (suc h.steps)
chain_next scenario with stops n stop chain h =
    let low : n ≤ h.steps = rises scenario with stops n stop chain h in
    let d : ℕ = suc h.steps - n in
    let trap : IsFirstTrap with stop.part stop.trap h.steps = first_trap with stop h in
    record {
      kept = struck_keeps with stop.part stop.trap h.steps trap;
      same = (put_first with stop.part stop.trap h.steps trap).after (suc h.steps) (omega arith)
          ∙ same_later scenario with stops n d (suc h.steps) chain (omega arith);
      found = found_later scenario with stops n d (suc h.steps) chain (omega arith)
          ∙ ap (λ (xs : List Stop). stops ++ xs) (stop_found with stop h);
      own = ap (λ (x : Scenario). record x { parts = struck_parts with.parts stop.part stop.trap }) chain.own;
    }

abbrev pub HasChain : Scenario → Scenario → List Stop → Type 0
HasChain scenario with stops = (n : ℕ) × IsChained scenario with stops n

chained_on : (scenario with : Scenario) (done stops : List Stop) (n : ℕ) → IsChained scenario with done n → AreNeeded with stops
    → HasChain scenario (stopped with stops) (done ++ stops)
unfolding stopped AreNeeded
chained_on scenario with done [] n chain needed =
    (n, subst (λ (xs : List Stop). IsChained scenario with xs n) (sym (append-nil done)) chain)
chained_on scenario with done (stop ∷ stops) n chain needed =
    subst (HasChain scenario (stopped (struck with stop.part stop.trap) stops)) (append_assoc done (stop ∷ []) stops)
    (chained_on scenario (struck with stop.part stop.trap) (done ++ stop ∷ []) stops (suc needed.0.steps)
    (chain_next scenario with done n stop chain needed.0) needed.1)

pub chained : (scenario : Scenario) (stops : List Stop) → AreNeeded scenario stops → HasChain scenario (stopped scenario stops) stops
chained scenario stops needed = chained_on scenario scenario [] stops zero (chain_starts scenario) needed

-- ---- the scenario with the traps is valid

chain_is : (scenario with : Scenario) (stops : List Stop) (n : ℕ) → IsChained scenario with stops n
    → guarded_scenario scenario (guarded_runs n (begins scenario)) ≡ with
chain_is scenario with stops n chain =
    ap (guarded_scenario scenario) (sym chain.same ∙ free_runs n (begins with) chain.kept)
    ∙ ap (λ (parts : List PartSpec). record scenario { parts = parts }) (specs_of_run with n)
    ∙ sym chain.own

pub stopped_valid : (scenario : Scenario) (stops : List Stop) → IsValidScenario scenario → All HasRoom scenario.parts
    → AreNeeded scenario stops → IsValidScenario (stopped scenario stops)
stopped_valid scenario stops valid room needed =
    let chain = chained scenario stops needed in
    subst IsValidScenario (chain_is scenario (stopped scenario stops) stops chain.0 chain.1) (guarded_valid scenario chain.0 valid room)

-- ---- if the scenario with the traps breaks nothing, its run is the guarded run

ends_in : (scenario with : Scenario) (stops : List Stop) (n : ℕ) (s : Simulation) → IsChained scenario with stops n
    → (run : IsScheduledRun with s) → NoneBreaks s → guarded_runs (n + run.steps) (begins scenario) ≡ s
ends_in scenario with stops n s chain run kept =
    sym (same_later scenario with stops n run.steps (n + run.steps) chain refl) ∙ later (n + run.steps) (omega arith)
  where
    later : (m : ℕ) → m ≡ run.steps + n → guarded_runs m (begins with) ≡ s
    later m e =
        guarded_more run.steps n m (begins with) e
        ∙ ap (guarded_runs n)
        (free_runs run.steps (begins with) (subst NoneBreaks (sym run.reached) kept) ∙ run.reached)
        ∙ guarded_still n s run.ended

pub guarded_by_stops : (scenario : Scenario) (stops : List Stop) (s : Simulation) → AreNeeded scenario stops
    → IsScheduledRun (stopped scenario stops) s → NoneBreaks s → IsGuardedBy scenario stops s
guarded_by_stops scenario stops s needed run kept =
    let with : Scenario = stopped scenario stops in
    let chain = chained scenario stops needed in
    let n : ℕ = chain.0 in
    record {
      guarded = record {
        steps = n + run.steps;
        reached = ends_in scenario with stops n s chain.1 run kept;
        ended = run.ended;
      };
      found = sym (found_later scenario with stops n run.steps (n + run.steps) chain.1 refl
          ∙ ap (λ (xs : List Stop). stops ++ xs) (never_found with s (n + run.steps) run kept)
          ∙ append-nil stops);
      same = chain.1.own
          ∙ ap (λ (parts : List PartSpec). record scenario { parts = parts })
          (sym (specs_of_run with run.steps) ∙ ap (λ (t : Simulation). map spec_of t.parts) run.reached);
    }
