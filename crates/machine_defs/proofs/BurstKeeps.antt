use Rattle.std.proofs.Common.{◌≡◌, ℕ, zero, suc, ◌-◌, ◌==◌, Bool, true, false, Option, Some, None, List, [], ◌∷◌, ◌++◌, refl}
use Rattle.std.specs.List.{AllByRecursion}
use Rattle.nook_data.specs.declared.machine.Act.{Act}
use Rattle.nook_data.specs.declared.entries.Entry.{Entry}
use Rattle.nook_data.specs.declared.scenario.Fault.{Fault}
use Rattle.nook_data.specs.declared.machine.TrapCause.{TrapCause}
use Rattle.machine_defs.specs.Burst.{Burst, Struck, struck_machine, strikes_at, acts_of, burst_from, burst, trap_of}
use Rattle.machine_defs.proofs.MachineCases.{past_trap}
use Rattle.machine_defs.specs.Execution.{Machine, Executed, turn}
use Rattle.machine_defs.proofs.BurstTurns.{turn_cases}

-- proves a goal by the two results of a test, each with its equation
pub split {ℓ} : {G : Type ℓ} → (b : Bool) → (b ≡ true → G) → (b ≡ false → G) → G
split true there not_there = there refl
split false there not_there = not_there refl

pub every_fault : (faults : List Fault) → AllByRecursion (λ f. Unit {0}) faults
every_fault [] = tt
every_fault (f ∷ faults) = (tt, every_fault faults)

-- What each instruction and each fault of a burst preserves, the burst preserves: one induction over its instructions.
module _ (K : Machine → List Act → Type 0) (Q : Fault → Type 0) (entries : List Entry)
    (by_turn : (m : Machine) (acts : List Act) → K m acts → K (turn entries m).machine (acts ++ acts_of (turn entries m).act))
    (by_fault : (f : Fault) (m : Machine) (acts : List Act) → Q f → K m acts → K (struck_machine entries f.kind m) acts) where
  record IsKept (acts : List Act) (s : Struck) : Type 0 where
    machine : K s.machine acts
    rest : AllByRecursion Q s.rest

  past_trap_keeps : (acts : List Act) (more : Struck) (m : Machine) (rest : List Fault) (o : Option TrapCause)
      → IsKept acts more → K m acts → AllByRecursion Q rest → IsKept acts (past_trap more m rest o)
  past_trap_keeps acts more m rest None k km q = k
  past_trap_keeps acts more m rest (Some cause) k km q = record { machine = km; rest = q }

  strikes_keep : (index : ℕ) (faults : List Fault) (m : Machine) (acts : List Act)
      → AllByRecursion Q faults → K m acts → IsKept acts (strikes_at index entries faults m)
  strikes_keep index [] m acts q k = record { machine = k; rest = tt }
  strikes_keep index (f ∷ faults) m acts q k =
      let k' : K (struck_machine entries f.kind m) acts = by_fault f m acts q.0 k in
      let more : IsKept acts (strikes_at index entries faults (struck_machine entries f.kind m)) =
      strikes_keep index faults (struck_machine entries f.kind m) acts q.1 k' in
      split (f.after == index)
      (λ e. rw (e, strikes_at) (past_trap_keeps acts (strikes_at index entries faults (struck_machine entries f.kind m)) m faults (trap_of f.kind) more k q.1))
      (λ e. rw (e, strikes_at) (record { machine = k; rest = q }))

  abbrev Ends : Burst → Type 0
  Ends b = K b.machine b.acts

  pub burst_from_keeps : (left : ℕ) (faults : List Fault) (m : Machine) (acts : List Act)
      → AllByRecursion Q faults → K m acts → Ends (burst_from left entries faults m acts)
  unfolding burst_from
  burst_from_keeps zero faults m acts q k = k
  burst_from_keeps (suc left) faults m acts q k =
      let s : Struck = strikes_at (4096 - suc left) entries faults m in
      let t : Executed = turn entries s.machine in
      let struck : IsKept acts s = strikes_keep (4096 - suc left) faults m acts q k in
      let turned : K t.machine (acts ++ acts_of t.act) = by_turn s.machine acts struck.machine in
      turn_cases Ends left entries faults m acts s t refl refl
      (λ cause trap. struck.machine)
      (λ ending none crossing. turned)
      (λ none no_crossing many. turned)
      (λ none no_crossing few. burst_from_keeps left s.rest t.machine (acts ++ acts_of t.act) struck.rest turned)

  pub burst_keeps : (faults : List Fault) (m : Machine) → AllByRecursion Q faults → K m [] → Ends (burst entries faults m)
  unfolding burst
  burst_keeps faults m q k = burst_from_keeps 4096 faults m [] q k
