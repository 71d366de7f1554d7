use Rattle.std.specs.Prelude.{◌≡◌, ℕ, ◌+◌, ◌≤◌, List, [], ◌∷◌, ◌++◌, length, flat_map}
use Rattle.nook_data.specs.declared.machine.Act.{Act}
use Rattle.nook_data.specs.declared.scenario.Fault.{Fault}
use Rattle.nook_data.specs.declared.machine.TrapCause.TheVariants as trap
use Rattle.nook_data.specs.declared.machine.BurstEnd.{BurstEnd}
use Rattle.nook_data.specs.declared.machine.BurstEnd.TheVariants as ends
use Rattle.nook_data.specs.declared.limits.TheConstants.{MOST_INSTRUCTIONS}
use Rattle.machine_defs.specs.Burst.{Burst}
use Rattle.turn_trace.specs.Bursts.{TracedBurst, TracedStep, strike, taken}
use Rattle.turn_trace.specs.declared.traced.TracedTurn.{TracedTurn}

-- A trace matches the burst that happened.

-- the instructions among steps
abbrev pub turns_of : List TracedStep → List TracedTurn
turns_of [] = []
turns_of (strike f ∷ steps) = turns_of steps
turns_of (taken t ∷ steps) = t ∷ turns_of steps

-- the faults among steps
abbrev pub strikes_of : List TracedStep → List Fault
strikes_of [] = []
strikes_of (strike f ∷ steps) = f ∷ strikes_of steps
strikes_of (taken t ∷ steps) = strikes_of steps

abbrev pub acts_of_turn : TracedTurn → List Act
acts_of_turn t = t.acts

-- the count of a burst with this many instructions: a hang counts as a whole burst
abbrev pub counted : ℕ → BurstEnd → ℕ
counted turns (ends.Trap trap.Hang) = MOST_INSTRUCTIONS
counted turns (ends.Trap cause) = turns
counted turns ending = turns

-- the instructions are numbered consecutively, from this number on
abbrev pub AreNumbered : ℕ → List TracedTurn → Type 0
AreNumbered number [] = Unit {0}
AreNumbered number (t ∷ turns) = (t.number ≡ number) × AreNumbered (number + 1) turns

-- a trace matches a burst with these faults in order: as many instructions as the burst counts, numbered from 1, the
-- same acts in order, the final machine, the end, and each fault once, as one that struck or as one that did not
pub record Retells (faults : List Fault) (t : TracedBurst) (b : Burst) : Type 0 where
  pub machine : t.left ≡ b.machine
  pub ending : t.ending ≡ b.ending
  pub count : b.count ≡ counted (length (turns_of t.steps)) t.ending
  pub few : length (turns_of t.steps) ≤ MOST_INSTRUCTIONS
  pub numbers : AreNumbered 1 (turns_of t.steps)
  pub acts : flat_map acts_of_turn (turns_of t.steps) ≡ b.acts
  pub each : strikes_of t.steps ++ t.unstruck ≡ faults
