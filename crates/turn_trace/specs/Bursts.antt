use Rattle.std.specs.Prelude.{ℕ, zero, suc, ◌+◌, ◌-◌, ◌==◌, nat_le, Bool, true, false, Option, Some, None, List, []}
use Rattle.std.specs.Prelude.{◌∷◌, ◌++◌, length, map}
use Rattle.nook_data.specs.declared.entries.Entry.{Entry}
use Rattle.nook_data.specs.declared.scenario.Fault.{Fault}
use Rattle.nook_data.specs.declared.machine.TrapCause.{TrapCause}
use Rattle.nook_data.specs.declared.machine.TrapCause.TheVariants as trap
use Rattle.nook_data.specs.declared.machine.BurstEnd.{BurstEnd}
use Rattle.nook_data.specs.declared.machine.BurstEnd.TheVariants as ends
use Rattle.nook_data.specs.declared.limits.TheConstants.{MOST_ACTS, MOST_INSTRUCTIONS}
use Rattle.machine_defs.specs.Burst.{Struck, acts_of, strikes_at, trap_of}
use Rattle.machine_defs.specs.Execution.{Machine, Executed, turn}
use Rattle.turn_trace.specs.Turns.{traced}
use Rattle.turn_trace.specs.declared.traced.TracedTurn.{TracedTurn}

-- A burst, instruction by instruction: the same instructions and strikes as in a burst, each traced.

-- a fault that struck, or an instruction that ran
pub data TracedStep : Type 0 where
  strike : Fault → TracedStep
  taken : TracedTurn → TracedStep

-- what a burst did in order, the faults that did not strike, the machine that it left, and how it ended
pub record TracedBurst : Type 0 where
  pub steps : List TracedStep
  pub unstruck : List Fault
  pub left : Machine
  pub ending : BurstEnd

-- nothing more is done
abbrev pub finished : List Fault → Machine → BurstEnd → TracedBurst
finished unstruck m ending = record { steps = []; unstruck = unstruck; left = m; ending = ending }

-- the same after some steps
abbrev pub rest_after : List TracedStep → TracedBurst → TracedBurst
rest_after steps t = record t { steps = steps ++ t.steps }

abbrev pub up_to_trap : List Fault → Option TrapCause → List Fault
up_to_trap faults None = faults
up_to_trap faults (Some cause) = []

-- the faults that strike at a position: the first ones if they are due there, up to a trap
abbrev pub struck_at : ℕ → List Fault → List Fault
struck_at point [] = []
struck_at point (f ∷ faults) =
    elim (f.after == point) [
      | true ↦ f ∷ up_to_trap (struck_at point faults) (trap_of f.kind)
      | false ↦ []
    ]

-- the last act that a burst may do ends it
abbrev pub after_acts : (Machine → ℕ → TracedBurst) → List Fault → Machine → ℕ → Bool → TracedBurst
after_acts go_on rest m acts true = finished rest m ends.Pause
after_acts go_on rest m acts false = go_on m acts

-- a crossing ends a burst
abbrev pub following_crossing : (Machine → ℕ → TracedBurst) → List Fault → Machine → ℕ → Option BurstEnd → TracedBurst
following_crossing go_on rest m acts None = after_acts go_on rest m acts (nat_le MOST_ACTS acts)
following_crossing go_on rest m acts (Some crossing) = finished rest m crossing

-- an instruction with its number, and what follows it
abbrev pub following_turn : (Machine → ℕ → TracedBurst) → List Fault → ℕ → Machine → ℕ → Executed → TracedBurst
following_turn go_on rest number m acts t =
    rest_after (taken (traced number m t) ∷ [])
    (following_crossing go_on rest t.machine (acts + length (acts_of t.act)) t.crossing)

-- a fault's trap ends a burst
abbrev pub after_stop : (List Fault → Machine → TracedBurst) → Machine → List Fault → Option TrapCause → TracedBurst
after_stop go_on m rest None = go_on rest m
after_stop go_on m rest (Some cause) = finished rest m (ends.Trap cause)

abbrev pub after_strikes : (List Fault → Machine → TracedBurst) → Struck → TracedBurst
after_strikes go_on s = after_stop go_on s.machine s.rest s.stopped

-- a burst with this many instructions left and this many acts done
unfoldable pub trace_from : ℕ → List Entry → List Fault → Machine → ℕ → TracedBurst
trace_from zero entries faults m acts = finished faults m (ends.Trap trap.Hang)
trace_from (suc left) entries faults m acts =
    rest_after (map strike (struck_at (MOST_INSTRUCTIONS - suc left) faults))
    (after_strikes
    (λ rest struck. following_turn (λ m' acts'. trace_from left entries rest m' acts') rest (MOST_INSTRUCTIONS - left) struck acts
    (turn entries struck))
    (strikes_at (MOST_INSTRUCTIONS - suc left) entries faults m))

-- one burst up to its crossing, with the faults of the burst in ascending order of their positions
unfoldable pub burst_trace : List Entry → List Fault → Machine → TracedBurst
burst_trace entries faults m = trace_from MOST_INSTRUCTIONS entries faults m 0
