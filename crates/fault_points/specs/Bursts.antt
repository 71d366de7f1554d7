use Rattle.std.specs.Prelude.{ℕ, ◌+◌, ◌-◌, ◌^◌, min, if◌then◌else◌, Bool, is_some, Option, Some, None, List, find, fold}
use Rattle.fault_points.specs.declared.points.BurstPoints.{BurstPoints}
use Rattle.machine_defs.specs.Burst.{trap_of}
use Rattle.machine_defs.specs.BurstFaults.{is_of_burst}
use Rattle.nook_data.specs.Types.{Event, Fault}
use Rattle.nook_data.specs.declared.steps.Event.TheVariants as event

-- The positions in a burst, by its event, the faults of its part, and the guard's traps.

-- whether the burst ends where the fault strikes
abbrev pub is_stop : Fault → Bool
is_stop f = is_some (trap_of f.kind)

-- a number of instructions, or those before a fault that ends the burst, if these are fewer
abbrev pub up_to : ℕ → Fault → ℕ
up_to turns f = if is_stop f then min turns f.after else turns

-- the same, if the fault is one of this burst
abbrev pub up_to_own : ℕ → ℕ → Fault → ℕ
up_to_own number turns f = if is_of_burst number f then up_to turns f else turns

-- the instructions that a burst executes, by the count in its event, which for an injected hang is always 4,096
abbrev pub turns_within : List Fault → ℕ → ℕ → ℕ
turns_within faults number count = fold (up_to_own number) count faults

-- the positions up to and including the guard's trap; without a trap, one before each instruction
abbrev pub positions_by : Option Fault → ℕ → ℕ
positions_by None turns = turns
positions_by (Some trap) turns = min (trap.after + 1) (2 ^ 32 - 1)

-- the positions in a burst, by its number and the count in its event
abbrev pub open_points : List Fault → List Fault → ℕ → ℕ → ℕ
open_points faults traps number count = positions_by (find (is_of_burst number) traps) (turns_within faults number count)

-- the positions in an event's burst; none if it is no burst
abbrev pub burst_points : List Fault → List Fault → Event → Option BurstPoints
burst_points faults traps (event.Burst context call burst count e acts answer failure) =
    Some (record { burst = burst; points = open_points faults traps burst count })
burst_points faults traps e = None
