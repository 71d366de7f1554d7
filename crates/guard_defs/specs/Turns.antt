use Rattle.std.specs.Prelude.{ℕ, zero, suc, ◌-◌, nat_le, nat_lt, if◌then◌else◌, Some, None, List, [], length}
use Rattle.nook_data.specs.Types.{Act, Entry, Fault}
use Rattle.nook_data.specs.declared.limits.TheConstants.{MOST_INSTRUCTIONS}
use Rattle.machine_defs.specs.Burst.{on, over, one_turn, strikes_at}
use Rattle.machine_defs.specs.Execution.{Machine}

-- The instructions of a burst: how many it executes, what the first of them do, and which of them does an act.

-- how many instructions a burst executes, with this many left; an injected trap or hang ends it before an instruction
unfoldable pub turns_from : ℕ → List Entry → List Fault → Machine → List Act → ℕ
turns_from zero entries faults m acts = MOST_INSTRUCTIONS
turns_from (suc left) entries faults m acts = elim (strikes_at (MOST_INSTRUCTIONS - suc left) entries faults m).stopped [
  | Some cause ↦ MOST_INSTRUCTIONS - suc left
  | None ↦ elim (one_turn left entries faults m acts) [
    | on m' rest acts' ↦ turns_from left entries rest m' acts'
    | over b ↦ MOST_INSTRUCTIONS - left
  ]
]

-- how many instructions a burst executes
abbrev pub turns_of : List Entry → List Fault → Machine → ℕ
turns_of entries faults m = turns_from MOST_INSTRUCTIONS entries faults m []

-- the acts of a burst's first instructions, with this many instructions left and these acts so far
unfoldable pub acts_from : ℕ → ℕ → List Entry → List Fault → Machine → List Act → List Act
acts_from turns zero entries faults m acts = acts
acts_from turns (suc left) entries faults m acts = if nat_le turns (MOST_INSTRUCTIONS - suc left) then acts
    else elim (one_turn left entries faults m acts) [
      | on m' rest acts' ↦ acts_from turns left entries rest m' acts'
      | over b ↦ b.acts
    ]

-- the acts of the first instructions of a burst
abbrev pub acts_within : ℕ → List Entry → List Fault → Machine → List Act
acts_within turns entries faults m = acts_from turns MOST_INSTRUCTIONS entries faults m []

-- with this many left, how many instructions precede the one that does an act by index, or the last if none does it
unfoldable pub turns_to : ℕ → ℕ → List Entry → List Fault → Machine → List Act → ℕ
turns_to index zero entries faults m acts = MOST_INSTRUCTIONS
turns_to index (suc left) entries faults m acts = elim (one_turn left entries faults m acts) [
  | on m' rest acts' ↦ if nat_lt index (length acts') then MOST_INSTRUCTIONS - suc left
      else turns_to index left entries rest m' acts'
  | over b ↦ MOST_INSTRUCTIONS - suc left
]

-- how many instructions precede the one of a deed: the act with this index or, if there is none, the burst's crossing
abbrev pub turns_before : ℕ → List Entry → List Fault → Machine → ℕ
turns_before index entries faults m = turns_to index MOST_INSTRUCTIONS entries faults m []
