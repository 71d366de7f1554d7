use Rattle.std.specs.Prelude.{◌^◌, ◌<◌, ℕ, ◌-◌, ◌<◌, ◌≤◌, List, length}
use Rattle.nook_data.specs.declared.limits.TheConstants.{MOST_FRAME_WORDS}
use Rattle.nook_data.specs.declared.memory_map.TheConstants.{TEXT_WORDS}
use Rattle.nook_data.specs.Types.{Op}
use Rattle.nook_data.specs.Valid.{AreWords, IsValidOp}

-- Names for the limits of single things, for laws about reading and writing.

-- an index into the text
abbrev pub IsTextAddress : ℕ → Type 0
IsTextAddress address = address ≤ TEXT_WORDS - 1

-- 1 to 64 words
abbrev pub IsValidFrame : List ℕ → Type 0
IsValidFrame frame = (1 ≤ length frame) × AreWords MOST_FRAME_WORDS frame

-- a script's step, on one of this many parts
abbrev pub IsValidStep : ℕ → ℕ × Op → Type 0
IsValidStep parts step = (step.0 < parts) × IsValidOp step.1

-- a number of 16 bits
abbrev pub IsPick : ℕ → Type 0
IsPick pick = pick < 2 ^ 16
