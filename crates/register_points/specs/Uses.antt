use Rattle.std.specs.Prelude.{ℕ, if◌then◌else◌, Option, Some, None}
use Rattle.nook_data.specs.Types.{Instr}
use Rattle.machine_defs.specs.Registers.{reads, sets}
use Rattle.register_points.specs.declared.uses.Use.{Use}
use Rattle.register_points.specs.declared.uses.Use.TheVariants as does

-- what an instruction does with a register; a word that is no instruction counts as one that reads it
abbrev pub use_of : Option Instr → ℕ → Use
use_of None r = does.Reads
use_of (Some i) r = if reads i r then does.Reads else if sets i r then does.Sets else does.Keeps
