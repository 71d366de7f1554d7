use Rattle.std.proofs.Common.{◌≡◌, drop}
use Rattle.asm_defs.specs.AsmLines.{position_among}
use Rattle.driver_asm.proofs.entries.address_in.Given as goal

abbrev pub invariant-loop-index : goal.invariant-loop-index
invariant-loop-index l = position_among 0 l.entries l.name ≡ position_among l.index (drop l.index l.entries) l.name
