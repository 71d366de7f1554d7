use Rattle.std.proofs.Common.{◌≡◌, drop}
use Rattle.asm_defs.specs.Keys.{index_among}
use Rattle.asm_defs.proofs.keys.index_in.Given as goal

abbrev pub invariant-loop-index : goal.invariant-loop-index
invariant-loop-index l = index_among 0 l.entry l.entries ≡ index_among l.index l.entry (drop l.index l.entries)
