use Rattle.std.proofs.Common.{◌≡◌, drop}
use Rattle.asm_defs.specs.AsmLines.{first_of}
use Rattle.driver_asm.proofs.labels.LabelTable.value.Given as goal

abbrev pub invariant-loop-label : goal.invariant-loop-label
invariant-loop-label l = first_of l.self l.name ≡ first_of (drop l.label-index l.label-items) l.name
