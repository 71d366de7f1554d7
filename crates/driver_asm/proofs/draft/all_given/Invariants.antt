use Rattle.std.proofs.Common.{◌≡◌, drop}
use Rattle.asm_defs.specs.Assembler.{all_given}
use Rattle.driver_asm.specs.Addresses.{rest_after}
use Rattle.driver_asm.proofs.draft.all_given.Given as goal

abbrev pub invariant-loop-entry : goal.invariant-loop-entry
invariant-loop-entry l = all_given l.entries ≡ rest_after l.given (all_given (drop l.entry-index l.entries))
