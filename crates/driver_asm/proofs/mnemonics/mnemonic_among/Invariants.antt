use Rattle.std.proofs.Common.{◌≡◌, drop}
use Rattle.nook_data.specs.Names.{of_text}
use Rattle.machine_defs.specs.Mnemonics.{mnemonic_text}
use Rattle.driver_asm.proofs.mnemonics.mnemonic_among.Given as goal

abbrev pub invariant-loop-index : goal.invariant-loop-index
invariant-loop-index l = of_text mnemonic_text l.mnemonics l.name ≡ of_text mnemonic_text (drop l.index l.mnemonics) l.name
