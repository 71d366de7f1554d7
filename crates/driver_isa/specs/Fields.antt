use Rattle.std.specs.Prelude.{Bool, nat_le, ◌&&◌}
use Rattle.machine_defs.specs.Mnemonics.{fields_of}
use Rattle.nook_data.specs.declared.machine.Instr.{Instr}

-- the register numbers of an instruction are at most 15
abbrev pub has_registers : Instr → Bool
has_registers instr = nat_le (fields_of instr).a 15 && nat_le (fields_of instr).b 15
