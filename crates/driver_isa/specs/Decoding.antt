use Rattle.std.specs.Prelude.{ℕ, Option, None, Some}
use Rattle.driver_isa.specs.declared.instructions.Decoded.{Decoded}
use Rattle.driver_isa.specs.declared.instructions.Op.{Op}
use Rattle.driver_isa.specs.declared.instructions.Op.TheVariants as op
use Rattle.driver_isa.specs.declared.turn.Rest.{Rest}
use Rattle.driver_isa.specs.declared.turn.Rest.TheVariants as rest
use Rattle.nook_data.specs.declared.machine.Instr.{Instr}
use Rattle.nook_data.specs.declared.machine.Instr.TheVariants as instr

-- the instruction of an op with these fields
abbrev pub op_instr : Op → ℕ → ℕ → ℕ → Option Instr
op_instr op.None a b imm = None
op_instr op.Li a b imm = Some (instr.Li a imm)
op_instr op.Lui a b imm = Some (instr.Lui a imm)
op_instr op.Mov a b imm = Some (instr.Mov a b)
op_instr op.Add a b imm = Some (instr.Add a b)
op_instr op.Sub a b imm = Some (instr.Sub a b)
op_instr op.And a b imm = Some (instr.And a b)
op_instr op.Or a b imm = Some (instr.Or a b)
op_instr op.Xor a b imm = Some (instr.Xor a b)
op_instr op.Shl a b imm = Some (instr.Shl a b)
op_instr op.Shr a b imm = Some (instr.Shr a b)
op_instr op.Addi a b imm = Some (instr.Addi a b imm)
op_instr op.Ld a b imm = Some (instr.Ld a b imm)
op_instr op.St a b imm = Some (instr.St a b imm)
op_instr op.Jmp a b imm = Some (instr.Jmp imm)
op_instr op.Beq a b imm = Some (instr.Beq a b imm)
op_instr op.Bne a b imm = Some (instr.Bne a b imm)
op_instr op.Blt a b imm = Some (instr.Blt a b imm)
op_instr op.Jal a b imm = Some (instr.Jal a imm)
op_instr op.Jr a b imm = Some (instr.Jr a)
op_instr op.In a b imm = Some (instr.In a imm)
op_instr op.Out a b imm = Some (instr.Out a imm)
op_instr op.Kcall a b imm = Some (instr.Kcall imm)
op_instr op.Ret a b imm = Some (instr.Ret a)
op_instr op.Fault a b imm = Some instr.Fault

-- the instruction of a decoded word, if it is one
abbrev pub instr_of : Decoded → Option Instr
instr_of d = op_instr d.op d.a d.b d.imm

-- the instruction with these fields of which this is left to do, if it is one
abbrev pub rest_instr : Rest → ℕ → ℕ → ℕ → Option Instr
rest_instr rest.Nothing a b imm = None
rest_instr rest.Jump a b imm = Some (instr.Jr a)
rest_instr rest.Load a b imm = Some (instr.Ld a b imm)
rest_instr rest.Store a b imm = Some (instr.St a b imm)
rest_instr rest.Input a b imm = Some (instr.In a imm)
rest_instr rest.Output a b imm = Some (instr.Out a imm)
rest_instr rest.Call a b imm = Some (instr.Kcall imm)
rest_instr rest.Reply a b imm = Some (instr.Ret a)
rest_instr rest.Explicit a b imm = Some instr.Fault
rest_instr rest.NoInstruction a b imm = None
