use Rattle.driver_asm.proofs.Short.{registers_and_value}
use Rattle.asm_defs.specs.AsmLines.{first_of}
use Rattle.driver_asm.proofs.operands.registers_and_value.Goals as goal

pub returns-in-len3-clause-operands : goal.returns-in-len3-clause-operands
returns-in-len3-clause-operands c =
    cc (registers_and_value (first_of c.args.labels.now) c.args.tokens.now c.a-item.result c.b-item.result c.imm-item.result c.in-len3.len_at_least c.in-len3.len_below c.a-item.is c.b-item.is c.imm-item.is)
