use Rattle.driver_asm.proofs.Short.{register_and_value}
use Rattle.asm_defs.specs.AsmLines.{first_of}
use Rattle.driver_asm.proofs.operands.register_and_value.Goals as goal

pub returns-in-len2-clause-operands : goal.returns-in-len2-clause-operands
returns-in-len2-clause-operands c =
    cc (register_and_value (first_of c.args.labels.now) c.args.tokens.now c.a-item.result c.imm-item.result c.in-len2.len_at_least c.in-len2.len_below c.a-item.is c.imm-item.is)
