use Rattle.std.proofs.Common.{◌∙◌}
use Rattle.driver_isa.proofs.Decoding.{encoded}
use Rattle.driver_isa.proofs.code.encode.Goals as goal

pub returns-clause-decodes : goal.returns-clause-decodes
returns-clause-decodes c = encoded c.args.instr _ c.row_of.result.number c.pack.result c.requires
    (c.fields.view_is ∙ c.fields_of-fields.ensures) c.row_of.ensures.number c.pack.ensures.word c.pack.ensures.imm
