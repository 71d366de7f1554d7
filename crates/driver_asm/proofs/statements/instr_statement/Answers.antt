use Rattle.driver_asm.proofs.statements.instr_statement.Goals as goal

pub returns-in-Text-clause-says : goal.returns-in-Text-clause-says
returns-in-Text-clause-says c = rw c.in-Text.is c.text_statement.ensures.says
