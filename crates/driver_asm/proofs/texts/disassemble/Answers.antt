use Rattle.std.proofs.Common.{◌≡◌, ap, ◌∙◌, rules}
use Rattle.asm_defs.specs.Assembler.{assembled}
use Rattle.asm_defs.specs.Disassembler.{disassembled}
use Rattle.asm_defs.proofs.AsmWhole.{comes_back}
use Rattle.driver_asm.proofs.texts.disassemble.Goals as goal

pub returns-clause-back : goal.returns-clause-back
returns-clause-back c = λ valid.
    let text : c.from_vec.result ≡ disassembled c.args.image.now = search rules in
    ap assembled text ∙ comes_back c.args.image.now valid
