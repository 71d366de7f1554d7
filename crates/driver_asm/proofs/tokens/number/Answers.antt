use Rattle.std.proofs.Common.{arith}
use Rattle.std.proofs.lemmas.Grind.{common_steps}
use Rattle.driver_asm.proofs.Numerals.{digit_more}
use Rattle.driver_asm.proofs.tokens.number.Goals as goal

pub loop-byte-preserved : goal.loop-byte-preserved
loop-byte-preserved c =
    let more = digit_more c.args.base c.args.bytes.now c.loop-byte.byte-index c.loop-byte.number (omega arith) (omega arith) c.loop-byte.invariant.number in
    record {
      digits = grind (arith, common_steps);
      number = grind (arith, common_steps, more);
    }
