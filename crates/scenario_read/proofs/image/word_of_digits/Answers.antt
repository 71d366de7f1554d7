use Rattle.scenario_read.proofs.HexWords.{parsed}
use Rattle.scenario_read.proofs.image.word_of_digits.Goals as goal

pub unreachable-requires : goal.unreachable-requires
unreachable-requires c =
    cc (parsed c.args.digits.now c.from_str_radix.result c.requires.eight c.requires.hex c.from_str_radix.ensures.value, c.in-Err.is)
