use Rattle.std.proofs.Common.{◌<◌, arith}
use Rattle.std.proofs.lemmas.Fmt.{decimal_digit}
use Rattle.journal_audit.proofs.WordsRead.{decimal_teen}
use Rattle.journal_audit.proofs.words.is_context.Goals as goal

pub returns-then-context-lt10 : goal.returns-then-context-lt10
returns-then-context-lt10 c = let d = decimal_digit c.args.context c.if-context-lt10.true in cc

pub returns-else-context-lt10 : goal.returns-else-context-lt10
returns-else-context-lt10 c =
    let low : c.args.context < 20 = omega arith in
    let d = decimal_teen c.args.context c.if-context-lt10.false low in cc
