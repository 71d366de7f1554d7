use Rattle.std.proofs.Common.{refl}
use Rattle.nooks.proofs.Written.{says_begun, says_written}
use Rattle.nooks.proofs.program.finish.Goals as goal

pub returns-in-Ok-clause-ends : goal.returns-in-Ok-clause-ends
returns-in-Ok-clause-ends g c = says_written c.args.status c.args.text.now _ c.requires c.in-Ok.ensures.ok

pub returns-in-Err-clause-ends : goal.returns-in-Err-clause-ends
returns-in-Err-clause-ends g c = says_begun c.args.status c.args.text.now _ c.in-Err.ensures.cause.failed c.in-Err.ensures.err

pub returns-in-Ok-clause-kept : goal.returns-in-Ok-clause-kept
returns-in-Ok-clause-kept g c other = c.in-Ok.ensures.cause.kept

pub returns-in-Err-clause-kept : goal.returns-in-Err-clause-kept
returns-in-Err-clause-kept g c other = absurd (other refl)
