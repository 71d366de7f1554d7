use Rattle.std.proofs.Common.{length}
use Rattle.report_text.proofs.write.+write_threads.Given as goal

abbrev pub decreases-write_threads : goal.decreases-write_threads
decreases-write_threads g l = length l.threads.now
