use Rattle.std.proofs.Common.{length}
use Rattle.report_text.proofs.whole_text.+write_parts.Given as goal

abbrev pub decreases-write_parts : goal.decreases-write_parts
decreases-write_parts g l = length l.parts.now.specs.now
