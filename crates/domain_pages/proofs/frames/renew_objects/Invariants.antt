use Rattle.std.proofs.Common.{◌≡◌, length}
use Rattle.domain_pages.proofs.Renewed.{AreNumbered}
use Rattle.domain_pages.proofs.frames.renew_objects.Given as goal

abbrev pub invariant-loop-object : goal.invariant-loop-object
invariant-loop-object l = (length l.frames ≡ 8192) × AreNumbered l.object l.frames
