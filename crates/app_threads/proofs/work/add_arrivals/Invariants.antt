use Rattle.std.proofs.Common.{◌≡◌, ◌++◌, drop}
use Rattle.app_threads.specs.Works.{arrival_works}
use Rattle.app_threads.proofs.work.add_arrivals.Given as goal

abbrev pub invariant-loop-part : goal.invariant-loop-part
invariant-loop-part l = l.works.items ++ arrival_works l.part (drop l.part l.arrivals) ≡ l.fn.works.items ++ arrival_works 0 l.arrivals
