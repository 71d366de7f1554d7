use Rattle.std.proofs.Common.{◌≡◌, ◌++◌, drop}
use Rattle.app_threads.specs.Works.{script_works}
use Rattle.app_threads.proofs.work.script_works.Given as goal

abbrev pub invariant-loop-thread : goal.invariant-loop-thread
invariant-loop-thread l = l.works.items ++ script_works l.thread (drop l.thread l.scripts) ≡ script_works 0 l.scripts
