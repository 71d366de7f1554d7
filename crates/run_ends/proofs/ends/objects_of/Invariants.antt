use Rattle.std.proofs.Common.{◌≡◌, ◌-◌, ◌++◌}
use Rattle.run_results.specs.Reports.{objects_from}
use Rattle.run_ends.specs.Ends.{objects_in}
use Rattle.run_ends.proofs.ends.objects_of.Given as goal

abbrev pub invariant-loop-object : goal.invariant-loop-object
invariant-loop-object l = l.objects ++ objects_from l.object (13 - l.object) l.part.state.domain.memory ≡ objects_in l.part.state.domain.memory
