use Rattle.std.proofs.Common.{◌≡◌, drop}
use Rattle.std.specs.List.{list_all}
use Rattle.mirrored_run.specs.Mirrors.{is_mirrored_op}
use Rattle.mirrored_run.proofs.which.are_mirrored.Given as goal

abbrev pub invariant-loop-part : goal.invariant-loop-part
invariant-loop-part l = list_all is_mirrored_op (drop l.part-index l.ops) ≡ list_all is_mirrored_op l.ops
