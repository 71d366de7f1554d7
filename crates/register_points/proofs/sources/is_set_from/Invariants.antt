use Rattle.std.proofs.Common.{◌≡◌, drop}
use Rattle.register_points.specs.Sources.{is_set_from}
use Rattle.register_points.proofs.sources.is_set_from.Given as goal

abbrev pub invariant-loop-instr : goal.invariant-loop-instr
invariant-loop-instr l = is_set_from (drop l.instr-index l.instrs) l.register ≡ is_set_from l.instrs l.register
