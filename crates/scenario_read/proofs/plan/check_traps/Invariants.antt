use Rattle.std.proofs.Common.{◌≡◌, drop}
use Rattle.input_defs.specs.PlanReading.{check_traps}
use Rattle.scenario_read.proofs.plan.check_traps.Given as goal

abbrev pub invariant-loop-part : goal.invariant-loop-part
invariant-loop-part l = record {
  counted : l.index ≡ l.part-index;
  checked : check_traps l.struck l.more l.index (drop l.part-index l.parts) ≡ check_traps l.struck l.more 0 l.parts;
}
