use Rattle.std.proofs.Common.{◌≡◌, ◌+◌, ◌≤◌, ◌++◌, drop, map}
use Rattle.asm_defs.specs.Assembler.{first_cursor, labels_from}
use Rattle.driver_asm.proofs.passes.labels_of.Given as goal

abbrev pub invariant-loop-line : goal.invariant-loop-line
invariant-loop-line l = record {
  line : l.at.line ≡ l.line-index + 1;
  text : l.at.text ≤ l.line-index;
  initial : l.at.initial ≤ l.line-index;
  labels : l.labels ++ labels_from l.at (map (λ line. line.now) (drop l.line-index l.lines))
      ≡ labels_from first_cursor (map (λ line. line.now) l.lines);
}
