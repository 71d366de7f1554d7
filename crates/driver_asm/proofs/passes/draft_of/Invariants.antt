use Rattle.std.proofs.Common.{◌≡◌, ◌+◌, drop, map}
use Rattle.asm_defs.specs.AsmLines.{first_of}
use Rattle.asm_defs.specs.Assembler.{draft_from, first_draft}
use Rattle.driver_asm.proofs.passes.draft_of.Given as goal

abbrev pub invariant-loop-line : goal.invariant-loop-line
invariant-loop-line l = record {
  number : l.number ≡ l.line-index + 1;
  draft : draft_from (first_of l.labels) l.number (map (λ line. line.now) (drop l.line-index l.lines)) l.draft
      ≡ draft_from (first_of l.labels) 1 (map (λ line. line.now) l.lines) first_draft;
}
