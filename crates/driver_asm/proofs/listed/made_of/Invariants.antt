use Rattle.std.proofs.Common.{◌≡◌, ◌+◌, ◌++◌, drop, map}
use Rattle.asm_defs.specs.AsmLines.{first_of}
use Rattle.asm_defs.specs.Assembler.{draft_from, first_draft}
use Rattle.asm_defs.specs.declared.assembler.Section.TheVariants as section
use Rattle.driver_asm.specs.Listed.{makers}
use Rattle.driver_asm.proofs.listed.made_of.Given as goal

abbrev pub invariant-loop-line : goal.invariant-loop-line
invariant-loop-line l = record {
  number : l.number ≡ l.line-index + 1;
  draft : draft_from (first_of l.labels) l.number (map (λ line. line.now) (drop l.line-index l.lines)) l.made.draft
      ≡ draft_from (first_of l.labels) 1 (map (λ line. line.now) l.lines) first_draft;
  text : l.made.text_lines ++ makers section.Text (first_of l.labels) l.number (map (λ line. line.now) (drop l.line-index l.lines)) l.made.draft
      ≡ makers section.Text (first_of l.labels) 1 (map (λ line. line.now) l.lines) first_draft;
  initial : l.made.initial_lines ++ makers section.Data (first_of l.labels) l.number (map (λ line. line.now) (drop l.line-index l.lines)) l.made.draft
      ≡ makers section.Data (first_of l.labels) 1 (map (λ line. line.now) l.lines) first_draft;
}
