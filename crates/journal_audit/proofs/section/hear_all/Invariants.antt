use Rattle.std.proofs.Common.{◌≡◌, ℕ}
use Rattle.journal_audit.specs.Sections.{AreOn}
use Rattle.journal_audit.proofs.Hearing.{heard_below}
use Rattle.journal_audit.proofs.section.hear_all.Given as goal

abbrev pub invariant-loop-index : goal.invariant-loop-index
invariant-loop-index l = record {
  heard : heard_below l.index l.event l.threads ≡ heard_below 0 l.event l.initial.threads;
  parts : (part : ℕ) → AreOn part l.initial.threads → AreOn part l.threads;
}
