use Rattle.std.proofs.Common.{◌≡◌, map, take}
use Rattle.run_laws.specs.Audit.{thread_on}
use Rattle.journal_audit.specs.Sections.{AreOn, state_in}
use Rattle.journal_audit.proofs.section.threads_on.Given as goal

abbrev pub invariant-loop-spec : goal.invariant-loop-spec
invariant-loop-spec l = record {
  states : map state_in l.made.items ≡ map (thread_on l.part) (take l.spec-index l.specs);
  parts : AreOn l.part l.made.items;
}
