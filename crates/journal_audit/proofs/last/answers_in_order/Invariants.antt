use Rattle.std.proofs.Common.{◌≡◌, List, map, take}
use Rattle.run_laws.specs.Audit.{Done, answers_in_order}
use Rattle.journal_audit.specs.PastSections.{answers_in}
use Rattle.journal_audit.proofs.last.answers_in_order.Given as goal

abbrev pub invariant-loop-thread : goal.invariant-loop-thread
invariant-loop-thread l =
    (past : List Done) → map answers_in past ≡ l.sections → l.made ≡ answers_in_order 0 (take l.thread l.threads) past
