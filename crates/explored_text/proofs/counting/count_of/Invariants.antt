use Rattle.std.proofs.Common.{◌≡◌, ◌≤◌, ◌==◌, take}
use Rattle.std.specs.List.{count_by}
use Rattle.order_search.specs.declared.rows.OutcomeRow.{OutcomeRow}
use Rattle.explored_text.proofs.counting.count_of.Given as goal

abbrev pub invariant-loop-row : goal.invariant-loop-row
invariant-loop-row l = record {
  few : l.count ≤ l.row-index;
  counted : l.count ≡ count_by (λ (row : OutcomeRow). row.numbers.status == l.number) (take l.row-index l.rows);
}
