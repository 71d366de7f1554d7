use Rattle.std.proofs.Common.{◌≡◌, ◌+◌, drop}
use Rattle.order_search.specs.Found.{row_lines}
use Rattle.nook_io.specs.Changes.{change}
use Rattle.report_text.proofs.WroteLemmas.{Progress}
use Rattle.explored_text.proofs.writing.write_rows.Given as goal

abbrev pub invariant-loop-row : goal.invariant-loop-row
invariant-loop-row g l = record {
  counted : l.number ≡ 1 + l.row-index;
  progress : Progress (change g.K.Sink.held g.K.Sink.count l.initial.sink l.sink)
      (row_lines l.number (drop l.row-index l.rows)) (row_lines 1 l.rows);
}
