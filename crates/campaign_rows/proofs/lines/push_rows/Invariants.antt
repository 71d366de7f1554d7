use Rattle.std.proofs.Common.{◌≡◌, ◌+◌, ◌++◌, drop}
use Rattle.campaign_defs.specs.TableText.{plan_row_lines}
use Rattle.campaign_rows.proofs.lines.push_rows.Given as goal

abbrev pub invariant-loop-row : goal.invariant-loop-row
invariant-loop-row l = record {
  counted : l.position ≡ l.first + l.row-index;
  lines : l.line ++ plan_row_lines l.position (drop l.row-index l.rows) ≡ l.initial.line ++ plan_row_lines l.first l.rows;
}
