use Rattle.run_results.proofs.Rows.{row_is}
use Rattle.run_results.proofs.row.row_of.Goals as goal

pub returns : goal.returns
returns c scenario whole runs = row_is scenario c.args.report.now _ _ _ _
    (rw (← c.as_slice.ensures) c.in_ok-events.ensures) (rw (← c.as_slice-2.ensures) c.in_ok-failures.ensures)
    (rw (← c.as_slice-3.ensures) c.in_ok-gone.ensures) (rw (← c.as_slice-4.ensures) c.in_ok-lost.ensures) whole runs
