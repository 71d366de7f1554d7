use Rattle.std.proofs.lemmas.Result.{err_from_is_err_and}
use Rattle.report_text.proofs.WroteLemmas.{both, cut}
use Rattle.report_text.proofs.whole_text.write_final_rows.Goals as goal

pub returns-in_err-write_objects : goal.returns-in_err-write_objects
returns-in_err-write_objects g c =
    let q = err_from_is_err_and c.from_residual.result c.from_residual.ensures.1 in
    rw (q.1, q.2, ← c.as_slice.ensures) (cut _ c.in_err-write_objects.ensures)

pub returns-in_err-write_device : goal.returns-in_err-write_device
returns-in_err-write_device g c =
    let q = err_from_is_err_and c.from_residual-in_err-write_device.result c.from_residual-in_err-write_device.ensures.1 in
    rw (q.1, q.2, ← c.as_slice.ensures, ← c.as_slice-2.ensures)
    (both c.in_ok-write_objects.ensures (cut _ c.in_err-write_device.ensures))

pub returns : goal.returns
returns g c =
    rw (← c.as_slice.ensures, ← c.as_slice-2.ensures)
    (both c.in_ok-write_objects.ensures (both c.in_ok-write_device.ensures c.write_ending.ensures))
