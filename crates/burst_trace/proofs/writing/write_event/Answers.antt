use Rattle.std.proofs.Common.{refl, rules}
use Rattle.std.proofs.lemmas.Result.{err_from_is_err_and}
use Rattle.burst_trace.proofs.Reporting.{unwritten}
use Rattle.burst_trace.proofs.writing.write_event.Goals as goal

pub returns-in_err-head-in-Burst-clause-written : goal.returns-in_err-head-in-Burst-clause-written
returns-in_err-head-in-Burst-clause-written g c =
    let q = err_from_is_err_and c.from_residual.result c.from_residual.ensures.1 in
    rw (q.1, q.2) (unwritten _ _ _ (λ e. cc))

pub returns-in_default : goal.returns-in_default
returns-in_default g c = record { written = record { wrote = search rules; there = search rules }; untouched = λ same. refl }
