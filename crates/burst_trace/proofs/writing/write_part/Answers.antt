use Rattle.std.proofs.Common.{◌∙◌}
use Rattle.std.proofs.lemmas.Result.{err_from_is_err_and}
use Rattle.burst_trace.proofs.Reporting.{part_reported, unwritten}
use Rattle.burst_trace.proofs.writing.write_part.Goals as goal

pub returns-in_err-script-clause-written : goal.returns-in_err-script-clause-written
returns-in_err-script-clause-written g c =
    let q = err_from_is_err_and c.from_residual.result c.from_residual.ensures.1 in
    rw (q.1, q.2) (unwritten _ _ _ (λ e. cc))

pub returns-clause-written : goal.returns-clause-written
returns-clause-written g c =
    part_reported c.args.spec.now c.args.traced.now.burst c.args.traced.now.context _ _ _ _
    (c.faults_at-faults.ensures ∙ c.in_ok-script.ensures c.args.traced.now.burst)
    c.write_domain.ensures.written
