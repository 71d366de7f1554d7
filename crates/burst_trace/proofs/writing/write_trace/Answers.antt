use Rattle.std.proofs.lemmas.Result.{err_from_is_err_and}
use Rattle.burst_trace.proofs.Finding.{part_found, traces_found, traces_no_part, traces_none, traces_unled}
use Rattle.burst_trace.proofs.writing.write_trace.Goals as goal

pub returns-in_default-clause-written : goal.returns-in_default-clause-written
returns-in_default-clause-written g c =
    traces_no_part c.args.scenario.now c.args.index c.args.burst c.as_slice.result.now _ c.requires c.as_slice.ensures c.in_default.ensures.lookup.3

pub returns-in_err-found-clause-written : goal.returns-in_err-found-clause-written
returns-in_err-found-clause-written g c =
    let q = err_from_is_err_and c.from_residual.result c.from_residual.ensures.1 in
    rw (q.1, q.2) (traces_unled c.args.scenario.now _ _ _ _ c.requires (λ e. cc))

pub returns-in-Some-2-clause-written : goal.returns-in-Some-2-clause-written
returns-in-Some-2-clause-written g c =
    traces_found c.args.scenario.now c.args.index c.args.burst c.in-Some.spec.now c.in_ok-found.field-0 c.in-Some-2.found c.in_ok-found.ensures
    c.in-Some-2.is (part_found c.args.scenario.now.parts c.as_slice.result.now c.args.index c.in-Some.spec.now c.as_slice.ensures c.in-Some.ensures.lookup.3.0
    c.in-Some.ensures.lookup.1) c.write_found.ensures.written

pub returns-in-None-clause-written : goal.returns-in-None-clause-written
returns-in-None-clause-written g c =
    traces_none c.args.scenario.now c.args.index c.args.burst c.in-Some.spec.now c.in_ok-found.field-0 _ c.in_ok-found.ensures c.in-None.is
    (part_found c.args.scenario.now.parts c.as_slice.result.now c.args.index c.in-Some.spec.now c.as_slice.ensures c.in-Some.ensures.lookup.3.0
    c.in-Some.ensures.lookup.1)
