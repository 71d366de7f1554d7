use Rattle.std.proofs.Common.{Err, ap, is_err, sym, true≢false}
use Rattle.nooks.specs.Streams.{Whole}
use Rattle.nooks.proofs.Called.{fault_reported, stop_ends}
use Rattle.nooks.proofs.Written.{input_ends}
use Rattle.nooks.proofs.answering.read_and_answer.Goals as goal

pub returns-in-Ok-clause-ends : goal.returns-in-Ok-clause-ends
returns-in-Ok-clause-ends g c =
    input_ends c.args.asked (Whole c.as_slice.result.now) _ _ c.limit_of.result _ c.answer.result c.requires.reading c.limit_of.ensures
    (rw (c.as_slice.ensures.value) (c.in-Ok.ensures.all, c.in-Ok.ensures.short)) c.answer.ensures.ends

pub returns-in-Err-clause-ends : goal.returns-in-Err-clause-ends
returns-in-Err-clause-ends g c =
    stop_ends c.args.asked _ _ c.in-Err.stop c.limit_of.result _ c.refuse_source.result c.requires.reading c.limit_of.ensures
    (λ e. (c.in-Err.ensures.too_long (ap Err e), c.in-Err.ensures.taken)) (λ e. c.in-Err.ensures.fault (ap Err e)) c.refuse_source.ensures.ends

pub returns-in-Ok-clause-source_kept : goal.returns-in-Ok-clause-source_kept
returns-in-Ok-clause-source_kept g c other = c.in-Ok.ensures.no_fault (λ e. true≢false (sym (ap is_err e)))

pub returns-in-Err-clause-source_kept : goal.returns-in-Err-clause-source_kept
returns-in-Err-clause-source_kept g c other =
    c.in-Err.ensures.no_fault (λ e. other (fault_reported c.in-Err.stop _ c.refuse_source.result e c.refuse_source.ensures.ends))
