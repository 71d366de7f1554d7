use Rattle.std.proofs.Common.{Err, ap, is_err, sym, true≢false}
use Rattle.command_forms.specs.Forms.{form_for}
use Rattle.nooks.specs.Streams.{Whole}
use Rattle.nooks.proofs.Called.{fault_reported, stop_ends, waiting_limit, waiting_reads}
use Rattle.nooks.proofs.Written.{input_ends}
use Rattle.nooks.proofs.waiting.read_and_wait.Goals as goal

pub returns-in-Ok-clause-ends : goal.returns-in-Ok-clause-ends
returns-in-Ok-clause-ends g c =
    input_ends (form_for c.args.asked) (Whole c.as_slice.result.now) _ _ 1048576 _ c.wait.result (waiting_reads c.args.asked) (waiting_limit c.args.asked)
    (rw (c.as_slice.ensures.value) (c.in-Ok.ensures.all, c.in-Ok.ensures.short)) c.wait.ensures.ends

pub returns-in-Err-clause-ends : goal.returns-in-Err-clause-ends
returns-in-Err-clause-ends g c =
    stop_ends (form_for c.args.asked) _ _ c.in-Err.stop 1048576 _ c.refuse_source.result (waiting_reads c.args.asked) (waiting_limit c.args.asked)
    (λ e. (c.in-Err.ensures.too_long (ap Err e), c.in-Err.ensures.taken)) (λ e. c.in-Err.ensures.fault (ap Err e)) c.refuse_source.ensures.ends

pub returns-in-Ok-clause-source_kept : goal.returns-in-Ok-clause-source_kept
returns-in-Ok-clause-source_kept g c other = c.in-Ok.ensures.no_fault (λ e. true≢false (sym (ap is_err e)))

pub returns-in-Err-clause-source_kept : goal.returns-in-Err-clause-source_kept
returns-in-Err-clause-source_kept g c other =
    c.in-Err.ensures.no_fault (λ e. other (fault_reported c.in-Err.stop _ c.refuse_source.result e c.refuse_source.ensures.ends))
