use Rattle.std.proofs.Common.{List, [], ℕ, map, slice_index_or, ap, sym, ◌∙◌}
use Rattle.run_laws.specs.Audit.{in_script_order}
use Rattle.nook_data.specs.declared.calls.Answer.{Answer}
use Rattle.journal_audit.proofs.Scripts.{order_more}
use Rattle.journal_audit.proofs.last.answers_in_order.Goals as goal

pub loop-thread-preserved : goal.loop-thread-preserved
loop-thread-preserved c = λ past e.
    let thread = c.index-threads-thread.result in
    let given = c.in_ok-given.ensures ∙ ap (map (λ (answers : List (List (ℕ × Answer))). slice_index_or answers c.loop-thread.thread [])) (sym e) in
    let own = c.in_ok-in_script_order.ensures
    ∙ ap (λ ops. in_script_order ops c.in_ok-given.given) c.as_slice.ensures in
    rw c.in_ok-push.ensures.ok
    (order_more c.args.threads.now c.loop-thread.thread thread past c.in_ok-given.given c.loop-thread.made c.in_ok-in_script_order.field-0
    c.loop-thread-test.true given own (c.loop-thread.invariant past e))
