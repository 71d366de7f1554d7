use Rattle.std.proofs.Common.{◌∙◌, ◌+◌, false, slice_set, arith, ap}
use Rattle.machine_defs.specs.Views.PageMap.{PageMap}
use Rattle.domain_call.proofs.Loans.{ended_more, all_ended}
use Rattle.domain_call.proofs.domain.recovery.revoke_all.Goals as goal

pub loop-context-preserved : goal.loop-context-preserved
loop-context-preserved c =
    let old = c.args.pages.now in
    let k = c.loop-context.context in
    c.revoke.ensures
    ∙ ap (λ (p : PageMap). record p { lent = slice_set p.lent k false }) c.loop-context.invariant
    ∙ ap (λ xs. record old { lent = xs }) (ended_more k (k + 1) old.lent (omega (arith, c.requires, c.loop-context-test.true)) (omega arith))

pub returns : goal.returns
returns c =
    c.loop-context.invariant
    ∙ ap (λ xs. record c.args.pages.now { lent = xs })
    (all_ended c.loop-context.context c.args.pages.now.lent c.requires (omega (arith, c.loop-context-test.false, c.loop-context.auto.context-end)))
