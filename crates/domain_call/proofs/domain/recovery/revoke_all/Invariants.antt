use Rattle.std.proofs.Common.{◌≡◌, ◌++◌, false, drop, replicate}
use Rattle.domain_call.proofs.domain.recovery.revoke_all.Given as goal

abbrev pub invariant-loop-context : goal.invariant-loop-context
invariant-loop-context l = l.pages ≡ record l.initial.pages { lent = replicate l.context false ++ drop l.context l.initial.pages.lent }
