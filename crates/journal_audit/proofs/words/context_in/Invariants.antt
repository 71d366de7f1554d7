use Rattle.std.proofs.Common.{◌≡◌, ◌-◌, ◌∷◌, []}
use Rattle.run_laws.specs.Audit.{context_among, context_in}
use Rattle.journal_audit.proofs.words.context_in.Given as goal

abbrev pub invariant-loop-context : goal.invariant-loop-context
invariant-loop-context l = context_among (17 - l.context) (l.letter ∷ []) l.word l.context ≡ context_in (l.letter ∷ []) l.word
