use Rattle.std.proofs.Common.{◌∷◌, [], ◌∙◌, sym}
use Rattle.journal_audit.proofs.WordsRead.{not_this}
use Rattle.journal_audit.proofs.words.context_in.Goals as goal

pub loop-context-preserved : goal.loop-context-preserved
loop-context-preserved c =
    sym (not_this (c.args.letter ∷ []) c.args.word.now c.loop-context.context c.loop-context-test.true (sym c.if-is_context.ensures)) ∙ c.loop-context.invariant
