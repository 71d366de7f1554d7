use Rattle.std.proofs.Common.{[], ◌∷◌, ◌++◌}
use Rattle.claim_index.proofs.Blocks.{within_all}
use Rattle.claim_index.proofs.by_block.ByBlock.push.Goals as goal

pub returns : goal.returns
returns c = λ q. within_all (λ xs. xs ++ c.args.call ∷ []) c.args.first c.args.end c.loop-block.block q _ _
    c.loop-block-test.false (c.loop-block.invariant.pushed q)
