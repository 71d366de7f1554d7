use Rattle.std.proofs.Common.{not, ◌==◌, filter}
use Rattle.claim_index.proofs.Blocks.{within_all, within_more}
use Rattle.claim_index.proofs.by_block.ByBlock.remove.Goals as goal

pub loop-block-preserved : goal.loop-block-preserved
loop-block-preserved c = λ q. within_more (λ xs. filter (λ n. not (n == c.args.call)) xs) c.args.first c.args.end c.loop-block.block q _ _ _
    c.loop-block.auto.block c.loop-block-test.true (c.loop-block.invariant q) (c.remove_at.ensures q)

pub returns : goal.returns
returns c = λ q. within_all (λ xs. filter (λ n. not (n == c.args.call)) xs) c.args.first c.args.end c.loop-block.block q _ _
    c.loop-block-test.false (c.loop-block.invariant q)
