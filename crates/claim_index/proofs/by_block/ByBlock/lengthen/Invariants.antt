use Rattle.std.proofs.Common.{◌≡◌, ℕ, vec_len}
use Rattle.claim_index.specs.Indexed.{numbers_at}
use Rattle.claim_index.proofs.by_block.ByBlock.lengthen.Given as goal

abbrev pub invariant-loop-block : goal.invariant-loop-block
invariant-loop-block l = record {
  same : (q : ℕ) → numbers_at q l.self ≡ numbers_at q l.initial.self;
  size : vec_len l.self.numbers ≡ l.block;
}
