use Rattle.std.proofs.Common.{◌≡◌, ℕ, ◌==◌, ◌&&◌, nat_lt, not, filter, if◌then◌else◌}
use Rattle.claim_index.specs.Indexed.{is_within, numbers_at}
use Rattle.claim_index.proofs.by_block.ByBlock.remove.Given as goal

abbrev pub invariant-loop-block : goal.invariant-loop-block
invariant-loop-block l = (q : ℕ) → numbers_at q l.self
    ≡ (if is_within l.first l.end q && nat_lt q l.block then filter (λ n. not (n == l.call)) (numbers_at q l.initial.self) else numbers_at q l.initial.self)
