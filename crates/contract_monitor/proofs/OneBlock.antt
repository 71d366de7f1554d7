-- One more block of those that a Read asks for.
use Rattle.std.proofs.Common.{◌≡◌, ℕ, suc, ◌+◌, ◌-◌, ◌<◌, List, [], ◌++◌, slice_get, ap, ◌∙◌, arith}
use Rattle.std.specs.Option.{unwrap_or}
use Rattle.promise_defs.specs.Blocks.{get_blocks}

left_is : (count i : ℕ) → i < count → count - i ≡ suc (count - (i + 1))
left_is count i l = omega arith

next_is : (first i : ℕ) → suc (first + i) ≡ first + (i + 1)
next_is first i = omega arith

pub blocks_more : (medium : List (List ℕ)) (first count i : ℕ) → i < count →
    get_blocks medium (first + i) (count - i)
    ≡ unwrap_or (slice_get medium (first + i)) [] ++ get_blocks medium (first + (i + 1)) (count - (i + 1))
blocks_more medium first count i l =
    ap (get_blocks medium (first + i)) (left_is count i l)
    ∙ ap (λ n. unwrap_or (slice_get medium (first + i)) [] ++ get_blocks medium n (count - (i + 1))) (next_is first i)
