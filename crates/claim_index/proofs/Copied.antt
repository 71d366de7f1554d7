-- Claims are added again, one after another.
use Rattle.std.proofs.Common.{ℕ, zero, suc, ◌<◌, List, [], ◌∷◌, take, length, slice_index_or, arith}
use Rattle.claim_index.specs.declared.claim.Claim.{Claim}
use Rattle.claim_index.specs.Claims.{AreBelow, AreRising, HasBlocks, HaveBlocks}

-- each claim's number is above those before it
pub above_earlier : (low i : ℕ) (xs : List Claim) (d : Claim) → AreRising low xs → i < length xs
    → (low < (slice_index_or xs i d).call) × AreBelow (slice_index_or xs i d).call (take i xs)
above_earlier low i [] d r l = absurd (omega (arith, l))
above_earlier low zero (x ∷ xs) d r l = (r.0, tt)
above_earlier low (suc i) (x ∷ xs) d r l =
    let h = above_earlier x.call i xs d r.1 (omega (arith, l)) in (omega (arith, r.0, h.0), (h.0, h.1))

pub blocks_there : (i : ℕ) (xs : List Claim) (d : Claim) → HaveBlocks xs → i < length xs → HasBlocks (slice_index_or xs i d).on
blocks_there i [] d h l = absurd (omega (arith, l))
blocks_there zero (x ∷ xs) d h l = h.0
blocks_there (suc i) (x ∷ xs) d h l = blocks_there i xs d h.1 (omega (arith, l))
