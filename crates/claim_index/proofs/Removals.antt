-- What remains when the claims of a call end.
use Rattle.std.proofs.Common.{◌≡◌, ℕ, ◌==◌, ◌&&◌, Bool, true, false, not, Some, List, filter, refl, sym, ap, ◌∙◌, inl, inr, if◌then◌else◌}
use Rattle.std.proofs.lemmas.Bool.{cases_Bool}
use Rattle.claim_index.specs.declared.by_block.ByBlock.{ByBlock}
use Rattle.claim_index.specs.declared.claim.Claim.{Claim}
use Rattle.claim_index.specs.declared.claim.Claimed.{Claimed}
use Rattle.claim_index.specs.Claims.{AreRising, claim_by, end_claimed, first_claimed, without_call}
use Rattle.claim_index.specs.Indexed.{AreByBlock, calls_that, is_claimed, is_within, numbers_at}
use Rattle.claim_index.proofs.Claims.{calls_outside, calls_without}

pub list_kept : (p : Claimed → Bool) (xs : List Claim) (k : Claim) (old : List ℕ) → AreRising 0 xs → claim_by k.call xs ≡ Some k → p k.on ≡ false
    → old ≡ calls_that p xs → old ≡ calls_that p (without_call k.call xs)
list_kept p xs k old r f n e = e ∙ sym (calls_outside p 0 xs k r f n)

pub list_less : (p : Claimed → Bool) (xs : List Claim) (call : ℕ) (old new : List ℕ) → old ≡ calls_that p xs → new ≡ filter (λ n. not (n == call)) old
    → new ≡ calls_that p (without_call call xs)
list_less p xs call old new e f = f ∙ ap (λ z. filter (λ n. not (n == call)) z) e ∙ sym (calls_without p call xs)

and_left : (a b : Bool) → a ≡ false → (a && b) ≡ false
and_left a b e = rw e refl

and_right : (a b : Bool) → b ≡ false → (a && b) ≡ false
and_right true b e = e
and_right false b e = refl

pub blocks_kept : (kind : Claimed → Bool) (xs : List Claim) (k : Claim) (b : ByBlock) → AreRising 0 xs → claim_by k.call xs ≡ Some k → kind k.on ≡ false
    → AreByBlock kind xs b → AreByBlock kind (without_call k.call xs) b
blocks_kept kind xs k b r f n a = record {
  at = λ q. list_kept (λ o. kind o && is_claimed q o) xs k (numbers_at q b) r f (and_left (kind k.on) (is_claimed q k.on) n) (a.at q);
}

block_less : (kind : Claimed → Bool) (xs : List Claim) (k : Claim) (first end q : ℕ) (old new : List ℕ) → AreRising 0 xs → claim_by k.call xs ≡ Some k
    → first_claimed k.on ≡ first → end_claimed k.on ≡ end → old ≡ calls_that (λ o. kind o && is_claimed q o) xs
    → new ≡ (if is_within first end q then filter (λ n. not (n == k.call)) old else old)
    → new ≡ calls_that (λ o. kind o && is_claimed q o) (without_call k.call xs)
block_less kind xs k first end q old new r f i j e n = elim (cases_Bool (is_within first end q)) [
  | inl t ↦ list_less (λ o. kind o && is_claimed q o) xs k.call old new e (n ∙ rw t refl)
  | inr t ↦
      let same : new ≡ old = n ∙ rw t refl in
      let out : is_claimed q k.on ≡ false = rw (i, j) t in
      same ∙ list_kept (λ o. kind o && is_claimed q o) xs k old r f (and_right (kind k.on) (is_claimed q k.on) out) e
]

pub blocks_less : (kind : Claimed → Bool) (xs : List Claim) (k : Claim) (first end : ℕ) (b d : ByBlock) → AreRising 0 xs → claim_by k.call xs ≡ Some k
    → first_claimed k.on ≡ first → end_claimed k.on ≡ end → AreByBlock kind xs b
    → ((q : ℕ) → numbers_at q d ≡ (if is_within first end q then filter (λ n. not (n == k.call)) (numbers_at q b) else numbers_at q b))
    → AreByBlock kind (without_call k.call xs) d
blocks_less kind xs k first end b d r f i j a n = record {
  at = λ q. block_less kind xs k first end q (numbers_at q b) (numbers_at q d) r f i j (a.at q) (n q);
}
