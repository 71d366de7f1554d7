-- Lists of claims that grow and shrink.
use Rattle.std.proofs.Common.{◌≡◌, ℕ, zero, suc, ◌+◌, ◌≤◌, ◌<◌, ◌==◌, Bool, true, false, not, cond, Option, Some, None, List, [], ◌∷◌, ◌++◌, filter, map, slice_get, refl, sym, ap, ◌∙◌, inl, inr, arith}
use Rattle.std.specs.List.{find}
use Rattle.std.proofs.lemmas.Bool.{cases_Bool, eq-eqb, eqb-true, ne_eqb}
use Rattle.claim_index.specs.declared.claim.Claim.{Claim}
use Rattle.claim_index.specs.declared.claim.Claimed.{Claimed}
use Rattle.claim_index.specs.Claims.{AreBelow, AreRising, HasBlocks, HaveBlocks, claim_by, is_claim, without_call}
use Rattle.claim_index.specs.Indexed.{calls_that}

-- one more claim

pub calls_push : (p : Claimed → Bool) (xs : List Claim) (k : Claim) → calls_that p (xs ++ k ∷ []) ≡ cond (p k.on) (calls_that p xs ++ k.call ∷ []) (calls_that p xs)
calls_push p [] k = elim (cases_Bool (p k.on)) [
  | inl t ↦ rw t refl
  | inr t ↦ rw t refl
]
calls_push p (x ∷ xs) k = elim (cases_Bool (p x.on)) [
  | inl t ↦ elim (cases_Bool (p k.on)) [
    | inl s ↦ let h : calls_that p (xs ++ k ∷ []) ≡ calls_that p xs ++ k.call ∷ [] = calls_push p xs k ∙ rw s refl in rw (t, s, h) refl
    | inr s ↦ let h : calls_that p (xs ++ k ∷ []) ≡ calls_that p xs = calls_push p xs k ∙ rw s refl in rw (t, s, h) refl
  ]
  | inr t ↦ rw t (calls_push p xs k)
]

pub rising_push : (low : ℕ) (xs : List Claim) (k : Claim) → AreRising low xs → low < k.call → AreBelow k.call xs → AreRising low (xs ++ k ∷ [])
rising_push low [] k r l b = (l, tt)
rising_push low (x ∷ xs) k r l b = (r.0, rising_push x.call xs k r.1 b.0 b.1)

pub blocks_push : (xs : List Claim) (k : Claim) → HaveBlocks xs → HasBlocks k.on → HaveBlocks (xs ++ k ∷ [])
blocks_push [] k h b = (b, tt)
blocks_push (x ∷ xs) k h b = (h.0, blocks_push xs k h.1 b)

-- one claim less

pub calls_without : (p : Claimed → Bool) (call : ℕ) (xs : List Claim) → calls_that p (without_call call xs) ≡ filter (λ n. not (n == call)) (calls_that p xs)
calls_without p call [] = refl
calls_without p call (x ∷ xs) = elim (cases_Bool (p x.on)) [
  | inl t ↦ elim (cases_Bool (is_claim call x)) [
    | inl s ↦ rw (t, s) (calls_without p call xs)
    | inr s ↦ rw (t, s) (rw t (ap (λ z. x.call ∷ z) (calls_without p call xs)))
  ]
  | inr t ↦ elim (cases_Bool (is_claim call x)) [
    | inl s ↦ rw (t, s) (calls_without p call xs)
    | inr s ↦ rw (t, s) (rw t (calls_without p call xs))
  ]
]

without_lower : (low call : ℕ) (xs : List Claim) → AreRising low xs → call ≤ low → without_call call xs ≡ xs
without_lower low call [] r l = refl
without_lower low call (x ∷ xs) r l =
    rw (ne_eqb x.call call (λ e. omega (arith, e, l, r.0)), without_lower x.call call xs r.1 (omega (arith, l, r.0))) refl

-- removing a claim that fails a test leaves the calls that pass it
pub calls_outside : (p : Claimed → Bool) (low : ℕ) (xs : List Claim) (k : Claim) → AreRising low xs → claim_by k.call xs ≡ Some k → p k.on ≡ false
    → calls_that p (without_call k.call xs) ≡ calls_that p xs
calls_outside p low [] k r f n = refl
calls_outside p low (x ∷ xs) k r f n = elim (cases_Bool (is_claim k.call x)) [
  | inl t ↦
      let s : Some x ≡ Some k = rw (← f) (rw t refl) in
      let e : x ≡ k = cc in
      let q : p x.on ≡ false = ap (λ z. p z.on) e ∙ n in
      let w : without_call k.call xs ≡ xs = without_lower x.call k.call xs r.1 (omega (arith, eqb-true x.call k.call t)) in
      rw (t, q, w) refl
  | inr t ↦
      let s : claim_by k.call xs ≡ Some k = rw (← f) (rw t refl) in
      elim (cases_Bool (p x.on)) [
        | inl q ↦ rw t (rw q (ap (λ z. x.call ∷ z) (calls_outside p x.call xs k r.1 s n)))
        | inr q ↦ rw t (rw q (calls_outside p x.call xs k r.1 s n))
      ]
]

rising_lower : (low high : ℕ) (xs : List Claim) → low ≤ high → AreRising high xs → AreRising low xs
rising_lower low high [] l r = tt
rising_lower low high (x ∷ xs) l r = (omega (arith, l, r.0), r.1)

pub rising_without : (low call : ℕ) (xs : List Claim) → AreRising low xs → AreRising low (without_call call xs)
rising_without low call [] r = tt
rising_without low call (x ∷ xs) r = elim (cases_Bool (is_claim call x)) [
  | inl t ↦ rw t (rising_lower low x.call (without_call call xs) (omega (arith, r.0)) (rising_without x.call call xs r.1))
  | inr t ↦ rw t (r.0, rising_without x.call call xs r.1)
]

pub blocks_without : (call : ℕ) (xs : List Claim) → HaveBlocks xs → HaveBlocks (without_call call xs)
blocks_without call [] h = tt
blocks_without call (x ∷ xs) h = elim (cases_Bool (is_claim call x)) [
  | inl t ↦ rw t (blocks_without call xs h.1)
  | inr t ↦ rw t (h.0, blocks_without call xs h.1)
]

-- a claim by its call's number

pub claim_has_blocks : (call : ℕ) (xs : List Claim) (k : Claim) → HaveBlocks xs → claim_by call xs ≡ Some k → HasBlocks k.on
claim_has_blocks call [] k h f = absurd (cc)
claim_has_blocks call (x ∷ xs) k h f = elim (cases_Bool (is_claim call x)) [
  | inl t ↦ let s : Some x ≡ Some k = rw (← f) (rw t refl) in let e : x ≡ k = cc in rw (← e) h.0
  | inr t ↦ claim_has_blocks call xs k h.1 (rw (← f) (rw t refl))
]

pub claim_call : (call : ℕ) (xs : List Claim) (k : Claim) → claim_by call xs ≡ Some k → k.call ≡ call
claim_call call [] k f = absurd (cc)
claim_call call (x ∷ xs) k f = elim (cases_Bool (is_claim call x)) [
  | inl t ↦ let s : Some x ≡ Some k = rw (← f) (rw t refl) in let e : x ≡ k = cc in rw (← e) (eqb-true x.call call t)
  | inr t ↦ claim_call call xs k (rw (← f) (rw t refl))
]

-- a call that is not open claims nothing
pub without_none : (call : ℕ) (xs : List Claim) → claim_by call xs ≡ None → without_call call xs ≡ xs
without_none call [] f = refl
without_none call (x ∷ xs) f = elim (cases_Bool (is_claim call x)) [
  | inl t ↦ let s : Some x ≡ None = rw (← f) (rw t refl) in absurd (cc)
  | inr t ↦ let s : claim_by call xs ≡ None = rw (← f) (rw t refl) in rw (t, without_none call xs s) refl
]
