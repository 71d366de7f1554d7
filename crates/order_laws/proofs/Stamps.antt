-- Rising stamps distinguish the events of a journal.
use Rattle.std.proofs.Common.{◌≡◌, ℕ, zero, suc, ◌<◌, ◌≤◌, nat_lt, Some, List, [], ◌∷◌, length, slice_index_or, refl, sym, subst, arith}
use Rattle.std.proofs.lemmas.Bool.{ltb-true, ltb-false}
use Rattle.desk_like.specs.Desks.{IsReceipt, IsRisingFrom}
use Rattle.nook_data.specs.Numbered.{at_number}
use Rattle.nook_data.specs.declared.calls.Op.{Op}
use Rattle.nook_data.specs.declared.desks.Receipt.{Receipt}
use Rattle.nook_data.specs.declared.steps.Event.{Event}
use Rattle.nook_data.proofs.Options.{none_is_some}
use Rattle.part_laws.proofs.Indices.{split}
use Rattle.desk_like.specs.Stamps.{IsStamped, stamp_at, stamps_on}
use Rattle.order_defs.specs.OneClock.{AreStamped, journal_on}

-- ---- numbers that rise

after_low : (low : ℕ) (xs : List ℕ) (q : ℕ) → IsRisingFrom low xs → q < length xs → low < slice_index_or xs q 0
after_low low [] q h l = absurd (omega arith)
after_low low (x ∷ xs) zero h l = h.0
after_low low (x ∷ xs) (suc q) h l =
    let more : x < slice_index_or xs q 0 = after_low x xs q h.1 (omega arith) in
    let first : low < x = h.0 in
    omega arith

numbers_rise : (low : ℕ) (xs : List ℕ) (p q : ℕ) → IsRisingFrom low xs → p < q → q ≤ length xs
    → slice_index_or (low ∷ xs) p 0 < slice_index_or (low ∷ xs) q 0
numbers_rise low xs p zero h l m = absurd (omega arith)
numbers_rise low xs zero (suc q) h l m = after_low low xs q h (omega arith)
numbers_rise low [] (suc p) (suc q) h l m = absurd (omega arith)
numbers_rise low (x ∷ xs) (suc p) (suc q) h l m = numbers_rise x xs p q h.1 (omega arith) (omega arith)

numbers_keep : (low : ℕ) (xs : List ℕ) (p q : ℕ) → IsRisingFrom low xs → p ≤ q → q ≤ length xs
    → slice_index_or (low ∷ xs) p 0 ≤ slice_index_or (low ∷ xs) q 0
numbers_keep low xs p q h l m = split (nat_lt p q)
    (λ less.
    let rise : slice_index_or (low ∷ xs) p 0 < slice_index_or (low ∷ xs) q 0 = numbers_rise low xs p q h (ltb-true p q less) m in
    omega arith)
    (λ not.
    let same : p ≡ q = both p q l (ltb-false p q not) in
    subst (λ (k : ℕ). slice_index_or (low ∷ xs) p 0 ≤ slice_index_or (low ∷ xs) k 0) same (no_more (slice_index_or (low ∷ xs) p 0)))
  where
    both : (p q : ℕ) → p ≤ q → q ≤ p → p ≡ q
    both p q l m = omega arith

    no_more : (n : ℕ) → n ≤ n
    no_more n = omega arith

-- ---- numbers of items

-- the number of an item is within its list
pub position_within : {X : Type 0} (xs : List X) (number : ℕ) (x : X) → at_number number xs ≡ Some x → (0 < number) × (number ≤ length xs)
position_within xs zero x h = none_is_some h
position_within [] (suc n) x h = none_is_some h
position_within (y ∷ xs) (suc zero) x h = (omega arith, omega arith)
position_within (y ∷ xs) (suc (suc n)) x h =
    let more = position_within xs (suc n) x h in
    let low : suc n ≤ length xs = more.1 in
    (omega arith, omega arith)

-- ---- the stamps of journals

module _ (journals : List (List Event)) (stamps : List (List ℕ)) (all : AreStamped journals stamps) where
  pub stamped_on : (part : ℕ) → IsStamped (journal_on journals part) (stamps_on stamps part)
  stamped_on part = by_position journals stamps all part
    where
      by_position : (js : List (List Event)) (ss : List (List ℕ)) → AreStamped js ss → (k : ℕ) → IsStamped (journal_on js k) (stamps_on ss k)
      by_position [] [] h k = record { count = refl; rising = tt }
      by_position [] (x ∷ ss) h k = absurd h
      by_position (j ∷ js) [] h k = absurd h
      by_position (j ∷ js) (x ∷ ss) h zero = h.0
      by_position (j ∷ js) (x ∷ ss) h (suc k) = by_position js ss h.1 k

  pub stamps_rise : (part p q : ℕ) → p < q → q ≤ length (journal_on journals part) → stamp_at stamps part p < stamp_at stamps part q
  stamps_rise part p q l m =
      let s : IsStamped (journal_on journals part) (stamps_on stamps part) = stamped_on part in
      numbers_rise 0 (stamps_on stamps part) p q s.rising l (subst (λ (n : ℕ). q ≤ n) (sym s.count) m)

  pub stamps_keep : (part p q : ℕ) → p ≤ q → q ≤ length (journal_on journals part) → stamp_at stamps part p ≤ stamp_at stamps part q
  stamps_keep part p q l m =
      let s : IsStamped (journal_on journals part) (stamps_on stamps part) = stamped_on part in
      numbers_keep 0 (stamps_on stamps part) p q s.rising l (subst (λ (n : ℕ). q ≤ n) (sym s.count) m)

  -- an event with a later stamp has a higher number
  pub later_position : (part p q : ℕ) → p ≤ length (journal_on journals part) → stamp_at stamps part p < stamp_at stamps part q → p < q
  later_position part p q m l = split (nat_lt p q)
      (λ less. ltb-true p q less)
      (λ not.
      let kept : stamp_at stamps part q ≤ stamp_at stamps part p = stamps_keep part q p (ltb-false p q not) m in
      absurd (past (stamp_at stamps part p) (stamp_at stamps part q) l kept))
    where
      past : (a b : ℕ) → a < b → b ≤ a → ⊥
      past a b l k = omega arith

  -- an operation is answered no earlier than it is invoked
  pub answered_later : (part thread : ℕ) (op : Op) (r : Receipt) → IsReceipt (journal_on journals part) thread op r
      → stamp_at stamps part r.at_invoke ≤ stamp_at stamps part r.at_reply
  answered_later part thread op r h =
      stamps_keep part r.at_invoke r.at_reply h.ordered (position_within (journal_on journals part) r.at_reply h.answered.event h.answered.there).1
