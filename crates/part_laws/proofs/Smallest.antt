-- The smallest broken clause, as a running minimum and as the first of a list.
use Rattle.std.proofs.Common.{◌≡◌, ℕ, ◌<◌, ◌||◌, not, min, Bool, true, false, Option, Some, None, List, [], ◌∷◌, filter, sym, refl, ap, ◌∙◌, arith}
use Rattle.nook_data.specs.declared.verdicts.Break.{Break}
use Rattle.part_laws.specs.Watch.{break_at, smaller_clause, required}
use Rattle.part_laws.proofs.Indices.{split}
use Rattle.nook_data.specs.declared.clause.Clause.{Clause}
use Rattle.nook_data.specs.Clauses.{all_clauses, clause_number}
use Rattle.promise_defs.proofs.PromiseChanges.{break_or}

-- the smallest of these clauses that the test finds broken, or of the one that was broken before
abbrev pub smallest_or : List Clause → (Clause → Bool) → Option ℕ → Option ℕ
smallest_or [] test x = x
smallest_or (c ∷ cs) test x = required (not (test c)) (clause_number c) (smallest_or cs test x)

required_swap : (a b : Bool) (m n : ℕ) (x : Option ℕ) → required a m (required b n x) ≡ required b n (required a m x)
required_swap true b m n x = refl
required_swap false true m n x = refl
required_swap false false m n None = ap Some (omega arith)
required_swap false false m n (Some k) = ap Some (omega arith)

required_twice : (a b : Bool) (n : ℕ) (x : Option ℕ) → required (not (a || b)) n x ≡ required (not b) n (required (not a) n x)
required_twice true true n None = ap Some (omega arith)
required_twice true true n (Some k) = ap Some (omega arith)
required_twice true false n x = refl
required_twice false b n x = refl

past_required : (cs : List Clause) (q : Clause → Bool) (b : Bool) (n : ℕ) (x : Option ℕ)
    → smallest_or cs q (required b n x) ≡ required b n (smallest_or cs q x)
past_required [] q b n x = refl
past_required (c ∷ cs) q b n x =
    ap (required (not (q c)) (clause_number c)) (past_required cs q b n x) ∙ required_swap (not (q c)) b (clause_number c) n (smallest_or cs q x)

-- what is broken first, followed by what is broken later
pub smallest_join : (cs : List Clause) (p q : Clause → Bool) (x : Option ℕ)
    → smallest_or cs (λ c. p c || q c) x ≡ smallest_or cs q (smallest_or cs p x)
smallest_join [] p q x = refl
smallest_join (c ∷ cs) p q x =
    ap (required (not (p c || q c)) (clause_number c)) (smallest_join cs p q x)
    ∙ required_twice (p c) (q c) (clause_number c) (smallest_or cs q (smallest_or cs p x))
    ∙ ap (required (not (q c)) (clause_number c)) (sym (past_required cs q (not (p c)) (clause_number c) (smallest_or cs p x)))

abbrev IsRising : ℕ → List Clause → Type 0
IsRising low [] = Unit {0}
IsRising low (c ∷ cs) = (low < clause_number c) × IsRising (clause_number c) cs

abbrev IsAbove : ℕ → Option ℕ → Type 0
IsAbove low None = Unit {0}
IsAbove low (Some k) = low < k

above_lower : (low n : ℕ) (x : Option ℕ) → low < n → IsAbove n x → IsAbove low x
above_lower low n None l h = tt
above_lower low n (Some k) l h = omega arith

above_required : (low n : ℕ) (b : Bool) (x : Option ℕ) → low < n → IsAbove n x → IsAbove low (required b n x)
above_required low n true x l h = above_lower low n x l h
above_required low n false None l h = l
above_required low n false (Some k) l h = omega arith

smallest_above : (low : ℕ) (cs : List Clause) (p : Clause → Bool) → IsRising low cs → IsAbove low (smallest_or cs p None)
smallest_above low [] p r = tt
smallest_above low (c ∷ cs) p r =
    above_required low (clause_number c) (not (p c)) (smallest_or cs p None) r.0 (smallest_above (clause_number c) cs p r.1)

smaller_first : (n : ℕ) (x : Option ℕ) → IsAbove n x → smaller_clause n x ≡ n
smaller_first n None h = refl
smaller_first n (Some k) h = omega arith

first_of : (low : ℕ) (cs : List Clause) (p : Clause → Bool) (number : ℕ) (later : Option Break) → IsRising low cs
    → break_or number (filter p cs) later ≡ break_at (smallest_or cs p None) number later
first_of low [] p number later r = refl
first_of low (c ∷ cs) p number later r = split (p c)
    (λ e. rw e (ap (λ n. Some (record { event = number; clause = n }))
    (sym (smaller_first (clause_number c) (smallest_or cs p None) (smallest_above (clause_number c) cs p r.1)))))
    (λ e. rw e (first_of (clause_number c) cs p number later r.1))

all_rising : IsRising 0 all_clauses
all_rising = (omega arith, (omega arith, (omega arith, (omega arith, (omega arith, (omega arith, (omega arith, (omega arith, (omega arith, (omega arith, (omega arith, (omega arith, (omega arith, (omega arith, (omega arith, tt)))))))))))))))

-- the first of the broken clauses is the smallest
pub first_is_smallest : (p : Clause → Bool) (number : ℕ) (later : Option Break)
    → break_or number (filter p all_clauses) later ≡ break_at (smallest_or all_clauses p None) number later
first_is_smallest p number later = first_of 0 all_clauses p number later all_rising
