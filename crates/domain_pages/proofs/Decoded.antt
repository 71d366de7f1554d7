-- How the decoded entries follow from the words of the text.
use Rattle.std.proofs.Common.{◌≡◌, ◌≢◌, ◌⊎◌, inl, inr, ℕ, zero, suc, ◌+◌, ◌<◌, ◌≤◌, List, [], ◌∷◌, Some, None, length, get_or, map, set, replicate, arith, refl, sym, ap, ◌∙◌}
use Rattle.std.specs.Option.{option_map}
use Rattle.std.proofs.lemmas.Bool.{cases_eq, cases_lt}
use Rattle.std.proofs.lemmas.List.{get_or_past, get_or-set_same, get_or-set_other, length-replicate, length-set, set_past, with_items_is}
use Rattle.std.specs.Global.{Vec}
use Rattle.std.specs.Vec.{with_items}
use Rattle.driver_isa.specs.Decoding.{instr_of}
use Rattle.driver_isa.specs.Entries.{IsDecodedText, entry_of}
use Rattle.driver_isa.specs.declared.instructions.Decoded.{Decoded}
use Rattle.domain_pages.specs.Decoding.{IsDecoded, IsDecodedAt}

instrs_set : (ds : List Decoded) (a : ℕ) (d : Decoded) → map instr_of (set ds a d) ≡ set (map instr_of ds) a (instr_of d)
instrs_set [] a d = refl
instrs_set (x ∷ ds) zero d = refl
instrs_set (x ∷ ds) (suc a) d = ap (λ is. instr_of x ∷ is) (instrs_set ds a d)

length-instrs : (ds : List Decoded) → length (map instr_of ds) ≡ length ds
length-instrs [] = refl
length-instrs (x ∷ ds) = ap suc (length-instrs ds)

-- one more entry
pub entry_here : (ds : List Decoded) (text : List ℕ) (a : ℕ) (d : Decoded) → a < length ds → instr_of d ≡ entry_of (get_or text a 0) → IsDecodedAt (set ds a d) text a
entry_here ds text a d low is =
    ap (λ is. get_or is a None) (instrs_set ds a d)
    ∙ get_or-set_same (map instr_of ds) a (instr_of d) None (omega (arith, low, length-instrs ds))
    ∙ is

pub entry_there : (ds : List Decoded) (text : List ℕ) (a k : ℕ) (d : Decoded) → k ≢ a → IsDecodedAt ds text k → IsDecodedAt (set ds a d) text k
entry_there ds text a k d differs same =
    ap (λ is. get_or is k None) (instrs_set ds a d)
    ∙ get_or-set_other (map instr_of ds) a k (instr_of d) None differs
    ∙ same

-- a word of text is written, and its entry too
pub put_both : (ds : List Decoded) (text : List ℕ) (a w : ℕ) (d : Decoded) → a < 2048 → length text ≡ 2048 → instr_of d ≡ entry_of w → IsDecoded ds text → IsDecoded (set ds a d) (set text a w)
put_both ds text a w d low size is e = record {
  size = length-set ds a d ∙ e.size;
  same = λ k. elim (cases_eq k a) [
    | inl here ↦ rw here (entry_here ds (set text a w) a d (omega (arith, e.size, low)) (is ∙ ap entry_of (sym (get_or-set_same text a w 0 (omega (arith, size, low))))))
    | inr there ↦ entry_there ds (set text a w) a k d there (e.same k ∙ ap entry_of (sym (get_or-set_other text a k w 0 there)))
  ];
}

-- a word after the text is written
pub put_past : (ds : List Decoded) (text : List ℕ) (a w : ℕ) → 2048 ≤ a → length text ≡ 2048 → IsDecoded ds text → IsDecoded ds (set text a w)
put_past ds text a w high size e = rw (set_past text a w (omega (arith, size, high))) e

-- the next word is decoded
pub one_more : (ds : List Decoded) (text : List ℕ) (i end : ℕ) (d : Decoded) → i < length ds → instr_of d ≡ entry_of (get_or text i 0)
    → ((k : ℕ) → (k < i) ⊎ (end ≤ k) → IsDecodedAt ds text k)
    → (k : ℕ) → (k < i + 1) ⊎ (end ≤ k) → IsDecodedAt (set ds i d) text k
one_more ds text i end d low is before k in_it = elim (cases_eq k i) [
  | inl here ↦ rw here (entry_here ds text i d low is)
  | inr there ↦ entry_there ds text i k d there (before k (elim in_it [
    | inl under ↦ inl (omega (arith, under, there))
    | inr past ↦ inr past
  ]))
]

-- all words are decoded
pub all_decoded : (ds : List Decoded) (text : List ℕ) (i end : ℕ) → length ds ≡ 2049 → end ≤ i
    → ((k : ℕ) → (k < i) ⊎ (end ≤ k) → IsDecodedAt ds text k)
    → IsDecoded ds text
all_decoded ds text i end size done at = record {
  size = size;
  same = λ k. elim (cases_lt k i) [
    | inl under ↦ at k (inl under)
    | inr past ↦ at k (inr (omega (arith, done, past)))
  ];
}

-- at an address where the words are the same
pub same_word_at : (ds : List Decoded) (text other : List ℕ) (k : ℕ) → IsDecoded ds text → get_or other k 0 ≡ get_or text k 0 → IsDecodedAt ds other k
same_word_at ds text other k e is = e.same k ∙ ap entry_of (sym is)

-- a vector's entries after a slice of them was written
pub entries_back : (v : Vec Decoded) (ws : List Decoded) → length v.items ≡ 2049 → length ws ≡ 2049 → (with_items v ws).items ≡ ws
entries_back v ws size same = with_items_is v ws (omega (arith, v.ok.0))

-- the entries of addresses where nothing was written
pub kept_outside : (ds : List Decoded) (text other : List ℕ) (start count end : ℕ) → IsDecoded ds text → length text ≡ 2048 → length other ≡ 2048
    → ((k : ℕ) → (k < start) ⊎ (start + count ≤ k) → get_or other k 0 ≡ get_or text k 0)
    → ((k : ℕ) → end ≤ k → (start + count ≤ k) ⊎ (2048 ≤ k))
    → (k : ℕ) → (k < start) ⊎ (end ≤ k) → IsDecodedAt ds other k
kept_outside ds text other start count end e size long same past k out = same_word_at ds text other k e (elim out [
  | inl before ↦ same k (inl before)
  | inr after ↦ elim (past k after) [
    | inl more ↦ same k (inr more)
    | inr high ↦ get_or_past other k 0 (omega (arith, long, high)) ∙ sym (get_or_past text k 0 (omega (arith, size, high)))
  ]
])

-- the decoded text of the words that are shown
pub text_decoded : (ds : List Decoded) (text words : List ℕ) → length text ≡ 2048 → IsDecoded ds text
    → ((k : ℕ) → k < 2048 → get_or text k 0 ≡ get_or words k 0) → IsDecodedText ds words
text_decoded ds text words size e same = record {
  size = e.size;
  same = λ k low. e.same k ∙ ap entry_of (same k low);
  last = e.same 2048 ∙ ap entry_of (get_or_past text 2048 0 (omega (arith, size)));
}

-- a text of zeros
pub zeros_decoded : (d : Decoded) → instr_of d ≡ entry_of 0 → IsDecoded (replicate 2049 d) (replicate 2048 0)
zeros_decoded d is = record { size = length-replicate 2049 d; same = λ k. entry_at 2049 k ∙ ap entry_of (sym (zero_at 2048 k)) }
  where
    zero_at : (n k : ℕ) → get_or {A = ℕ} (replicate n 0) k 0 ≡ 0
    zero_at zero k = refl
    zero_at (suc n) zero = refl
    zero_at (suc n) (suc k) = zero_at n k

    entry_at : (n k : ℕ) → get_or (map instr_of (replicate n d)) k None ≡ None
    entry_at zero k = refl
    entry_at (suc n) zero = is
    entry_at (suc n) (suc k) = entry_at n k
