use Rattle.std.proofs.Common.{◌≡◌, ◌<◌, ◌≤◌, ◌⊎◌, ℕ, zero, suc, ◌+◌, ◌||◌, not, Bool, true, false, List, [], ◌∷◌, ◌++◌, length, set, slice_index_or, sym, refl, ap, ap₂, subst, ◌∙◌, inl, inr, arith, bytes_eq}
use Rattle.std.proofs.lemmas.Bool.{and_parts, cases_eq, cases_lt}
use Rattle.std.proofs.lemmas.List.{get_or_past}
use Rattle.std.proofs.lemmas.Option.{unwrap_or-slice_get}
use Rattle.nook_data.specs.declared.classes.Class.{Class}
use Rattle.nook_data.specs.declared.calls.Op.{Op}
use Rattle.promise_defs.specs.Blocks.{get_blocks, has_block, holds_from, put_from, words_for}
use Rattle.promise_defs.proofs.PromiseCases.{put_block}
use Rattle.nook_data.specs.Classes.{covers, is_write}
use Rattle.part_laws.specs.Facts.{At, CallsFacts, IsStored, DiskFacts}
use Rattle.part_laws.specs.Views.{Core}
use Rattle.part_laws.proofs.Acting.{write_alone}
use Rattle.part_laws.proofs.Keeping.{disk_same, writes_set}
use Rattle.part_laws.proofs.Indices.{split, same_at, get_set, get_set_other}
use Rattle.part_laws.proofs.Subs.{same_bytes}

-- The medium and the plain disk when a call is answered.

-- ---- blocks put

pub length_put : (chosen : ℕ → Bool) (o : Op) (base : ℕ) (bs : List (List ℕ)) → length (put_from chosen o base bs) ≡ length bs
length_put chosen o base [] = refl
length_put chosen o base (b ∷ bs) = ap suc (length_put chosen o (suc base) bs)

pub get_put : (chosen : ℕ → Bool) (o : Op) (base : ℕ) (bs : List (List ℕ)) (n : ℕ) → n < length bs
    → slice_index_or (put_from chosen o base bs) n [] ≡ put_block (chosen (base + n)) o (base + n) (slice_index_or bs n [])
get_put chosen o base [] n l = absurd (omega (arith, l))
get_put chosen o base (b ∷ bs) zero l = ap (λ m. put_block (chosen m) o m b) (omega arith)
get_put chosen o base (b ∷ bs) (suc n) l =
    get_put chosen o (suc base) bs n (omega (arith, l)) ∙ ap (λ m. put_block (chosen m) o m (slice_index_or bs n [])) (omega arith)

-- each block that a Write covers has its words
pub held_words : (base : ℕ) (o : Op) (bs : List (List ℕ)) (n : ℕ) → holds_from base o bs ≡ true → n < length bs → covers o (base + n) ≡ true
    → slice_index_or bs n [] ≡ words_for o (base + n)
held_words base o [] n h l c = absurd (omega (arith, l))
held_words base o (b ∷ bs) zero h l c = same_bytes b (words_for o base) (first (covers o base) (bytes_eq b (words_for o base))
    (and_parts (not (covers o base) || bytes_eq b (words_for o base)) (holds_from (suc base) o bs) h).0
    (ap (covers o) (omega arith) ∙ c))
    ∙ ap (words_for o) (omega arith)
  where
    first : (a d : Bool) → (not a || d) ≡ true → a ≡ true → d ≡ true
    first true d h t = h
    first false d h t = absurd cc
held_words base o (b ∷ bs) (suc n) h l c =
    held_words (suc base) o bs n (and_parts (not (covers o base) || bytes_eq b (words_for o base)) (holds_from (suc base) o bs) h).1
    (omega (arith, l)) (ap (covers o) (omega arith) ∙ c)
    ∙ ap (words_for o) (omega arith)

-- blocks that are the same one by one
pub same_blocks : (xs ys : List (List ℕ)) (count first : ℕ)
    → ((n : ℕ) → first ≤ n → n < first + count → slice_index_or xs n [] ≡ slice_index_or ys n [])
    → get_blocks xs first count ≡ get_blocks ys first count
same_blocks xs ys zero first h = refl
same_blocks xs ys (suc count) first h =
    ap₂ (λ a b. a ++ b)
    (unwrap_or-slice_get xs first [] ∙ h first (omega arith) (omega arith) ∙ sym (unwrap_or-slice_get ys first []))
    (same_blocks xs ys count (suc first) (λ n l u. h n (omega (arith, l)) (omega (arith, u))))

-- ---- a call other than a Write is closed

pub disk_plain : (cs : List Core) (plain medium : List (List ℕ)) (k : ℕ) (c d : Core) → At cs k c → is_write c.op ≡ false → d.waits ≡ false
    → DiskFacts cs plain medium → DiskFacts (set cs k d) plain medium
disk_plain cs plain medium k c d h n w f = disk_same cs (set cs k d) plain medium (writes_set cs k c d h
    (λ a o. absurd cc (n, o)) (λ a o. absurd cc (w, a))) f

-- ---- a Write is closed, and its chosen blocks are put

pub disk_put : (cs : List Core) (plain medium : List (List ℕ)) (k : ℕ) (c d : Core) (chosen : ℕ → Bool) → At cs k c → d.waits ≡ false
    → DiskFacts cs plain medium
    → ((n : ℕ) → chosen n ≡ true → n < length medium → slice_index_or medium n [] ≡ words_for c.op n)
    → ((n : ℕ) → covers c.op n ≡ true → has_block n c.stored ≡ true → chosen n ≡ true)
    → DiskFacts (set cs k d) (put_from chosen c.op 0 plain) medium
disk_put cs plain medium k c d chosen h w f held all = record {
  size = f.size ∙ sym (length_put chosen c.op 0 plain);
  blocks = λ n. by_length n (cases_lt n (length medium));
  named = λ j e n i we u b. named j e n we u b (get_set cs j k d e i);
  covered = λ j e n i we u b. covered j e n we u b (get_set cs j k d e i);
}
  where
    put_at : (n : ℕ) → n < length medium → slice_index_or (put_from chosen c.op 0 plain) n [] ≡ put_block (chosen n) c.op n (slice_index_or plain n [])
    put_at n l = get_put chosen c.op 0 plain n (subst (λ m. n < m) f.size l) ∙ ap (λ m. put_block (chosen m) c.op m (slice_index_or plain n [])) (omega arith)

    by_length : (n : ℕ) → (n < length medium) ⊎ (length medium ≤ n)
        → (slice_index_or medium n [] ≡ slice_index_or (put_from chosen c.op 0 plain) n []) ⊎ IsStored (set cs k d) n (slice_index_or medium n [])
    by_length n (inr l) = inl (get_or_past medium n [] l
        ∙ sym (get_or_past (put_from chosen c.op 0 plain) n [] (subst (λ m. m ≤ n) (f.size ∙ sym (length_put chosen c.op 0 plain)) l)))
    by_length n (inl l) = split (chosen n)
        (λ t. inl (held n t l ∙ sym (put_at n l ∙ ap (λ b. put_block b c.op n (slice_index_or plain n [])) t)))
        (λ t. by_block t (f.blocks n))
      where
        by_block : chosen n ≡ false → (slice_index_or medium n [] ≡ slice_index_or plain n []) ⊎ IsStored cs n (slice_index_or medium n [])
            → (slice_index_or medium n [] ≡ slice_index_or (put_from chosen c.op 0 plain) n []) ⊎ IsStored (set cs k d) n (slice_index_or medium n [])
        by_block t (inl e) = inl (e ∙ sym (put_at n l ∙ ap (λ b. put_block b c.op n (slice_index_or plain n [])) t))
        by_block t (inr s) = by_position (cases_eq s.index k)
          where
            by_position : (s.index ≡ k) ⊎ (s.index ≡ k → ⊥)
                → (slice_index_or medium n [] ≡ slice_index_or (put_from chosen c.op 0 plain) n []) ⊎ IsStored (set cs k d) n (slice_index_or medium n [])
            by_position (inl e) = absurd cc (t, all n (ap (λ x. covers x.op n) (sym same) ∙ s.covered) (ap (λ x. has_block n x.stored) (sym same) ∙ s.named))
              where
                same : s.call ≡ c
                same = same_at cs k s.call c (subst (λ p. At cs p s.call) e s.at) h
            by_position (inr e) = inr (record {
              index = s.index;
              call = s.call;
              at = get_set_other cs s.index k d e ∙ s.at;
              waits = s.waits;
              entered = s.entered;
              writes = s.writes;
              covered = s.covered;
              named = s.named;
              words = s.words;
            })

    named : (j : ℕ) (e : Core) (n : ℕ) → e.waits ≡ true → is_write e.op ≡ true → has_block n e.stored ≡ true
        → ((j ≡ k) × (e ≡ d)) ⊎ ((j ≡ k → ⊥) × At cs j e) → slice_index_or medium n [] ≡ words_for e.op n
    named j e n we u b (inl s) = absurd cc (w, sym (ap (λ x. x.waits) s.1) ∙ we)
    named j e n we u b (inr s) = f.named j e n s.1 we u b

    covered : (j : ℕ) (e : Core) (n : ℕ) → e.waits ≡ true → is_write e.op ≡ true → has_block n e.stored ≡ true
        → ((j ≡ k) × (e ≡ d)) ⊎ ((j ≡ k → ⊥) × At cs j e) → (0 < e.attempts) × (covers e.op n ≡ true)
    covered j e n we u b (inl s) = absurd cc (w, sym (ap (λ x. x.waits) s.1) ∙ we)
    covered j e n we u b (inr s) = f.covered j e n s.1 we u b

-- ---- what an operation that is Inside covers is as on the plain disk, or its own

pub read_same : (class : Class) (size : ℕ) (cs : List Core) (plain medium : List (List ℕ)) → CallsFacts class size cs → DiskFacts cs plain medium
    → (k : ℕ) (c : Core) → At cs k c → c.inside ≡ true → is_write c.op ≡ false → (n : ℕ) → covers c.op n ≡ true
    → slice_index_or medium n [] ≡ slice_index_or plain n []
read_same class size cs plain medium calls f k c h i w n o = by_block (f.blocks n)
  where
    by_block : (slice_index_or medium n [] ≡ slice_index_or plain n []) ⊎ IsStored cs n (slice_index_or medium n [])
        → slice_index_or medium n [] ≡ slice_index_or plain n []
    by_block (inl e) = e
    by_block (inr s) = absurd (write_alone class size cs calls s.index k s.call c s.at h s.waits ((calls.each k c h).opened i)
        s.entered ((calls.each k c h).entered i) s.writes n s.covered o
        (λ e. absurd cc (w, ap (λ x. is_write x.op) (sym (same_at cs k s.call c (subst (λ p. At cs p s.call) e s.at) h)) ∙ s.writes)))
