-- The first call whose claim passes a test.
use Rattle.std.proofs.Common.{◌≡◌, ℕ, zero, suc, ◌+◌, ◌≤◌, ◌<◌, ◌==◌, ◌&&◌, ◌||◌, nat_lt, nat_le, Bool, true, false, not, cond, Option, Some, None, List, [], ◌∷◌, filter, map, slice_get, refl, sym, ap, ◌∙◌, inl, inr, arith}
use Rattle.std.specs.List.{find}
use Rattle.std.specs.Option.{option_map}
use Rattle.std.proofs.lemmas.Bool.{cases_Bool, cases_lt, eq-eqb, eqb-true, ne_eqb, lt-ltb, le-ltb, le-leb, lt-leb}
use Rattle.claim_index.specs.declared.claim.Claim.{Claim}
use Rattle.claim_index.specs.declared.claim.Claimed.{Claimed}
use Rattle.claim_index.specs.declared.claim.Claimed.TheVariants as claimed
use Rattle.nook_data.specs.declared.classes.Class.{Class}
use Rattle.nook_data.specs.declared.classes.Class.TheVariants as class
use Rattle.claim_index.specs.Claims.{AreRising, HasBlocks, HaveBlocks, clashes, conflict, first_that, first_claimed, end_claimed, is_reading, is_writing, meets, takes_all}
use Rattle.claim_index.specs.Indexed.{calls_that, is_claimed, is_touched, is_within, least, number_before}

pub head_is_first : (p : Claimed → Bool) (xs : List Claim) → slice_get (calls_that p xs) 0 ≡ first_that p xs
head_is_first p [] = refl
head_is_first p (x ∷ xs) = elim (cases_Bool (p x.on)) [
  | inl t ↦ rw t refl
  | inr t ↦ rw t (head_is_first p xs)
]

-- the first is above the number from which the others rise
pub first_above : (p : Claimed → Bool) (low n : ℕ) (xs : List Claim) → AreRising low xs → first_that p xs ≡ Some n → low < n
first_above p low n [] r f = absurd (cc)
first_above p low n (x ∷ xs) r f = elim (cases_Bool (p x.on)) [
  | inl t ↦ let s : Some x.call ≡ Some n = rw (← f) (rw t refl) in let e : x.call ≡ n = cc in rw (← e) r.0
  | inr t ↦ omega (arith, r.0, first_above p x.call n xs r.1 (rw (← f) (rw t refl)))
]

least_left : (n : ℕ) (f : Option ℕ) → ((m : ℕ) → f ≡ Some m → n < m) → least (Some n) f ≡ Some n
least_left n None h = refl
least_left n (Some m) h = rw (le-ltb m n (let l : n < m = h m refl in omega (arith, l))) refl

least_right : (n : ℕ) (f : Option ℕ) → ((m : ℕ) → f ≡ Some m → n < m) → least f (Some n) ≡ Some n
least_right n None h = refl
least_right n (Some m) h = rw (lt-ltb n m (h m refl)) refl

least_same : (n : ℕ) → least (Some n) (Some n) ≡ Some n
least_same n = rw (le-ltb n n (omega arith)) refl

-- the first that passes one of two tests
pub first_either : (p q : Claimed → Bool) (low : ℕ) (xs : List Claim) → AreRising low xs
    → least (first_that p xs) (first_that q xs) ≡ first_that (λ o. p o || q o) xs
first_either p q low [] r = refl
first_either p q low (x ∷ xs) r = elim (cases_Bool (p x.on)) [
  | inl t ↦ elim (cases_Bool (q x.on)) [
    | inl s ↦ rw (t, s) (least_same x.call)
    | inr s ↦ rw (t, s) (least_left x.call (first_that q xs) (λ m f. first_above q x.call m xs r.1 f))
  ]
  | inr t ↦ elim (cases_Bool (q x.on)) [
    | inl s ↦ rw (t, s) (least_right x.call (first_that p xs) (λ m f. first_above p x.call m xs r.1 f))
    | inr s ↦ rw (t, s) (first_either p q x.call xs r.1)
  ]
]

-- the first among those before a call
pub none_before : (p : Claimed → Bool) (low n : ℕ) (xs : List Claim) → AreRising low xs → n ≤ low
    → option_map (λ k. k.call) (find (λ k. nat_lt k.call n && p k.on) xs) ≡ None
none_before p low n [] r l = refl
none_before p low n (x ∷ xs) r l =
    rw (le-ltb x.call n (omega (arith, l, r.0))) (none_before p x.call n xs r.1 (omega (arith, l, r.0)))

pub first_before : (p : Claimed → Bool) (low n : ℕ) (xs : List Claim) → AreRising low xs
    → number_before n (first_that p xs) ≡ option_map (λ k. k.call) (find (λ k. nat_lt k.call n && p k.on) xs)
first_before p low n [] r = refl
first_before p low n (x ∷ xs) r = elim (cases_Bool (p x.on)) [
  | inl t ↦ elim (cases_lt x.call n) [
    | inl l ↦ rw (t, lt-ltb x.call n l) refl
    | inr l ↦ rw (t, le-ltb x.call n l) (sym (none_before p x.call n xs r.1 l))
  ]
  | inr t ↦ elim (cases_lt x.call n) [
    | inl l ↦ rw (t, lt-ltb x.call n l) (first_before p x.call n xs r.1)
    | inr l ↦ rw (t, le-ltb x.call n l) (first_before p x.call n xs r.1)
  ]
]

-- two tests that agree on what a call may claim
pub first_same : (p q : Claimed → Bool) (xs : List Claim) → HaveBlocks xs → ((o : Claimed) → HasBlocks o → p o ≡ q o) → first_that p xs ≡ first_that q xs
first_same p q [] h e = refl
first_same p q (x ∷ xs) h e = elim (cases_Bool (q x.on)) [
  | inl t ↦ let s : p x.on ≡ true = e x.on h.0 ∙ t in rw (t, s) refl
  | inr t ↦ let s : p x.on ≡ false = e x.on h.0 ∙ t in rw (t, s) (first_same p q xs h.1 e)
]

-- one more block

none_of : (a b : Bool) → ((a && false) || (b && false)) ≡ false
none_of true true = refl
none_of true false = refl
none_of false true = refl
none_of false false = refl

neither : (a : Bool) → ((a && false) || false) ≡ false
neither true = refl
neither false = refl

or_false : (a : Bool) → (a || false) ≡ a
or_false true = refl
or_false false = refl

ends_false : (a b : Bool) → (a && (b && false)) ≡ false
ends_false true true = refl
ends_false true false = refl
ends_false false b = refl

either_true : (a : Bool) → (a || true) ≡ true
either_true true = refl
either_true false = refl

none_either : (a b c : Bool) → ((a && false) || (b && false)) ≡ (c && false)
none_either a b true = none_of a b
none_either a b false = none_of a b

touched_none : (first : ℕ) (o : Claimed) → is_touched first first o ≡ false
touched_none first o = rw (le-ltb first first (omega arith)) refl

range_more : (first i f e : ℕ) → first ≤ i → f < e
    → ((nat_lt first i && (nat_lt first e && nat_lt f i)) || (nat_le f i && nat_lt i e)) ≡ (nat_lt first (i + 1) && (nat_lt first e && nat_lt f (i + 1)))
range_more first i f e l b = elim (cases_lt first e) [
  | inr past ↦
      -- the claim ends before the first block
      rw (le-ltb first e past, le-ltb i e (omega (arith, l, past)), lt-ltb first (i + 1) (omega (arith, l)))
      (none_of (nat_lt first i) (nat_le f i))
  | inl t ↦ elim (cases_lt i f) [
    | inl far ↦ rw (lt-ltb first e t, lt-leb f i far, le-ltb f i (omega (arith, far)), le-ltb f (i + 1) (omega (arith, far)), lt-ltb first (i + 1) (omega (arith, l)))
        (neither (nat_lt first i))
    | inr near ↦ rw (lt-ltb first e t, le-leb f i near, lt-ltb f (i + 1) (omega (arith, near)), lt-ltb first (i + 1) (omega (arith, l)))
        (elim (cases_lt i e) [
          | inl inside ↦ rw (lt-ltb i e inside) (either_true (nat_lt first i && nat_lt f i))
          | inr rest_after ↦ rw (lt-ltb first i (omega (arith, t, rest_after)), lt-ltb f i (omega (arith, b, rest_after))) refl
        ])
  ]
]

nothing_more : (first i : ℕ) → ((nat_lt first i && (nat_lt first 0 && nat_lt 0 i)) || (nat_le 0 i && nat_lt i 0)) ≡ (nat_lt first (i + 1) && (nat_lt first 0 && nat_lt 0 (i + 1)))
nothing_more first i = rw (le-ltb first 0 (omega arith), le-ltb i 0 (omega arith)) (none_either (nat_lt first i) (nat_le 0 i) (nat_lt first (i + 1)))

touched_more : (first i : ℕ) (o : Claimed) → first ≤ i → HasBlocks o → (is_touched first i o || is_claimed i o) ≡ is_touched first (i + 1) o
touched_more first i (claimed.Reads f e) l b = range_more first i f e l b
touched_more first i (claimed.Writes f e) l b = range_more first i f e l b
touched_more first i claimed.Everything l b = nothing_more first i
touched_more first i claimed.Frames l b = nothing_more first i
touched_more first i claimed.Stream l b = nothing_more first i
touched_more first i claimed.Nothing l b = nothing_more first i

kind_more : (k t c u : Bool) → (t || c) ≡ u → ((k && t) || (k && c)) ≡ (k && u)
kind_more true t c u e = e
kind_more false t c u e = refl

pub none_touched : (kind : Claimed → Bool) (first : ℕ) (xs : List Claim) → first_that (λ o. kind o && is_touched first first o) xs ≡ None
none_touched kind first [] = refl
none_touched kind first (x ∷ xs) = elim (cases_Bool (kind x.on)) [
  | inl t ↦ rw (t, touched_none first x.on) (none_touched kind first xs)
  | inr t ↦ rw t (none_touched kind first xs)
]

pub first_more : (kind : Claimed → Bool) (first i : ℕ) (xs : List Claim) (found : Option ℕ) → first ≤ i → AreRising 0 xs → HaveBlocks xs
    → found ≡ first_that (λ o. kind o && is_touched first i o) xs
    → least found (slice_get (calls_that (λ o. kind o && is_claimed i o) xs) 0) ≡ first_that (λ o. kind o && is_touched first (i + 1) o) xs
first_more kind first i xs found l r h e =
    rw (e, head_is_first (λ o. kind o && is_claimed i o) xs)
    (first_either (λ o. kind o && is_touched first i o) (λ o. kind o && is_claimed i o) 0 xs r
    ∙ first_same (λ o. (kind o && is_touched first i o) || (kind o && is_claimed i o)) (λ o. kind o && is_touched first (i + 1) o) xs h
    (λ o b. kind_more (kind o) (is_touched first i o) (is_claimed i o) (is_touched first (i + 1) o) (touched_more first i o l b)))

-- the claims that clash

writes_meet : (first end : ℕ) (o : Claimed) → first < end
    → ((is_reading o && is_touched first end o) || (is_writing o && is_touched first end o)) ≡ clashes class.Block (claimed.Writes first end) o
writes_meet first end (claimed.Reads f e) l = rw (lt-ltb first end l) (or_false (nat_lt first e && nat_lt f end))
writes_meet first end (claimed.Writes f e) l = rw (lt-ltb first end l) refl
writes_meet first end claimed.Everything l = rw (le-ltb first 0 (omega arith)) refl
writes_meet first end claimed.Frames l = rw (le-ltb first 0 (omega arith)) refl
writes_meet first end claimed.Stream l = rw (le-ltb first 0 (omega arith)) refl
writes_meet first end claimed.Nothing l = rw (le-ltb first 0 (omega arith)) refl

pub writes_clash : (first end : ℕ) (xs : List Claim) (one other found : Option ℕ) → first < end → AreRising 0 xs → HaveBlocks xs
    → one ≡ first_that (λ o. is_reading o && is_touched first end o) xs → other ≡ first_that (λ o. is_writing o && is_touched first end o) xs
    → found ≡ least one other → found ≡ first_that (clashes class.Block (claimed.Writes first end)) xs
writes_clash first end xs one other found l r h e f k =
    k ∙ (rw (e, f) (first_either (λ o. is_reading o && is_touched first end o) (λ o. is_writing o && is_touched first end o) 0 xs r
    ∙ first_same (λ o. (is_reading o && is_touched first end o) || (is_writing o && is_touched first end o)) (clashes class.Block (claimed.Writes first end)) xs h
    (λ o b. writes_meet first end o l)))

pub reads_clash : (first end : ℕ) (xs : List Claim) (found : Option ℕ) → first < end → HaveBlocks xs
    → found ≡ first_that (λ o. is_writing o && is_touched first end o) xs → found ≡ first_that (clashes class.Block (claimed.Reads first end)) xs
reads_clash first end xs found l h e =
    e ∙ first_same (λ o. is_writing o && is_touched first end o) (clashes class.Block (claimed.Reads first end)) xs h (λ o b. rw (lt-ltb first end l) refl)

-- together with those that claim everything
pub all_or_clash : (cl : Class) (on : Claimed) (xs : List Claim) (one other found : Option ℕ) → takes_all on ≡ false → AreRising 0 xs → HaveBlocks xs
    → one ≡ first_that takes_all xs → other ≡ first_that (clashes cl on) xs → found ≡ least one other → found ≡ first_that (conflict cl on) xs
all_or_clash cl on xs one other found n r h e f k =
    k ∙ (rw (e, f) (first_either takes_all (clashes cl on) 0 xs r
    ∙ first_same (λ o. takes_all o || clashes cl on o) (conflict cl on) xs h (λ o b. rw n refl)))

nothing_meets : (w : Bool) (end first : ℕ) → (w && (nat_lt 0 end && nat_lt first 0)) ≡ false
nothing_meets w end first = rw (le-ltb first 0 (omega arith)) (ends_false w (nat_lt 0 end))

-- a test that no claim passes
pub none_that : (p : Claimed → Bool) (xs : List Claim) → HaveBlocks xs → ((o : Claimed) → HasBlocks o → p o ≡ false) → None ≡ first_that p xs
none_that p [] h e = refl
none_that p (x ∷ xs) h e = rw (e x.on h.0) (none_that p xs h.1 e)

-- a test that every claim passes
pub all_that : (p : Claimed → Bool) (xs : List Claim) → ((o : Claimed) → p o ≡ true) → option_map (λ k. k.call) (slice_get xs 0) ≡ first_that p xs
all_that p [] e = refl
all_that p (x ∷ xs) e = rw (e x.on) refl

no_clash_of_blocks : (on o : Claimed) → ((f e : ℕ) → on ≡ claimed.Reads f e → ⊥) → ((f e : ℕ) → on ≡ claimed.Writes f e → ⊥)
    → clashes class.Block on o ≡ false
no_clash_of_blocks (claimed.Reads f e) o r w = absurd (r f e refl)
no_clash_of_blocks (claimed.Writes f e) o r w = absurd (w f e refl)
no_clash_of_blocks claimed.Everything o r w = nothing_meets (is_writing o) (end_claimed o) (first_claimed o)
no_clash_of_blocks claimed.Frames o r w = nothing_meets (is_writing o) (end_claimed o) (first_claimed o)
no_clash_of_blocks claimed.Stream o r w = nothing_meets (is_writing o) (end_claimed o) (first_claimed o)
no_clash_of_blocks claimed.Nothing o r w = nothing_meets (is_writing o) (end_claimed o) (first_claimed o)

pub none_by_block : (on : Claimed) (xs : List Claim) → ((f e : ℕ) → on ≡ claimed.Reads f e → ⊥) → ((f e : ℕ) → on ≡ claimed.Writes f e → ⊥)
    → HaveBlocks xs → None ≡ first_that (clashes class.Block on) xs
none_by_block on xs r w h = none_that (clashes class.Block on) xs h (λ o b. no_clash_of_blocks on o r w)

no_clash_of_frames : (on o : Claimed) → (on ≡ claimed.Frames → ⊥) → clashes class.Net on o ≡ false
no_clash_of_frames (claimed.Reads f e) o n = refl
no_clash_of_frames (claimed.Writes f e) o n = refl
no_clash_of_frames claimed.Everything o n = refl
no_clash_of_frames claimed.Frames o n = absurd (n refl)
no_clash_of_frames claimed.Stream o n = refl
no_clash_of_frames claimed.Nothing o n = refl

pub none_by_frames : (on : Claimed) (xs : List Claim) → (on ≡ claimed.Frames → ⊥) → HaveBlocks xs → None ≡ first_that (clashes class.Net on) xs
none_by_frames on xs n h = none_that (clashes class.Net on) xs h (λ o b. no_clash_of_frames on o n)

no_clash_of_stream : (on o : Claimed) → (on ≡ claimed.Stream → ⊥) → clashes class.Sound on o ≡ false
no_clash_of_stream (claimed.Reads f e) o n = refl
no_clash_of_stream (claimed.Writes f e) o n = refl
no_clash_of_stream claimed.Everything o n = refl
no_clash_of_stream claimed.Frames o n = refl
no_clash_of_stream claimed.Stream o n = absurd (n refl)
no_clash_of_stream claimed.Nothing o n = refl

pub none_by_stream : (on : Claimed) (xs : List Claim) → (on ≡ claimed.Stream → ⊥) → HaveBlocks xs → None ≡ first_that (clashes class.Sound on) xs
none_by_stream on xs n h = none_that (clashes class.Sound on) xs h (λ o b. no_clash_of_stream on o n)

pub not_all : (on : Claimed) → (on ≡ claimed.Everything → ⊥) → takes_all on ≡ false
not_all (claimed.Reads f e) n = refl
not_all (claimed.Writes f e) n = refl
not_all claimed.Everything n = absurd (n refl)
not_all claimed.Frames n = refl
not_all claimed.Stream n = refl
not_all claimed.Nothing n = refl
