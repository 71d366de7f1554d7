use Rattle.std.proofs.Common.{◌≡◌, ℕ, zero, suc, ◌+◌, ◌-◌, ◌<◌, ◌≤◌, min, List, [], ◌∷◌, ◌++◌, length, take, drop, set, replicate, slice_index, slice_range, refl, sym, ap, ◌∙◌, arith, length-append, length-drop, length-take, get_or-drop, get_or-take, ext_get_or, take_at, drop_at}
use Rattle.std.proofs.lemmas.List.{length-take-le, get_or_append_left, get_or-append_right, length-replicate}
use Rattle.machine_defs.specs.Pages.{with_words, padded_words}

-- Words of memory: what remains when a range of them changes.

-- two lists agree on a range
pub same_range : (xs ys : List ℕ) (from to : ℕ) → length xs ≡ length ys
    → ((i : ℕ) → from ≤ i → i < to → slice_index xs i ≡ slice_index ys i) → slice_range xs from to ≡ slice_range ys from to
same_range xs ys from to same agree = ext_get_or 0 (slice_range xs from to) (slice_range ys from to) lengths words
  where
    lengths : length (slice_range xs from to) ≡ length (slice_range ys from to)
    lengths =
        length-take (to - from) (drop from xs) ∙ ap (min (to - from)) (length-drop from xs ∙ ap (λ (n : ℕ). n - from) same ∙ sym (length-drop from ys))
        ∙ sym (length-take (to - from) (drop from ys))

    word : (zs : List ℕ) (i : ℕ) → i < to - from → slice_index (slice_range zs from to) i ≡ slice_index zs (from + i)
    word zs i h = get_or-take (to - from) (drop from zs) i 0 h ∙ get_or-drop from zs i 0

    words : (i : ℕ) → i < length (slice_range xs from to) → slice_index (slice_range xs from to) i ≡ slice_index (slice_range ys from to) i
    words i h =
        let short : length (slice_range xs from to) ≡ min (to - from) (length (drop from xs)) = length-take (to - from) (drop from xs) in
        let within : i < to - from = omega arith in
        word xs i within ∙ agree (from + i) (omega arith) (omega arith) ∙ sym (word ys i within)

pub length-with_words : (start : ℕ) (words memory : List ℕ) → start + length words ≤ length memory
    → length (with_words start words memory) ≡ length memory
length-with_words start words memory h =
    let a : length (with_words start words memory) ≡ length (take start memory) + length (words ++ drop (start + length words) memory)
    = length-append (take start memory) (words ++ drop (start + length words) memory) in
    let b : length (words ++ drop (start + length words) memory) ≡ length words + length (drop (start + length words) memory)
    = length-append words (drop (start + length words) memory) in
    let c : length (take start memory) ≡ start = length-take-le start memory (omega arith) in
    let d : length (drop (start + length words) memory) ≡ length memory - (start + length words) = length-drop (start + length words) memory in
    omega arith

pub with_words_below : (start : ℕ) (words memory : List ℕ) (i : ℕ) → start ≤ length memory → i < start
    → slice_index (with_words start words memory) i ≡ slice_index memory i
with_words_below start words memory i h below =
    let c : length (take start memory) ≡ start = length-take-le start memory h in
    get_or_append_left (take start memory) (words ++ drop (start + length words) memory) 0 i (omega arith)
    ∙ get_or-take start memory i 0 below

pub with_words_above : (start : ℕ) (words memory : List ℕ) (i : ℕ) → start ≤ length memory → start + length words ≤ i
    → slice_index (with_words start words memory) i ≡ slice_index memory i
with_words_above start words memory i h above =
    let c : length (take start memory) ≡ start = length-take-le start memory h in
    let e : start + length words + (i - start - length words) ≡ i = omega arith in
    get_or-append_right (take start memory) (words ++ drop (start + length words) memory) start i 0 c (omega arith)
    ∙ get_or-append_right words (drop (start + length words) memory) (length words) (i - start) 0 refl (omega arith)
    ∙ get_or-drop (start + length words) memory (i - start - length words) 0
    ∙ ap (λ (k : ℕ). slice_index memory k) e

-- the words that were written
pub with_words_there : (start : ℕ) (words memory : List ℕ) (to : ℕ) → start ≤ length memory → to ≡ start + length words
    → slice_range (with_words start words memory) start to ≡ words
with_words_there start words memory to h e =
    let c : length (take start memory) ≡ start = length-take-le start memory h in
    let n : to - start ≡ length words = omega arith in
    ap (take (to - start)) (drop_at (take start memory) (words ++ drop (start + length words) memory) start c)
    ∙ take_at words (drop (start + length words) memory) (to - start) (sym n)

pub length-slice_range : (xs : List ℕ) (from to : ℕ) → from ≤ to → to ≤ length xs → length (slice_range xs from to) ≡ to - from
length-slice_range xs from to a b =
    let c : length (drop from xs) ≡ length xs - from = length-drop from xs in
    length-take-le (to - from) (drop from xs) (omega arith)

pub take-set : (n : ℕ) (xs : List ℕ) (i a : ℕ) → take n (set xs i a) ≡ set (take n xs) i a
take-set zero xs i a = refl
take-set (suc n) [] i a = refl
take-set (suc n) (x ∷ xs) zero a = refl
take-set (suc n) (x ∷ xs) (suc i) a = ap {B = List ℕ} (λ r. x ∷ r) (take-set n xs i a)
