-- Frames are kept packed: all words come back.
use Rattle.std.proofs.Common.{◌≡◌, ◌≢◌, ◌⊎◌, inl, inr, ℕ, zero, suc, ◌+◌, ◌-◌, ◌*◌, ◌/◌, ◌<◌, ◌≤◌, Bool, true, false, List, [], ◌∷◌, ◌++◌, append-nil, append_assoc, length, get_or, set, take, drop, replicate, slice_index_or, slice_range, arith, refl, sym, ap, ap₂, ◌∙◌}
use Rattle.std.proofs.lemmas.Bool.{cases_Bool, cases_lt}
use Rattle.std.proofs.Math.Seq.{drop-cons}
use Rattle.std.proofs.lemmas.List.{drop-drop, get_or_append_left, get_or-append_right, get_or-drop, get_or-take, length-append, length-drop, get_or-set_other, get_or_past, length-replicate, length-take-le}
use Rattle.driver_isa.specs.declared.instructions.Decoded.{Decoded}
use Rattle.domain_pages.specs.Decoding.{IsDecoded}
use Rattle.domain_pages.specs.Frames.{word_at, shown, IsFramed, IsEndOfText, IsText}
use Rattle.domain_pages.specs.Packed.{frame_words, packed, unpacked, IsPacked}
use Rattle.domain_pages.proofs.Shown.{image_high, image_low, length-shown, map_of, padded_at, shown_at, shown_by, words_at}
use Rattle.machine_defs.specs.Pages.{padded_words, with_words}
use Rattle.machine_defs.proofs.Padded.{length-padded_words}

-- maps of the same parts
pub maps_same : (table tables : List Bool) (words others text texts initial initials : List ℕ) (lent lents : List Bool) → lent ≡ lents → table ≡ tables → words ≡ others → initial ≡ initials → text ≡ texts → map_of table (unpacked table words) text initial lent ≡ map_of tables (unpacked tables others) texts initials lents
maps_same table tables words others text texts initial initials lent lents loans same frames image fetched =
    rw (frames, loans, same, image, fetched) refl

-- the first item of the rest of a list
pub drop_next : {X : Type 0} (xs : List X) (i : ℕ) (d : X) → i < length xs → drop i xs ≡ get_or xs i d ∷ drop (i + 1) xs
drop_next xs i d l = drop-cons xs i d l ∙ ap (λ n. get_or xs i d ∷ drop n xs) (next i)
  where
    next : (n : ℕ) → suc n ≡ n + 1
    next n = omega arith

-- ---- the words of frames

-- one more page
pub packed_owned : (table : List Bool) (frames made : List ℕ) (page : ℕ) → page < length table → slice_index_or table page false ≡ true
    → (made ++ take 64 (drop (page * 64) frames)) ++ packed (drop (page + 1) table) (drop ((page + 1) * 64) frames)
    ≡ made ++ packed (drop page table) (drop (page * 64) frames)
packed_owned table frames made page within owned =
    append_assoc made (take 64 (drop (page * 64) frames)) (packed (drop (page + 1) table) (drop ((page + 1) * 64) frames))
    ∙ ap (λ rest. made ++ (take 64 (drop (page * 64) frames) ++ packed (drop (page + 1) table) rest))
    (ap (λ n. drop n frames) (next page) ∙ sym (drop-drop 64 (page * 64) frames))
    ∙ ap (λ t. made ++ packed t (drop (page * 64) frames)) (sym (drop_next table page false within ∙ ap (λ b. b ∷ drop (page + 1) table) owned))
  where
    next : (n : ℕ) → (n + 1) * 64 ≡ n * 64 + 64
    next n = omega arith

pub packed_free : (table : List Bool) (frames made : List ℕ) (page : ℕ) → page < length table → slice_index_or table page false ≡ false
    → made ++ packed (drop (page + 1) table) (drop ((page + 1) * 64) frames) ≡ made ++ packed (drop page table) (drop (page * 64) frames)
packed_free table frames made page within free =
    ap (λ rest. made ++ packed (drop (page + 1) table) rest) (ap (λ n. drop n frames) (next page) ∙ sym (drop-drop 64 (page * 64) frames))
    ∙ ap (λ t. made ++ packed t (drop (page * 64) frames)) (sym (drop_next table page false within ∙ ap (λ b. b ∷ drop (page + 1) table) free))
  where
    next : (n : ℕ) → (n + 1) * 64 ≡ n * 64 + 64
    next n = omega arith

pub packed_done : (table : List Bool) (frames made : List ℕ) → length table ≡ 128 → made ++ packed (drop 128 table) (drop (128 * 64) frames) ≡ made
packed_done table frames made size =
    ap (λ t. made ++ packed t (drop (128 * 64) frames)) (past table 128 (omega (arith, size))) ∙ append-nil made
  where
    past : (table : List Bool) (n : ℕ) → length table ≤ n → drop n table ≡ []
    past [] zero l = refl
    past [] (suc n) l = refl
    past (x ∷ table) zero l = absurd (omega arith)
    past (x ∷ table) (suc n) l = past table n (omega arith)

pub length-packed : (table : List Bool) (frames : List ℕ) → length frames ≡ length table * 64 → length (packed table frames) ≡ frame_words table
length-packed [] frames size = refl
length-packed (true ∷ table) frames size =
    length-append (take 64 frames) (packed table (drop 64 frames))
    ∙ ap₂ (λ (m n : ℕ). m + n) (length-take-le 64 frames (omega (arith, size)))
    (length-packed table (drop 64 frames) (length-drop 64 frames ∙ omega (arith, size)))
length-packed (false ∷ table) frames size = length-packed table (drop 64 frames) (length-drop 64 frames ∙ omega (arith, size))

pub length-unpacked : (table : List Bool) (words : List ℕ) → length words ≡ frame_words table → length (unpacked table words) ≡ length table * 64
length-unpacked [] words size = refl
length-unpacked (true ∷ table) words size =
    length-append (take 64 words) (unpacked table (drop 64 words))
    ∙ ap₂ (λ (m n : ℕ). m + n) (length-take-le 64 words (omega (arith, size)))
    (length-unpacked table (drop 64 words) (length-drop 64 words ∙ omega (arith, size)))
    ∙ omega arith
length-unpacked (false ∷ table) words size =
    length-append (replicate 64 0) (unpacked table words)
    ∙ ap₂ (λ (m n : ℕ). m + n) (length-replicate {A = ℕ} 64 0) (length-unpacked table words size)
    ∙ omega arith

-- after a first page
get_after : (own rest : List ℕ) (k : ℕ) → length own ≡ 64 → 64 ≤ k → get_or (own ++ rest) k 0 ≡ get_or rest (k - 64) 0
get_after own rest k size past = get_or-append_right own rest 64 k 0 size past

table_after : (b : Bool) (table : List Bool) (k : ℕ) → 64 ≤ k → slice_index_or (b ∷ table) (k / 64) false ≡ slice_index_or table ((k - 64) / 64) false
table_after b table k past = ap (λ n. get_or (b ∷ table) n false) (next k past)
  where
    next : (k : ℕ) → 64 ≤ k → k / 64 ≡ suc ((k - 64) / 64)
    next k past = grind arith

table_here : (b : Bool) (table : List Bool) (k : ℕ) → k < 64 → slice_index_or (b ∷ table) (k / 64) false ≡ b
table_here b table k low = ap (λ n. get_or (b ∷ table) n false) (none k low)
  where
    none : (k : ℕ) → k < 64 → k / 64 ≡ 0
    none k low = grind arith

-- unpacking restores a word of a page that has a frame
pub comes_back : (table : List Bool) (frames : List ℕ) (k : ℕ) → length frames ≡ length table * 64 → k < length table * 64 → slice_index_or table (k / 64) false ≡ true → get_or (unpacked table (packed table frames)) k 0 ≡ get_or frames k 0
comes_back [] frames k size lt owned = absurd (omega arith)
comes_back (true ∷ table) frames k size lt owned =
    let first : length (take 64 frames) ≡ 64 = length-take-le 64 frames (omega (arith, size)) in
    let words = take 64 frames ++ packed table (drop 64 frames) in
    let front : take 64 words ≡ take 64 frames = take_front (take 64 frames) (packed table (drop 64 frames)) 64 first in
    let back : drop 64 words ≡ packed table (drop 64 frames) = drop_front (take 64 frames) (packed table (drop 64 frames)) 64 first in
    ap₂ (λ xs ys. get_or (xs ++ unpacked table ys) k 0) front back ∙ elim (cases_lt k 64) [
      | inl low ↦ get_or_append_left (take 64 frames) _ 0 k (omega (arith, first)) ∙ get_or-take 64 frames k 0 low
      | inr past ↦
          get_after (take 64 frames) _ k first past
          ∙ comes_back table (drop 64 frames) (k - 64) (length-drop 64 frames ∙ omega (arith, size)) (omega arith) (sym (table_after true table k past) ∙ owned)
          ∙ get_or-drop 64 frames (k - 64) 0
          ∙ ap (λ i. get_or frames i 0) (omega (arith, past))
    ]
  where
    take_front : (xs ys : List ℕ) (n : ℕ) → length xs ≡ n → take n (xs ++ ys) ≡ xs
    take_front [] ys zero l = refl
    take_front [] ys (suc n) l = absurd (omega arith)
    take_front (x ∷ xs) ys zero l = absurd (omega arith)
    take_front (x ∷ xs) ys (suc n) l = ap (λ zs. x ∷ zs) (take_front xs ys n (omega arith))

    drop_front : (xs ys : List ℕ) (n : ℕ) → length xs ≡ n → drop n (xs ++ ys) ≡ ys
    drop_front [] ys zero l = refl
    drop_front [] ys (suc n) l = absurd (omega arith)
    drop_front (x ∷ xs) ys zero l = absurd (omega arith)
    drop_front (x ∷ xs) ys (suc n) l = drop_front xs ys n (omega arith)
comes_back (false ∷ table) frames k size lt owned = elim (cases_lt k 64) [
  | inl low ↦ absurd (differ (sym (table_here false table k low) ∙ owned))
  | inr past ↦
      get_after (replicate 64 0) _ k (length-replicate {A = ℕ} 64 0) past
      ∙ comes_back table (drop 64 frames) (k - 64) (length-drop 64 frames ∙ omega (arith, size)) (omega arith) (sym (table_after false table k past) ∙ owned)
      ∙ get_or-drop 64 frames (k - 64) 0
      ∙ ap (λ i. get_or frames i 0) (omega (arith, past))
]
  where
    differ : false ≡ true → ⊥
    differ h = cc

-- ---- the frames, unpacked page by page

-- the words still to be unpacked, and those already in the frames
pub record IsUnpackedTo (table : List Bool) (words frames rest : List ℕ) (page : ℕ) : Type 0 where
  pub size : length frames ≡ 8192
  pub rest_size : length rest ≡ frame_words (drop page table)
  pub left : (k : ℕ) → page * 64 ≤ k → get_or (unpacked table words) k 0 ≡ get_or (unpacked (drop page table) rest) (k - page * 64) 0
  pub done : (k : ℕ) → k < page * 64 → slice_index_or table (k / 64) false ≡ true → get_or frames k 0 ≡ get_or (unpacked table words) k 0

pub unpacks : (table : List Bool) (words frames : List ℕ) → length words ≡ frame_words table → length frames ≡ 8192 → IsUnpackedTo table words frames words 0
unpacks table words frames full size = record {
  size = size;
  rest_size = full;
  left = λ k l. ap (λ i. get_or (unpacked table words) i 0) (omega arith);
  done = λ k l owned. absurd (omega arith);
}

pub owned_rest : (table : List Bool) (words frames rest : List ℕ) (page : ℕ) → page < length table → slice_index_or table page false ≡ true → IsUnpackedTo table words frames rest page → 64 ≤ length rest
owned_rest table words frames rest page within owned u =
    omega (arith, u.rest_size ∙ ap frame_words (drop_next table page false within ∙ ap (λ b. b ∷ drop (page + 1) table) owned))

pub unpacks_owned : (table : List Bool) (words frames rest own new : List ℕ) (page : ℕ) → page < length table → page < 128 → slice_index_or table page false ≡ true
    → IsUnpackedTo table words frames rest page → own ≡ take 64 rest
    → length new ≡ 8192 → ((k : ℕ) → page * 64 ≤ k → k < page * 64 + 64 → get_or new k 0 ≡ get_or own (k - page * 64) 0)
    → ((k : ℕ) → k < page * 64 → get_or new k 0 ≡ get_or frames k 0)
    → IsUnpackedTo table words new (drop 64 rest) (page + 1)
unpacks_owned table words frames rest own new page within low owned u is size inside outside =
    let here : drop page table ≡ true ∷ drop (page + 1) table = drop_next table page false within ∙ ap (λ b. b ∷ drop (page + 1) table) owned in
    let many : length rest ≡ 64 + frame_words (drop (page + 1) table) = u.rest_size ∙ ap frame_words here in
    let first : length (take 64 rest) ≡ 64 = length-take-le 64 rest (omega (arith, many)) in
    let from : (k : ℕ) → page * 64 ≤ k → get_or (unpacked table words) k 0 ≡ get_or (take 64 rest ++ unpacked (drop (page + 1) table) (drop 64 rest)) (k - page * 64) 0 =
    λ k l. u.left k l ∙ ap (λ t. get_or (unpacked t rest) (k - page * 64) 0) here in
    record {
      size = size;
      rest_size = length-drop 64 rest ∙ omega (arith, many);
      left = λ k l.
          from k (omega arith)
          ∙ get_after (take 64 rest) _ (k - page * 64) first (omega arith)
          ∙ ap (λ i. get_or (unpacked (drop (page + 1) table) (drop 64 rest)) i 0) (omega arith);
      done = λ k l has. elim (cases_lt k (page * 64)) [
        | inl before ↦ outside k before ∙ u.done k before has
        | inr after ↦
            inside k after (omega arith)
            ∙ ap (λ xs. get_or xs (k - page * 64) 0) is
            ∙ sym (from k after ∙ get_or_append_left (take 64 rest) _ 0 (k - page * 64) (omega (arith, first)))
      ];
    }

pub unpacks_free : (table : List Bool) (words frames rest : List ℕ) (page : ℕ) → page < length table → slice_index_or table page false ≡ false
    → IsUnpackedTo table words frames rest page → IsUnpackedTo table words frames rest (page + 1)
unpacks_free table words frames rest page within free u =
    let here : drop page table ≡ false ∷ drop (page + 1) table = drop_next table page false within ∙ ap (λ b. b ∷ drop (page + 1) table) free in
    record {
      size = u.size;
      rest_size = u.rest_size ∙ ap frame_words here;
      left = λ k l.
          u.left k (omega arith)
          ∙ ap (λ t. get_or (unpacked t rest) (k - page * 64) 0) here
          ∙ get_after (replicate 64 0) _ (k - page * 64) (length-replicate {A = ℕ} 64 0) (omega arith)
          ∙ ap (λ i. get_or (unpacked (drop (page + 1) table) rest) i 0) (omega arith);
      done = λ k l has. elim (cases_lt k (page * 64)) [
        | inl before ↦ u.done k before has
        | inr after ↦ absurd (differ (sym free ∙ ap (λ p. slice_index_or table p false) (sym (at k after l)) ∙ has))
      ];
    }
  where
    differ : false ≡ true → ⊥
    differ h = cc

    at : (k : ℕ) → page * 64 ≤ k → k < (page + 1) * 64 → k / 64 ≡ page
    at k after l = grind arith

-- ---- the same words are shown

pub shown_alike : (table : List Bool) (frames others text texts initial : List ℕ)
    → ((k : ℕ) → k < 8192 → slice_index_or table (k / 64) false ≡ true → get_or others k 0 ≡ get_or frames k 0)
    → ((k : ℕ) → get_or texts k 0 ≡ get_or text k 0)
    → (k : ℕ) → k < 8192 → word_at table others texts initial k ≡ word_at table frames text initial k
shown_alike table frames others text texts initial same fetched k lt = elim (cases_Bool (slice_index_or table (k / 64) false)) [
  | inl owned ↦ rw owned (same k lt owned)
  | inr free ↦ rw free (elim (cases_lt k 2048) [
    | inl low ↦ image_low texts initial k low ∙ fetched k ∙ sym (image_low text initial k low)
    | inr high ↦ image_high texts initial k high ∙ sym (image_high text initial k high)
  ])
]

shown_all : (table : List Bool) (frames others text texts initial : List ℕ)
    → ((k : ℕ) → k < 8192 → word_at table others texts initial k ≡ word_at table frames text initial k)
    → shown table others texts initial ≡ shown table frames text initial
shown_all table frames others text texts initial same =
    shown_by table others texts initial (shown table frames text initial) (length-shown table frames text initial)
    (λ k lt. shown_at table frames text initial k lt ∙ sym (same k lt))

-- the text without the zeros at its end
pub text_without : (text : List ℕ) (end k : ℕ) → IsEndOfText end text → get_or (take end text) k 0 ≡ get_or text k 0
text_without text end k e = elim (cases_lt k end) [
  | inl low ↦ get_or-take end text k 0 low
  | inr past ↦ past_end text end k past ∙ sym (e.zeros k past)
]
  where
    past_end : (xs : List ℕ) (n k : ℕ) → n ≤ k → get_or (take n xs) k 0 ≡ 0
    past_end xs zero k l = refl
    past_end [] (suc n) k l = refl
    past_end (x ∷ xs) (suc n) zero l = absurd (omega arith)
    past_end (x ∷ xs) (suc n) (suc k) l = past_end xs n k (omega arith)

-- a map is packed
pub is_packed : (table : List Bool) (frames text initial : List ℕ) (end : ℕ) → length table ≡ 128 → IsFramed table frames → IsText table frames text initial → IsEndOfText end text
    → IsPacked table (packed table frames) (take end text) initial
is_packed table frames text initial end pages f t e =
    let size : length frames ≡ length table * 64 = omega (arith, pages, f.frames_all) in
    let full : length (packed table frames) ≡ frame_words table = length-packed table frames size in
    record {
      size = full;
      framed = record {
        frames_all = length-unpacked table (packed table frames) full ∙ omega (arith, pages);
        objects = f.objects;
      };
      short = omega (arith, length-take-le end text (omega (arith, t.size, e.within)), e.within);
      same = λ k low.
          shown_alike table frames (unpacked table (packed table frames)) text (take end text) initial
          (λ k lt owned. comes_back table frames k size (omega (arith, pages)) owned)
          (λ k. text_without text end k e) k (omega arith)
          ∙ t.same k low
          ∙ sym (text_without text end k e);
    }

pub packed_shows : (table : List Bool) (frames text initial : List ℕ) (end : ℕ) → length table ≡ 128 → IsFramed table frames → IsEndOfText end text
    → shown table (unpacked table (packed table frames)) (take end text) initial ≡ shown table frames text initial
packed_shows table frames text initial end pages f e =
    let size : length frames ≡ length table * 64 = omega (arith, pages, f.frames_all) in
    shown_all table frames (unpacked table (packed table frames)) text (take end text) initial
    (shown_alike table frames (unpacked table (packed table frames)) text (take end text) initial
    (λ k lt owned. comes_back table frames k size (omega (arith, pages)) owned)
    (λ k. text_without text end k e))

-- ---- a map is unpacked

-- words, followed by zeros, overwrite a text
pub text_again : (was words now : List ℕ) (end more : ℕ) → IsEndOfText end was → end ≤ more → length words ≤ more
    → ((k : ℕ) → k < more → get_or now k 0 ≡ get_or words k 0)
    → ((k : ℕ) → more ≤ k → get_or now k 0 ≡ get_or was k 0)
    → (k : ℕ) → get_or now k 0 ≡ get_or words k 0
text_again was words now end more e some fits inside outside k = elim (cases_lt k more) [
  | inl low ↦ inside k low
  | inr past ↦ outside k past ∙ e.zeros k (omega arith) ∙ sym (get_or_past words k 0 (omega arith))
]

pub end_again : (words now : List ℕ) → length words ≤ 2048 → ((k : ℕ) → get_or now k 0 ≡ get_or words k 0) → IsEndOfText (length words) now
end_again words now short same = record { within = short; zeros = λ k past. same k ∙ get_or_past words k 0 past }

pub is_map_again : (table : List Bool) (words frames text texts initial : List ℕ) → IsPacked table words text initial → length frames ≡ 8192 → length texts ≡ 2048
    → ((k : ℕ) → k < 8192 → slice_index_or table (k / 64) false ≡ true → get_or frames k 0 ≡ get_or (unpacked table words) k 0)
    → ((k : ℕ) → get_or texts k 0 ≡ get_or text k 0)
    → IsFramed table frames × IsText table frames texts initial × IsEndOfText (length text) texts
is_map_again table words frames text texts initial p size long same fetched = (
  record { frames_all = size; objects = p.framed.objects },
  record {
    size = long;
    same = λ k low. shown_alike table (unpacked table words) frames text texts initial same fetched k (omega arith) ∙ p.same k low ∙ sym (fetched k);
  },
  end_again text texts p.short fetched,
)

pub map_again : (table : List Bool) (words frames text texts initial : List ℕ) (lent : List Bool)
    → ((k : ℕ) → k < 8192 → slice_index_or table (k / 64) false ≡ true → get_or frames k 0 ≡ get_or (unpacked table words) k 0)
    → ((k : ℕ) → get_or texts k 0 ≡ get_or text k 0)
    → map_of table frames texts initial lent ≡ map_of table (unpacked table words) text initial lent
map_again table words frames text texts initial lent same fetched =
    rw (shown_all table (unpacked table words) frames text texts initial (shown_alike table (unpacked table words) frames text texts initial same fetched)) refl

-- ---- where the zeros of the text begin, after a write from an address on

pub end_kept : (table now : List Bool) (frames own text texts initial : List ℕ) (end next a : ℕ) → IsText table frames text initial → IsText now own texts initial → IsEndOfText end text
    → ((k : ℕ) → k < a → k < 2048 → get_or (shown now own texts initial) k 0 ≡ get_or (shown table frames text initial) k 0)
    → next ≤ 2048 → end ≤ next → (a < 2048 → next ≡ 2048) → IsEndOfText next texts
end_kept table now frames own text texts initial end next a t u e same within more written = record {
  within = within;
  zeros = λ k past. elim (cases_lt k 2048) [
    | inr high ↦ get_or_past texts k 0 (omega (arith, u.size, high))
    | inl low ↦ elim (cases_lt a 2048) [
      | inl here ↦ absurd (omega (arith, written here, past, low))
      | inr there ↦
          sym (shown_at now own texts initial k (omega arith) ∙ u.same k low)
          ∙ same k (omega arith) low
          ∙ shown_at table frames text initial k (omega arith)
          ∙ t.same k low
          ∙ e.zeros k (omega arith)
    ]
  ];
}

pub end_put : (table now : List Bool) (frames own text texts initial : List ℕ) (end next a v : ℕ) → IsText table frames text initial → IsText now own texts initial → IsEndOfText end text
    → shown now own texts initial ≡ set (shown table frames text initial) a v
    → next ≤ 2048 → end ≤ next → (a < 2048 → next ≡ 2048) → IsEndOfText next texts
end_put table now frames own text texts initial end next a v t u e words =
    end_kept table now frames own text texts initial end next a t u e
    (λ k l low. ap (λ xs. get_or xs k 0) words ∙ get_or-set_other (shown table frames text initial) a k v 0 (differ k a l))
  where
    differ : (k a : ℕ) → k < a → k ≢ a
    differ k a l same = omega (arith, l, same)

pub end_put_all : (table now : List Bool) (frames own text texts initial words : List ℕ) (end next start count : ℕ) → IsText table frames text initial → IsText now own texts initial → IsEndOfText end text
    → start + count ≤ 8192 → length words ≤ count
    → shown now own texts initial ≡ with_words start (padded_words count words) (shown table frames text initial)
    → next ≤ 2048 → end ≤ next → (start < 2048 → next ≡ 2048) → IsEndOfText next texts
end_put_all table now frames own text texts initial words end next start count t u e within fits done =
    let long : length (shown table frames text initial) ≡ 8192 = length-shown table frames text initial in
    let full : length (padded_words count words) ≡ count = length-padded_words count words fits in
    end_kept table now frames own text texts initial end next start t u e
    (λ k l low. ap (λ xs. get_or xs k 0) done ∙ (words_at start (padded_words count words) (shown table frames text initial) k (omega (arith, long, full))).0 l)

pub end_of_zeros : (n : ℕ) → IsEndOfText 0 (replicate n 0)
end_of_zeros n = record { within = omega arith; zeros = λ k past. zero_at n k }
  where
    zero_at : (n k : ℕ) → get_or {A = ℕ} (replicate n 0) k 0 ≡ 0
    zero_at zero k = refl
    zero_at (suc n) zero = refl
    zero_at (suc n) (suc k) = zero_at n k

-- a vector's items, returned as they are in the slices that were lent
pub with_back : (now : List Bool) (items own texts text initial : List ℕ) (next : ℕ) (decoded entries : List Decoded) → items ≡ own → texts ≡ text → decoded ≡ entries
    → IsFramed now own → IsText now own text initial → IsEndOfText next text → IsDecoded entries text
    → IsFramed now items × IsText now items texts initial × IsEndOfText next texts × IsDecoded decoded texts
with_back now items own texts text initial next decoded entries back texts_back entries_back f t e d = rw (back, texts_back, entries_back) (f, t, e, d)

-- one more page of the words of frames
pub packed_more_owned : (table : List Bool) (frames whole made more : List ℕ) (page : ℕ) → page < length table → slice_index_or table page false ≡ true
    → more ≡ made ++ slice_range frames (page * 64) (page * 64 + 64)
    → made ++ packed (drop page table) (drop (page * 64) frames) ≡ whole
    → more ++ packed (drop (page + 1) table) (drop ((page + 1) * 64) frames) ≡ whole
packed_more_owned table frames whole made more page within owned is was =
    ap (λ xs. xs ++ packed (drop (page + 1) table) (drop ((page + 1) * 64) frames))
    (is ∙ ap (λ n. made ++ take n (drop (page * 64) frames)) (one page))
    ∙ packed_owned table frames made page within owned
    ∙ was
  where
    one : (n : ℕ) → n * 64 + 64 - n * 64 ≡ 64
    one n = omega arith

pub packed_more_free : (table : List Bool) (frames whole made more : List ℕ) (page : ℕ) → page < length table → slice_index_or table page false ≡ false
    → more ≡ made → made ++ packed (drop page table) (drop (page * 64) frames) ≡ whole
    → more ++ packed (drop (page + 1) table) (drop ((page + 1) * 64) frames) ≡ whole
packed_more_free table frames whole made more page within free is was =
    ap (λ xs. xs ++ packed (drop (page + 1) table) (drop ((page + 1) * 64) frames)) is
    ∙ packed_free table frames made page within free
    ∙ was

-- a page's words are put into its frame
pub frame_put : (frames new words : List ℕ) (page k : ℕ) → length frames ≡ 8192 → page < 128 → length words ≡ 64 → new ≡ with_words (page * 64) (padded_words 64 words) frames
    → (page * 64 ≤ k → k < page * 64 + 64 → get_or new k 0 ≡ get_or words (k - page * 64) 0)
    × ((k < page * 64) ⊎ (page * 64 + 64 ≤ k) → get_or new k 0 ≡ get_or frames k 0)
frame_put frames new words page k size within many is =
    let full : length (padded_words 64 words) ≡ 64 = length-padded_words 64 words (omega (arith, many)) in
    let at = words_at (page * 64) (padded_words 64 words) frames k (omega (arith, full, size)) in (
      λ low high. ap (λ xs. get_or xs k 0) is ∙ at.1 low (omega (arith, full)) ∙ padded_at 64 words (k - page * 64) (omega arith),
      λ out. ap (λ xs. get_or xs k 0) is ∙ elim out [
        | inl before ↦ at.0 before
        | inr past ↦ at.2 (omega (arith, full))
      ],
    )

pub packed_map : (table : List Bool) (frames text initial : List ℕ) (lent : List Bool) (end : ℕ) (words some first : List ℕ) → length table ≡ 128 → IsFramed table frames → IsEndOfText end text
    → words ≡ packed table frames → some ≡ take end text → first ≡ initial
    → map_of table (unpacked table words) some first lent ≡ map_of table frames text initial lent
packed_map table frames text initial lent end words some first pages f e is short same =
    rw (is, short, same, packed_shows table frames text initial end pages f e) refl

pub is_packed_as : (table : List Bool) (frames text initial : List ℕ) (end : ℕ) (words some first : List ℕ) → length table ≡ 128 → IsFramed table frames → IsText table frames text initial → IsEndOfText end text
    → words ≡ packed table frames → some ≡ take end text → first ≡ initial → IsPacked table words some first
is_packed_as table frames text initial end words some first pages f t e is short same =
    rw (is, short, same) (is_packed table frames text initial end pages f t e)

pub map_again_back : (table : List Bool) (words items frames text back texts initial first : List ℕ) (lent : List Bool) → items ≡ frames → back ≡ texts → first ≡ initial
    → ((k : ℕ) → k < 8192 → slice_index_or table (k / 64) false ≡ true → get_or frames k 0 ≡ get_or (unpacked table words) k 0)
    → ((k : ℕ) → get_or texts k 0 ≡ get_or text k 0)
    → map_of table items back first lent ≡ map_of table (unpacked table words) text initial lent
map_again_back table words items frames text back texts initial first lent is text_is same_first same fetched =
    rw (is, text_is, same_first) (map_again table words frames text texts initial lent same fetched)
