-- How the words that a page map shows follow from its frames, its table and its image.
use Rattle.std.proofs.Common.{◌≡◌, ◌≢◌, ◌⊎◌, inl, inr, ℕ, suc, ◌+◌, ◌-◌, ◌*◌, ◌/◌, ◌<◌, ◌≤◌, Bool, true, false, List, [], ◌∷◌, ◌++◌, length, get_or, set, take, drop, replicate, slice_index, slice_index_or, slice_range, arith, refl, sym, ap, ◌∙◌, append_assoc}
use Rattle.std.proofs.lemmas.Bool.{cases_eq, cases_lt}
use Rattle.std.proofs.lemmas.Grind.{common_steps, same_number_lists}
use Rattle.std.proofs.lemmas.List.{get_or-set_same, get_or-set_other, get_or-drop, get_or-take, get_or_append_left, get_or-append_right, get_or-replicate, get_or_past, length-set, length-replicate, take-set-le, length-take, set_past, length-append, length-drop, length-take-le}
use Rattle.std.specs.Global.{Vec}
use Rattle.std.specs.Vec.{with_items}
use Rattle.std.proofs.lemmas.List.{with_items_is}
use Rattle.std.proofs.Math.Seq.{paste, take-set-lt}
use Rattle.std.proofs.lemmas.List.Edits.{fill_from_more, paste_all, paste-paste, between_more}
use Rattle.std.proofs.lemmas.List.FromFn.{fill_by_all, length-map-range_with_len, get_or-map-range_with_len}
use Rattle.nook_data.specs.declared.scenario.Image.{Image}
use Rattle.machine_defs.specs.Pages.{opening_memory, opening_object, opening_objects, padded_words, loaded_memory}
use Rattle.machine_defs.specs.Pages.{with_words}
use Rattle.machine_defs.proofs.Padded.{length-padded_words}
use Rattle.machine_defs.specs.Views.PageMap.{PageMap, none_written, none_lent, page_written}
use Rattle.domain_pages.specs.Frames.{image_word, word_at, shown, opening_table, IsFramed}
use Rattle.domain_pages.proofs.Own.{AreMarked, has_here}

pub length-shown : (table : List Bool) (frames text initial : List ℕ) → length (shown table frames text initial) ≡ 8192
unfolding shown
length-shown table frames text initial = length-map-range_with_len (word_at table frames text initial) 0 8192

-- the word at an address
pub shown_at : (table : List Bool) (frames text initial : List ℕ) (k : ℕ) → k < 8192 → slice_index (shown table frames text initial) k ≡ word_at table frames text initial k
unfolding shown
shown_at table frames text initial k h = get_or-map-range_with_len (word_at table frames text initial) 0 8192 k k 0 h (omega arith)

-- a list that has these words is what is shown
pub shown_by : (table : List Bool) (frames text initial xs : List ℕ) → length xs ≡ 8192 → ((k : ℕ) → k < 8192 → get_or xs k 0 ≡ word_at table frames text initial k) → shown table frames text initial ≡ xs
unfolding shown
shown_by table frames text initial xs long h = sym (fill_by_all (word_at table frames text initial) xs 8192 0 long h)

-- a write

written_at : (table : List Bool) (frames text initial : List ℕ) (a v : ℕ) → slice_index_or table (a / 64) false ≡ true → a < length frames → word_at table (set frames a v) text initial a ≡ v
written_at table frames text initial a v owned within = rw owned (get_or-set_same frames a v 0 within)

kept_at : (table : List Bool) (frames text initial : List ℕ) (a v k : ℕ) → k ≢ a → word_at table (set frames a v) text initial k ≡ word_at table frames text initial k
kept_at table frames text initial a v k differs = rw (get_or-set_other frames a k v 0 differs) refl

-- a write into the frame of a page that has one
pub shown_write : (table now : List Bool) (frames own text initial : List ℕ) (a v : ℕ) → a < 8192 → length own ≡ 8192 → slice_index_or now (a / 64) false ≡ true → ((k : ℕ) → k < 8192 → word_at now own text initial k ≡ word_at table frames text initial k) → shown now (set own a v) text initial ≡ set (shown table frames text initial) a v
shown_write table now frames own text initial a v within size owned same =
    let long = length-shown table frames text initial in
    shown_by now (set own a v) text initial (set (shown table frames text initial) a v) (length-set _ a v ∙ long) (λ k lt. elim (cases_eq k a) [
      | inl here ↦ rw here (get_or-set_same _ a v 0 (omega (arith, long)) ∙ sym (written_at now own text initial a v owned (omega arith)))
      | inr there ↦
          get_or-set_other _ a k v 0 there
          ∙ shown_at table frames text initial k lt
          ∙ sym (same k lt)
          ∙ sym (kept_at now own text initial a v k there)
    ])

-- the same with the table in which the page has received its frame
pub shown_put : (table : List Bool) (frames own text initial : List ℕ) (a v : ℕ) → a < 8192 → length own ≡ 8192 → length table ≡ 128 → ((k : ℕ) → k < 8192 → word_at (set table (a / 64) true) own text initial k ≡ word_at table frames text initial k) → shown (set table (a / 64) true) (set own a v) text initial ≡ set (shown table frames text initial) a v
shown_put table frames own text initial a v within size pages same =
    shown_write table (set table (a / 64) true) frames own text initial a v within size (get_or-set_same table (a / 64) true false (omega arith)) same

-- a page whose frame is filled with the image's words shows what it showed before
pub owned_at : (table : List Bool) (frames own text initial : List ℕ) (page k : ℕ) → page < length table → slice_index_or table page false ≡ false → (page * 64 ≤ k → k < page * 64 + 64 → slice_index own k ≡ image_word text initial k) → ((k < page * 64) ⊎ (page * 64 + 64 ≤ k) → slice_index own k ≡ slice_index frames k) → word_at (set table page true) own text initial k ≡ word_at table frames text initial k
owned_at table frames own text initial page k within free inside outside =
    elim (cases_eq (k / 64) page) [
      | inl here ↦
          rw (here, free, get_or-set_same table page true false within) (inside (omega (arith, here)) (omega (arith, here)))
      | inr there ↦
          rw (get_or-set_other table page (k / 64) true false there, outside (apart k page there)) refl
    ]
  where
    apart : (k page : ℕ) → k / 64 ≢ page → (k < page * 64) ⊎ (page * 64 + 64 ≤ k)
    apart k page there = grind arith

-- the table

pub table_low : (page : ℕ) → page < 115 → slice_index_or opening_table page false ≡ false
unfolding opening_table
table_low page low = get_or_append_left (replicate 115 false) (replicate 13 true) false page low ∙ get_or-replicate 115 page false false low

pub table_high : (page : ℕ) → 115 ≤ page → page < 128 → slice_index_or opening_table page false ≡ true
unfolding opening_table
table_high page low high = get_or-append_right (replicate 115 false) (replicate 13 true) 115 page false refl low ∙ get_or-replicate 13 (page - 115) true false (omega arith)

pub take_opening : take 115 opening_table ≡ none_written
unfolding opening_table none_written
take_opening = refl

pub framed_opening : (frames : List ℕ) → length frames ≡ 8192 → IsFramed opening_table frames
framed_opening frames size = record { frames_all = size; objects = table_high }

pub framed_put : (table : List Bool) (frames own : List ℕ) (page : ℕ) → page < length table → IsFramed table frames → length own ≡ 8192 → IsFramed (set table page true) own
framed_put table frames own page within f size = record {
  frames_all = size;
  objects = λ p low high. elim (cases_eq p page) [
    | inl here ↦ rw here (get_or-set_same table page true false within)
    | inr there ↦ get_or-set_other table page p true false there ∙ f.objects p low high
  ];
}

pub own_put : (table : List Bool) (page : ℕ) → take 115 (set table page true) ≡ set (take 115 table) page true
own_put table page = by_cases (cases_lt page 115)
  where
    by_cases : (page < 115) ⊎ (115 ≤ page) → take 115 (set table page true) ≡ set (take 115 table) page true
    by_cases (inl low) = take-set-lt 115 table page true low
    by_cases (inr high) =
        take-set-le 115 table page true high
        ∙ sym (set_past (take 115 table) page true (omega (arith, length-take 115 table)))

-- a map of these fields
abbrev pub map_of : List Bool → List ℕ → List ℕ → List ℕ → List Bool → PageMap
map_of table frames text initial lent =
    record { words = shown table frames text initial; lent = lent; own = take 115 table }

-- a word is written: a vector's items are returned as they are in the slice that was lent
pub map_put : (table now : List Bool) (frames items own text texts written initial : List ℕ) (lent : List Bool) (a v : ℕ) → items ≡ own → texts ≡ written → now ≡ set table (a / 64) true → shown now own written initial ≡ set (shown table frames text initial) a v → map_of now items texts initial lent ≡ page_written (map_of table frames text initial lent) a v
map_put table now frames items own text texts written initial lent a v back texts_back got words =
    rw (back, texts_back, words, got, own_put table (a / 64)) refl

-- a vector's items after a slice of them was written
pub items_back : (n : ℕ) (v : Vec ℕ) (ws : List ℕ) → length v.items ≡ n → length ws ≡ n → (with_items v ws).items ≡ ws
items_back n v ws size same = with_items_is v ws (omega (arith, v.ok.0))

-- at first

pub objects_more : (frames : List ℕ) (o next more left : ℕ) → next ≡ suc o → left ≡ suc more → (frames ++ opening_object o) ++ opening_objects next more ≡ frames ++ opening_objects o left
objects_more frames o next more left e f = rw (e, f) (append_assoc frames (opening_object o) (opening_objects (suc o) more))

pub objects_none : (frames : List ℕ) → frames ++ opening_objects 13 0 ≡ frames
objects_none frames = grind (arith, common_steps)

pub objects_begin : replicate 7424 0 ++ opening_objects 1 12 ≡ opening_memory []
unfolding opening_memory
objects_begin = refl

pub length-opening : length (opening_memory []) ≡ 8192
unfolding opening_memory
length-opening = refl

low_zero : (k : ℕ) → k < 7360 → get_or (opening_memory []) k 0 ≡ 0
unfolding opening_memory
low_zero k low = get_or_append_left (replicate 7360 0) (padded_words 64 [] ++ opening_objects 1 12) 0 k low ∙ get_or-replicate 7360 k 0 0 low

pub image_low : (text initial : List ℕ) (k : ℕ) → k < 2048 → image_word text initial k ≡ get_or text k 0
image_low text initial k low = grind arith

pub image_high : (text initial : List ℕ) (k : ℕ) → 2048 ≤ k → image_word text initial k ≡ get_or initial (k - 2048) 0
image_high text initial k high = grind arith

image_none : (k : ℕ) → image_word [] [] k ≡ 0
image_none k = elim (cases_lt k 2048) [
  | inl low ↦ image_low [] [] k low ∙ get_or_past [] k 0 (omega arith)
  | inr high ↦ image_high [] [] k high ∙ get_or_past [] (k - 2048) 0 (omega arith)
]

-- if only the objects have frames
word_low : (frames text initial : List ℕ) (k : ℕ) → k < 7360 → word_at opening_table frames text initial k ≡ image_word text initial k
word_low frames text initial k low = rw (table_low (k / 64) (omega arith)) refl

word_high : (table : List Bool) (frames text initial : List ℕ) (k : ℕ) → IsFramed table frames → 7360 ≤ k → k < 8192 → word_at table frames text initial k ≡ get_or frames k 0
word_high table frames text initial k f high within = rw (f.objects (k / 64) (omega arith) (omega arith)) refl

pub shown_begun : (frames : List ℕ) → length frames ≡ 8192 → ((k : ℕ) → 7360 ≤ k → k < 8192 → get_or frames k 0 ≡ get_or (opening_memory []) k 0) → shown opening_table frames [] [] ≡ opening_memory []
shown_begun frames size begun =
    shown_by opening_table frames [] [] (opening_memory []) length-opening (λ k lt. elim (cases_lt k 7360) [
      | inl low ↦ low_zero k low ∙ sym (word_low frames [] [] k low ∙ image_none k)
      | inr high ↦ sym (begun k high lt) ∙ sym (word_high opening_table frames [] [] k (framed_opening frames size) high lt)
    ])

pub shown_opening : (frames : List ℕ) → frames ≡ opening_memory [] → shown opening_table frames [] [] ≡ opening_memory []
shown_opening frames begun = shown_begun frames (ap length begun ∙ length-opening) (λ k high lt. ap (λ xs. get_or xs k 0) begun)

-- a load

pub padded_at : (n : ℕ) (words : List ℕ) (k : ℕ) → k < n → get_or (padded_words n words) k 0 ≡ get_or words k 0
padded_at n words k within = elim (cases_lt k (length words)) [
  | inl low ↦ get_or_append_left words _ 0 k low
  | inr high ↦
      get_or-append_right words (replicate (n - length words) 0) (length words) k 0 refl high
      ∙ get_or-replicate (n - length words) (k - length words) 0 0 (omega arith)
      ∙ sym (get_or_past words k 0 high)
]

loaded_at : (text initial rest : List ℕ) (k : ℕ) → length text ≤ 2048 → length initial ≤ 5312 → k < 8192 → (k < 7360 → get_or (padded_words 2048 text ++ (padded_words 5312 initial ++ rest)) k 0 ≡ image_word text initial k) × (7360 ≤ k → get_or (padded_words 2048 text ++ (padded_words 5312 initial ++ rest)) k 0 ≡ get_or rest (k - 7360) 0)
loaded_at text initial rest k short small within =
    let front = padded_words 2048 text in
    let middle = padded_words 5312 initial in
    let fronts : length front ≡ 2048 = length-padded_words 2048 text short in
    let middles : length middle ≡ 5312 = length-padded_words 5312 initial small in (
      λ low. elim (cases_lt k 2048) [
        | inl first ↦ get_or_append_left front _ 0 k (omega arith) ∙ padded_at 2048 text k first ∙ sym (image_low text initial k first)
        | inr later ↦
            get_or-append_right front (middle ++ rest) 2048 k 0 fronts later
            ∙ get_or_append_left middle rest 0 (k - 2048) (omega arith)
            ∙ padded_at 5312 initial (k - 2048) (omega arith)
            ∙ sym (image_high text initial k later)
      ],
      λ high.
          get_or-append_right front (middle ++ rest) 2048 k 0 fronts (omega arith)
          ∙ get_or-append_right middle rest 5312 (k - 2048) 0 middles (omega arith)
          ∙ ap (λ i. get_or rest i 0) (omega arith),
    )

pub shown_loaded : (table : List Bool) (frames before after : List ℕ) (image : Image) → IsFramed table frames → length image.text ≤ 2048 → length image.initial ≤ 2048 → shown opening_table frames image.text image.initial ≡ loaded_memory image (shown table frames before after)
unfolding loaded_memory
shown_loaded table frames before after image f short small =
    let old = shown table frames before after in
    let long = length-shown table frames before after in
    let front = padded_words 2048 image.text in
    let middle = padded_words 5312 image.initial in
    let fronts : length front ≡ 2048 = length-padded_words 2048 image.text short in
    let middles : length middle ≡ 5312 = length-padded_words 5312 image.initial (omega arith) in
    let size : length (front ++ (middle ++ drop 7360 old)) ≡ 8192 =
    omega (arith, length-append front (middle ++ drop 7360 old), length-append middle (drop 7360 old), length-drop 7360 old) in
    shown_by opening_table frames image.text image.initial (front ++ (middle ++ drop 7360 old)) size (λ k lt. elim (cases_lt k 7360) [
      | inl low ↦
          (loaded_at image.text image.initial (drop 7360 old) k short (omega arith) lt).0 low
          ∙ sym (word_low frames image.text image.initial k low)
      | inr high ↦
          (loaded_at image.text image.initial (drop 7360 old) k short (omega arith) lt).1 high
          ∙ get_or-drop 7360 old (k - 7360) 0
          ∙ ap (λ i. get_or old i 0) (omega arith)
          ∙ shown_at table frames before after k lt
          ∙ word_high table frames before after k f high lt
          ∙ sym (word_high opening_table frames image.text image.initial k (framed_opening frames f.frames_all) high lt)
    ])

pub lent_opening : replicate 17 false ≡ none_lent
unfolding none_lent
lent_opening = refl

-- the table is filled in from the first object's page on
pub table_more : (page : ℕ) → 115 ≤ page → page < 128 → set (paste (replicate 128 false) 115 (replicate (page - 115) true) (page - 115)) page true ≡ paste (replicate 128 false) 115 (replicate (page + 1 - 115) true) (page + 1 - 115)
table_more page low high =
    let i = page - 115 in
    let here : 115 + i ≡ page = omega arith in
    let next : i + 1 ≡ page + 1 - 115 = omega arith in
    let d = replicate 128 false in
    ap (λ p. set (paste d 115 (replicate i true) i) p true) (sym here)
    ∙ fill_from_more d 115 i true (omega arith)
    ∙ ap (λ n. paste d 115 (replicate n true) n) next

pub table_done : paste (replicate 128 false) 115 (replicate 13 true) 13 ≡ opening_table
unfolding opening_table
table_done = refl

-- many words

-- a word of memory into which words were written
pub words_at : (start : ℕ) (words memory : List ℕ) (k : ℕ) → start + length words ≤ length memory → (k < start → get_or (with_words start words memory) k 0 ≡ get_or memory k 0) × (start ≤ k → k < start + length words → get_or (with_words start words memory) k 0 ≡ get_or words (k - start) 0) × (start + length words ≤ k → get_or (with_words start words memory) k 0 ≡ get_or memory k 0)
words_at start words memory k within =
    let front = take start memory in
    let rest = drop (start + length words) memory in
    let fronts : length front ≡ start = omega (arith, length-take start memory) in (
      λ low. get_or_append_left front (words ++ rest) 0 k (omega (arith, fronts)) ∙ get_or-take start memory k 0 low,
      λ low high.
          get_or-append_right front (words ++ rest) start k 0 fronts low
          ∙ get_or_append_left words rest 0 (k - start) (omega arith),
      λ high.
          get_or-append_right front (words ++ rest) start k 0 fronts (omega arith)
          ∙ get_or-append_right words rest (length words) (k - start) 0 refl (omega arith)
          ∙ get_or-drop (start + length words) memory (k - start - length words) 0
          ∙ ap (λ i. get_or memory i 0) (omega arith),
    )

pub length-with_words : (start : ℕ) (words memory : List ℕ) → start + length words ≤ length memory → length (with_words start words memory) ≡ length memory
length-with_words start words memory within =
    omega (
      arith,
      length-append (take start memory) (words ++ drop (start + length words) memory),
      length-append words (drop (start + length words) memory),
      length-take start memory,
      length-drop (start + length words) memory,
    )

-- words are written into frames, if each of their pages has one
pub shown_put_all : (old now : List Bool) (frames own text initial words : List ℕ) (start count : ℕ) → start + count ≤ 8192 → length own ≡ 8192 → length words ≤ count → AreMarked old now start count → ((k : ℕ) → k < 8192 → word_at now own text initial k ≡ word_at old frames text initial k) → shown now (with_words start (padded_words count words) own) text initial ≡ with_words start (padded_words count words) (shown old frames text initial)
shown_put_all old now frames own text initial words start count within size fits marked same =
    let padded = padded_words count words in
    let before = shown old frames text initial in
    let long : length before ≡ 8192 = length-shown old frames text initial in
    let full : length padded ≡ count = length-padded_words count words fits in
    let in_own : start + length padded ≤ length own = omega (arith, size, full) in
    let in_before : start + length padded ≤ length before = omega (arith, long, full) in
    let kept : (k : ℕ) → k < 8192 → get_or (with_words start padded own) k 0 ≡ get_or own k 0 → get_or (with_words start padded before) k 0 ≡ get_or before k 0 → get_or (with_words start padded before) k 0 ≡ word_at now (with_words start padded own) text initial k =
    λ k lt at_own at_before. at_before ∙ shown_at old frames text initial k lt ∙ sym (same k lt) ∙ sym (rw at_own refl) in
    shown_by now (with_words start padded own) text initial (with_words start padded before) (length-with_words start padded before in_before ∙ long) (λ k lt. elim (cases_lt k start) [
      | inl low ↦ kept k lt ((words_at start padded own k in_own).0 low) ((words_at start padded before k in_before).0 low)
      | inr here ↦ elim (cases_lt k (start + length padded)) [
        | inl high ↦
            (words_at start padded before k in_before).1 here high
            ∙ sym (rw (marked (k / 64) (omega arith), has_here start count k here (omega (arith, full))) ((words_at start padded own k in_own).1 here high))
        | inr past ↦ kept k lt ((words_at start padded own k in_own).2 past) ((words_at start padded before k in_before).2 past)
      ]
    ])

-- the part after the words that are written
pub length_left : (memory words : List ℕ) (start count : ℕ) → start + count ≤ length memory → length words ≤ count → length (take (start + count - (start + length words)) (drop (start + length words) (paste memory start words (length words)))) ≡ count - length words
length_left memory words start count within fits =
    let n = length words in
    let done = paste memory start words n in
    let long : length done ≡ length memory =
    ap length (paste_all memory start words n refl) ∙ length-with_words start words memory (omega arith) in
    let rest = drop (start + n) done in
    let left : length rest ≡ length done - (start + n) = length-drop (start + n) done in
    length-take-le (start + count - (start + n)) rest (omega (arith, left, long)) ∙ omega arith

-- the words are written, then the zeros
pub written_all : (memory words : List ℕ) (start count : ℕ) → start + count ≤ length memory → length words ≤ count → paste (paste memory start words (length words)) (start + length words) (replicate (count - length words) 0) (count - length words) ≡ with_words start (padded_words count words) memory
written_all memory words start count within fits =
    let zeros : List ℕ = replicate (count - length words) 0 in
    let full : length (padded_words count words) ≡ count = length-padded_words count words fits in
    let more : length words + (count - length words) ≡ count = omega arith in
    paste-paste memory start words zeros (length words) (count - length words) refl (sym (length-replicate (count - length words) 0)) (omega arith)
    ∙ ap (paste memory start (padded_words count words)) more
    ∙ paste_all memory start (padded_words count words) count (sym full)
    ∙ ap (λ n. take start memory ++ (padded_words count words ++ drop (start + n) memory)) (sym full)

-- one more word of a range
pub range_more : (memory : List ℕ) (start i : ℕ) → start + i < length memory → slice_range memory start (start + i) ++ get_or memory (start + i) 0 ∷ [] ≡ slice_range memory start (start + (i + 1))
range_more memory start i within =
    let next : start + i + 1 ≡ start + (i + 1) = omega arith in
    sym (between_more memory start (start + i) 0 (omega arith) within) ∙ ap (slice_range memory start) next

-- words whose pages have frames

range_length : (xs : List ℕ) (start end : ℕ) → end ≤ length xs → length (slice_range xs start end) ≡ end - start
range_length xs start end within = length-take-le (end - start) (drop start xs) (omega (arith, length-drop start xs, within))

range_at : (xs : List ℕ) (start end k : ℕ) → k < end - start → get_or (slice_range xs start end) k 0 ≡ get_or xs (start + k) 0
range_at xs start end k low = get_or-take (end - start) (drop start xs) k 0 low ∙ get_or-drop start xs k 0

pub range_framed : (table : List Bool) (frames text initial : List ℕ) (start end : ℕ) → end ≤ 8192 → length frames ≡ 8192
    → ((k : ℕ) → start ≤ k → k < end → slice_index_or table (k / 64) false ≡ true)
    → slice_range frames start end ≡ slice_range (shown table frames text initial) start end
range_framed table frames text initial start end within size framed =
    let words = shown table frames text initial in
    let long : length words ≡ 8192 = length-shown table frames text initial in
    let len : length (slice_range frames start end) ≡ end - start = range_length frames start end (omega (arith, size, within)) in
    same_number_lists (slice_range frames start end) (slice_range words start end)
    (len ∙ sym (range_length words start end (omega (arith, long, within))))
    (λ k low.
    let inside : k < end - start = omega (arith, len, low) in
    range_at frames start end k inside
    ∙ sym (at_frame (start + k) (framed (start + k) (omega arith) (omega (arith, inside))))
    ∙ sym (shown_at table frames text initial (start + k) (omega (arith, inside, within)))
    ∙ sym (range_at words start end k inside))
  where
    at_frame : (k : ℕ) → slice_index_or table (k / 64) false ≡ true → word_at table frames text initial k ≡ get_or frames k 0
    at_frame k owned = rw owned refl
