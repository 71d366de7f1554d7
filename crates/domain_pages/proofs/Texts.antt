-- How the words of text follow from the frames, the table and the image.
use Rattle.std.proofs.Common.{◌≡◌, ◌⊎◌, inl, inr, Some, ℕ, ◌+◌, ◌/◌, ◌<◌, ◌≤◌, if◌then◌else◌, Bool, true, false, List, [], length, get_or, set, replicate, slice_index, slice_index_or, arith, refl, sym, ap, ◌∙◌}
use Rattle.std.proofs.lemmas.Bool.{cases_eq, cases_lt}
use Rattle.std.proofs.lemmas.List.{get_or-replicate, get_or_past, get_or-set_same, get_or-set_other, length-set}
use Rattle.nook_data.specs.declared.scenario.Image.{Image}
use Rattle.machine_defs.specs.Views.PageMap.{pages_loaded}
use Rattle.machine_defs.specs.Pages.{fetch_word, opening_memory, padded_words, with_words}
use Rattle.machine_defs.proofs.Padded.{length-padded_words}
use Rattle.domain_pages.specs.Frames.{word_at, shown, opening_table, IsFramed, IsText}
use Rattle.domain_pages.proofs.Own.{AreMarked, has_here}
use Rattle.domain_pages.proofs.Shown.{image_high, image_low, length-shown, map_of, shown_at, shown_by, shown_loaded, shown_opening, table_low, take_opening, words_at}

pub text_opening : (frames text initial : List ℕ) → length text ≡ 2048 → IsText opening_table frames text initial
text_opening frames text initial size = record {
  size = size;
  same = λ k low. rw (table_low (k / 64) (omega arith)) (image_low text initial k low);
}

-- the word that is fetched
pub text_shown : (table : List Bool) (frames text initial : List ℕ) (k : ℕ) → IsText table frames text initial → k < 2048 → slice_index text k ≡ slice_index (shown table frames text initial) k
text_shown table frames text initial k t low = sym (shown_at table frames text initial k (omega arith) ∙ t.same k low)

-- a text that differs only on pages with frames shows the same words
same_word : (table : List Bool) (frames text other initial : List ℕ) (k : ℕ) → (k < 2048 → (slice_index other k ≡ slice_index text k) ⊎ (slice_index_or table (k / 64) false ≡ true)) → word_at table frames other initial k ≡ word_at table frames text initial k
same_word table frames text other initial k alike = elim (cases_lt k 2048) [
  | inr high ↦ ap (λ w. if slice_index_or table (k / 64) false then get_or frames k 0 else w) (image_high other initial k high ∙ sym (image_high text initial k high))
  | inl low ↦ elim (alike low) [
    | inl equal ↦ ap (λ w. if slice_index_or table (k / 64) false then get_or frames k 0 else w) (image_low other initial k low ∙ equal ∙ sym (image_low text initial k low))
    | inr owned ↦ rw owned refl
  ]
]

pub shown_same : (table : List Bool) (frames text other initial : List ℕ) → ((k : ℕ) → k < 2048 → (slice_index other k ≡ slice_index text k) ⊎ (slice_index_or table (k / 64) false ≡ true)) → shown table frames other initial ≡ shown table frames text initial
shown_same table frames text other initial alike =
    shown_by table frames other initial (shown table frames text initial) (length-shown table frames text initial) (λ k lt.
    shown_at table frames text initial k lt ∙ sym (same_word table frames text other initial k (alike k)))

-- at first, and after a load

pub shown_zeros : (frames : List ℕ) → frames ≡ opening_memory [] → shown opening_table frames (replicate 2048 0) [] ≡ opening_memory []
shown_zeros frames begun =
    shown_same opening_table frames [] (replicate 2048 0) [] (λ k low. inl (get_or-replicate 2048 k 0 0 low ∙ sym (get_or_past [] k 0 (omega arith))))
    ∙ shown_opening frames begun

pub pages_with : (table : List Bool) (frames text texts initial : List ℕ) (lent : List Bool) (image : Image) → IsFramed table frames → length image.text ≤ 2048 → length image.initial ≤ 2048 → ((k : ℕ) → get_or texts k 0 ≡ get_or image.text k 0) → map_of opening_table frames texts image.initial lent ≡ pages_loaded image (map_of table frames text initial lent)
pages_with table frames text texts initial lent image f short small same =
    rw (
      shown_same opening_table frames image.text texts image.initial (λ k low. inl (same k)),
      shown_loaded table frames text initial image f short small,
      take_opening,
    ) refl

-- a word is written and its page has a frame
pub shown_put_text : (table now : List Bool) (frames own text initial : List ℕ) (a v : ℕ) → length table ≡ 128 → a < 8192 → now ≡ set table (a / 64) true → shown now own text initial ≡ set (shown table frames text initial) a v → shown now own (set text a v) initial ≡ set (shown table frames text initial) a v
shown_put_text table now frames own text initial a v pages within got words =
    shown_same now own text (set text a v) initial (λ k low. elim (cases_eq k a) [
      | inl here ↦ inr (rw (here, got) (get_or-set_same table (a / 64) true false (omega arith)))
      | inr there ↦ inl (get_or-set_other text a k v 0 there)
    ])
    ∙ words

pub text_put : (table now : List Bool) (frames own text initial : List ℕ) (a v : ℕ) → length table ≡ 128 → a < 8192 → now ≡ set table (a / 64) true → IsText table frames text initial → shown now own text initial ≡ set (shown table frames text initial) a v → IsText now own (set text a v) initial
text_put table now frames own text initial a v pages within got t words =
    let before = shown table frames text initial in
    let long : length before ≡ 8192 = length-shown table frames text initial in
    let after = shown_put_text table now frames own text initial a v pages within got words in
    record {
      size = length-set text a v ∙ t.size;
      same = λ k low.
          sym (shown_at now own (set text a v) initial k (omega arith))
          ∙ ap (λ xs. get_or xs k 0) after
          ∙ elim (cases_eq k a) [
            | inl here ↦ rw here (get_or-set_same before a v 0 (omega (arith, long)) ∙ sym (get_or-set_same text a v 0 (omega (arith, t.size, low, here))))
            | inr there ↦
                get_or-set_other before a k v 0 there
                ∙ shown_at table frames text initial k (omega arith)
                ∙ t.same k low
                ∙ sym (get_or-set_other text a k v 0 there)
          ];
    }

-- many words are written and their pages have frames
pub shown_put_all_text : (old now : List Bool) (frames own text other initial words : List ℕ) (start count : ℕ) → start + count ≤ 8192 → AreMarked old now start count
    → ((k : ℕ) → (k < start) ⊎ (start + count ≤ k) → slice_index other k ≡ slice_index text k)
    → shown now own text initial ≡ with_words start (padded_words count words) (shown old frames text initial)
    → shown now own other initial ≡ with_words start (padded_words count words) (shown old frames text initial)
shown_put_all_text old now frames own text other initial words start count within marked outside done =
    shown_same now own text other initial (λ k low. elim (cases_lt k start) [
      | inl before ↦ inl (outside k (inl before))
      | inr here ↦ elim (cases_lt k (start + count)) [
        | inl inside ↦ inr (rw (marked (k / 64) (omega arith), has_here start count k here inside) refl)
        | inr past ↦ inl (outside k (inr past))
      ]
    ])
    ∙ done

pub text_put_all : (old now : List Bool) (frames own text other initial words : List ℕ) (start count : ℕ) → start + count ≤ 8192 → length words ≤ count → AreMarked old now start count
    → length other ≡ 2048
    → ((k : ℕ) → k < 2048 → start ≤ k → k < start + count → slice_index other k ≡ slice_index own k)
    → ((k : ℕ) → (k < start) ⊎ (start + count ≤ k) → slice_index other k ≡ slice_index text k)
    → IsText old frames text initial
    → shown now own text initial ≡ with_words start (padded_words count words) (shown old frames text initial)
    → IsText now own other initial
text_put_all old now frames own text other initial words start count within fits marked size inside outside t done =
    let before = shown old frames text initial in
    let long : length before ≡ 8192 = length-shown old frames text initial in
    let padded = padded_words count words in
    let full : length padded ≡ count = length-padded_words count words fits in
    let after = shown_put_all_text old now frames own text other initial words start count within marked outside done in
    let at = words_at start padded before in
    let kept : (k : ℕ) → k < 2048 → (k < start) ⊎ (start + count ≤ k) → get_or (with_words start padded before) k 0 ≡ get_or before k 0 → word_at now own other initial k ≡ slice_index other k =
    λ k low out same.
    sym (shown_at now own other initial k (omega arith))
    ∙ ap (λ xs. get_or xs k 0) after
    ∙ same
    ∙ shown_at old frames text initial k (omega arith)
    ∙ t.same k low
    ∙ sym (outside k out) in
    record {
      size = size;
      same = λ k low. elim (cases_lt k start) [
        | inl first ↦ kept k low (inl first) ((at k (omega (arith, long, full))).0 first)
        | inr here ↦ elim (cases_lt k (start + count)) [
          | inl within_it ↦ rw (marked (k / 64) (omega arith), has_here start count k here within_it) (sym (inside k low here within_it))
          | inr past ↦ kept k low (inr past) ((at k (omega (arith, long, full))).2 (omega (arith, full)))
        ]
      ];
    }
