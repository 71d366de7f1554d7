-- The JSON value of a valid image is read as that image.
use Rattle.std.specs.Prelude.{◌≡◌, refl, ℕ, zero, suc, ◌+◌, ◌*◌, ◌/◌, ◌%◌, ◌^◌, ◌<◌, ◌≤◌, true, false, nat_lt, List, [], ◌∷◌, ◌++◌, length, Ok}
use Rattle.std.specs.Char.{digit_value}
use Rattle.std.specs.Fmt.{digit_glyph}
use Rattle.std.specs.List.{list_all}
use Rattle.std.specs.Str.Parse.{digits_value}
use Rattle.std.proofs.lemmas.Bool.{le-ltb}
use Rattle.std.proofs.lemmas.Int.Digits.{digits_value_push}
use Rattle.std.proofs.lemmas.List.{append_assoc, append-nil}
use Rattle.std.proofs.lemmas.List.Folds.{list_all-append}
use native.Mathlib.Omega.{arith}
use mathlib.Core.Path.{ap, ◌∙◌}
use Rattle.serde_json.specs.Data.{string, array, object, no_members}
use Rattle.nook_data.specs.Classes.{entry_count}
use Rattle.input_defs.specs.ImageReading.{hex_word, words_of, known_class, entries_of, image_of}
use Rattle.input_defs.specs.Views.Readings.{is_hex_digit, text_word}
use Rattle.asm_defs.specs.ImageText.{hex_text, word_items, entry_members, image_data}
use Rattle.nook_data.specs.ClassNames.{class_text, class_named}
use Rattle.asm_defs.specs.Keys.{entry_keys}
use Rattle.input_defs.specs.Reading.{count_of, items_from}
use Rattle.nook_data.specs.Valid.{IsValidImage}
use Rattle.nook_data.specs.declared.classes.Class.{Class}
use Rattle.nook_data.specs.declared.classes.Class.TheVariants as class
use Rattle.nook_data.specs.declared.scenario.Image.{Image}
use Rattle.asm_defs.proofs.AsmNumbers.{at_below}
use Rattle.asm_defs.proofs.AsmWhole.{Words, words_from, Low, low_from, five, six}

-- ---- words

-- the greatest number of n hexadecimal digits
most : ℕ → ℕ
most zero = 0
most (suc n) = most n * 16 + 15

abbrev GlyphFacts : ℕ → Type 0
GlyphFacts d = (digit_value (digit_glyph false d) ≡ d) × (is_hex_digit (digit_glyph false d) ≡ true)

glyph_facts : (d : ℕ) → d < 16 → GlyphFacts d
glyph_facts = at_below GlyphFacts 16 ((refl, refl), ((refl, refl), ((refl, refl), ((refl, refl), ((refl, refl), ((refl, refl), ((refl, refl), ((refl, refl), ((refl, refl), ((refl, refl), ((refl, refl), ((refl, refl), ((refl, refl), ((refl, refl), ((refl, refl), ((refl, refl), tt))))))))))))))))

hex_value : (n w : ℕ) → w ≤ most n → digits_value 16 (hex_text n w) ≡ w
unfolding most
hex_value zero w low = omega (arith, low)
hex_value (suc n) w low =
    rw (digits_value_push 16 (hex_text n (w / 16)) (digit_glyph false (w % 16)), hex_value n (w / 16) (omega (arith, low)), (glyph_facts (w % 16) (omega arith)).0)
    (omega arith)

hex_digits : (n w : ℕ) → list_all is_hex_digit (hex_text n w) ≡ true
hex_digits zero w = refl
hex_digits (suc n) w = rw (list_all-append is_hex_digit (hex_text n (w / 16)) (digit_glyph false (w % 16) ∷ []), hex_digits n (w / 16), (glyph_facts (w % 16) (omega arith)).1) refl

hex_back : (w : ℕ) → w < 2 ^ 32 → hex_word (hex_text 8 w) ≡ Ok w
unfolding hex_word most
hex_back w small = rw (hex_digits 8 w, hex_value 8 w (omega (arith, small))) refl

items_back : (earlier : List ℕ) (index : ℕ) (ws : List ℕ) → Words ws → items_from text_word earlier index (word_items ws) ≡ Ok (earlier ++ ws)
items_back earlier index [] h = rw (append-nil earlier) refl
items_back earlier index (w ∷ ws) h =
    rw (hex_back w h.0) (items_back (earlier ++ w ∷ []) (index + 1) ws h.1 ∙ ap Ok (append_assoc earlier (w ∷ []) ws))

counted : (ws : List ℕ) → count_of (word_items ws) ≡ length ws
counted [] = refl
counted (w ∷ ws) = rw (counted ws) (omega arith)

words_back : (ws : List ℕ) → Words ws → length ws ≤ 2048 → words_of (array (word_items ws)) ≡ Ok ws
words_back ws h room =
    rw (counted ws, le-ltb 2048 (length ws) room, le-ltb (length ws) 0 (omega arith)) (items_back [] 0 ws h)

-- ---- classes and entries

class_back : (c : Class) → known_class (string (class_text c)) ≡ Ok c
unfolding class_named
class_back class.Block = refl
class_back class.Net = refl
class_back class.Sound = refl

Entries : Class → List ℕ → Type 0
Entries c es = Low es → entries_of c (object (entry_members (entry_keys c) es no_members)) ≡ Ok es

no_less : (n : ℕ) → nat_lt n 0 ≡ false
no_less n = le-ltb n 0 (omega arith)

block_back : (p q r s t : ℕ) → Entries class.Block (p ∷ q ∷ r ∷ s ∷ t ∷ [])
unfolding Entries
block_back p q r s t low =
    rw (no_less p, le-ltb 2047 p low.0, no_less q, le-ltb 2047 q low.1.0, no_less r, le-ltb 2047 r low.1.1.0, no_less s, le-ltb 2047 s low.1.1.1.0, no_less t, le-ltb 2047 t low.1.1.1.1.0) refl

net_back : (p q r s t : ℕ) → Entries class.Net (p ∷ q ∷ r ∷ s ∷ t ∷ [])
unfolding Entries
net_back p q r s t low =
    rw (no_less p, le-ltb 2047 p low.0, no_less q, le-ltb 2047 q low.1.0, no_less r, le-ltb 2047 r low.1.1.0, no_less s, le-ltb 2047 s low.1.1.1.0, no_less t, le-ltb 2047 t low.1.1.1.1.0) refl

sound_back : (p q r s t u : ℕ) → Entries class.Sound (p ∷ q ∷ r ∷ s ∷ t ∷ u ∷ [])
unfolding Entries
sound_back p q r s t u low =
    rw (no_less p, le-ltb 2047 p low.0, no_less q, le-ltb 2047 q low.1.0, no_less r, le-ltb 2047 r low.1.1.0, no_less s, le-ltb 2047 s low.1.1.1.0, no_less t, le-ltb 2047 t low.1.1.1.1.0, no_less u, le-ltb 2047 u low.1.1.1.1.1.0) refl

entries_back : (c : Class) (es : List ℕ) → length es ≡ entry_count c → Entries c es
entries_back class.Block es h = five (Entries class.Block) es h block_back
entries_back class.Net es h = five (Entries class.Net) es h net_back
entries_back class.Sound es h = six (Entries class.Sound) es h sound_back

-- ---- the whole

pub image_back : (image : Image) → IsValidImage image → image_of (image_data image) ≡ Ok image
unfolding image_of image_data Entries
image_back image valid =
    rw (
      class_back image.class,
      words_back image.initial (words_from image.initial valid.initial.1) valid.initial.0,
      entries_back image.class image.entries valid.entries (low_from image.entries valid.addresses),
      words_back image.text (words_from image.text valid.text.1) valid.text.0,
    ) refl
