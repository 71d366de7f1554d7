-- The text of a valid image reads back as that image.
use Rattle.std.proofs.Common.{◌≡◌, ℕ, zero, suc, ◌/◌, ◌%◌, ◌^◌, ◌<◌, ◌≤◌, true, false, IsUtf8, Some, Ok, List, [], ◌∷◌, length, decimal, refl, arith}
use Rattle.std.specs.Prelude.{codes}
use Rattle.std.specs.Fmt.{digit_glyph}
use Rattle.std.proofs.lemmas.Str.{IsUtf8-append}
use Rattle.json.proofs.Printed.Utf8.{are_ascii, IsUtf8-are_ascii}
use Rattle.serde_json.specs.Data.{number, unsigned, Members, no_members, put}
use Rattle.serde_json.specs.Read.{number_of, of_json, of_items, of_members, max_depth}
use Rattle.serde_json.specs.Written.{outline, items_outline, members_outline}
use Rattle.serde_json.proofs.Numbers.{number_of-decimal}
use Rattle.nook_data.specs.Classes.{entry_count}
use Rattle.input_defs.specs.ImageReading.{image_from}
use Rattle.asm_defs.specs.ImageText.{hex_text, word_items, entry_members, image_data, image_text}
use Rattle.asm_defs.specs.Keys.{key_text, entry_keys}
use Rattle.nook_data.specs.ClassNames.{class_text}
use Rattle.nook_data.specs.Valid.{IsValidImage}
use Rattle.nook_data.specs.declared.classes.Class.{Class}
use Rattle.nook_data.specs.declared.classes.Class.TheVariants as class
use Rattle.nook_data.specs.declared.scenario.Image.{Image}
use Rattle.asm_defs.specs.declared.keys.Key.{Key}
use Rattle.asm_defs.proofs.AsmNumbers.{at_below}
use Rattle.asm_defs.proofs.AsmWhole.{Low, low_from, five, six}
use Rattle.input_defs.proofs.ImageBack.{image_back}
use Rattle.reading_laws.proofs.PlainData.{IsPlain, ArePlain, ArePlainMembers, put_plain, json_with_feed}

-- ---- the value has only texts and unsigned numbers

abbrev IsGlyphByte : ℕ → Type 0
IsGlyphByte d = are_ascii (digit_glyph false d ∷ []) ≡ true

glyph_byte : (d : ℕ) → d < 16 → IsGlyphByte d
glyph_byte = at_below IsGlyphByte 16 (refl, (refl, (refl, (refl, (refl, (refl, (refl, (refl, (refl, (refl, (refl, (refl, (refl, (refl, (refl, (refl, tt))))))))))))))))

hex_is_text : (n w : ℕ) → IsUtf8 (hex_text n w)
hex_is_text zero w = IsUtf8-are_ascii [] refl
hex_is_text (suc n) w =
    IsUtf8-append (hex_text n (w / 16)) (digit_glyph false (w % 16) ∷ []) (hex_is_text n (w / 16))
    (IsUtf8-are_ascii (digit_glyph false (w % 16) ∷ []) (glyph_byte (w % 16) (omega arith)))

words_plain : (ws : List ℕ) → ArePlain 0 (word_items ws)
words_plain [] = tt
words_plain (w ∷ ws) = (hex_is_text 8 w, words_plain ws)

AreTexts : List Key → Type 0
AreTexts [] = Unit {0}
AreTexts (k ∷ ks) = (are_ascii (key_text k) ≡ true) × AreTexts ks

keys_are_texts : (c : Class) → AreTexts (entry_keys c)
unfolding AreTexts
keys_are_texts class.Block = (refl, (refl, (refl, (refl, (refl, tt)))))
keys_are_texts class.Net = (refl, (refl, (refl, (refl, (refl, tt)))))
keys_are_texts class.Sound = (refl, (refl, (refl, (refl, (refl, (refl, tt))))))

entries_plain : (ks : List Key) (es : List ℕ) (ms : Members) → AreTexts ks → Low es → ArePlainMembers 0 ms → ArePlainMembers 0 (entry_members ks es ms)
unfolding AreTexts
entries_plain [] es ms t low h = h
entries_plain (k ∷ ks) [] ms t low h = h
entries_plain (k ∷ ks) (e ∷ es) ms t low h =
    entries_plain ks es (put (key_text k) (number (unsigned e)) ms) t.1 low.1
    (put_plain 0 (key_text k) (number (unsigned e)) ms (IsUtf8-are_ascii (key_text k) t.0) (wide e low.0) h)
  where
    wide : (p : ℕ) → p ≤ 2047 → p < 2 ^ 64
    wide p h = omega arith

class_plain : (c : Class) → IsUtf8 (class_text c)
class_plain class.Block = IsUtf8-are_ascii (codes "block") refl
class_plain class.Net = IsUtf8-are_ascii (codes "net") refl
class_plain class.Sound = IsUtf8-are_ascii (codes "sound") refl

pub image_plain : (n : ℕ) (image : Image) → 1 < n → IsValidImage image → IsPlain n (image_data image)
unfolding image_data
image_plain n image deep valid = (
  1,
  deep,
  (
    IsUtf8-are_ascii (codes "class") refl,
    class_plain image.class,
    (
      IsUtf8-are_ascii (codes "data") refl,
      (0, omega arith, words_plain image.initial),
      (
        IsUtf8-are_ascii (codes "entries") refl,
        (0, omega arith, entries_plain (entry_keys image.class) image.entries no_members (keys_are_texts image.class) (low_from image.entries valid.addresses) tt),
        (IsUtf8-are_ascii (codes "text") refl, (0, omega arith, words_plain image.text), tt),
      ),
    ),
  ),
)

-- ---- reading returns the value

words_read : (ws : List ℕ) → of_items (items_outline (word_items ws)) ≡ Some (word_items ws)
words_read [] = refl
words_read (w ∷ ws) = rw (words_read ws) refl

number_read : (p : ℕ) → p ≤ 2047 → number_of (decimal p) ≡ Some (unsigned p)
number_read p h = number_of-decimal p (omega arith)

Entries : Class → List ℕ → Type 0
Entries c es = Low es → of_members (members_outline (entry_members (entry_keys c) es no_members)) no_members ≡ Some (entry_members (entry_keys c) es no_members)

block_read : (p q r s t : ℕ) → Entries class.Block (p ∷ q ∷ r ∷ s ∷ t ∷ [])
unfolding Entries
block_read p q r s t low =
    rw (number_read p low.0, number_read q low.1.0, number_read r low.1.1.0, number_read s low.1.1.1.0, number_read t low.1.1.1.1.0) refl

net_read : (p q r s t : ℕ) → Entries class.Net (p ∷ q ∷ r ∷ s ∷ t ∷ [])
unfolding Entries
net_read p q r s t low =
    rw (number_read p low.0, number_read q low.1.0, number_read r low.1.1.0, number_read s low.1.1.1.0, number_read t low.1.1.1.1.0) refl

sound_read : (p q r s t u : ℕ) → Entries class.Sound (p ∷ q ∷ r ∷ s ∷ t ∷ u ∷ [])
unfolding Entries
sound_read p q r s t u low =
    rw (number_read p low.0, number_read q low.1.0, number_read r low.1.1.0, number_read s low.1.1.1.0, number_read t low.1.1.1.1.0, number_read u low.1.1.1.1.1.0) refl

entries_read : (c : Class) (es : List ℕ) → length es ≡ entry_count c → Entries c es
entries_read class.Block es h = five (Entries class.Block) es h block_read
entries_read class.Net es h = five (Entries class.Net) es h net_read
entries_read class.Sound es h = six (Entries class.Sound) es h sound_read

pub image_read : (image : Image) → IsValidImage image → of_json (outline (image_data image)) ≡ Some (image_data image)
unfolding image_data Entries
image_read image valid =
    rw (words_read image.initial, entries_read image.class image.entries valid.entries (low_from image.entries valid.addresses), words_read image.text) refl

pub text_comes_back : (image : Image) → IsValidImage image → image_from (image_text image) ≡ Ok image
unfolding image_from image_text
text_comes_back image valid = rw (json_with_feed (image_data image) (image_data image) (image_plain max_depth image (omega arith) valid) (image_read image valid)) (image_back image valid)
