-- The image of a JSON text is within the limits of images.
use Rattle.std.proofs.Common.{◌≡◌, ◌∙◌, refl, sym, subst, ap, ℕ, ◌+◌, ◌<◌, ◌≤◌, ◌^◌, ◌==◌, ◌&&◌, Bool, true, false, List, [], ◌∷◌, ◌++◌, length, arith, length-append, if◌then◌else◌}
use Rattle.std.specs.Prelude.{Result, Ok, Err, IfOk, All}
use Rattle.std.specs.List.{list_all}
use Rattle.std.specs.Char.{digit_value}
use Rattle.std.specs.Str.Parse.{AllDigits, digits_value}
use Rattle.std.proofs.lemmas.Bool.{ltb-true, eqb-true, and_parts}
use Rattle.std.proofs.lemmas.Int.Digits.{digits_value-lt}
use Rattle.std.proofs.lemmas.List.Elements.{All-nil, All-push}
use Rattle.serde_json.specs.Data.{Data}
use Rattle.nook_data.specs.Classes.{entry_count}
use Rattle.input_defs.specs.ImageReading.{known_class, hex_word, words_of, addresses_from, entries_of, image_of}
use Rattle.input_defs.specs.Views.Readings.{is_hex_digit, text_word}
use Rattle.asm_defs.specs.Keys.{entry_keys}
use Rattle.input_defs.specs.Reading.{bad, text_of, object_with, required, number_at}
use Rattle.asm_defs.specs.Results.{◌>>=◌}
use Rattle.nook_data.specs.Valid.{AreWords, IsValidImage, IsWord}
use Rattle.nook_data.specs.Views.Limits.{IsTextAddress}
use Rattle.nook_data.specs.declared.classes.Class.{Class}
use Rattle.nook_data.specs.declared.classes.Class.TheVariants as class
use Rattle.nook_data.specs.declared.scenario.Image.{Image}
use Rattle.input_defs.specs.declared.input.InputFault.TheVariants as fault
use Rattle.asm_defs.specs.declared.keys.Key.{Key}
use Rattle.asm_defs.specs.declared.keys.Key.TheVariants as key
use Rattle.input_defs.specs.declared.input.Refusal.{Refusal}
use Rattle.reading_laws.proofs.Readings.{any, chained, passed, less, required_holds, number_at_holds, IsBetween, Listed, each_holds}

all_digits : (digits : List ℕ) → list_all is_hex_digit digits ≡ true → AllDigits 16 digits
all_digits [] h = tt
all_digits (c ∷ cs) h = (
  ltb-true (digit_value c) 16 (and_parts (is_hex_digit c) (list_all is_hex_digit cs) h).0,
  all_digits cs (and_parts (is_hex_digit c) (list_all is_hex_digit cs) h).1,
)

hex_by : (digits : List ℕ) (test : Bool) → (length digits == 8 && list_all is_hex_digit digits) ≡ test
    → let read : Result ℕ Refusal = if test then Ok (digits_value 16 digits) else bad fault.BadImage in IfOk read IsWord
hex_by digits false e = tt
hex_by digits true e = let parts = and_parts (length digits == 8) (list_all is_hex_digit digits) e in
    subst (λ n. digits_value 16 digits < 16 ^ n) (eqb-true (length digits) 8 parts.0) (digits_value-lt 16 digits (all_digits digits parts.1))

hex_holds : (digits : List ℕ) → IfOk (hex_word digits) IsWord
unfolding hex_word
hex_holds digits = hex_by digits (length digits == 8 && list_all is_hex_digit digits) refl

word_holds : (earlier : List ℕ) (d : Data) → IfOk (text_word earlier d) IsWord
word_holds earlier d = passed IsWord (text_of d) hex_word (λ digits. hex_holds digits)

words_hold : (d : Data) → IfOk (words_of d) (AreWords 2048)
words_hold d = less (Listed (All IsWord) 0 2048) (AreWords 2048) (words_of d) (each_holds IsWord text_word 0 2048 word_holds d) (λ ws h. (h.2, h.0))

-- ---- entries

abbrev IsAddressOf : ℕ → List ℕ → Type 0
IsAddressOf n addresses = (length addresses ≡ n) × All IsTextAddress addresses

positions_hold : (keys : List Key) (earlier : List ℕ) (d : Data) → All IsTextAddress earlier
    → IfOk (addresses_from keys earlier d) (IsAddressOf (length earlier + length keys))
positions_hold [] earlier d h = (omega arith, h)
positions_hold (entry ∷ more) earlier d h =
    chained (IsBetween 0 2047) (IsAddressOf (length earlier + length (entry ∷ more))) (number_at entry 0 2047 d) (λ address. addresses_from more (earlier ++ address ∷ []) d)
    (number_at_holds entry 0 2047 d)
    (λ address b. less (IsAddressOf (length (earlier ++ address ∷ []) + length more)) (IsAddressOf (length earlier + length (entry ∷ more))) (addresses_from more (earlier ++ address ∷ []) d)
    (positions_hold more (earlier ++ address ∷ []) d (All-push IsTextAddress earlier address h b.1))
    (λ addresses p. (omega (arith, p.0, length-append earlier (address ∷ [])), p.1)))

count_keys : (c : Class) → length (entry_keys c) ≡ entry_count c
count_keys class.Block = refl
count_keys class.Net = refl
count_keys class.Sound = refl

entries_hold : (c : Class) (d : Data) → IfOk (entries_of c d) (IsAddressOf (entry_count c))
entries_hold c d =
    passed (IsAddressOf (entry_count c)) (object_with (entry_keys c) d) (λ known. addresses_from (entry_keys c) [] d)
    (λ known. less (IsAddressOf (0 + length (entry_keys c))) (IsAddressOf (entry_count c)) (addresses_from (entry_keys c) [] d)
    (positions_hold (entry_keys c) [] d (All-nil IsTextAddress))
    (λ addresses p. (omega (arith, p.0, count_keys c), p.1)))

-- ---- images

valid_image : (c : Class) (entries text initial : List ℕ) → IsAddressOf (entry_count c) entries → AreWords 2048 text → AreWords 2048 initial
    → IsValidImage (record { class = c; entries = entries; text = text; initial = initial })
valid_image c entries text initial he ht hi = record { entries = he.0; addresses = he.1; text = ht; initial = hi }

-- the steps of the reading, last to first

abbrev reads_text : Data → Class → List ℕ → List ℕ → Result Image Refusal
reads_text d c initial entries =
    required key.Text words_of d >>= λ text. let read : Result Image Refusal = Ok (record { class = c; entries = entries; text = text; initial = initial }) in read

abbrev reads_entries : Data → Class → List ℕ → Result Image Refusal
reads_entries d c initial = required key.Entries (entries_of c) d >>= reads_text d c initial

abbrev reads_initial : Data → Class → Result Image Refusal
reads_initial d c = required key.Data words_of d >>= reads_entries d c

text_holds : (d : Data) (c : Class) (initial entries : List ℕ) → AreWords 2048 initial → IsAddressOf (entry_count c) entries → IfOk (reads_text d c initial entries) IsValidImage
text_holds d c initial entries hi he =
    chained (AreWords 2048) IsValidImage (required key.Text words_of d)
    (λ text. let read : Result Image Refusal = Ok (record { class = c; entries = entries; text = text; initial = initial }) in read)
    (required_holds (AreWords 2048) key.Text words_of d words_hold)
    (λ text ht. valid_image c entries text initial he ht hi)

entries_then : (d : Data) (c : Class) (initial : List ℕ) → AreWords 2048 initial → IfOk (reads_entries d c initial) IsValidImage
entries_then d c initial hi =
    chained (IsAddressOf (entry_count c)) IsValidImage (required key.Entries (entries_of c) d) (reads_text d c initial)
    (required_holds (IsAddressOf (entry_count c)) key.Entries (entries_of c) d (entries_hold c))
    (λ entries he. text_holds d c initial entries hi he)

initial_then : (d : Data) (c : Class) → IfOk (reads_initial d c) IsValidImage
initial_then d c =
    chained (AreWords 2048) IsValidImage (required key.Data words_of d) (reads_entries d c)
    (required_holds (AreWords 2048) key.Data words_of d words_hold)
    (λ initial hi. entries_then d c initial hi)

pub image_is_valid : (d : Data) → IfOk (image_of d) IsValidImage
unfolding image_of
image_is_valid d =
    passed IsValidImage (object_with (key.Class ∷ key.Data ∷ key.Entries ∷ key.Text ∷ []) d) (λ known. required key.Class known_class d >>= reads_initial d)
    (λ known. passed IsValidImage (required key.Class known_class d) (reads_initial d) (initial_then d))
