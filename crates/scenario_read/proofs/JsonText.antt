-- `Value::from_slice` and the definition accept the same bytes as text.
use Rattle.std.proofs.Common.{◌≡◌, ℕ, Bool, true, false, ◌&&◌, List, refl, Some, None}
use Rattle.std.specs.Prelude.{IsUtf8, chars, Ok}
use Rattle.std.proofs.lemmas.Str.{encodes-chars, scalars-chars}
use Rattle.std.proofs.lemmas.Slice.Eq.{bytes_eq-Decides}
use Rattle.serde_json.specs.Data.{Data}
use Rattle.serde_json.specs.Read.{read}
use Rattle.input_defs.specs.Reading.{is_utf8, json_of, bad}
use Rattle.input_defs.specs.declared.input.InputFault.TheVariants as fault

and_true : (a b : Bool) → (a && b) ≡ true → (a ≡ true) × (b ≡ true)
and_true true b h = (refl, h)
and_true false b h = absurd (cc h)

text_from_test : (bytes : List ℕ) → is_utf8 bytes ≡ true → IsUtf8 bytes
unfolding is_utf8
text_from_test bytes h = (chars bytes, ((and_true _ _ h).0, (bytes_eq-Decides _ _).0 (and_true _ _ h).1))

test_from_text : (bytes : List ℕ) → IsUtf8 bytes → is_utf8 bytes ≡ true
unfolding is_utf8
test_from_text bytes h = rw (scalars-chars bytes h) ((bytes_eq-Decides _ _).1 (encodes-chars bytes h))

-- a text that reads as JSON
pub is_json : (bytes : List ℕ) (d : Data) → IsUtf8 bytes → read bytes ≡ Some d → json_of bytes ≡ Ok d
unfolding json_of
is_json bytes d text h = rw (test_from_text bytes text, h) refl

no_json_by : (bytes : List ℕ) (test : Bool) → is_utf8 bytes ≡ test → (IsUtf8 bytes → read bytes ≡ None) → json_of bytes ≡ bad fault.NotJson
unfolding json_of
no_json_by bytes true e h = rw (e, h (text_from_test bytes e)) refl
no_json_by bytes false e h = rw e refl

-- bytes that are not text, or not JSON
pub is_no_json : (bytes : List ℕ) → (IsUtf8 bytes → read bytes ≡ None) → json_of bytes ≡ bad fault.NotJson
is_no_json bytes h = no_json_by bytes (is_utf8 bytes) refl h
