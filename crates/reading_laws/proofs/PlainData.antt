-- A value of texts and unsigned numbers, written with a line feed at the end, reads back.
use Rattle.std.proofs.Common.{◌≡◌, ℕ, ◌^◌, ◌<◌, ◌≤◌, Bool, true, false, IsUtf8, Ordering, Less, Equal, Greater, Some, option_and_then, List, [], ◌∷◌, ◌++◌, decimal, refl, sym, ap, ◌∙◌, arith, append-nil}
use Rattle.std.specs.Prelude.{⊤, Ok}
use Rattle.std.specs.Ordering.{nat_cmp, match_ordering}
use Rattle.std.specs.Cmp.Lexicographic.{slice_cmp}
use Rattle.std.proofs.lemmas.Fmt.{IsAscii-decimal}
use Rattle.std.proofs.lemmas.Str.{IsUtf8-append, IsUtf8-from_ascii, encodes-chars, scalars-chars}
use Rattle.std.proofs.lemmas.Slice.Eq.{bytes_eq-Decides}
use Rattle.json.specs.Lex.{tokens}
use Rattle.json.specs.Json as json
use Rattle.json.specs.Tree as tree
use Rattle.json.specs.Print.{quoted}
use Rattle.json.proofs.Printed.Decimals.{IsNumber-decimal}
use Rattle.json.proofs.Printed.Tokens.{tokens-print}
use Rattle.json.proofs.Printed.Trees.{value-json_tokens, ArePrintable-json_tokens}
use Rattle.json.proofs.Printed.Utf8.{IsUtf8-are_ascii, IsUtf8-quoted, IsUtf8-boolean}
use Rattle.serde_json.specs.Data.{Num, unsigned, negative, float, Data, null, boolean, number, string, array, object, Items, no_items, item, Members, no_members, member, put}
use Rattle.serde_json.specs.Read.{read, of_json, max_depth}
use Rattle.serde_json.specs.Written.{outline, items_outline, members_outline, comma_if, compact_text, items_text, members_text}
use Rattle.serde_json.proofs.Texts.{print-outline}
use Rattle.input_defs.specs.Reading.{is_utf8, json_of}
use Rattle.reading_laws.proofs.LineFeed.{tokens_with_feed}

-- texts and unsigned numbers, nested up to a given depth
abbrev pub IsPlainNumber : Num → Type 0
IsPlainNumber (unsigned n) = n < 2 ^ 64
IsPlainNumber (negative z) = ⊥
IsPlainNumber (float x) = ⊥

abbrev mutual
  pub IsPlain : ℕ → Data → Type 0
  IsPlain n null = ⊤
  IsPlain n (boolean b) = ⊤
  IsPlain n (number x) = IsPlainNumber x
  IsPlain n (string s) = IsUtf8 s
  IsPlain n (array ds) = (m : ℕ) × (m < n) × ArePlain m ds
  IsPlain n (object ms) = (m : ℕ) × (m < n) × ArePlainMembers m ms

  pub ArePlain : ℕ → Items → Type 0
  ArePlain n no_items = ⊤
  ArePlain n (item d ds) = IsPlain n d × ArePlain n ds

  pub ArePlainMembers : ℕ → Members → Type 0
  ArePlainMembers n no_members = ⊤
  ArePlainMembers n (member k d ms) = IsUtf8 k × IsPlain n d × ArePlainMembers n ms

-- ---- one more member

one_of : (o : Ordering) (n : ℕ) (a b c : Members) → ArePlainMembers n a → ArePlainMembers n b → ArePlainMembers n c → ArePlainMembers n (match_ordering o a b c)
one_of Less n a b c p q r = p
one_of Equal n a b c p q r = q
one_of Greater n a b c p q r = r

pub put_plain : (n : ℕ) (k : List ℕ) (d : Data) (ms : Members) → IsUtf8 k → IsPlain n d → ArePlainMembers n ms → ArePlainMembers n (put k d ms)
put_plain n k d no_members u p h = (u, p, tt)
put_plain n k d (member l e ms) u p h =
    one_of (slice_cmp nat_cmp k l) n (member k d (member l e ms)) (member l d ms) (member l e (put k d ms))
    (u, p, h) (h.0, p, h.2) (h.0, h.1, put_plain n k d ms u p h.2)

-- ---- numbers, depth and text

number_read : (x : Num) → IsPlainNumber x → tree.HasNumbers (outline (number x))
number_read (unsigned n) h = IsNumber-decimal n h
number_read (negative z) h = absurd h
number_read (float x) h = absurd h

mutual
  has_numbers : (n : ℕ) (d : Data) → IsPlain n d → tree.HasNumbers (outline d)
  has_numbers n null h = tt
  has_numbers n (boolean b) h = tt
  has_numbers n (number x) h = number_read x h
  has_numbers n (string s) h = tt
  has_numbers n (array ds) h = items_have_numbers h.0 ds h.2
  has_numbers n (object ms) h = members_have_numbers h.0 ms h.2

  items_have_numbers : (n : ℕ) (ds : Items) → ArePlain n ds → tree.ItemsHaveNumbers (items_outline ds)
  items_have_numbers n no_items h = tt
  items_have_numbers n (item d ds) h = (has_numbers n d h.0, items_have_numbers n ds h.1)

  members_have_numbers : (n : ℕ) (ms : Members) → ArePlainMembers n ms → tree.MembersHaveNumbers (members_outline ms)
  members_have_numbers n no_members h = tt
  members_have_numbers n (member k d ms) h = (has_numbers n d h.1, members_have_numbers n ms h.2)

mutual
  nests : (n : ℕ) (d : Data) → IsPlain n d → tree.depth (outline d) ≤ n
  nests n null h = omega arith
  nests n (boolean b) h = omega arith
  nests n (number x) h = omega arith
  nests n (string s) h = omega arith
  nests n (array ds) h = omega (arith, items_nest h.0 ds h.2, h.1)
  nests n (object ms) h = omega (arith, members_nest h.0 ms h.2, h.1)

  items_nest : (n : ℕ) (ds : Items) → ArePlain n ds → tree.items_depth (items_outline ds) ≤ n
  items_nest n no_items h = omega arith
  items_nest n (item d ds) h = omega (arith, nests n d h.0, items_nest n ds h.1)

  members_nest : (n : ℕ) (ms : Members) → ArePlainMembers n ms → tree.members_depth (members_outline ms) ≤ n
  members_nest n no_members h = omega arith
  members_nest n (member k d ms) h = omega (arith, nests n d h.1, members_nest n ms h.2)

number_is_text : (x : Num) → IsPlainNumber x → IsUtf8 (compact_text (number x))
number_is_text (unsigned n) h = IsUtf8-from_ascii (decimal n) (IsAscii-decimal n h)
number_is_text (negative z) h = absurd h
number_is_text (float x) h = absurd h

comma_is_text : (later : Bool) → IsUtf8 (comma_if later)
comma_is_text true = IsUtf8-are_ascii (44 ∷ []) refl
comma_is_text false = IsUtf8-are_ascii [] refl

byte_then : (b : ℕ) (text : List ℕ) → IsUtf8 (b ∷ []) → IsUtf8 text → IsUtf8 (b ∷ text)
byte_then b text u v = IsUtf8-append (b ∷ []) text u v

mutual
  is_text : (n : ℕ) (d : Data) → IsPlain n d → IsUtf8 (compact_text d)
  is_text n null h = IsUtf8-are_ascii (compact_text null) refl
  is_text n (boolean b) h = IsUtf8-boolean b
  is_text n (number x) h = number_is_text x h
  is_text n (string s) h = IsUtf8-quoted s h
  is_text n (array ds) h = byte_then 91 (items_text false ds) (IsUtf8-are_ascii (91 ∷ []) refl) (items_are_text h.0 false ds h.2)
  is_text n (object ms) h = byte_then 123 (members_text false ms) (IsUtf8-are_ascii (123 ∷ []) refl) (members_are_text h.0 false ms h.2)

  items_are_text : (n : ℕ) (later : Bool) (ds : Items) → ArePlain n ds → IsUtf8 (items_text later ds)
  items_are_text n later no_items h = IsUtf8-are_ascii (93 ∷ []) refl
  items_are_text n later (item d ds) h =
      IsUtf8-append (comma_if later) (compact_text d ++ items_text true ds) (comma_is_text later)
      (IsUtf8-append (compact_text d) (items_text true ds) (is_text n d h.0) (items_are_text n true ds h.1))

  members_are_text : (n : ℕ) (later : Bool) (ms : Members) → ArePlainMembers n ms → IsUtf8 (members_text later ms)
  members_are_text n later no_members h = IsUtf8-are_ascii (125 ∷ []) refl
  members_are_text n later (member k d ms) h =
      IsUtf8-append (comma_if later) (quoted k ++ 58 ∷ (compact_text d ++ members_text true ms)) (comma_is_text later)
      (IsUtf8-append (quoted k) (58 ∷ (compact_text d ++ members_text true ms)) (IsUtf8-quoted k h.0)
      (byte_then 58 (compact_text d ++ members_text true ms) (IsUtf8-are_ascii (58 ∷ []) refl)
      (IsUtf8-append (compact_text d) (members_text true ms) (is_text n d h.1) (members_are_text n true ms h.2))))

-- ---- the whole

test_from_text : (bytes : List ℕ) → IsUtf8 bytes → is_utf8 bytes ≡ true
unfolding is_utf8
test_from_text bytes h = rw (scalars-chars bytes h) ((bytes_eq-Decides _ _).1 (encodes-chars bytes h))

is_json : (bytes : List ℕ) (d : Data) → IsUtf8 bytes → read bytes ≡ Some d → json_of bytes ≡ Ok d
unfolding json_of
is_json bytes d text h = rw (test_from_text bytes text, h) refl

tokens_of_text : (n : ℕ) (d : Data) → IsPlain n d → tokens (compact_text d) ≡ tree.json_tokens (outline d)
tokens_of_text n d h =
    ap tokens (sym (print-outline d)) ∙ tokens-print (tree.json_tokens (outline d)) (ArePrintable-json_tokens (outline d) (has_numbers n d h))

tokens_with_line_feed : (n : ℕ) (d : Data) → IsPlain n d → tokens (compact_text d ++ 10 ∷ []) ≡ tree.json_tokens (outline d)
tokens_with_line_feed n d h =
    ap (λ text. tokens (text ++ 10 ∷ [])) (sym (print-outline d))
    ∙ tokens_with_feed (tree.json_tokens (outline d)) (ArePrintable-json_tokens (outline d) (has_numbers n d h))

-- a text with the tokens of a value is read as the value that those tokens mean
read_by_tokens : (text : List ℕ) (d e : Data) → IsPlain max_depth d → tokens text ≡ tree.json_tokens (outline d) → of_json (outline d) ≡ Some e → read text ≡ Some e
read_by_tokens text d e h same back =
    ap (λ ts. option_and_then of_json (option_and_then (λ p. json.if_last p.0 p.1) (json.value max_depth ts)))
    (same ∙ sym (append-nil (tree.json_tokens (outline d))))
    ∙ ap (λ o. option_and_then of_json (option_and_then (λ p. json.if_last p.0 p.1) o)) (value-json_tokens (outline d) max_depth [] (nests max_depth d h))
    ∙ back

pub json_read : (d e : Data) → IsPlain max_depth d → of_json (outline d) ≡ Some e → json_of (compact_text d) ≡ Ok e
json_read d e h back =
    is_json (compact_text d) e (is_text max_depth d h) (read_by_tokens (compact_text d) d e h (tokens_of_text max_depth d h) back)

pub json_with_feed : (d e : Data) → IsPlain max_depth d → of_json (outline d) ≡ Some e → json_of (compact_text d ++ 10 ∷ []) ≡ Ok e
json_with_feed d e h back =
    is_json (compact_text d ++ 10 ∷ []) e
    (IsUtf8-append (compact_text d) (10 ∷ []) (is_text max_depth d h) (IsUtf8-are_ascii (10 ∷ []) refl))
    (read_by_tokens (compact_text d ++ 10 ∷ []) d e h (tokens_with_line_feed max_depth d h) back)
