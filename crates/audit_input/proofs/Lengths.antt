-- The index of the line feed after a length.
use Rattle.std.proofs.Common.{◌≡◌, ℕ, suc, true, ◌+◌, ◌-◌, ◌^◌, ◌<◌, ◌≤◌, List, ◌∷◌, ◌++◌, Result, Ok, Err, Bool, not, bytes_eq, true≢false, length, take, drop, get_or, decimal, refl, sym, ap, ◌∙◌, arith}
use Rattle.std.proofs.Math.ListN.{get_or-append}
use Rattle.std.proofs.Math.Nat.{le_antisymm, lt_of_not-le}
use Rattle.std.proofs.Math.Seq.{drop-append-add, get_or-append_seam, take-append_seam, take-length}
use Rattle.std.proofs.lemmas.Bool.{eqb-true}
use Rattle.std.proofs.lemmas.Fmt.{IsAscii-decimal, decimal_injective, digits_decimal, parse-decimal}
use Rattle.std.proofs.lemmas.List.{length-append, length-drop}
use Rattle.std.proofs.lemmas.Slice.Eq.{bytes_eq-Decides}
use Rattle.std.proofs.lemmas.Str.{IsUtf8-from_ascii}
use Rattle.std.specs.Str.{IsUtf8}
use Rattle.std.specs.Str.Parse.{ParsesUnsigned}
use Rattle.std.proofs.lemmas.Str.Parse.{not_in_digits, numerals_by_value, tells_digits}
use Rattle.memchr.specs.Find.{NoneBefore, Nowhere, Passes, is_byte}
use Rattle.audit_input.specs.Handed.{HandsNothing, NamesNoLength}

-- no digit of a number is a line feed
pub no_feed : (n i : ℕ) → n < 100000000 → i < length (decimal n) → get_or (decimal n) i 0 ≡ 10 → ⊥
no_feed n i small low e =
    let few : n < 2 ^ 64 = omega (arith, small) in
    not_in_digits (numerals_by_value _ tells_digits) (decimal n) 10 (digits_decimal (numerals_by_value _ tells_digits) n few)
    (λ range. omega (arith, range)) i low e

ten_of : (xs : List ℕ) (k : ℕ) → Passes (is_byte 10) xs k → get_or xs k 0 ≡ 10
ten_of xs k passes = eqb-true (get_or xs k 0) 10 passes

-- the line feed after the length
the_feed : (n : ℕ) (rest : List ℕ) → (is_byte 10 (get_or (decimal n ++ 10 ∷ rest) (length (decimal n)) 0)) ≡ true
the_feed n rest = rw (get_or-append_seam (decimal n) 10 rest 0) refl

pub has_feed : (bytes : List ℕ) (n : ℕ) (rest : List ℕ) → bytes ≡ decimal n ++ 10 ∷ rest
    → Nowhere (Passes (is_byte 10) bytes) 0 (length bytes) → ⊥
has_feed bytes n rest e nowhere =
    let whole : Nowhere (Passes (is_byte 10) (decimal n ++ 10 ∷ rest)) 0 (length (decimal n ++ 10 ∷ rest)) = rw e at nowhere in
    let long : length (decimal n ++ 10 ∷ rest) ≡ length (decimal n) + suc (length rest) = length-append (decimal n) (10 ∷ rest) in
    whole (length (decimal n)) (omega arith) (omega (arith, long)) (the_feed n rest)

at_feed : (n k : ℕ) (rest : List ℕ) → n < 100000000
    → NoneBefore (Passes (is_byte 10) (decimal n ++ 10 ∷ rest)) 0 (length (decimal n ++ 10 ∷ rest)) k
    → Passes (is_byte 10) (decimal n ++ 10 ∷ rest) k → k ≡ length (decimal n)
at_feed n k rest small before passes =
    let most : k < suc (length (decimal n)) =
    lt_of_not-le (λ more. before.before (length (decimal n)) (omega arith) more (the_feed n rest)) in
    let least : length (decimal n) < suc k =
    lt_of_not-le (λ low. no_feed n k small low (sym (get_or-append (decimal n) (10 ∷ rest) 0 k low) ∙ ten_of _ k passes)) in
    le_antisymm (omega (arith, most)) (omega (arith, least))

pub feed_is : (bytes : List ℕ) (n k : ℕ) (rest : List ℕ) → bytes ≡ decimal n ++ 10 ∷ rest → n < 100000000
    → NoneBefore (Passes (is_byte 10) bytes) 0 (length bytes) k × Passes (is_byte 10) bytes k → k ≡ length (decimal n)
feed_is bytes n k rest e small found =
    let at : NoneBefore (Passes (is_byte 10) (decimal n ++ 10 ∷ rest)) 0 (length (decimal n ++ 10 ∷ rest)) k
    × Passes (is_byte 10) (decimal n ++ 10 ∷ rest) k = rw e at found in
    at_feed n k rest small at.0 at.1

-- ---- what the input cannot be

-- no line feed
pub hands_without_feed : (bytes : List ℕ) → Nowhere (Passes (is_byte 10) bytes) 0 (length bytes) → HandsNothing bytes
hands_without_feed bytes nowhere scenario report hands = has_feed bytes (length scenario) (scenario ++ report) hands.whole nowhere

-- the bytes before the line feed are not a length
pub hands_without_length : (bytes : List ℕ) (k : ℕ)
    → NoneBefore (Passes (is_byte 10) bytes) 0 (length bytes) k × Passes (is_byte 10) bytes k
    → NamesNoLength (take k bytes) → HandsNothing bytes
hands_without_length bytes k found none scenario report hands =
    let n : ℕ = length scenario in
    let rest : List ℕ = scenario ++ report in
    let index : k ≡ length (decimal n) = feed_is bytes n k rest hands.whole hands.short found in
    let front : take k bytes ≡ decimal n = rw (index, hands.whole) (take-append_seam (decimal n) (10 ∷ rest)) in
    none n front hands.short

-- a length that is more than the bytes after it
pub hands_too_few : (bytes : List ℕ) (k m : ℕ)
    → NoneBefore (Passes (is_byte 10) bytes) 0 (length bytes) k × Passes (is_byte 10) bytes k
    → take k bytes ≡ decimal m → m < 100000000 → length (take (length bytes - (k + 1)) (drop (k + 1) bytes)) < m
    → HandsNothing bytes
hands_too_few bytes k m found front small taken scenario report hands =
    let count : length (drop (k + 1) bytes) ≡ length bytes - (k + 1) = length-drop (k + 1) bytes in
    let few : length (drop (k + 1) bytes) < m =
    rw (← take-length (drop (k + 1) bytes)) (rw (count) taken) in
    let n : ℕ = length scenario in
    let rest : List ℕ = scenario ++ report in
    let index : k ≡ length (decimal n) = feed_is bytes n k rest hands.whole hands.short found in
    let own : take k bytes ≡ decimal n = rw (index, hands.whole) (take-append_seam (decimal n) (10 ∷ rest)) in
    let same : n ≡ m = decimal_injective n m (omega (arith, hands.short)) (omega (arith, small)) (sym own ∙ front) in
    let left : drop (k + 1) bytes ≡ rest = rw (index, hands.whole) (drop-append-add (decimal n) (10 ∷ rest) 1) in
    let long : length rest ≡ n + length report = length-append scenario report in
    let short : length rest < m = rw left at few in
    absurd (omega (arith, same, long, short))

-- ---- what a text that names a length is

pub named_utf8 : (text : List ℕ) (n : ℕ) → text ≡ decimal n → n < 100000000 → IsUtf8 text
named_utf8 text n e small = rw e (IsUtf8-from_ascii (decimal n) (IsAscii-decimal n (omega (arith, small))))

pub named_parsed : (E : Type 0) (text parsed : List ℕ) (r : Result ℕ E) (n : ℕ) → parsed ≡ text → ParsesUnsigned 32 10 parsed r
    → text ≡ decimal n → n < 100000000 → r ≡ Ok n
named_parsed E text parsed r n same parses e small =
    parse-decimal 32 n parsed r (omega (arith, small)) (omega (arith, small)) (same ∙ e) parses

pub unparsed : (E : Type 0) (text parsed : List ℕ) (r : Result ℕ E) (x : E) → parsed ≡ text → ParsesUnsigned 32 10 parsed r → r ≡ Err x
    → NamesNoLength text
unparsed E text parsed r x same parses failed n e small =
    let read : r ≡ Ok n = named_parsed E text parsed r n same parses e small in
    absurd (cc)

pub above : (E : Type 0) (text parsed : List ℕ) (r : Result ℕ E) (m : ℕ) → parsed ≡ text → ParsesUnsigned 32 10 parsed r → r ≡ Ok m
    → 100000000 ≤ m → NamesNoLength text
above E text parsed r m same parses ok high n e small =
    let read : r ≡ Ok n = named_parsed E text parsed r n same parses e small in
    let number : m ≡ n = cc in
    absurd (omega (arith, number, high, small))

pub another : (E : Type 0) (text parsed : List ℕ) (r : Result ℕ E) (m : ℕ) → parsed ≡ text → ParsesUnsigned 32 10 parsed r → r ≡ Ok m
    → (decimal m ≡ parsed → ⊥) → NamesNoLength text
another E text parsed r m same parses ok differs n e small =
    let read : r ≡ Ok n = named_parsed E text parsed r n same parses e small in
    let number : m ≡ n = cc in
    differs (ap decimal number ∙ (sym e ∙ sym same))

pub differ : (a b : List ℕ) (t : Bool) → t ≡ not (bytes_eq a b) → t ≡ true → a ≡ b → ⊥
differ a b t is h e =
    let same : bytes_eq a b ≡ true = (bytes_eq-Decides a b).1 e in
    true≢false (sym h ∙ (is ∙ ap not same))
