-- An input has at most one scenario and one report.
use Rattle.std.proofs.Common.{◌≡◌, ℕ, suc, ◌+◌, ◌<◌, ◌==◌, ◌&&◌, nat_lt, if◌then◌else◌, Bool, true, false, List, [], ◌∷◌, ◌++◌, ◌⊎◌, inl, inr, bytes_eq, decimal, drop, get_or, length, take, refl, sym, ap, ap₂, ◌∙◌, subst, true≢false, arith}
use Rattle.std.proofs.Math.Seq.{take-append_seam}
use Rattle.std.proofs.lemmas.Bool.{and_parts, eqb-true, lt-ltb, ltb-true}
use Rattle.std.proofs.lemmas.Fmt.{decimal_is_IsNumeral}
use Rattle.std.proofs.lemmas.List.{append_cancel_left, take-append-drop}
use Rattle.std.proofs.lemmas.Slice.Eq.{bytes_eq-Decides}
use Rattle.std.specs.Str.Parse.{digits_value}
use Rattle.audit_input.proofs.Lengths.{no_feed}
use Rattle.audit_input.specs.Handed.{Hands, HandsNothing}

-- the bytes before the first line feed, and those after it

abbrev before_feed : List ℕ → List ℕ
before_feed [] = []
before_feed (byte ∷ bytes) = if byte == 10 then [] else byte ∷ before_feed bytes

abbrev after_feed : List ℕ → List ℕ
after_feed [] = []
after_feed (byte ∷ bytes) = if byte == 10 then bytes else after_feed bytes

abbrev HasNoFeed : List ℕ → Type 0
HasNoFeed [] = Unit {0}
HasNoFeed (byte ∷ bytes) = ((byte == 10) ≡ false) × HasNoFeed bytes

before_at : (front rest : List ℕ) → HasNoFeed front → before_feed (front ++ 10 ∷ rest) ≡ front
before_at [] rest none = refl
before_at (byte ∷ front) rest none = rw (none.0) (ap (λ bs. byte ∷ bs) (before_at front rest none.1))

following_at : (front rest : List ℕ) → HasNoFeed front → after_feed (front ++ 10 ∷ rest) ≡ rest
following_at [] rest none = refl
following_at (byte ∷ front) rest none = rw (none.0) (following_at front rest none.1)

no_ten : (byte : ℕ) → (byte ≡ 10 → ⊥) → (byte == 10) ≡ false
no_ten byte differs = by_test (byte == 10) (λ t. differs (eqb-true byte 10 t))
  where
    by_test : (t : Bool) → (t ≡ true → ⊥) → t ≡ false
    by_test true h = absurd (h refl)
    by_test false h = refl

without_feed : (bytes : List ℕ) → ((i : ℕ) → i < length bytes → get_or bytes i 0 ≡ 10 → ⊥) → HasNoFeed bytes
without_feed [] h = tt
without_feed (byte ∷ bytes) h = (no_ten byte (λ e. h 0 (omega arith) e), without_feed bytes (λ i low e. h (suc i) (omega (arith, low)) e))

-- what the input has, if anything

abbrev length_in : List ℕ → ℕ
length_in bytes = digits_value 10 (before_feed bytes)

abbrev scenario_in : List ℕ → List ℕ
scenario_in bytes = take (length_in bytes) (after_feed bytes)

abbrev report_in : List ℕ → List ℕ
report_in bytes = drop (length_in bytes) (after_feed bytes)

drop_at : (xs ys : List ℕ) → drop (length xs) (xs ++ ys) ≡ ys
drop_at xs ys =
    append_cancel_left xs (drop (length xs) (xs ++ ys)) ys
    (ap (λ front. front ++ drop (length xs) (xs ++ ys)) (sym (take-append_seam xs ys)) ∙ take-append-drop (length xs) (xs ++ ys))

pub handed_in : (bytes scenario report : List ℕ) → Hands bytes scenario report → (scenario_in bytes ≡ scenario) × (report_in bytes ≡ report)
handed_in bytes scenario report hands =
    let few : length scenario < 100000000 = hands.short in
    let none : HasNoFeed (decimal (length scenario)) =
    without_feed (decimal (length scenario)) (λ i low e. no_feed (length scenario) i few low e) in
    let front : before_feed bytes ≡ decimal (length scenario) =
    ap before_feed hands.whole ∙ before_at (decimal (length scenario)) (scenario ++ report) none in
    let rest : after_feed bytes ≡ scenario ++ report =
    ap after_feed hands.whole ∙ following_at (decimal (length scenario)) (scenario ++ report) none in
    let count : length_in bytes ≡ length scenario =
    ap (digits_value 10) front ∙ (decimal_is_IsNumeral (length scenario) (omega (arith, few))).1 in (
      ap₂ (λ (n : ℕ) (bs : List ℕ). take n bs) count rest ∙ take-append_seam scenario report,
      ap₂ (λ (n : ℕ) (bs : List ℕ). drop n bs) count rest ∙ drop_at scenario report,
    )

-- one scenario and one report
pub hands_once : (bytes scenario report other another : List ℕ) → Hands bytes scenario report → Hands bytes other another
    → (scenario ≡ other) × (report ≡ another)
hands_once bytes scenario report other another a b =
    let one = handed_in bytes scenario report a in
    let two = handed_in bytes other another b in
    (sym one.0 ∙ two.0, sym one.1 ∙ two.1)

-- whether the input has them

abbrev is_handed : (bytes scenario report : List ℕ) → Bool
is_handed bytes scenario report =
    bytes_eq bytes (decimal (length scenario) ++ 10 ∷ (scenario ++ report)) && nat_lt (length scenario) 100000000

is_handed_if : (bytes scenario report : List ℕ) → Hands bytes scenario report → is_handed bytes scenario report ≡ true
is_handed_if bytes scenario report hands =
    let same = (bytes_eq-Decides bytes (decimal (length scenario) ++ 10 ∷ (scenario ++ report))).1 hands.whole in
    rw (same) (lt-ltb (length scenario) 100000000 hands.short)

decided : (bytes : List ℕ) (t : Bool) → is_handed bytes (scenario_in bytes) (report_in bytes) ≡ t
    → ((scenario : List ℕ) × ((report : List ℕ) × Hands bytes scenario report)) ⊎ HandsNothing bytes
decided bytes true e =
    let parts = and_parts (bytes_eq bytes (decimal (length (scenario_in bytes)) ++ 10 ∷ (scenario_in bytes ++ report_in bytes)))
    (nat_lt (length (scenario_in bytes)) 100000000) e in
    inl (
      scenario_in bytes,
      (
        report_in bytes,
        record {
          whole = (bytes_eq-Decides bytes (decimal (length (scenario_in bytes)) ++ 10 ∷ (scenario_in bytes ++ report_in bytes))).0 parts.0;
          short = ltb-true (length (scenario_in bytes)) 100000000 parts.1;
        },
      ),
    )
decided bytes false e = inr (λ scenario report hands.
    let same = handed_in bytes scenario report hands in
    let is : is_handed bytes (scenario_in bytes) (report_in bytes) ≡ true = rw (same.0, same.1) (is_handed_if bytes scenario report hands) in
    true≢false (sym is ∙ e))

pub hands_or_not : (bytes : List ℕ) → ((scenario : List ℕ) × ((report : List ℕ) × Hands bytes scenario report)) ⊎ HandsNothing bytes
hands_or_not bytes = decided bytes (is_handed bytes (scenario_in bytes) (report_in bytes)) refl
