-- The lines and tokens of a text that was written line by line and token by token.
use Rattle.std.specs.Prelude.{◌≡◌, refl, ℕ, ◌&&◌, not, Bool, true, false, List, [], ◌∷◌, ◌++◌, map, get_or, take_while, filter, flat_map, All}
use Rattle.std.specs.List.{list_all, slice_split}
use Rattle.std.proofs.Common.{rules}
use Rattle.std.proofs.lemmas.List.{append_assoc, append-nil}
use Rattle.std.proofs.lemmas.List.Folds.{list_all-append}
use Rattle.std.proofs.lemmas.List.Splits.{slice_split_at, slice_split_none}
use Rattle.std.proofs.lemmas.List.Sums.{take_while-cons, AllPass-from_list_all}
use Rattle.asm_defs.specs.AsmTokens.{is_separator, is_not_empty, without_empty_last, lines_of, tokens_of}
use Rattle.asm_defs.specs.Views.Assembling.{is_line_feed, is_before_comment}
use Rattle.asm_defs.specs.Disassembler.{line_body, line_text}
use Rattle.asm_defs.specs.Views.Assembling.{later_token}
use mathlib.Core.Path.{ap, ◌∙◌, sym}

-- the bytes of written tokens, and the space between tokens
abbrev pub is_plain : ℕ → Bool
is_plain b = not (is_separator b) && (not (is_line_feed b) && is_before_comment b)

abbrev pub is_inner : ℕ → Bool
is_inner b = not (is_line_feed b) && is_before_comment b

-- a written token is not empty and has only plain bytes
pub record IsPlainToken (token : List ℕ) : Type 0 where
  pub bytes : list_all is_plain token ≡ true
  pub some : is_not_empty token ≡ true

abbrev pub ArePlain : List (List ℕ) → Type 0
ArePlain [] = Unit {0}
ArePlain (token ∷ more) = IsPlainToken token × ArePlain more

not_separator : (b : ℕ) → is_plain b ≡ true → is_separator b ≡ false
not_separator b h = by_cases (is_separator b) (is_inner b) h
  where
    by_cases : (s i : Bool) → (not s && i) ≡ true → s ≡ false
    by_cases true i h = sym h
    by_cases false i h = refl

not_feed : (b : ℕ) → is_inner b ≡ true → is_line_feed b ≡ false
not_feed b h = by_cases (is_line_feed b) (is_before_comment b) h
  where
    by_cases : (s i : Bool) → (not s && i) ≡ true → s ≡ false
    by_cases true i h = sym h
    by_cases false i h = refl

before_comment : (b : ℕ) → is_inner b ≡ true → is_before_comment b ≡ true
before_comment b h = by_cases (is_line_feed b) (is_before_comment b) h
  where
    by_cases : (s i : Bool) → (not s && i) ≡ true → i ≡ true
    by_cases true i h = grind rules
    by_cases false i h = h

plain_inner : (b : ℕ) → is_plain b ≡ true → is_inner b ≡ true
plain_inner b h = by_cases (is_separator b) (is_inner b) h
  where
    by_cases : (s i : Bool) → (not s && i) ≡ true → i ≡ true
    by_cases true i h = grind rules
    by_cases false i h = h

first_true : (a b : Bool) → (a && b) ≡ true → a ≡ true
first_true true b h = refl
first_true false b h = h

second_true : (a b : Bool) → (a && b) ≡ true → b ≡ true
second_true true b h = h
second_true false b h = grind rules

-- if one test implies another, it does so over a list
weaker : (p q : ℕ → Bool) → ((b : ℕ) → p b ≡ true → q b ≡ true) → (bs : List ℕ) → list_all p bs ≡ true → list_all q bs ≡ true
weaker p q each [] h = refl
weaker p q each (b ∷ bs) h = rw (each b (first_true (p b) (list_all p bs) h)) (weaker p q each bs (second_true (p b) (list_all p bs) h))

separates_not : (token : List ℕ) → list_all is_plain token ≡ true → All (λ b. is_separator b ≡ false) token
separates_not token h = λ k d lt. not_separator (get_or token k d) (AllPass-from_list_all is_plain token h k d lt)

feeds_not : (body : List ℕ) → list_all is_inner body ≡ true → All (λ b. is_line_feed b ≡ false) body
feeds_not body h = λ k d lt. not_feed (get_or body k d) (AllPass-from_list_all is_inner body h k d lt)

-- a line's body has no line feed and begins no comment, shown token by token
inner_from : (first : List ℕ) (rest : List (List ℕ)) → IsPlainToken first → ArePlain rest → list_all is_inner (first ++ flat_map later_token rest) ≡ true
inner_from first [] plain more = rw (append-nil first) (weaker is_plain is_inner plain_inner first plain.bytes)
inner_from first (next ∷ rest) plain more =
    rw (list_all-append is_inner first (flat_map later_token (next ∷ rest)), weaker is_plain is_inner plain_inner first plain.bytes)
    (inner_from next rest more.0 more.1)

-- split at the spaces, it is the tokens again
split_from : (first : List ℕ) (rest : List (List ℕ)) → IsPlainToken first → ArePlain rest → slice_split is_separator (first ++ flat_map later_token rest) ≡ first ∷ rest
split_from first [] plain more = rw (append-nil first) (slice_split_none is_separator first (separates_not first plain.bytes))
split_from first (next ∷ rest) plain more =
    slice_split_at is_separator first 32 (next ++ flat_map later_token rest) (separates_not first plain.bytes) refl
    ∙ ap (first ∷◌) (split_from next rest more.0 more.1)

-- no byte begins a comment, so all are kept
all_taken : (bs : List ℕ) → list_all is_inner bs ≡ true → take_while is_before_comment bs ≡ bs
all_taken [] h = refl
all_taken (b ∷ bs) h = rw (take_while-cons is_before_comment b bs, before_comment b (first_true (is_inner b) (list_all is_inner bs) h))
    (ap (b ∷◌) (all_taken bs (second_true (is_inner b) (list_all is_inner bs) h)))

all_kept : (tokens : List (List ℕ)) → ArePlain tokens → filter is_not_empty tokens ≡ tokens
all_kept [] plain = refl
all_kept (token ∷ more) plain = rw plain.0.some (ap (token ∷◌) (all_kept more plain.1))

-- a line of one or more plain tokens
abbrev pub IsLine : List (List ℕ) → Type 0
IsLine [] = ⊥
IsLine (first ∷ rest) = IsPlainToken first × ArePlain rest

-- the body that is written for tokens splits into those tokens
pub tokens_of_line : (tokens : List (List ℕ)) → IsLine tokens → tokens_of (line_body tokens) ≡ tokens
unfolding tokens_of
tokens_of_line [] h = absurd h
tokens_of_line (first ∷ rest) h =
    rw (all_taken (first ++ flat_map later_token rest) (inner_from first rest h.0 h.1), split_from first rest h.0 h.1) (all_kept (first ∷ rest) (h.0, h.1))

abbrev pub AreLines : List (List (List ℕ)) → Type 0
AreLines [] = Unit {0}
AreLines (tokens ∷ lines) = IsLine tokens × AreLines lines

body_no_feed : (tokens : List (List ℕ)) → IsLine tokens → All (λ b. is_line_feed b ≡ false) (line_body tokens)
body_no_feed [] h = absurd h
body_no_feed (first ∷ rest) h = feeds_not (line_body (first ∷ rest)) (inner_from first rest h.0 h.1)

split_lines : (lines : List (List (List ℕ))) → AreLines lines → slice_split is_line_feed (flat_map line_text lines) ≡ map line_body lines ++ [] ∷ []
split_lines [] h = refl
split_lines (tokens ∷ lines) h =
    rw (append_assoc (line_body tokens) (10 ∷ []) (flat_map line_text lines))
    (slice_split_at is_line_feed (line_body tokens) 10 (flat_map line_text lines) (body_no_feed tokens h.0) refl
    ∙ ap (line_body tokens ∷◌) (split_lines lines h.1))

dropped_last : (pieces : List (List ℕ)) → without_empty_last (pieces ++ [] ∷ []) ≡ pieces
dropped_last [] = refl
dropped_last (piece ∷ []) = refl
dropped_last (piece ∷ next ∷ more) = ap (piece ∷◌) (dropped_last (next ∷ more))

-- the text that is written for lines splits into those lines
pub lines_of_text : (lines : List (List (List ℕ))) → AreLines lines → lines_of (flat_map line_text lines) ≡ map line_body lines
unfolding lines_of
lines_of_text lines h = rw (split_lines lines h) (dropped_last (map line_body lines))
