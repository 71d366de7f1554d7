use Rattle.std.specs.Prelude.{ℕ, ◌-◌, ◌==◌, ◌&&◌, ◌||◌, not, nat_le, min, Bool, List, [], ◌∷◌, ◌++◌, length, take, drop}
use Rattle.std.specs.Prelude.{take_while, filter, slice_index, codes, decimal, bytes_eq, Option, is_some, if◌then◌else◌}
use Rattle.std.specs.Char.{is_digit}
use Rattle.std.specs.List.{list_all, slice_split}
use Rattle.std.specs.Str.Parse.{digits_value}
use Rattle.nook_data.specs.Names.{of_text}
use Rattle.asm_defs.specs.Types.{TokenKind}
use Rattle.asm_defs.specs.declared.assembler.TokenKind.TheVariants as kind

-- space, tab, carriage return or comma
abbrev pub is_separator : ℕ → Bool
is_separator b = b == 32 || b == 9 || b == 13 || b == 44

-- at least one byte
abbrev pub is_not_empty : List ℕ → Bool
is_not_empty bytes = not (length bytes == 0)

-- the pieces, without an empty one at the end
abbrev pub without_empty_last : List (List ℕ) → List (List ℕ)
without_empty_last [] = []
without_empty_last (piece ∷ []) = filter is_not_empty (piece ∷ [])
without_empty_last (piece ∷ next ∷ more) = piece ∷ without_empty_last (next ∷ more)

-- the lines of a text, each up to a line feed; after the last line feed a line follows only if it has a byte
unfoldable pub lines_of : List ℕ → List (List ℕ)
lines_of text = without_empty_last (slice_split (λ b. b == 10) text)

-- the tokens of a line: the runs of bytes between separators, before the `;` that begins a comment
unfoldable pub tokens_of : List ℕ → List (List ℕ)
tokens_of line = filter is_not_empty (slice_split is_separator (take_while (λ b. not (b == 59)) line))

-- a letter or `_`
abbrev pub is_letter : ℕ → Bool
is_letter b = nat_le 65 b && nat_le b 90 || nat_le 97 b && nat_le b 122 || b == 95

-- a letter, `_` or a digit
abbrev pub is_letter_or_digit : ℕ → Bool
is_letter_or_digit b = is_letter b || nat_le 48 b && nat_le b 57

-- 1 to 32 letters, digits and `_`, not beginning with a digit
unfoldable pub is_label_name : List ℕ → Bool
is_label_name bytes =
    nat_le 1 (length bytes) && nat_le (length bytes) 32 && is_letter (slice_index bytes 0)
    && list_all is_letter_or_digit bytes

-- one or more digits of the base, and nothing else
unfoldable pub is_numeral : ℕ → List ℕ → Bool
is_numeral base bytes = nat_le 1 (length bytes) && list_all (λ b. is_digit b base) bytes

-- the number that the digits write; 2^32 represents all numbers from 2^32 on
abbrev pub numeral_value : ℕ → List ℕ → ℕ
numeral_value base bytes = min (digits_value base bytes) 4294967296

-- the token without its last byte
abbrev pub but_last : List ℕ → List ℕ
but_last bytes = take (length bytes - 1) bytes

-- what a token is; a token has at least one byte
unfoldable pub kind_of : List ℕ → TokenKind
kind_of token =
    if is_label_name token then kind.Name
    else if is_label_name (but_last token) && slice_index token (length token - 1) == 58 then kind.Definition
    else if slice_index token 0 == 46 && is_label_name (drop 1 token) then kind.Directive
    else if is_numeral 10 token then kind.Number (numeral_value 10 token)
    else if bytes_eq (take 2 token) (codes "0x") && is_numeral 16 (drop 2 token)
    then kind.Number (numeral_value 16 (drop 2 token))
    else kind.Bad

-- `r` and the number
abbrev pub register_text : ℕ → List ℕ
register_text register = codes "r" ++ decimal register

-- the register that a name denotes
unfoldable pub register_named : List ℕ → Option ℕ
register_named name =
    of_text register_text (0 ∷ 1 ∷ 2 ∷ 3 ∷ 4 ∷ 5 ∷ 6 ∷ 7 ∷ 8 ∷ 9 ∷ 10 ∷ 11 ∷ 12 ∷ 13 ∷ 14 ∷ 15 ∷ []) name

-- a register's name, which cannot be a label
abbrev pub is_register : List ℕ → Bool
is_register name = is_some (register_named name)
