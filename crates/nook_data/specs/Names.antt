use Rattle.std.specs.Prelude.{ℕ, List, Bool, Option, option_map, length, bytes_eq, nat_le, ◌==◌, ◌&&◌, ◌||◌}
use Rattle.std.specs.List.{find, list_all, list_any}
use Rattle.nook_data.specs.declared.limits.TheConstants.{MOST_NAME_BYTES}

-- a byte of `a` to `z`, `0` to `9` or `_`
abbrev pub is_name_byte : ℕ → Bool
is_name_byte b = nat_le 97 b && nat_le b 122 || nat_le 48 b && nat_le b 57 || b == 95

-- 1 to 16 such bytes
abbrev pub is_name : List ℕ → Bool
is_name bytes = nat_le 1 (length bytes) && nat_le (length bytes) MOST_NAME_BYTES && list_all is_name_byte bytes

-- the first of all values whose text equals the name
abbrev pub of_text : {T : Type 0} → (T → List ℕ) → List T → List ℕ → Option T
of_text text all name = find (λ value. bytes_eq name (text value)) all

-- the value of the first row of a table with this name
abbrev pub value_named : {T : Type 0} → List (List ℕ × T) → List ℕ → Option T
value_named table name = option_map (λ row. row.1) (find (λ row. bytes_eq name row.0) table)

-- the name is one of the names
abbrev pub is_among : List (List ℕ) → List ℕ → Bool
is_among names name = list_any (bytes_eq name) names
