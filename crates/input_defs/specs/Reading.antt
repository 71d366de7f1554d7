use Rattle.std.specs.Prelude.{ℕ, ◌+◌, ◌&&◌, ◌||◌, not, nat_lt, List, [], ◌∷◌, ◌++◌, Bool, true, false, Option, Some}
use Rattle.std.specs.Prelude.{None, option_and_then, Result, Ok, Err, ⊤, chars, encode_utf8_all, bytes_eq}
use Rattle.std.specs.Prelude.{if◌then◌else◌}
use Rattle.std.specs.List.{list_any}
use Rattle.std.specs.Str.{all_scalars}
use Rattle.serde_json.specs.{Data.{Data, Items, no_items, item, Members, no_members, member}, Find.{get, as_array}}
use Rattle.serde_json.specs.{Find.{as_number, as_object, as_str, as_u64}, Read.read}
use Rattle.asm_defs.specs.Keys.{key_text}
use Rattle.asm_defs.specs.Results.{◌>>=◌}
use Rattle.input_defs.specs.Types.{InputFault, PathStep, Refusal}
use Rattle.asm_defs.specs.Types.{Key}
use Rattle.input_defs.specs.declared.input.InputFault.TheVariants as fault
use Rattle.input_defs.specs.declared.input.PathStep.TheVariants as step

-- How a value is read from JSON, or refused with the first input error and its path. Each reading starts the path at
-- its own value; the object or list around the value prepends its key or index.

-- ---- input errors

-- an input error at this value
abbrev pub bad : {T : Type 0} → InputFault → Result T Refusal
bad fault = Err (record { fault = fault; path = [] })

-- an input error at this value if a test holds
abbrev pub refuse_if : Bool → InputFault → Result ⊤ Refusal
refuse_if true fault = bad fault
refuse_if false fault = Ok tt

-- what is read one step further inside: an input error gets the step at the beginning of its path
abbrev pub under : {T : Type 0} → PathStep → Result T Refusal → Result T Refusal
under step (Ok read) = Ok read
under step (Err refusal) = Err (record { fault = refusal.fault; path = step ∷ refusal.path })

-- a value, or an input error if there is none
abbrev pub or_bad : {T : Type 0} → InputFault → Option T → Result T Refusal
or_bad fault None = bad fault
or_bad fault (Some value) = Ok value

-- ---- values

-- a whole number from low to high, which the reader represents in 64 bits
abbrev pub whole_number : ℕ → ℕ → Data → Result ℕ Refusal
whole_number low high d = do
  n ← or_bad fault.WrongKind (option_and_then as_u64 (as_number d))
  if nat_lt n low || nat_lt high n then bad fault.NumberRange else Ok n

-- a text
abbrev pub text_of : Data → Result (List ℕ) Refusal
text_of d = or_bad fault.WrongKind (as_str d)

-- a text that is one of several names
abbrev pub named_of : {T : Type 0} → (List ℕ → Option T) → Data → Result T Refusal
named_of named d = or_bad fault.WrongKind (option_and_then named (as_str d))

-- ---- objects

-- the name of each member is the text of one of these keys
abbrev pub all_known : List Key → Members → Bool
all_known known no_members = true
all_known known (member name d more) =
    list_any (λ key. bytes_eq name (key_text key)) known && all_known known more

-- an object
abbrev pub is_object : Data → Result Members Refusal
is_object d = or_bad fault.WrongKind (as_object d)

-- an object with no keys but these
abbrev pub object_with : List Key → Data → Result ⊤ Refusal
object_with known d = do
  members ← is_object d
  refuse_if (not (all_known known members)) fault.UnknownKey

-- the value of a required key
abbrev pub required : {T : Type 0} → Key → (Data → Result T Refusal) → Data → Result T Refusal
required key of d = under (step.At key) (or_bad fault.MissingKey (get (key_text key) d) >>= of)

-- the value of a key, or the default if the key is absent
abbrev pub optional : {T : Type 0} → Key → (Data → Result T Refusal) → T → Data → Result T Refusal
optional key of default d =
    elim (get (key_text key) d) [ None ↦ Ok default | Some value ↦ under (step.At key) (of value) ]

-- a number from low to high at a required key
abbrev pub number_at : Key → ℕ → ℕ → Data → Result ℕ Refusal
number_at key low high d = required key (whole_number low high) d

-- a word at a required key
abbrev pub word_at : Key → Data → Result ℕ Refusal
word_at key d = number_at key 0 4294967295 d

-- ---- lists

-- the number of items
abbrev pub count_of : Items → ℕ
count_of no_items = 0
count_of (item d more) = count_of more + 1

-- the items from this index on, after the earlier ones; the reading of an item may use those
abbrev pub items_from : {T : Type 0} → (List T → Data → Result T Refusal) → List T → ℕ → Items → Result (List T) Refusal
items_from of earlier index no_items = Ok earlier
items_from of earlier index (item d more) =
    under (step.Position index) (of earlier d) >>= λ read. items_from of (earlier ++ read ∷ []) (index + 1) more

-- a list of least to most items; too many are reported before too few
abbrev pub list_of : {T : Type 0} → (List T → Data → Result T Refusal) → ℕ → ℕ → Data → Result (List T) Refusal
list_of of least most d = do
  items ← or_bad fault.WrongKind (as_array d)
  not_more ← refuse_if (nat_lt most (count_of items)) fault.TooMany
  not_fewer ← refuse_if (nat_lt (count_of items) least) fault.NumberRange
  items_from of [] 0 items

-- a list of numbers
abbrev pub numbers_of : ℕ → ℕ → ℕ → Data → Result (List ℕ) Refusal
numbers_of least most high d = list_of (λ earlier. whole_number 0 high) least most d

-- ---- bytes

-- the bytes are UTF-8: they decode to characters, and encoding those yields the same bytes
unfoldable pub is_utf8 : List ℕ → Bool
is_utf8 bytes = all_scalars (chars bytes) && bytes_eq (encode_utf8_all (chars bytes)) bytes

-- the JSON value of some bytes
unfoldable pub json_of : List ℕ → Result Data Refusal
json_of bytes = if is_utf8 bytes then or_bad fault.NotJson (read bytes) else bad fault.NotJson
