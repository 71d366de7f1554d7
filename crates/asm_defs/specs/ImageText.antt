use Rattle.std.specs.Prelude.{ℕ, zero, suc, ◌/◌, ◌%◌, List, [], ◌∷◌, ◌++◌, codes, false}
use Rattle.std.specs.Fmt.{digit_glyph}
use Rattle.serde_json.specs.Data.{Data, string, number, array, object, unsigned, Items, no_items, item, Members}
use Rattle.serde_json.specs.{Data.{no_members, member, put}, Written.compact_text}
use Rattle.asm_defs.specs.Keys.{key_text, entry_keys}
use Rattle.nook_data.specs.ClassNames.{class_text}
use Rattle.nook_data.specs.Types.{Image}
use Rattle.asm_defs.specs.Types.{Key}

-- the last n hexadecimal digits of a word, in lower case
abbrev pub hex_text : ℕ → ℕ → List ℕ
hex_text zero word = []
hex_text (suc n) word = hex_text n (word / 16) ++ digit_glyph false (word % 16) ∷ []

-- words as strings of eight digits
abbrev pub word_items : List ℕ → Items
word_items [] = no_items
word_items (word ∷ more) = item (string (hex_text 8 word)) (word_items more)

-- the members, with the entries and their addresses; an image has an address for each entry
abbrev pub entry_members : List Key → List ℕ → Members → Members
entry_members (entry ∷ more) (address ∷ addresses) members =
    entry_members more addresses (put (key_text entry) (number (unsigned address)) members)
entry_members _ _ members = members

-- an image as a JSON value, its keys in byte order
unfoldable pub image_data : Image → Data
image_data image =
    object (member (codes "class") (string (class_text image.class))
    (member (codes "data") (array (word_items image.initial))
    (member (codes "entries") (object (entry_members (entry_keys image.class) image.entries no_members))
    (member (codes "text") (array (word_items image.text)) no_members))))

-- the text of an image: compact JSON and a line feed
unfoldable pub image_text : Image → List ℕ
image_text image = compact_text (image_data image) ++ 10 ∷ []
