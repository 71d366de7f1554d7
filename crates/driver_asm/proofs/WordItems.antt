-- Words as items of a JSON array.
use Rattle.std.proofs.Common.{◌≡◌, ℕ, List, [], ◌∷◌, map, refl, ap}
use Rattle.serde_json.specs.Data.{item}
use Rattle.serde_json.specs.View.{items_of}
use Rattle.asm_defs.specs.ImageText.{word_items}
use Rattle.driver_asm.specs.Names.{hex_data}

pub items_are : (words : List ℕ) → items_of (map hex_data words) ≡ word_items words
items_are [] = refl
items_are (word ∷ more) = ap (item (hex_data word)) (items_are more)
