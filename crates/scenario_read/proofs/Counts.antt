-- The definition's count of items is the length of the list read.
use Rattle.std.proofs.Common.{◌≡◌, List, [], ◌∷◌, length, refl, arith}
use Rattle.serde_json.specs.View.{items_view}
use Rattle.serde_json.specs.declared.value.Value.{Value}
use Rattle.input_defs.specs.Reading.{count_of}

pub count_items : (values : List Value) → count_of (items_view values) ≡ length values
count_items [] = refl
count_items (value ∷ more) = omega (arith, count_items more)
