use Rattle.std.specs.Prelude.{ℕ, List, [], ◌∷◌, codes, Option}
use Rattle.nook_data.specs.Names.{of_text}
use Rattle.nook_data.specs.Types.{Class}
use Rattle.nook_data.specs.declared.classes.Class.TheVariants as class

-- The names of the classes in texts.

-- a class's name
abbrev pub class_text : Class → List ℕ
class_text class.Block = codes "block"
class_text class.Net = codes "net"
class_text class.Sound = codes "sound"

-- the class with a name
unfoldable pub class_named : List ℕ → Option Class
class_named name = of_text class_text (class.Block ∷ class.Net ∷ class.Sound ∷ []) name
