use Rattle.std.specs.Prelude.{ℕ, List, [], ◌∷◌, codes, Option}
use Rattle.nook_data.specs.Names.{of_text}
use Rattle.nook_data.specs.Types.{FaultKind, FaultName}
use Rattle.nook_data.specs.declared.scenario.FaultKind.TheVariants as kind
use Rattle.nook_data.specs.declared.scenario.FaultName.TheVariants as named

-- The names of the kinds of fault.

-- the kind of a fault by its name
abbrev pub fault_name : FaultKind → FaultName
fault_name kind.Trap = named.Trap
fault_name kind.Hang = named.Hang
fault_name (kind.Poke address value) = named.Poke
fault_name (kind.Code address value) = named.Code
fault_name (kind.Reg register value) = named.Reg

-- the word for a kind of fault, in inputs and traces
abbrev pub fault_word : FaultName → List ℕ
fault_word named.Trap = codes "trap"
fault_word named.Hang = codes "hang"
fault_word named.Poke = codes "poke"
fault_word named.Code = codes "code"
fault_word named.Reg = codes "reg"

-- the kind of fault with a word
unfoldable pub fault_named : List ℕ → Option FaultName
fault_named word = of_text fault_word (named.Trap ∷ named.Hang ∷ named.Poke ∷ named.Code ∷ named.Reg ∷ []) word
