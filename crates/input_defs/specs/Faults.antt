use Rattle.std.specs.Prelude.{ℕ, List, [], ◌∷◌, ◌++◌, flat_map, codes, decimal}
use Rattle.asm_defs.specs.Keys.{key_text}
use Rattle.asm_defs.specs.Types.{AsmKind}
use Rattle.input_defs.specs.Types.{InputFault, PathStep, Refusal}
use Rattle.asm_defs.specs.declared.assembler.AsmKind.TheVariants as asm
use Rattle.input_defs.specs.declared.input.InputFault.TheVariants as fault
use Rattle.input_defs.specs.declared.input.PathStep.TheVariants as step

-- the number of an assembler error
abbrev pub asm_number : AsmKind → ℕ
asm_number asm.BadToken = 1
asm_number asm.UnknownName = 2
asm_number asm.WrongOperands = 3
asm_number asm.NumberRange = 4
asm_number asm.DoubleLabel = 5
asm_number asm.MissingLabel = 6
asm_number asm.TextTooLong = 7
asm_number asm.DataTooLong = 8
asm_number asm.MissingEntry = 9

-- an input error's number and name; an assembler error adds its own number and its line
abbrev pub fault_text : InputFault → List ℕ
fault_text fault.NotJson = codes "1 not_json"
fault_text fault.UnknownKey = codes "2 unknown_key"
fault_text fault.MissingKey = codes "3 missing_key"
fault_text fault.WrongKind = codes "4 wrong_kind"
fault_text fault.NumberRange = codes "5 number_range"
fault_text fault.TooMany = codes "6 too_many"
fault_text fault.BadImage = codes "7 bad_image"
fault_text (fault.BadAsm f) = codes "8 bad_asm " ++ decimal (asm_number f.kind) ++ codes " line " ++ decimal f.line
fault_text fault.BadClass = codes "9 bad_class"
fault_text fault.DoubleName = codes "10 double_name"

-- a `/` and a key or an index
abbrev pub step_text : PathStep → List ℕ
step_text (step.At key) = 47 ∷ key_text key
step_text (step.Position index) = 47 ∷ decimal index

-- keys and indexes, each after a `/`; the root is a single `/`
abbrev pub path_text : List PathStep → List ℕ
path_text [] = 47 ∷ []
path_text (first ∷ rest) = flat_map step_text (first ∷ rest)

-- the line that reports an input error and its path
unfoldable pub fault_line : Refusal → List ℕ
fault_line refusal = codes "fault " ++ fault_text refusal.fault ++ 32 ∷ path_text refusal.path ++ 10 ∷ []
