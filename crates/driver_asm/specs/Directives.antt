use Rattle.std.specs.Prelude.{ℕ, List, [], ◌∷◌, codes, Option}
use Rattle.nook_data.specs.Names.{of_text}
use Rattle.driver_asm.specs.declared.directives.Directive.{Directive}
use Rattle.driver_asm.specs.declared.directives.Directive.TheVariants as directive

-- The directives of the language, as definitions of the assembler write them.

-- the text of a directive
abbrev pub directive_text : Directive → List ℕ
directive_text directive.Class = codes ".class"
directive_text directive.Entry = codes ".entry"
directive_text directive.Text = codes ".text"
directive_text directive.Data = codes ".data"
directive_text directive.Word = codes ".word"

-- the directive with a text
unfoldable pub directive_named : List ℕ → Option Directive
directive_named text =
    of_text directive_text (directive.Class ∷ directive.Entry ∷ directive.Text ∷ directive.Data ∷ directive.Word ∷ []) text
