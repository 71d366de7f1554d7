-- Statements and operands that have one value, by the value of their only token.
use Rattle.std.proofs.Common.{◌≡◌, ℕ, List, [], ◌∷◌, refl, Some}
use Rattle.asm_defs.specs.AsmLines.{Labels, entry_value, operands_of, operands_with, right_or_wrong, word_statement}
use Rattle.nook_data.specs.declared.machine.Form.TheVariants as form
use Rattle.asm_defs.specs.declared.assembler.Statement.TheVariants as statement
use Rattle.driver_asm.specs.Lexing.{only_value}

pub word_of_value : (labels : Labels) (tokens : List (List ℕ)) → word_statement labels tokens ≡ right_or_wrong statement.Word (only_value labels tokens)
unfolding word_statement
word_of_value labels [] = refl
word_of_value labels (token ∷ []) = refl
word_of_value labels (token ∷ next ∷ more) = refl

pub entry_of_value : (labels : Labels) (index : ℕ) (tokens : List (List ℕ)) → entry_value labels index tokens ≡ right_or_wrong (statement.Entry index) (only_value labels tokens)
entry_of_value labels index [] = refl
entry_of_value labels index (token ∷ []) = refl
entry_of_value labels index (token ∷ next ∷ more) = refl

pub only_operand : (labels : Labels) (tokens : List (List ℕ)) → operands_of labels form.Imm tokens ≡ operands_with (Some 0) (Some 0) (only_value labels tokens)
unfolding operands_of
only_operand labels [] = refl
only_operand labels (token ∷ []) = refl
only_operand labels (token ∷ next ∷ more) = refl
