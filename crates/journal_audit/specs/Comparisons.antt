-- What is known of a sink that compares what is written with a text.
use Rattle.std.specs.Prelude.{ℕ, Bool, true, not, List, [], ◌∷◌, ◌++◌, Option, Some, None, length, take}
use Rattle.nook_io.specs.Changes.{Change, change}
use Rattle.journal_audit.specs.Position.{begins_with}

-- the text, how many of its bytes were written, the wrong byte that was written after them, and how many writes failed
-- since then
pub record Comparison : Type 0 where
  pub text : List ℕ
  pub at : ℕ
  pub wrong : Option ℕ
  pub faults : ℕ

abbrev pub list_of : Option ℕ → List ℕ
list_of None = []
list_of (Some byte) = byte ∷ []

-- what was written
abbrev pub written_in : Comparison → List ℕ
written_in c = take c.at c.text ++ list_of c.wrong

-- what such a sink reports that it holds: the length of the text, the text, and after it what was written. So a write
-- that is described only by what the sink holds keeps the text
abbrev pub held_in : Comparison → List ℕ
held_in c = length c.text ∷ (c.text ++ written_in c)

-- how such a sink changed
abbrev pub change_in : Comparison → Comparison → Change
change_in old new = change (λ c. Some (held_in c)) (λ c. c.faults) old new

-- a comparison before anything is written
abbrev pub untouched : List ℕ → Comparison
untouched text = record { text = text; at = 0; wrong = None; faults = 0 }

-- a byte that was written instead of the next one differs from it
abbrev pub is_other : Option ℕ → List ℕ → Bool
is_other None rest = true
is_other (Some byte) rest = not (begins_with byte rest)
