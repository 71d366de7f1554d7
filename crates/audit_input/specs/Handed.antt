-- The input of `audit`: how many bytes the scenario has, in decimal, a line feed, the scenario, and the report.
use Rattle.std.specs.Prelude.{◌≡◌, ℕ, ◌<◌, List, ◌∷◌, ◌++◌, decimal, length}

-- these bytes are an input of `audit` with this scenario and this report; the length has at most 8 digits
pub record Hands (bytes scenario report : List ℕ) : Type 0 where
  pub whole : bytes ≡ decimal (length scenario) ++ 10 ∷ (scenario ++ report)
  pub short : length scenario < 100000000

-- the bytes are not an input of `audit`
abbrev pub HandsNothing : List ℕ → Type 0
HandsNothing bytes = (scenario report : List ℕ) → Hands bytes scenario report → ⊥

-- the text is not that of a number of at most 8 digits
abbrev pub NamesNoLength : List ℕ → Type 0
NamesNoLength text = (n : ℕ) → text ≡ decimal n → n < 100000000 → ⊥
