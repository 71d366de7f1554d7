-- The position of an audit in a report.
use Rattle.std.specs.Prelude.{◌≡◌, ◌≤◌, ℕ, suc, ◌+◌, ◌==◌, if◌then◌else◌, Bool, false, true, not, List, [], ◌∷◌, ◌++◌}
use Rattle.std.specs.Prelude.{drop, take, length}
use Rattle.run_laws.specs.Audit.{is_ended, is_numbered, lines_of}

-- what has not been read, and the number of the line that comes next
pub record Position : Type 0 where
  pub rest : List ℕ
  pub number : ℕ

-- how many lines end in a text
abbrev pub feeds : List ℕ → ℕ
feeds [] = 0
feeds (byte ∷ text) = if byte == 10 then suc (feeds text) else feeds text

-- the position this many bytes further on
abbrev pub past : ℕ → Position → Position
past count p = record { rest = drop count p.rest; number = p.number + feeds (take count p.rest) }

-- a text begins with a byte
abbrev pub begins_with : ℕ → List ℕ → Bool
begins_with byte [] = false
begins_with byte (first ∷ text) = first == byte

-- the whole text is at the first position, and the second position is after it
pub record Follows (text : List ℕ) (p q : Position) : Type 0 where
  pub rest : p.rest ≡ text ++ q.rest
  pub number : q.number ≡ p.number + feeds text

-- the whole line is at the first position, and the second position is after it, in the next line
pub record PassesLine (line : List ℕ) (p q : Position) : Type 0 where
  pub follows : Follows line p q
  pub next : q.number ≡ suc p.number

-- the whole text is not at a position, and the line is that of the first byte that differs or is missing
pub record Departs (text : List ℕ) (p : Position) (line : ℕ) : Type 0 where
  pub front : List ℕ
  pub byte : ℕ
  pub more : List ℕ
  pub left : List ℕ
  pub whole : text ≡ front ++ byte ∷ more
  pub rest : p.rest ≡ front ++ left
  pub other : begins_with byte left ≡ false
  pub at : line ≡ p.number + feeds front

-- the next line at a position, with its line feed
pub record IsNextLine (p : Position) (line : List ℕ) : Type 0 where
  pub front : take (length line) p.rest ≡ line
  pub within : length line ≤ length p.rest
  pub lines : lines_of p.rest ≡ line ∷ lines_of (drop (length line) p.rest)
  pub ended : is_ended line ≡ true
  pub feeds : feeds line ≡ 1

-- the next line at a position is not that of an event
pub record IsEnding (p : Position) : Type 0 where
  pub line : List ℕ
  pub next : IsNextLine p line
  pub other : is_numbered line ≡ false

-- the first of some lines has no line feed, or there is none
abbrev pub begin_unended : List (List ℕ) → Bool
begin_unended [] = true
begin_unended (line ∷ lines) = not (is_ended line)

-- no line with a line feed comes next at a position, and this is the line number there
pub record HasNoLine (p : Position) (number : ℕ) : Type 0 where
  pub unended : begin_unended (lines_of p.rest) ≡ true
  pub at : number ≡ p.number
