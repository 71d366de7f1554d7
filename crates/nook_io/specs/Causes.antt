-- How sources and sinks count their I/O errors, and what a whole read or write leaves.
use Rattle.std.specs.Prelude.{◌≡◌, ℕ, ◌+◌, ◌-◌, ◌^◌, ◌<◌, ◌≤◌, min, List, [], ◌++◌, length, Option, Some, None, Result}
use Rattle.std.specs.Prelude.{IfOk, OnErr, OnOk, MatchResult}
use Rattle.std.specs.Io.KnownBytes.{Appends, Consumes}

-- a count of I/O errors rose by one, or it has reached the end of its type
abbrev pub Rose : ℕ → ℕ → Type 0
Rose before now = now ≡ min (before + 1) (2 ^ 64 - 1)

-- a failure raises the count of I/O errors by one, a success leaves it, and it never falls
pub record HasCause {T E : Type 0} (before now : ℕ) (result : Result T E) : Type 0 where
  pub later : before ≤ now
  pub failed : OnErr result (Rose before now)
  pub kept : OnOk result (now ≡ before)

-- the same for a write, which may also fail by taking nothing
pub record HasWriteCause {E : Type 0} (before now : ℕ) (result : Result ℕ E) : Type 0 where
  pub later : before ≤ now
  pub failed : MatchResult result (λ n. n ≡ 0 → Rose before now) (λ _. Rose before now)
  pub kept : IfOk result (λ n. 0 < n → now ≡ before)

-- a source was read to its end: if its contents are known, all of them were read and none are left
abbrev pub ReadsAll : Option (List ℕ) → Option (List ℕ) → List ℕ → Type 0
ReadsAll None now bytes = Unit {0}
ReadsAll (Some left) None bytes = ⊥
ReadsAll (Some left) (Some rest) bytes = (bytes ≡ left) × (rest ≡ [])

-- if the contents of a source are known, they are longer than the limit
abbrev pub HoldsMore : Option (List ℕ) → ℕ → Type 0
HoldsMore None limit = Unit {0}
HoldsMore (Some left) limit = limit < length left

-- if the contents of a source are known, at most n bytes were taken from their beginning
pub record TakesAtMost (old new : Option (List ℕ)) (n : ℕ) : Type 0 where
  pub front : List ℕ
  pub taken : Consumes old new front
  pub few : length front ≤ n

-- a sink gained a prefix of a text
pub record AppendsPrefix (old new : Option (List ℕ)) (text : List ℕ) : Type 0 where
  pub front : List ℕ
  pub rest : List ℕ
  pub gained : Appends old new front
  pub whole : front ++ rest ≡ text
