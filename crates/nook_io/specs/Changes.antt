-- How a call changes a source or a sink.
use Rattle.std.specs.Prelude.{ℕ, List, Option}

-- a source or a sink at one moment: its contents, if contracts know them, and its count of I/O errors
pub record Stream : Type 0 where
  pub contents : Option (List ℕ)
  pub errors : ℕ

-- a source or a sink before a call and after it
pub record Change : Type 0 where
  pub before : Stream
  pub after : Stream

-- the change from one moment to a later one
abbrev pub between : Stream → Stream → Change
between old new = record { before = old; after = new }

-- the change of a source or a sink of any type, from the views of its contents and of its count
abbrev pub change : {T : Type 0} → (T → Option (List ℕ)) → (T → ℕ) → T → T → Change
change contents errors old new =
    between (record { contents = contents old; errors = errors old }) (record { contents = contents new; errors = errors new })
