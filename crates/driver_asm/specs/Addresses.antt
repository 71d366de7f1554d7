use Rattle.std.specs.Prelude.{Option, Some, None, List, ◌++◌, ℕ}

-- a list followed by another, if there is another
abbrev pub rest_after : List ℕ → Option (List ℕ) → Option (List ℕ)
rest_after front None = None
rest_after front (Some more) = Some (front ++ more)
