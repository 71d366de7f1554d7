use Rattle.std.specs.Prelude.{[]}
use Rattle.explore_laws.specs.Present.{Present}

-- no part and no thread
abbrev pub nothing : Present
nothing = record { parts = []; threads = [] }
