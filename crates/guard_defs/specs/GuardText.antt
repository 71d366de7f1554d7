use Rattle.std.specs.Prelude.{ℕ, List, [], ◌∷◌, ◌++◌, codes, decimal, flat_map}
use Rattle.nook_data.specs.Clauses.{clause_number}
use Rattle.guard_defs.specs.declared.stop.Stop.{Stop}

-- The lines of a guard's traps.

-- the line of a trap: its part, burst and preceding instructions, and the clause that the deed would have broken
abbrev pub guard_line : Stop → List ℕ
guard_line stop =
    codes "guard " ++ decimal stop.part ++ codes " burst " ++ decimal stop.trap.burst
    ++ codes " after " ++ decimal stop.trap.after ++ codes " clause " ++ decimal (clause_number stop.clause) ++ 10 ∷ []

-- the lines of a guard's traps, in the order in which they were found
abbrev pub guard_lines : List Stop → List ℕ
guard_lines stops = flat_map guard_line stops
