-- The numbers that clocks represent.
use Rattle.std.specs.Prelude.{ℕ, List, [], ◌∷◌, cond, nat_lt}

-- the later of two times
abbrev pub latest : ℕ → ℕ → ℕ
latest a b = cond (nat_lt a b) b a

-- the last of some stamps; 0, before every stamp, if there is none
abbrev pub last_of : List ℕ → ℕ
last_of [] = 0
last_of (stamp ∷ []) = stamp
last_of (stamp ∷ next ∷ stamps) = last_of (next ∷ stamps)
