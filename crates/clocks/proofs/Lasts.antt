-- The last of some stamps.
use Rattle.std.proofs.Common.{◌≡◌, ℕ, List, [], ◌∷◌, ◌++◌, refl}
use Rattle.clocks.specs.Clocks.{last_of}

pub last_added : (stamps : List ℕ) (stamp : ℕ) → last_of (stamps ++ stamp ∷ []) ≡ stamp
last_added [] stamp = refl
last_added (s ∷ []) stamp = refl
last_added (s ∷ next ∷ stamps) stamp = last_added (next ∷ stamps) stamp
