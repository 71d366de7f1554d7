use Rattle.std.specs.Prelude.{ℕ, ◌==◌, nat_le, if◌then◌else◌, Bool, filter, List, [], ◌∷◌}
use Rattle.nook_data.specs.Types.{Fault}

-- The faults of a script that strike in one burst, in the order in which they strike.

-- a fault of the burst with this number
abbrev pub is_of_burst : ℕ → Fault → Bool
is_of_burst number f = f.burst == number

-- inserts a fault that was listed before the others: it goes before the first one that strikes no earlier
abbrev pub insert_fault : Fault → List Fault → List Fault
insert_fault f [] = f ∷ []
insert_fault f (g ∷ faults) = if nat_le f.after g.after then f ∷ g ∷ faults else g ∷ insert_fault f faults

-- faults in the order of the instructions before which they strike; those before the same instruction keep their order
abbrev pub in_order : List Fault → List Fault
in_order [] = []
in_order (f ∷ faults) = insert_fault f (in_order faults)

-- the faults of a burst in that order; those before the same instruction keep their order
unfoldable pub faults_of_burst : ℕ → List Fault → List Fault
faults_of_burst number faults = in_order (filter (is_of_burst number) faults)
