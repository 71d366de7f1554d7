use Rattle.std.specs.Prelude.{ℕ, zero, suc, ◌+◌, List, [], ◌∷◌, ◌++◌}
use Rattle.nook_data.specs.Types.{Fault}
use Rattle.guard_defs.specs.Guard.{with_own}
use Rattle.run_defs.specs.Simulation.{RunningPart, Simulation}

-- Simulations that differ only in the faults of their parts.

-- a part with other faults
abbrev pub seat_with : List Fault → RunningPart → RunningPart
seat_with faults seat = record seat { run = record seat.run { state = with_own faults seat.run.state } }

-- the parts, each with faults that depend on its index and its own faults; the first of them has index n
abbrev pub owning : (ℕ → List Fault → List Fault) → ℕ → List RunningPart → List RunningPart
owning change n [] = []
owning change n (seat ∷ parts) = seat_with (change n seat.run.state.spec.faults) seat ∷ owning change (n + 1) parts

-- a simulation whose parts have other faults
abbrev pub owned : (ℕ → List Fault → List Fault) → Simulation → Simulation
owned change s = record s { parts = owning change 0 s.parts }

-- the part at an index has one more fault, after its own
abbrev pub struck_at : ℕ → Fault → ℕ → List Fault → List Fault
struck_at zero fault zero own = own ++ fault ∷ []
struck_at zero fault (suc n) own = own
struck_at (suc index) fault zero own = own
struck_at (suc index) fault (suc n) own = struck_at index fault n own
