use Rattle.std.specs.Prelude.{ℕ, List, [], ◌∷◌}
use Rattle.nook_data.specs.Types.{Clause}
use Rattle.nook_data.specs.declared.clause.Clause.TheVariants.{UnaskedStore, OtherStore, UnstoredWrite, OtherRead}
use Rattle.nook_data.specs.declared.clause.Clause.TheVariants.{UnaskedFrame, SecondFrame, UnsentSend, OutOfOrder}
use Rattle.nook_data.specs.declared.clause.Clause.TheVariants.{LeftInRing, OtherSample, UnplayedPlay, UnaskedRegister}
use Rattle.nook_data.specs.declared.clause.Clause.TheVariants.{UnmadeSet, OtherGet, UnseenFailure}

-- The clauses of the contract of a class.

-- all clauses, in the order of their numbers
abbrev pub all_clauses : List Clause
all_clauses =
    UnaskedStore ∷ OtherStore ∷ UnstoredWrite ∷ OtherRead ∷ UnaskedFrame ∷ SecondFrame ∷ UnsentSend ∷ OutOfOrder
    ∷ LeftInRing ∷ OtherSample ∷ UnplayedPlay ∷ UnaskedRegister ∷ UnmadeSet ∷ OtherGet ∷ UnseenFailure ∷ []

-- the number that is printed for a clause
abbrev pub clause_number : Clause → ℕ
clause_number UnaskedStore = 1
clause_number OtherStore = 2
clause_number UnstoredWrite = 3
clause_number OtherRead = 4
clause_number UnaskedFrame = 5
clause_number SecondFrame = 6
clause_number UnsentSend = 7
clause_number OutOfOrder = 8
clause_number LeftInRing = 9
clause_number OtherSample = 10
clause_number UnplayedPlay = 11
clause_number UnaskedRegister = 12
clause_number UnmadeSet = 13
clause_number OtherGet = 14
clause_number UnseenFailure = 15
