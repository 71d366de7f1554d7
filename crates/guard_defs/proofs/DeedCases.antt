-- The first deed that breaks a clause, by the first deed of the list.
use Rattle.std.proofs.Common.{◌≡◌, ℕ, suc, Some, None, List, ◌∷◌, refl}
use Rattle.nook_data.specs.declared.clause.Clause.{Clause}
use Rattle.guard_defs.specs.Deeds.{clause_of_deed, deeds_before, first_clause}
use Rattle.promise_defs.specs.Contract.{Deed, Known, after_deed}

pub before_none : (call : ℕ) (k : Known) (d : Deed) (ds : List Deed) → clause_of_deed call k d ≡ None
    → deeds_before call k (d ∷ ds) ≡ suc (deeds_before call (after_deed call k d) ds)
before_none call k d ds e = rw (e, deeds_before) refl

pub before_first : (call : ℕ) (k : Known) (d : Deed) (ds : List Deed) (c : Clause) → clause_of_deed call k d ≡ Some c
    → deeds_before call k (d ∷ ds) ≡ 0
before_first call k d ds c e = rw (e, deeds_before) refl

pub first_none : (call : ℕ) (k : Known) (d : Deed) (ds : List Deed) → clause_of_deed call k d ≡ None
    → first_clause call k (d ∷ ds) ≡ first_clause call (after_deed call k d) ds
first_none call k d ds e = rw (e, first_clause) refl

pub first_some : (call : ℕ) (k : Known) (d : Deed) (ds : List Deed) (c : Clause) → clause_of_deed call k d ≡ Some c
    → first_clause call k (d ∷ ds) ≡ Some c
first_some call k d ds c e = rw (e, first_clause) refl
