use Rattle.std.specs.Prelude.{ℕ, suc, List, [], ◌∷◌, Option, Some, None, find}
use Rattle.nook_data.specs.Types.{Clause, Event}
use Rattle.nook_data.specs.declared.steps.Event.TheVariants as event
use Rattle.nook_data.specs.Clauses.{all_clauses}
use Rattle.promise_defs.specs.Contract.{Deed, Known, after_deed, breaks, call_of, deeds_of}

-- The first deed of a burst that breaks a clause. A deed is an act on the device, a frame handed up, or a reply.

-- the deeds of an event, in order; only bursts have any
abbrev pub deeds_in : Event → List Deed
deeds_in (event.Burst context call burst count e done a failure) = deeds_of done e a failure
deeds_in e = []

-- the smallest clause that a deed breaks, in a burst of the call with this number
abbrev pub clause_of_deed : ℕ → Known → Deed → Option Clause
clause_of_deed call k d = find (λ clause. breaks clause k (call_of call k.calls) d) all_clauses

-- the number of deeds before the first that breaks a clause; all deeds if none does
abbrev pub deeds_before : ℕ → Known → List Deed → ℕ
deeds_before call k [] = 0
deeds_before call k (d ∷ ds) = elim (clause_of_deed call k d) [
  | None ↦ suc (deeds_before call (after_deed call k d) ds)
  | Some clause ↦ 0
]

-- the smallest clause that the first such deed breaks
abbrev pub first_clause : ℕ → Known → List Deed → Option Clause
first_clause call k [] = None
first_clause call k (d ∷ ds) = elim (clause_of_deed call k d) [
  | None ↦ first_clause call (after_deed call k d) ds
  | Some clause ↦ Some clause
]
