use Rattle.std.specs.Prelude.{ℕ, List, [], ◌∷◌, Option, Some, None}
use Rattle.nook_data.specs.declared.clause.Clause.{Clause}
use Rattle.nook_data.specs.declared.steps.Event.{Event}
use Rattle.nook_data.specs.declared.steps.Event.TheVariants as event
use Rattle.guard_defs.specs.Deeds.{deeds_before, deeds_in, first_clause}
use Rattle.promise_defs.specs.Contract.{Deed, Known, broken}
use Rattle.contract_monitor.specs.declared.wrong.WrongDeed.{WrongDeed}

-- a deed with this many deeds before it, if it breaks a clause
abbrev pub wrong_at : ℕ → Option Clause → Option WrongDeed
wrong_at index None = None
wrong_at index (Some clause) = Some (record { index = index; clause = clause })

-- the first of some deeds that breaks a clause, in a burst of the call with this number
abbrev pub wrong_among : ℕ → Known → List Deed → Option WrongDeed
wrong_among call k ds = wrong_at (deeds_before call k ds) (first_clause call k ds)

-- the deed, if any clause is broken
abbrev pub wrong_of : List Clause → Option WrongDeed → Option WrongDeed
wrong_of [] wrong = None
wrong_of (clause ∷ more) wrong = wrong

-- the call of a burst's event; 0 of other events
abbrev pub call_in : Event → ℕ
call_in (event.Burst context call burst count e done a failure) = call
call_in e = 0

-- the first deed that breaks a clause in an event, after what is known; none if the event breaks no clause
abbrev pub first_wrong : Known → Event → Option WrongDeed
first_wrong k e = wrong_of (broken k e) (wrong_among (call_in e) k (deeds_in e))
