use Rattle.std.specs.Prelude.{◌≡◌, ℕ, Bool, true, false, List}
use Rattle.std.specs.List.{list_any}
use Rattle.nook_data.specs.declared.calls.CallEntry.{CallEntry}
use Rattle.nook_data.specs.declared.entries.Entry.{Entry}
use Rattle.nook_data.specs.declared.steps.Mode.{Mode}
use Rattle.nook_data.specs.declared.steps.Mode.TheVariants as mode
use Rattle.nook_data.specs.declared.steps.Stage.{Stage}
use Rattle.nook_data.specs.declared.steps.Stage.TheVariants as stage
use Rattle.machine_defs.specs.Entries.{is_buffer_of}
use Rattle.part_defs.specs.Log.{call_of_thread}
use Rattle.part_defs.specs.State.{PartState}
use Rattle.part_defs.specs.Steps.{is_inside}

-- Which contexts have a buffer on loan.

-- no context's buffer is lent
abbrev pub IsWithoutLoans : List Entry → Type 0
IsWithoutLoans entries = (context : ℕ) → list_any (is_buffer_of context) entries ≡ false

-- each lent buffer belongs to a thread whose call is Inside
abbrev pub AreForInside : List CallEntry → List Entry → Type 0
AreForInside pending entries =
    (context : ℕ) → list_any (is_buffer_of context) entries ≡ true → is_inside (call_of_thread context pending) ≡ true

-- the stages until Collect is done, in which ended calls may still have a buffer
abbrev pub is_unsettled : Stage → Bool
is_unsettled stage.Stop = true
is_unsettled stage.Collect = true
is_unsettled _ = false

abbrev pub AreLoansIn : Mode → List CallEntry → List Entry → Type 0
AreLoansIn (mode.Boot s) pending entries = IsWithoutLoans entries
AreLoansIn mode.Running pending entries = AreForInside pending entries
AreLoansIn (mode.Recovering s) pending entries = is_unsettled s ≡ false → IsWithoutLoans entries
AreLoansIn (mode.Dead collected) pending entries = Unit {0}

-- while the driver runs, only calls that are Inside have a buffer; after Collect, no call has one until it runs again
abbrev pub HasLoans : PartState → Type 0
HasLoans p = AreLoansIn p.mode p.log.pending p.domain.entries
