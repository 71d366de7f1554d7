use Rattle.std.specs.Prelude.{◌≡◌, ℕ, zero, suc, ◌+◌, ◌*◌, ◌≤◌, ◌==◌, if◌then◌else◌, is_some, Bool, true, false, List}
use Rattle.std.specs.Prelude.{count_by}
use Rattle.std.specs.List.{list_any, AllByRecursion}
use Rattle.nook_data.specs.declared.steps.Event.{Event}
use Rattle.nook_data.specs.declared.steps.Event.TheVariants as event
use Rattle.nook_data.specs.declared.scenario.PartSpec.{PartSpec}
use Rattle.nook_data.specs.declared.steps.Step.TheVariants as step
use Rattle.part_defs.specs.Domain.{attempt_bursts}
use Rattle.part_defs.specs.Runs.{state_of}
use Rattle.part_defs.specs.Steps.{enabled}

-- How many events a run may have, and what the bound counts.

abbrev pub is_invoke : Event → Bool
is_invoke (event.Invoke call thread o answer) = true
is_invoke _ = false

abbrev pub carries_failure : Event → Bool
carries_failure (event.Burst context call burst count e acts answer failure) = is_some failure
carries_failure _ = false

abbrev pub is_arrival : Event → Bool
is_arrival (event.Arrive frame kept) = true
is_arrival _ = false

-- the thread invokes
abbrev pub is_invoke_of : ℕ → Event → Bool
is_invoke_of thread (event.Invoke call t o answer) = t == thread
is_invoke_of thread _ = false

-- how many numbers below n pass the test
abbrev pub passing_below : ℕ → (ℕ → Bool) → ℕ
passing_below zero test = 0
passing_below (suc n) test = (if test n then 1 else 0) + passing_below n test

-- how many of the 16 threads invoked
abbrev pub threads_of : List Event → ℕ
threads_of journal = passing_below 16 (λ t. list_any (is_invoke_of t) journal)

-- the calls, the failures and the arrivals of a journal
abbrev pub calls_of : List Event → ℕ
calls_of journal = count_by is_invoke journal

abbrev pub failures_of : List Event → ℕ
failures_of journal = count_by carries_failure journal

abbrev pub arrivals_of : List Event → ℕ
arrivals_of journal = count_by is_arrival journal

-- a call has its invocation and one last attempt: an entry and 32 bursts. The boot and each failure have five stages,
-- the shadow's six calls, and one interrupted attempt for each thread
abbrev pub most_events : List Event → ℕ
most_events journal =
    calls_of journal * 34 + (failures_of journal + 1) * (5 + (6 + threads_of journal) * 33) + arrivals_of journal

-- the attempt that an event begins, 0 if it begins none
abbrev pub attempt_of : Event → ℕ
attempt_of (event.Enter call thread attempt answer) = attempt
attempt_of _ = 0

abbrev pub is_burst : Event → Bool
is_burst (event.Burst context call burst count e acts answer failure) = true
is_burst _ = false

abbrev pub bursts_of_journal : List Event → ℕ
bursts_of_journal journal = count_by is_burst journal

-- the part after a journal has the counts of the journal, and they stay small
pub record IsMeasured (spec : PartSpec) (journal : List Event) : Type 0 where
  pub spec_stays : (state_of spec journal).spec ≡ spec
  pub failures : (state_of spec journal).failures ≡ failures_of journal
  pub calls : (state_of spec journal).log.count ≡ calls_of journal
  pub arrivals : (state_of spec journal).arrived ≡ arrivals_of journal
  pub bursts : (state_of spec journal).bursts ≡ bursts_of_journal journal
  pub few_failures : failures_of journal ≤ spec.limit + 1
  pub few_attempts : AllByRecursion (λ e. attempt_of e ≤ failures_of journal + 1) journal
  pub few_calls : calls_of journal ≤ 100000
  pub few_arrivals : arrivals_of journal ≤ 100000
  pub few_bursts : (context : ℕ) → enabled (state_of spec journal) (step.Burst context) ≡ true
      → attempt_bursts context (state_of spec journal).domain ≤ 31
