-- How a call of the program ends: what each status says of its source and its sink.
use Rattle.std.specs.Prelude.{◌≡◌, ℕ, ◌+◌, ◌≤◌, ⊤, ◌⊎◌, true, List, ◌++◌, Option, Some, None, Ok}
use Rattle.nook_io.specs.Listening.{Listening}
use Rattle.nook_io.specs.Causes.{TakesAtMost}
use Rattle.nook_io.specs.declared.whole.ReadStop.{ReadStop}
use Rattle.nook_io.specs.declared.whole.ReadStop.TheVariants as stopped
use Rattle.nook_data.specs.declared.scenario.Scenario.{Scenario}
use Rattle.guard_defs.specs.GuardText.{guard_lines}
use Rattle.guard_defs.specs.declared.stop.Stop.{Stop}
use Rattle.headline_laws.specs.Headline.{AreSafe}
use Rattle.report_defs.specs.ReportText.{report_text, status_of}
use Rattle.input_defs.specs.ScenarioReading.{scenario_from}
use Rattle.input_defs.specs.declared.input.InputFault.TheVariants as fault
use Rattle.input_defs.specs.Faults.{fault_line}
use Rattle.scenario_read.specs.declared.stop.ScenarioFault.{ScenarioFault}
use Rattle.scenario_read.specs.declared.stop.ScenarioFault.TheVariants as stop
use Rattle.nooks.specs.Answers.{Answers, AreKept, IsGuardedScenario, Left, Says}
use Rattle.nooks.specs.Guardable.{guardable_from}
use Rattle.nooks.specs.Texts.{at_root}
use Rattle.command_forms.specs.Forms.{Asks, IsForm, is_reading, limit_of}
use Rattle.nook_io.specs.Changes.{Change}
use Rattle.nooks.specs.Streams.{Gains, GainsFront, GainsNothing, HasFailed, Input, Reads, TooLong, Whole}
use Rattle.nooks.specs.Streams.{input_of}
use Rattle.nooks.specs.declared.program.Status.{Status}
use Rattle.nooks.specs.declared.program.Status.TheVariants as ended
use Rattle.command_forms.specs.declared.words.Form.{Form}
use Rattle.command_forms.specs.declared.words.Form.TheVariants as form

-- ---- statuses

-- the exit code of a status
abbrev pub code_of : Status → ℕ
code_of ended.Done = 0
code_of ended.GivenUp = 1
code_of ended.Usage = 2
code_of ended.BadInput = 3
code_of ended.ReadFault = 4
code_of ended.WriteFault = 5
code_of ended.NoMemory = 6
code_of ended.ContractBroken = 7
code_of ended.AuditNo = 8
code_of ended.Cut = 9

-- the status of an answer that was written in full
abbrev pub IsAnswerStatus : Status → Type 0
IsAnswerStatus ended.ReadFault = ⊥
IsAnswerStatus ended.WriteFault = ⊥
IsAnswerStatus ended.NoMemory = ⊥
IsAnswerStatus status = ⊤

-- the status of an answer that is incomplete, or missing, since the sink failed or memory ran out
abbrev pub IsCut : Status → Type 0
IsCut ended.WriteFault = ⊤
IsCut ended.NoMemory = ⊤
IsCut status = ⊥

-- the status of a report that was written in full
abbrev pub HasReport : Status → Type 0
HasReport ended.Done = ⊤
HasReport ended.GivenUp = ⊤
HasReport ended.ContractBroken = ⊤
HasReport status = ⊥

-- ---- the answer to a call

-- what was read for a subcommand
abbrev pub ReadsFor : Option Form → Change → Input → Type 0
ReadsFor None source input = ⊤
ReadsFor (Some asked) source input = is_reading asked ≡ true → Reads source (limit_of asked) input

-- what is read of some bytes for a subcommand
abbrev pub input_for : Option Form → List ℕ → Input
input_for None bytes = TooLong
input_for (Some asked) bytes = input_of (limit_of asked) bytes

-- a text, with its status, is what the program answers to a subcommand, given what was read of the source for it
pub record IsAnswerTo (asked : Option Form) (hearing : List Listening) (source : Change) (text : List ℕ)
    (status : Status) : Type 0 where
  pub input : Input
  pub read : ReadsFor asked source input
  pub answer : Answers asked input hearing text status

-- it is what the program answers to the arguments
pub record AnswersWords (words : List (List ℕ)) (hearing : List Listening) (source : Change) (text : List ℕ)
    (status : Status) : Type 0 where
  pub asked : Option Form
  pub asks : Asks words asked
  pub answer : IsAnswerTo asked hearing source text status

-- it is what the program answers to the arguments with some bytes as input
pub record AnswersBytes (words : List (List ℕ)) (hearing : List Listening) (bytes : List ℕ) (text : List ℕ)
    (status : Status) : Type 0 where
  pub asked : Option Form
  pub asks : Asks words asked
  pub answer : Answers asked (input_for asked bytes) hearing text status

-- ---- what a report promises

-- the arguments ask for the report of a scenario's run
abbrev pub AskReport : List (List ℕ) → Type 0
AskReport words = IsForm words form.Run ⊎ IsForm words form.RunThreads

-- a text is the report of a run of the scenario that was read, in which every part is safe
pub record IsSafeReport (source : Change) (text : List ℕ) (status : Status) : Type 0 where
  pub bytes : List ℕ
  pub read : Reads source (limit_of form.Run) (Whole bytes)
  pub scenario : Scenario
  pub reading : scenario_from bytes ≡ Ok scenario
  pub left : Left
  pub safe : AreSafe scenario.parts left.journals
  pub text_is : text
      ≡ report_text scenario left.journals left.answers left.taps (status_of scenario.parts left.journals)

-- the arguments ask for the report of a scenario's guarded run
abbrev pub AskGuard : List (List ℕ) → Type 0
AskGuard words = IsForm words form.Guard

-- A text is the report of the guarded run of the scenario that was read, after the lines of its traps. Every part is
-- safe and its driver broke no clause, so that every part that was not given up is a device that never fails.
pub record IsKeptReport (source : Change) (text : List ℕ) (status : Status) : Type 0 where
  pub bytes : List ℕ
  pub read : Reads source (limit_of form.Guard) (Whole bytes)
  pub scenario : Scenario
  pub reading : guardable_from bytes ≡ Ok scenario
  pub guarded : Scenario
  pub is_guarded : IsGuardedScenario scenario guarded
  pub stops : List Stop
  pub left : Left
  pub safe : AreSafe guarded.parts left.journals
  pub kept : AreKept guarded.parts left.journals
  pub never_broken : (status ≡ ended.Done) ⊎ (status ≡ ended.GivenUp)
  pub text_is : text ≡ guard_lines stops
      ++ report_text guarded left.journals left.answers left.taps (status_of guarded.parts left.journals)

-- ---- what a sink gains of an answer; `Answer` says which texts, with which status, it may be

-- an answer with this status was written in full
pub record IsWritten (Answer : List ℕ → Status → Type 0) (sink : Change) (status : Status) : Type 0 where
  pub text : List ℕ
  pub answer : Answer text status
  pub gained : Gains sink text

-- a prefix of an answer was written
pub record IsBegun (Answer : List ℕ → Status → Type 0) (sink : Change) : Type 0 where
  pub text : List ℕ
  pub status : Status
  pub answer : Answer text status
  pub gained : GainsFront sink text

-- how writing an answer ended: if the sink fails or memory runs out, a prefix of it was written, or nothing
abbrev pub Writes : (List ℕ → Status → Type 0) → Change → Status → Type 0
Writes Answer sink ended.ReadFault = ⊥
Writes Answer sink ended.WriteFault = HasFailed sink × IsBegun Answer sink
Writes Answer sink ended.NoMemory = GainsNothing sink ⊎ IsBegun Answer sink
Writes Answer sink status = IsWritten Answer sink status

-- the ending of a call that writes why some bytes are not read
abbrev pub StopWrites : ScenarioFault → Change → Status → Type 0
StopWrites (stop.Bad refusal) sink status = Writes (Says (fault_line refusal) ended.BadInput) sink status
StopWrites stop.NoMemory sink status = (status ≡ ended.NoMemory) × GainsNothing sink

-- the ending of a call that writes why a source was not read to its end
abbrev pub ReadStopWrites : ReadStop → Change → Status → Type 0
ReadStopWrites stopped.TooLong sink status =
    Writes (Says (fault_line (at_root fault.TooMany)) ended.BadInput) sink status
ReadStopWrites stopped.Fault sink status = (status ≡ ended.ReadFault) × GainsNothing sink
ReadStopWrites stopped.NoMemory sink status = (status ≡ ended.NoMemory) × GainsNothing sink

-- how a call ended that read the source for a subcommand: if the source fails, the sink is as it was
abbrev pub Ends : Option Form → List Listening → Change → Change → Status → Type 0
Ends asked hearing source sink ended.ReadFault = HasFailed source × GainsNothing sink
Ends asked hearing source sink status = Writes (IsAnswerTo asked hearing source) sink status

-- ---- the call

-- whatever the subcommand, at most one byte more than its limit was taken from the source
abbrev pub TakesFor : List (List ℕ) → Change → Type 0
TakesFor words source =
    (asked : Form) → IsForm words asked → TakesAtMost source.before.contents source.after.contents (limit_of asked + 1)

-- How a call with these arguments ended. An error count never falls, and it stays the same unless the status reports an
-- I/O error of that side: so an I/O error is reported exactly if there was one.
pub record EndsWords (words : List (List ℕ)) (hearing : List Listening) (source sink : Change)
    (status : Status) : Type 0 where
  pub asked : Option Form
  pub asks : Asks words asked
  pub ends : Ends asked hearing source sink status
  pub taken : TakesFor words source
  pub source_later : source.before.errors ≤ source.after.errors
  pub sink_later : sink.before.errors ≤ sink.after.errors
  pub source_kept : (status ≡ ended.ReadFault → ⊥) → source.after.errors ≡ source.before.errors
  pub sink_kept : (status ≡ ended.WriteFault → ⊥) → sink.after.errors ≡ sink.before.errors
