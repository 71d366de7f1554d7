-- Whether a printed report fits a scenario, line by line: each part is run along the steps that the lines name.
use Rattle.std.specs.Prelude.{ℕ, zero, suc, ◌==◌, ◌&&◌, nat_le, if◌then◌else◌, Bool, true, false, is_none, Option, Some}
use Rattle.std.specs.Prelude.{None, List, [], ◌∷◌, ◌++◌, length, map, filter, bytes_eq, codes, decimal, slice_get}
use Rattle.std.specs.Prelude.{slice_index_or, slice_set}
use Rattle.promise_defs.specs.Contract.{first_break}
use Rattle.nook_io.specs.Listening.{Listening}
use Rattle.promise_defs.specs.Losses.{losses}
use Rattle.report_defs.specs.ReportLines.{event_line}
use Rattle.report_defs.specs.ReportText.{ending_text, final_lines, part_line, status_of, threads_text}
use Rattle.part_defs.specs.Runs.{event_of, next_any}
use Rattle.run_defs.specs.Simulation.{RunningPart, ThreadState, answers_of_thread, opening_part, part_after}
use Rattle.run_defs.specs.Simulation.{threads_after}
use Rattle.part_defs.specs.Steps.{enabled}
use Rattle.nook_io.specs.Listening.{tap_result}
use Rattle.nook_data.specs.declared.calls.Answer.{Answer}
use Rattle.nook_data.specs.declared.steps.Event.{Event}
use Rattle.nook_data.specs.declared.calls.Op.{Op}
use Rattle.nook_data.specs.declared.scenario.PartSpec.{PartSpec}
use Rattle.nook_data.specs.declared.scenario.Scenario.{Scenario}
use Rattle.nook_data.specs.declared.steps.Step.{Step}
use Rattle.nook_data.specs.declared.steps.Step.TheVariants as step
use Rattle.nook_data.specs.declared.scenario.ThreadSpec.{ThreadSpec}
use Rattle.nook_data.specs.declared.limits.TheConstants.{CONTEXTS}

-- ---- lines

-- puts a byte before the first line
abbrev pub with_byte : ℕ → List (List ℕ) → List (List ℕ)
with_byte byte [] = (byte ∷ []) ∷ []
with_byte byte (line ∷ lines) = (byte ∷ line) ∷ lines

-- the lines of a text, each with the line feed that ends it; bytes after the last line feed are a line without one
unfoldable pub lines_of : List ℕ → List (List ℕ)
lines_of [] = []
lines_of (byte ∷ bytes) = if byte == 10 then (10 ∷ []) ∷ lines_of bytes else with_byte byte (lines_of bytes)

-- a line ends in a line feed
abbrev pub is_ended : List ℕ → Bool
is_ended [] = false
is_ended (byte ∷ []) = byte == 10
is_ended (byte ∷ next ∷ line) = is_ended (next ∷ line)

-- ---- words

-- the words of a line, separated by blanks; the line feed is part of the last
abbrev pub words_of : List ℕ → List (List ℕ)
words_of [] = [] ∷ []
words_of (byte ∷ line) = if byte == 32 then [] ∷ words_of line else with_byte byte (words_of line)

-- the word at an index; empty if there is none
abbrev pub word_at : ℕ → List ℕ → List ℕ
word_at index line = slice_index_or (words_of line) index []

-- of the contexts from this one on, the first that the word names by a letter and its number
abbrev pub context_among : ℕ → List ℕ → List ℕ → ℕ → Option ℕ
context_among zero letter word context = None
context_among (suc more) letter word context =
    if bytes_eq word (letter ++ decimal context) then Some context else context_among more letter word (suc context)

-- the context, 0 to 16, that a word names by a letter and its number; contexts below 16 are threads
abbrev pub context_in : List ℕ → List ℕ → Option ℕ
context_in letter word = context_among CONTEXTS letter word 0

-- a line begins with a digit
abbrev pub is_numbered : List ℕ → Bool
is_numbered [] = false
is_numbered (byte ∷ line) = nat_le 48 byte && nat_le byte 57

-- ---- the section of a part

-- a part after the lines of its section so far: its index, what it is made from, its journal, the frames that have not
-- arrived, and for each thread the operations on it that were not invoked and the answers that it gave
pub record Section : Type 0 where
  pub index : ℕ
  pub spec : PartSpec
  pub seat : RunningPart
  pub threads : List ThreadState

abbrev pub is_on : ℕ → ℕ × Op → Bool
is_on index o = o.0 == index

-- a thread that has invoked none of its operations on a part
abbrev pub thread_on : ℕ → ThreadSpec → ThreadState
thread_on index t = record { rest = filter (is_on index) t.ops; waiting = None; answers = [] }

-- the section after the part's first line
abbrev pub opening_section : List ThreadSpec → ℕ → PartSpec → Section
opening_section threads index spec =
    record { index = index; spec = spec; seat = opening_part spec; threads = map (thread_on index) threads }

-- the invocation of a thread's next operation
abbrev pub invocation_by : ℕ → Option ThreadState → Option Step
invocation_by thread None = None
invocation_by thread (Some t) = elim t.rest [ [] ↦ None | (o ∷ rest) ↦ Some (step.Invoke thread o.1) ]

abbrev pub if_invoked : List ThreadState → Option ℕ → Option Step
if_invoked threads None = None
if_invoked threads (Some thread) = invocation_by thread (slice_get threads thread)

abbrev pub if_entered : Option ℕ → Option Step
if_entered None = None
if_entered (Some context) = Some (step.Enter context)

abbrev pub if_burst : Option ℕ → Option Step
if_burst None = None
if_burst (Some context) = Some (step.Burst context)

-- the arrival of the next frame
abbrev pub arrival_of : List (List ℕ) → Option Step
arrival_of [] = None
arrival_of (frame ∷ coming) = Some (step.Arrive frame)

-- the step that a line of a section names by its words: the second says its kind, the third or fourth whose it is
unfoldable pub step_named : Section → List ℕ → Option Step
step_named s line =
    if bytes_eq (word_at 1 line) (codes "invoke") then if_invoked s.threads (context_in (codes "t") (word_at 3 line))
    else
    if bytes_eq (word_at 1 line) (codes "enter") then if_entered (context_in (codes "x") (word_at 3 line)) else
    if bytes_eq (word_at 1 line) (codes "burst") then if_burst (context_in (codes "x") (word_at 2 line)) else
    if bytes_eq (word_at 1 line) (codes "stage") then Some step.Stage else
    if bytes_eq (word_at 1 line) (codes "arrive") then arrival_of s.seat.coming else None

-- the section after a step of its part
unfoldable pub section_after : Section → Step → Section
section_after s taken = record s {
  seat = part_after taken s.seat;
  threads = threads_after 0 s.index (event_of s.seat.run.state taken) s.threads;
}

-- the step may be taken, and the line is that of its event
abbrev pub is_line_of : Section → Step → List ℕ → Bool
is_line_of s taken line = enabled s.seat.run.state taken
    && bytes_eq line (event_line (suc (length s.seat.run.journal)) (event_of s.seat.run.state taken))

abbrev pub after_step : Section → List ℕ → Option Step → Option Section
after_step s line None = None
after_step s line (Some taken) = if is_line_of s taken line then Some (section_after s taken) else None

-- the section after a line of an event, if the line fits
unfoldable pub after_event : Section → List ℕ → Option Section
after_event s line = after_step s line (step_named s line)

abbrev pub has_nothing : {T : Type 0} → List T → Bool
has_nothing [] = true
has_nothing (item ∷ items) = false

-- a thread has invoked all its operations on the part, and has no open call
abbrev pub is_through : ThreadState → Bool
is_through t = has_nothing t.rest && is_none t.waiting

abbrev pub are_through : List ThreadState → Bool
are_through [] = true
are_through (t ∷ threads) = is_through t && are_through threads

-- all operations on the part were invoked and answered, all frames have arrived, and the part has no step left
unfoldable pub is_complete : Section → Bool
is_complete s = are_through s.threads && (has_nothing s.seat.coming && is_none (next_any s.seat.run.state))

-- the lines after a section's events
unfoldable pub section_end : Section → List ℕ
section_end s = final_lines s.spec.class s.seat.run.journal (losses s.seat.run.journal)
    (first_break s.spec.class s.spec.blocks s.seat.run.journal) s.seat.run.state

-- ---- the lines after the sections

-- what a section leaves: its part's journal, and what it answered each thread
pub record Done : Type 0 where
  pub journal : List Event
  pub answers : List (List (ℕ × Answer))

abbrev pub done_of : Section → Done
done_of s = record { journal = s.seat.run.journal; answers = map answers_of_thread s.threads }

abbrev pub answers_to : ℕ → Done → List (ℕ × Answer)
answers_to thread d = slice_index_or d.answers thread []

-- the answers of a script in its order: each operation takes the next answer that its part gave the thread
unfoldable pub in_script_order : List (ℕ × Op) → List (List (ℕ × Answer)) → List (ℕ × Answer)
in_script_order [] given = []
in_script_order (o ∷ ops) given = elim (slice_index_or given o.0 []) [
  | [] ↦ []
  | (a ∷ more) ↦ a ∷ in_script_order ops (slice_set given o.0 more)
]

-- the answers of each thread, from thread `thread` on
abbrev pub answers_in_order : ℕ → List ThreadSpec → List Done → List (List (ℕ × Answer))
answers_in_order thread [] sections = []
answers_in_order thread (t ∷ threads) sections =
    in_script_order t.ops (map (answers_to thread) sections) ∷ answers_in_order (suc thread) threads sections

-- events of a part, each with the part's index
abbrev pub each_of_part : ℕ → List Event → List (ℕ × Event)
each_of_part part [] = []
each_of_part part (e ∷ events) = (part, e) ∷ each_of_part part events

-- the events of the sections, one section after another, from that of part `part` on
abbrev pub published_in : ℕ → List Done → List (ℕ × Event)
published_in part [] = []
published_in part (d ∷ sections) = each_of_part part d.journal ++ published_in (suc part) sections

-- the program's own listeners: of failures, bursts and answers, of all parts, a million of each
abbrev pub own_listeners : List Listening
own_listeners =
    record { part_mask = 255; kind_mask = 32; limit = 1000000; total = 0 } ∷
    record { part_mask = 255; kind_mask = 4; limit = 1000000; total = 0 } ∷
    record { part_mask = 255; kind_mask = 64; limit = 1000000; total = 0 } ∷ []

abbrev pub journal_in : Done → List Event
journal_in d = d.journal

-- the threads with their answers, the totals of the program's own listeners, and the status
unfoldable pub last_lines : Scenario → List Done → List ℕ
last_lines scenario sections =
    threads_text 0 scenario.threads (answers_in_order 0 scenario.threads sections)
    ++ ending_text (map (λ l. tap_result l (published_in 0 sections)) own_listeners)
    (status_of scenario.parts (map journal_in sections))

-- ---- the fold over the lines

-- what an auditor knows between two lines: the finished sections, the open section, the text that must come next, the
-- parts that have had no line, and whether the lines after the sections have begun
pub record Auditing : Type 0 where
  pub sections : List Done
  pub current : Option Section
  pub due : List ℕ
  pub coming : List PartSpec
  pub last : Bool

unfoldable pub opening_audit : Scenario → Auditing
opening_audit scenario = record { sections = []; current = None; due = []; coming = scenario.parts; last = false }

-- the rest of a text after a line that it begins with
abbrev pub rest_after : List ℕ → List ℕ → Option (List ℕ)
rest_after [] text = Some text
rest_after (byte ∷ line) [] = None
rest_after (byte ∷ line) (first ∷ text) = if byte == first then rest_after line text else None

abbrev pub with_due : Auditing → Option (List ℕ) → Option Auditing
with_due a None = None
with_due a (Some due) = Some (record a { due = due })

-- the line is the next of the due text
abbrev pub is_next : Auditing → List ℕ → List ℕ → Option Auditing
is_next a line due = with_due a (rest_after line due)

abbrev pub with_section : Auditing → Option Section → Option Auditing
with_section a None = None
with_section a (Some s) = Some (record a { current = Some s })

-- the section is over
abbrev pub past_section : Auditing → Section → Auditing
past_section a s = record a { sections = a.sections ++ done_of s ∷ []; current = None }

-- a line of an open section: of an event, or the first after the events
abbrev pub in_section : Auditing → Section → List ℕ → Option Auditing
in_section a s line =
    if is_numbered line then with_section a (after_event s line) else
    if is_complete s then is_next (past_section a s) line (section_end s) else None

-- the first line of the next part
abbrev pub begin_section : Scenario → Auditing → PartSpec → List PartSpec → List ℕ → Option Auditing
begin_section scenario a spec coming line =
    if bytes_eq line (part_line (length a.sections) spec)
    then Some (record a {
      current = Some (opening_section scenario.threads (length a.sections) spec);
      coming = coming;
    }) else None

-- a line after a section: the first of the next part's section, or the first after the last section
abbrev pub between_sections : Scenario → Auditing → List PartSpec → List ℕ → Option Auditing
between_sections scenario a (spec ∷ coming) line = begin_section scenario a spec coming line
between_sections scenario a [] line =
    if a.last then None else is_next (record a { last = true }) line (last_lines scenario a.sections)

abbrev pub by_section : Scenario → Auditing → Option Section → List ℕ → Option Auditing
by_section scenario a None line = between_sections scenario a a.coming line
by_section scenario a (Some s) line = in_section a s line

abbrev pub by_due : Scenario → Auditing → List ℕ → List ℕ → Option Auditing
by_due scenario a [] line = by_section scenario a a.current line
by_due scenario a (byte ∷ due) line = is_next a line (byte ∷ due)

-- what the auditor knows after a line, if it fits
unfoldable pub after_line : Scenario → Auditing → List ℕ → Option Auditing
after_line scenario a line = if is_ended line then by_due scenario a a.due line else None

-- all lines of the report have come
abbrev pub is_over : Auditing → Bool
is_over a = a.last && has_nothing a.due

-- the number of the first line that does not fit; the first of these lines has number `number`
unfoldable pub first_unfit : Scenario → Auditing → ℕ → List (List ℕ) → Option ℕ
first_unfit scenario a number [] = if is_over a then None else Some number
first_unfit scenario a number (line ∷ lines) = elim (after_line scenario a line) [
  | None ↦ Some number
  | (Some b) ↦ first_unfit scenario b (suc number) lines
]

-- the number of the first line of a report that does not fit the scenario, from 1; one more than the number of lines if
-- lines are missing; none if every line fits and none is missing
unfoldable pub audited : Scenario → List ℕ → Option ℕ
audited scenario report = first_unfit scenario (opening_audit scenario) 1 (lines_of report)
