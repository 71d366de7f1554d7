use Rattle.std.specs.Prelude.{ℕ, zero, suc, Bool, false, List, [], ◌∷◌, ◌++◌, replicate, flat_map, Option, Some}
use Rattle.std.specs.Prelude.{None, is_some, ◌+◌, ◌||◌, if◌then◌else◌, bytes_eq, codes, decimal}
use Rattle.promise_defs.specs.Contract.{first_break}
use Rattle.machine_defs.specs.Devices.{medium_of}
use Rattle.nook_data.specs.ClassNames.{class_text}
use Rattle.promise_defs.specs.Losses.{losses}
use Rattle.machine_defs.specs.Pages.{object_words}
use Rattle.machine_defs.specs.Pages.{opening_object}
use Rattle.report_defs.specs.ReportLines.{with_number, spaced, with_list, line_feed, answer_text}
use Rattle.report_defs.specs.ReportLines.{event_lines}
use Rattle.part_defs.specs.Runs.{state_of}
use Rattle.part_defs.specs.Stages.{is_given_up}
use Rattle.part_defs.specs.State.{PartState}
use Rattle.nook_data.specs.Types.{Act}
use Rattle.nook_data.specs.Types.{Answer, Break, Class, Event, Losses, PartSpec, Scenario, ThreadSpec}
use Rattle.nook_data.specs.declared.classes.Class.TheVariants as class
use Rattle.nook_data.specs.declared.machine.Act.TheVariants as act
use Rattle.nook_data.specs.declared.steps.Event.TheVariants as event
use Rattle.run_defs.specs.Simulation.{events_count}

-- The text of a report: the parts in order, followed by the threads, the taps and the status.

-- ---- a part's first line

-- part P NAME CLASS limit L
abbrev pub part_line : ℕ → PartSpec → List ℕ
part_line number s =
    with_number (codes "part ") number ++ (codes " " ++ (s.name ++ (codes " " ++ (class_text s.class
    ++ (with_number (codes " limit ") s.limit ++ line_feed)))))

-- ---- lines of the final state after a journal

-- this many objects from one on, each only if it differs from its initial words
abbrev pub object_lines : ℕ → ℕ → List ℕ → List ℕ
object_lines object zero memory = []
object_lines object (suc more) memory = let words = object_words object memory in
    (if bytes_eq words (opening_object object) then []
    else with_number (codes "object ") object ++ (with_list (codes " ") words ++ line_feed))
    ++ object_lines (suc object) more memory

-- the blocks of a medium, the first of them number `block`, each only if it has a word other than 0
abbrev pub block_lines : ℕ → List (List ℕ) → List ℕ
block_lines block [] = []
block_lines block (words ∷ medium) =
    (if bytes_eq words (replicate 16 0) then []
    else with_number (codes "disk ") block ++ (with_list (codes " ") words ++ line_feed))
    ++ block_lines (suc block) medium

-- the acts of a journal, which are those of its bursts
abbrev pub journal_acts : List Event → List Act
journal_acts events =
    flat_map (λ e. elim e [ (event.Burst context call burst count end acts a failure) ↦ acts | _ ↦ [] ]) events

-- the line of an act that sent a frame
abbrev pub wire_line : Act → List ℕ
wire_line (act.Sent frame) = with_list (codes "wire ") frame ++ line_feed
wire_line a = []

-- the line of an act that played a sample
abbrev pub played_line : Act → List ℕ
played_line (act.Played word rate volume) =
    with_number (codes "played ") word ++ (spaced rate ++ (spaced volume ++ line_feed))
played_line a = []

-- the medium that was left, or the frames or samples that were output
abbrev pub device_lines : Class → List Event → PartState → List ℕ
device_lines class.Block events p = block_lines 0 (medium_of p.domain.device)
device_lines class.Net events p = flat_map wire_line (journal_acts events)
device_lines class.Sound events p = flat_map played_line (journal_acts events)

-- the losses that are reported for a class
abbrev pub losses_lines : Class → Losses → List ℕ
losses_lines class.Block n = []
losses_lines class.Net n =
    with_number (codes "losses sends ") n.sends ++ (line_feed
    ++ (with_number (codes "frames arrived ") n.arrived ++ (with_number (codes " received ") n.received
    ++ (with_number (codes " queued ") n.queued ++ (with_number (codes " ring ") n.ring
    ++ (with_number (codes " driver ") n.driver ++ (with_number (codes " reset ") n.reset
    ++ (with_number (codes " full_ring ") n.full_ring
    ++ (with_number (codes " full_queue ") n.full_queue ++ line_feed)))))))))
losses_lines class.Sound n =
    with_number (codes "losses samples ") n.samples ++ (with_number (codes " busy ") n.busy ++ line_feed)

-- the line of the verdict on the driver
abbrev pub contract_line : Option Break → List ℕ
contract_line None = codes "contract kept" ++ line_feed
contract_line (Some b) =
    with_number (codes "contract broken event ") b.event ++ (with_number (codes " clause ") b.clause ++ line_feed)

-- the lines after the events of a part, given the journal's losses, its verdict and the final state: the
-- objects, the medium or output of the device, the record, the losses, the failures and the verdict
abbrev pub final_lines : Class → List Event → Losses → Option Break → PartState → List ℕ
final_lines c events n verdict p =
    object_lines 1 12 p.domain.memory ++ (device_lines c events p
    ++ ((codes "config" ++ (flat_map spaced p.log.config ++ line_feed))
    ++ (losses_lines c n ++ ((with_number (codes "failures ") p.failures ++ line_feed) ++ contract_line verdict))))

-- a part's lines
unfoldable pub part_text : ℕ → PartSpec → List Event → List ℕ
part_text number s events =
    part_line number s ++ (event_lines 1 events
    ++ final_lines s.class events (losses events) (first_break s.class s.blocks events) (state_of s events))

-- the parts, numbered from `number` on, each with its journal; there is a journal for each part
unfoldable pub parts_text : ℕ → List PartSpec → List (List Event) → List ℕ
parts_text number [] journals = []
parts_text number (s ∷ specs) [] = []
parts_text number (s ∷ specs) (events ∷ journals) = part_text number s events ++ parts_text (suc number) specs journals

-- ---- threads, taps, the status

-- a thread's first line
abbrev pub thread_line : ℕ → ThreadSpec → List ℕ
thread_line number t = with_number (codes "thread ") number ++ (codes " " ++ (t.name ++ line_feed))

-- the answers of a thread, numbered from `number` on: K pP ANSWER
abbrev pub answer_lines : ℕ → List (ℕ × Answer) → List ℕ
answer_lines number [] = []
answer_lines number (a ∷ answers) =
    decimal number
    ++ (with_number (codes " p") a.0
    ++ (codes " " ++ (answer_text a.1 ++ (line_feed ++ answer_lines (suc number) answers))))

-- the threads, numbered from `number` on, each with its answers; there is a list for each thread
unfoldable pub threads_text : ℕ → List ThreadSpec → List (List (ℕ × Answer)) → List ℕ
threads_text number [] answers = []
threads_text number (t ∷ threads) [] = []
threads_text number (t ∷ threads) (own ∷ answers) =
    thread_line number t ++ (answer_lines 1 own ++ threads_text (suc number) threads answers)

-- the listeners, numbered from `number` on, each with its total and whether it is still attached
unfoldable pub taps_text : ℕ → List (ℕ × Bool) → List ℕ
taps_text number [] = []
taps_text number (t ∷ taps) =
    (with_number (codes "tap ") number
    ++ (with_number (codes " total ") t.0 ++ ((if t.1 then codes " kept" else codes " dropped") ++ line_feed)))
    ++ taps_text (suc number) taps

-- the last line
abbrev pub status_line : ℕ → List ℕ
status_line status = with_number (codes "status ") status ++ line_feed

-- the lines after the threads: the listeners, and the status
abbrev pub ending_text : List (ℕ × Bool) → ℕ → List ℕ
ending_text taps status = taps_text 0 taps ++ status_line status

-- some part broke its contract; there is a journal for each part
unfoldable pub has_break : List PartSpec → List (List Event) → Bool
has_break [] journals = false
has_break (s ∷ specs) [] = false
has_break (s ∷ specs) (events ∷ journals) =
    is_some (first_break s.class s.blocks events) || has_break specs journals

-- some part was given up; there is a journal for each part
unfoldable pub has_given_up : List PartSpec → List (List Event) → Bool
has_given_up [] journals = false
has_given_up (s ∷ specs) [] = false
has_given_up (s ∷ specs) (events ∷ journals) = is_given_up (state_of s events) || has_given_up specs journals

-- the status of a run: 7 if a part broke its contract, else 1 if a part was given up, else 0
abbrev pub status_of : List PartSpec → List (List Event) → ℕ
status_of specs journals = if has_break specs journals then 7 else if has_given_up specs journals then 1 else 0

-- the report of a scenario's journals, its threads' answers, its listeners' totals and a status
unfoldable pub report_text : Scenario → List (List Event) → List (List (ℕ × Answer)) → List (ℕ × Bool) → ℕ → List ℕ
report_text scenario journals answers taps status =
    parts_text 0 scenario.parts journals ++ (threads_text 0 scenario.threads answers ++ ending_text taps status)

-- ---- the summary line of a generated scenario

-- the number of failures in the events; there is a journal for each part
unfoldable pub failures_count : List PartSpec → List (List Event) → ℕ
failures_count [] journals = 0
failures_count (s ∷ specs) [] = 0
failures_count (s ∷ specs) (events ∷ journals) = (state_of s events).failures + failures_count specs journals

-- gen N events E failures F status S
abbrev pub gen_line : ℕ → ℕ → ℕ → ℕ → List ℕ
gen_line n events failures status =
    codes "gen " ++ decimal n ++ codes " events " ++ decimal events ++ codes " failures " ++ decimal failures
    ++ codes " status " ++ decimal status ++ line_feed

-- the summary line of the journals of some parts
unfoldable pub summary_line : ℕ → List PartSpec → List (List Event) → List ℕ
summary_line n specs journals =
    gen_line n (events_count journals) (failures_count specs journals) (status_of specs journals)
