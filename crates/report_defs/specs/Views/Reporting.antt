use Rattle.std.specs.Prelude.{bytes_eq, replicate, ℕ, Bool, List, [], ◌∷◌, ◌++◌, flat_map, codes, if◌then◌else◌}
use Rattle.machine_defs.specs.Pages.{opening_object}
use Rattle.report_defs.specs.ReportLines.{line_feed, spaced, answer_text, inner_words}
use Rattle.report_defs.specs.ReportLines.{released_text, with_list, with_number}
use Rattle.nook_data.specs.Types.{Act, Answer, Entry}
use Rattle.nook_data.specs.Types.{Event}
use Rattle.nook_data.specs.declared.steps.Event.TheVariants as event

-- Names for pieces of a report's lines, for the contracts of the code that writes them and the laws of
-- reports.

-- the words, each after a comma
abbrev pub comma_words : List ℕ → List ℕ
comma_words words = flat_map (with_number (codes ",")) words

-- words in brackets, with commas
abbrev pub words_text : List ℕ → List ℕ
words_text words = codes "[" ++ (inner_words words ++ codes "]")

-- the failed command on a block
abbrev pub failed_text : Bool → List ℕ
failed_text store = if store then codes "failed store " else codes "failed load "

-- the words that a kernel call moved, if there are any
abbrev pub moved_text : List ℕ → List ℕ
moved_text [] = []
moved_text (word ∷ words) = with_list (codes " ") (word ∷ words)

-- whether a buffer may be written
abbrev pub right_text : Bool → List ℕ
right_text writable = if writable then codes " write" else codes " read"

-- answers at the end of a line
abbrev pub answers_tail : List (ℕ × Answer) → List ℕ
answers_tail answers = flat_map (λ a. with_number (codes " -> c") a.0 ++ (codes " " ++ answer_text a.1)) answers

-- entries at the end of a line
abbrev pub released_tail : List Entry → List ℕ
released_tail released = flat_map released_text released

-- whether the ring took a frame
abbrev pub kept_text : Bool → List ℕ
kept_text kept = if kept then codes " kept" else codes " lost"

-- the acts of a burst
abbrev pub acts_of_event : Event → List Act
acts_of_event (event.Burst context call burst count end acts a failure) = acts
acts_of_event e = []

-- whether a listener is still attached
abbrev pub tap_text : Bool → List ℕ
tap_text kept = if kept then codes " kept" else codes " dropped"

-- a kernel object, if it differs from its initial words
abbrev pub object_line : ℕ → List ℕ → List ℕ
object_line object words =
    if bytes_eq words (opening_object object) then []
    else with_number (codes "object ") object ++ (with_list (codes " ") words ++ line_feed)

-- a block, if it has a word other than 0
abbrev pub block_line : ℕ → List ℕ → List ℕ
block_line block words =
    if bytes_eq words (replicate 16 0) then []
    else with_number (codes "disk ") block ++ (with_list (codes " ") words ++ line_feed)

-- the line of the record
abbrev pub config_line : List ℕ → List ℕ
config_line config = codes "config" ++ (flat_map spaced config ++ line_feed)

-- the line of the failures
abbrev pub failures_line : ℕ → List ℕ
failures_line failures = with_number (codes "failures ") failures ++ line_feed

-- a listener's total, and whether it is still attached
abbrev pub tap_line : ℕ → ℕ × Bool → List ℕ
tap_line number t =
    with_number (codes "tap ") number ++ (with_number (codes " total ") t.0 ++ (tap_text t.1 ++ line_feed))
