-- The lines after a section's events and those after the sections are whole; the first after the events is no event's.
use Rattle.std.proofs.Common.{◌≡◌, ℕ, zero, suc, Bool, true, false, Option, Some, None, List, [], ◌∷◌, ◌++◌, map, replicate, refl, bytes_eq, codes, decimal}
use Rattle.std.specs.List.{flat_map}
use Rattle.machine_defs.specs.Devices.{medium_of}
use Rattle.machine_defs.specs.Pages.{object_words, opening_object}
use Rattle.report_defs.specs.ReportLines.{answer_text, line_feed, spaced, with_list, with_number}
use Rattle.report_defs.specs.ReportText.{journal_acts, answer_lines, block_lines, contract_line, device_lines}
use Rattle.report_defs.specs.ReportText.{ending_text, final_lines, losses_lines, object_lines, played_line, status_line, status_of}
use Rattle.report_defs.specs.ReportText.{taps_text, thread_line, threads_text, wire_line}
use Rattle.report_defs.specs.Views.Reporting.{block_line, config_line, failures_line, object_line, tap_line}
use Rattle.report_defs.specs.Views.Reporting.{tap_text}
use Rattle.part_defs.specs.State.{PartState}
use Rattle.nook_io.specs.Listening.{tap_result}
use Rattle.nook_data.specs.declared.machine.Act.{Act}
use Rattle.nook_data.specs.declared.machine.Act.TheVariants as act
use Rattle.nook_data.specs.declared.calls.Answer.{Answer}
use Rattle.nook_data.specs.declared.verdicts.Break.{Break}
use Rattle.nook_data.specs.declared.classes.Class.{Class}
use Rattle.nook_data.specs.declared.classes.Class.TheVariants as class
use Rattle.nook_data.specs.declared.steps.Event.{Event}
use Rattle.nook_data.specs.declared.verdicts.Losses.{Losses}
use Rattle.nook_data.specs.declared.scenario.Scenario.{Scenario}
use Rattle.nook_data.specs.declared.scenario.ThreadSpec.{ThreadSpec}
use Rattle.part_laws.proofs.Indices.{split}
use Rattle.run_laws.proofs.Lines.{ended_after, ended_whole, is_whole, whole_both}
use Rattle.run_laws.specs.Audit.{Done, Section, answers_in_order, is_ended, is_numbered, journal_in, last_lines, own_listeners, published_in, section_end}

-- ---- pieces

abbrev IsEnded : List ℕ → Type 0
IsEnded text = is_ended text ≡ true

abbrev pub IsWhole : List ℕ → Type 0
IsWhole text = is_whole text ≡ true

-- a line feed and whole lines
feed_ended : (rest : List ℕ) → IsWhole rest → IsEnded (10 ∷ rest)
feed_ended [] h = refl
feed_ended (byte ∷ rest) h = h

-- a word, a number, and a text that ends in a line feed
number_ended : (text : List ℕ) (n : ℕ) (rest : List ℕ) → IsEnded rest → IsEnded (with_number text n ++ rest)
number_ended text n rest h = ended_after (with_number text n) rest h

-- whole lines, the first of which is not an event's
record ComesAfter (text : List ℕ) : Type 0 where
  whole : IsWhole text
  other : is_numbered text ≡ false

other_both : (a b : List ℕ) → is_numbered a ≡ false → is_numbered b ≡ false → is_numbered (a ++ b) ≡ false
other_both [] b h k = k
other_both (byte ∷ a) b h k = h

after_both : (a b : List ℕ) → ComesAfter a → ComesAfter b → ComesAfter (a ++ b)
after_both a b h k = record { whole = whole_both a b h.whole k.whole; other = other_both a b h.other k.other }

following_none : ComesAfter []
following_none = record { whole = refl; other = refl }

following_line : (text : List ℕ) → IsEnded text → is_numbered text ≡ false → ComesAfter text
following_line text h k = record { whole = ended_whole text h; other = k }

-- ---- objects and the device

object_after : (object : ℕ) (words : List ℕ) → ComesAfter (object_line object words)
object_after object words = split (bytes_eq words (opening_object object))
    (λ e. rw e following_none)
    (λ e. rw e (following_line (with_number (codes "object ") object ++ (with_list (codes " ") words ++ line_feed))
    (number_ended (codes "object ") object (with_list (codes " ") words ++ line_feed) (ended_after (with_list (codes " ") words) line_feed refl)) refl))

objects_after : (object more : ℕ) (memory : List ℕ) → ComesAfter (object_lines object more memory)
objects_after object zero memory = following_none
objects_after object (suc more) memory =
    after_both (object_line object (object_words object memory)) (object_lines (suc object) more memory)
    (object_after object (object_words object memory)) (objects_after (suc object) more memory)

block_after : (block : ℕ) (words : List ℕ) → ComesAfter (block_line block words)
block_after block words = split (bytes_eq words (replicate 16 0))
    (λ e. rw e following_none)
    (λ e. rw e (following_line (with_number (codes "disk ") block ++ (with_list (codes " ") words ++ line_feed))
    (number_ended (codes "disk ") block (with_list (codes " ") words ++ line_feed) (ended_after (with_list (codes " ") words) line_feed refl)) refl))

blocks_after : (block : ℕ) (medium : List (List ℕ)) → ComesAfter (block_lines block medium)
blocks_after block [] = following_none
blocks_after block (words ∷ medium) =
    after_both (block_line block words) (block_lines (suc block) medium) (block_after block words) (blocks_after (suc block) medium)

-- the lines of several acts
acts_following : (line : Act → List ℕ) → ((a : Act) → ComesAfter (line a)) → (acts : List Act) → ComesAfter (flat_map line acts)
acts_following line each [] = following_none
acts_following line each (a ∷ acts) = after_both (line a) (flat_map line acts) (each a) (acts_following line each acts)

wire_after : (a : Act) → ComesAfter (wire_line a)
wire_after (act.Sent frame) = following_line (wire_line (act.Sent frame)) (ended_after (with_list (codes "wire ") frame) line_feed refl) refl
wire_after (act.Load block) = following_none
wire_after (act.Store block words) = following_none
wire_after (act.Failed block store) = following_none
wire_after (act.Popped frame) = following_none
wire_after (act.Played word rate volume) = following_none
wire_after (act.Register key value) = following_none

played_after : (a : Act) → ComesAfter (played_line a)
played_after (act.Played word rate volume) = following_line (played_line (act.Played word rate volume))
    (number_ended (codes "played ") word (spaced rate ++ (spaced volume ++ line_feed))
    (number_ended (codes " ") rate (spaced volume ++ line_feed) (number_ended (codes " ") volume line_feed refl))) refl
played_after (act.Load block) = following_none
played_after (act.Store block words) = following_none
played_after (act.Failed block store) = following_none
played_after (act.Sent frame) = following_none
played_after (act.Popped frame) = following_none
played_after (act.Register key value) = following_none

device_following : (c : Class) (events : List Event) (p : PartState) → ComesAfter (device_lines c events p)
device_following class.Block events p = blocks_after 0 (medium_of p.domain.device)
device_following class.Net events p = acts_following wire_line wire_after (journal_acts events)
device_following class.Sound events p = acts_following played_line played_after (journal_acts events)

-- ---- the lines that each section has

-- numbers, each after a word, and a line feed
abbrev numbers_line : List (List ℕ × ℕ) → List ℕ
numbers_line [] = line_feed
numbers_line (number ∷ numbers) = with_number number.0 number.1 ++ numbers_line numbers

numbers_ended : (numbers : List (List ℕ × ℕ)) → IsEnded (numbers_line numbers)
numbers_ended [] = refl
numbers_ended (number ∷ numbers) = number_ended number.0 number.1 (numbers_line numbers) (numbers_ended numbers)

abbrev frame_numbers : Losses → List (List ℕ × ℕ)
frame_numbers n =
    (codes "frames arrived ", n.arrived) ∷ (codes " received ", n.received) ∷ (codes " queued ", n.queued) ∷ (codes " ring ", n.ring)
    ∷ (codes " driver ", n.driver) ∷ (codes " reset ", n.reset) ∷ (codes " full_ring ", n.full_ring) ∷ (codes " full_queue ", n.full_queue) ∷ []

losses_after : (c : Class) (n : Losses) → ComesAfter (losses_lines c n)
losses_after class.Block n = following_none
losses_after class.Net n = following_line (losses_lines class.Net n)
    (number_ended (codes "losses sends ") n.sends (line_feed ++ numbers_line (frame_numbers n))
    (ended_after line_feed (numbers_line (frame_numbers n)) (numbers_ended (frame_numbers n)))) refl
losses_after class.Sound n = following_line (losses_lines class.Sound n)
    (number_ended (codes "losses samples ") n.samples (with_number (codes " busy ") n.busy ++ line_feed)
    (number_ended (codes " busy ") n.busy line_feed refl)) refl

contract_ended : (verdict : Option Break) → IsEnded (contract_line verdict)
contract_ended None = refl
contract_ended (Some b) =
    number_ended (codes "contract broken event ") b.event (with_number (codes " clause ") b.clause ++ line_feed) (number_ended (codes " clause ") b.clause line_feed refl)

contract_other : (verdict : Option Break) → is_numbered (contract_line verdict) ≡ false
contract_other None = refl
contract_other (Some b) = refl

final_after : (c : Class) (events : List Event) (n : Losses) (verdict : Option Break) (p : PartState) → ComesAfter (final_lines c events n verdict p)
final_after c events n verdict p =
    after_both (object_lines 1 12 p.domain.memory) _ (objects_after 1 12 p.domain.memory)
    (after_both (device_lines c events p) _ (device_following c events p)
    (after_both (config_line p.log.config) (losses_lines c n ++ (failures_line p.failures ++ contract_line verdict))
    (following_line (config_line p.log.config) (ended_after (codes "config") (flat_map spaced p.log.config ++ line_feed) (ended_after (flat_map spaced p.log.config) line_feed refl)) refl)
    (after_both (losses_lines c n) (failures_line p.failures ++ contract_line verdict) (losses_after c n)
    (after_both (failures_line p.failures) (contract_line verdict)
    (following_line (failures_line p.failures) (number_ended (codes "failures ") p.failures line_feed refl) refl)
    (following_line (contract_line verdict) (contract_ended verdict) (contract_other verdict))))))

final_ended : (c : Class) (events : List Event) (n : Losses) (verdict : Option Break) (p : PartState) → IsEnded (final_lines c events n verdict p)
final_ended c events n verdict p =
    ended_after (object_lines 1 12 p.domain.memory) _
    (ended_after (device_lines c events p) (config_line p.log.config ++ (losses_lines c n ++ (failures_line p.failures ++ contract_line verdict)))
    (ended_after (config_line p.log.config) (losses_lines c n ++ (failures_line p.failures ++ contract_line verdict))
    (ended_after (losses_lines c n) (failures_line p.failures ++ contract_line verdict)
    (ended_after (failures_line p.failures) (contract_line verdict) (contract_ended verdict)))))

pub section_end_ended : (s : Section) → is_ended (section_end s) ≡ true
unfolding section_end
section_end_ended s = final_ended s.spec.class s.seat.run.journal _ _ s.seat.run.state

pub section_end_other : (s : Section) → is_numbered (section_end s) ≡ false
unfolding section_end
section_end_other s = (final_after s.spec.class s.seat.run.journal _ _ s.seat.run.state).other

-- ---- the lines after the sections

answers_whole : (index : ℕ) (answers : List (ℕ × Answer)) → IsWhole (answer_lines index answers)
answers_whole index [] = refl
answers_whole index (a ∷ answers) =
    ended_whole (answer_lines index (a ∷ answers))
    (ended_after (decimal index) (with_number (codes " p") a.0 ++ (codes " " ++ (answer_text a.1 ++ (line_feed ++ answer_lines (suc index) answers))))
    (number_ended (codes " p") a.0 (codes " " ++ (answer_text a.1 ++ (line_feed ++ answer_lines (suc index) answers)))
    (ended_after (codes " ") (answer_text a.1 ++ (line_feed ++ answer_lines (suc index) answers))
    (ended_after (answer_text a.1) (line_feed ++ answer_lines (suc index) answers) (feed_ended (answer_lines (suc index) answers) (answers_whole (suc index) answers))))))

thread_whole : (index : ℕ) (t : ThreadSpec) → IsWhole (thread_line index t)
thread_whole index t =
    ended_whole (thread_line index t)
    (number_ended (codes "thread ") index (codes " " ++ (t.name ++ line_feed)) (ended_after (codes " ") (t.name ++ line_feed) (ended_after t.name line_feed refl)))

threads_whole : (index : ℕ) (threads : List ThreadSpec) (answers : List (List (ℕ × Answer))) → IsWhole (threads_text index threads answers)
unfolding threads_text
threads_whole index [] answers = refl
threads_whole index (t ∷ threads) [] = refl
threads_whole index (t ∷ threads) (own ∷ answers) =
    whole_both (thread_line index t) (answer_lines 1 own ++ threads_text (suc index) threads answers) (thread_whole index t)
    (whole_both (answer_lines 1 own) (threads_text (suc index) threads answers) (answers_whole 1 own) (threads_whole (suc index) threads answers))

taps_whole : (index : ℕ) (taps : List (ℕ × Bool)) → IsWhole (taps_text index taps)
unfolding taps_text
taps_whole index [] = refl
taps_whole index (t ∷ taps) =
    whole_both (tap_line index t) (taps_text (suc index) taps)
    (ended_whole (tap_line index t)
    (number_ended (codes "tap ") index (with_number (codes " total ") t.0 ++ (tap_text t.1 ++ line_feed))
    (number_ended (codes " total ") t.0 (tap_text t.1 ++ line_feed) (ended_after (tap_text t.1) line_feed refl))))
    (taps_whole (suc index) taps)

ending_ended : (taps : List (ℕ × Bool)) (status : ℕ) → is_ended (ending_text taps status) ≡ true
ending_ended taps status =
    ended_after (taps_text 0 taps) (status_line status) (number_ended (codes "status ") status line_feed refl)

pub last_lines_ended : (scenario : Scenario) (sections : List Done) → is_ended (last_lines scenario sections) ≡ true
unfolding last_lines
last_lines_ended scenario sections =
    ended_after (threads_text 0 scenario.threads (answers_in_order 0 scenario.threads sections)) _
    (ending_ended (map (λ l. tap_result l (published_in 0 sections)) own_listeners) (status_of scenario.parts (map journal_in sections)))
