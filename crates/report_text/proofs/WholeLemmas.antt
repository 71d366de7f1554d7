-- A whole report: its rows by part and act, and the text that they make up.
use Rattle.std.proofs.Common.{◌≡◌, ℕ, zero, suc, ◌+◌, ◌++◌, ◌∷◌, [], List, Option, refl, sym, ap, ◌∙◌, add-one, append_assoc}
use Rattle.std.specs.List.{flat_map}
use Rattle.std.proofs.lemmas.List.Concat.{flat_map-append}
use Rattle.nook_data.specs.declared.verdicts.Break.{Break}
use Rattle.nook_data.specs.declared.classes.Class.{Class}
use Rattle.nook_data.specs.declared.classes.Class.TheVariants as class
use Rattle.nook_data.specs.declared.steps.Event.{Event}
use Rattle.nook_data.specs.declared.verdicts.Losses.{Losses}
use Rattle.nook_data.specs.declared.mirror.MirrorAnswer.{MirrorAnswer}
use Rattle.nook_data.specs.declared.scenario.PartSpec.{PartSpec}
use Rattle.nook_data.specs.declared.scenario.Scenario.{Scenario}
use Rattle.nook_data.specs.declared.scenario.ThreadSpec.{ThreadSpec}
use Rattle.promise_defs.specs.Contract.{first_break}
use Rattle.machine_defs.specs.Devices.{medium_of}
use Rattle.promise_defs.specs.Losses.{losses}
use Rattle.machine_defs.specs.Pages.{object_words}
use Rattle.report_defs.specs.ReportLines.{event_lines}
use Rattle.report_defs.specs.ReportText.{journal_acts, block_lines, contract_line, device_lines}
use Rattle.report_defs.specs.ReportText.{final_lines, losses_lines, object_lines, part_line}
use Rattle.report_defs.specs.ReportText.{ending_text, part_text, parts_text, played_line, report_text}
use Rattle.report_defs.specs.ReportText.{thread_line, threads_text, wire_line}
use Rattle.report_defs.specs.Views.Reporting.{config_line, failures_line, object_line}
use Rattle.report_defs.specs.Views.Reporting.{acts_of_event}
use Rattle.nook_data.specs.Views.Room.{Kept}
use Rattle.part_defs.specs.Runs.{state_of}
use Rattle.part_defs.specs.State.{PartState}
use Rattle.run_results.specs.declared.report.PartEnd.{PartEnd}
use Rattle.run_results.specs.declared.report.PartReport.{PartReport}
use Rattle.run_results.specs.declared.report.Report.{Report}
use Rattle.report_text.specs.declared.whole_text.Kind.TheVariants as kind
use Rattle.report_text.specs.Mirrored.{mirror_answer_line, mirror_report_rows, mirror_report_text, mirror_threads_text}
use Rattle.report_text.specs.Whole.{device_rows, event_text, final_rows, left_rows, part_rows, parts_rows, report_rows}
use Rattle.run_results.specs.Reports.{HaveEnds, IsReport, ShowsState, lists_of, objects_from, summaries, summary}
use Rattle.report_text.specs.Writing.{each_text}

-- ---- one item and the others

pub rows_first : (number : ℕ) (specs : List PartSpec) (journals : List (Kept Event)) (reports : List PartReport) (ends : List PartEnd)
    (s : PartSpec) (journal : Kept Event) (r : PartReport) (e : PartEnd)
    (more_specs : List PartSpec) (more_journals : List (Kept Event)) (more_reports : List PartReport) (more_ends : List PartEnd) →
    specs ≡ s ∷ more_specs → journals ≡ journal ∷ more_journals → reports ≡ r ∷ more_reports → ends ≡ e ∷ more_ends →
    parts_rows number specs journals reports ends
    ≡ part_rows number s journal.list r e ++ parts_rows (number + 1) more_specs more_journals more_reports more_ends
rows_first number specs journals reports ends s journal r e more_specs more_journals more_reports more_ends a b c d =
    rw (a, b, c, d, add-one number) refl

-- ---- one of the lists is empty

pub no_specs : (number : ℕ) (specs : List PartSpec) (journals : List (Kept Event)) (reports : List PartReport) (ends : List PartEnd) →
    specs ≡ [] → parts_rows number specs journals reports ends ≡ []
no_specs number specs journals reports ends h = rw h refl

pub no_journals : (number : ℕ) (specs : List PartSpec) (journals : List (Kept Event)) (reports : List PartReport) (ends : List PartEnd) →
    journals ≡ [] → parts_rows number specs journals reports ends ≡ []
no_journals number [] journals reports ends h = refl
no_journals number (s ∷ specs) journals reports ends h = rw h refl

pub no_reports : (number : ℕ) (specs : List PartSpec) (journals : List (Kept Event)) (reports : List PartReport) (ends : List PartEnd) →
    reports ≡ [] → parts_rows number specs journals reports ends ≡ []
no_reports number [] journals reports ends h = refl
no_reports number (s ∷ specs) [] reports ends h = refl
no_reports number (s ∷ specs) (journal ∷ journals) reports ends h = rw h refl

pub no_ends : (number : ℕ) (specs : List PartSpec) (journals : List (Kept Event)) (reports : List PartReport) (ends : List PartEnd) →
    ends ≡ [] → parts_rows number specs journals reports ends ≡ []
no_ends number [] journals reports ends h = refl
no_ends number (s ∷ specs) [] reports ends h = refl
no_ends number (s ∷ specs) (journal ∷ journals) [] ends h = refl
no_ends number (s ∷ specs) (journal ∷ journals) (r ∷ reports) ends h = rw h refl

-- ---- the rows are the text

wire_text : (number : ℕ) (events : List Event) → each_text (event_text kind.Frames) number events ≡ flat_map wire_line (journal_acts events)
wire_text number [] = refl
wire_text number (e ∷ events) =
    ap (λ more. flat_map wire_line (acts_of_event e) ++ more) (wire_text (suc number) events)
    ∙ sym (flat_map-append wire_line (acts_of_event e) (journal_acts events))

played_text : (number : ℕ) (events : List Event) → each_text (event_text kind.Samples) number events ≡ flat_map played_line (journal_acts events)
played_text number [] = refl
played_text number (e ∷ events) =
    ap (λ more. flat_map played_line (acts_of_event e) ++ more) (played_text (suc number) events)
    ∙ sym (flat_map-append played_line (acts_of_event e) (journal_acts events))

device_text : (c : Class) (events : List Event) (p : PartState) (medium : List (List ℕ)) → medium ≡ medium_of p.domain.device
    → device_rows c events medium ≡ device_lines c events p
device_text class.Block events p medium h = ap (block_lines 0) h
device_text class.Net events p medium h = wire_text 0 events
device_text class.Sound events p medium h = played_text 0 events

objects_text : (object count : ℕ) (memory : List ℕ)
    → each_text object_line object (objects_from object count memory) ≡ object_lines object count memory
objects_text object zero memory = refl
objects_text object (suc count) memory =
    ap (λ more. object_line object (object_words object memory) ++ more) (objects_text (suc object) count memory)

join : (a b c d x y z w l v : List ℕ) → a ≡ x → b ≡ y → c ≡ z → d ≡ w
    → a ++ (b ++ (c ++ (l ++ (d ++ v)))) ≡ x ++ (y ++ (z ++ (l ++ (w ++ v))))
join a b c d x y z w l v p q r s = rw (p, q, r, s) refl

final_text : (s : PartSpec) (c : Class) (events : List Event) (n : Losses) (verdict : Option Break) (p : PartState) (e : PartEnd) → ShowsState s p e
    → each_text object_line 1 e.objects ++ (device_rows c events e.medium ++ (config_line e.config
    ++ (losses_lines c n ++ (failures_line e.failures ++ contract_line verdict))))
    ≡ final_lines c events n verdict p
final_text s c events n verdict p e h =
    join (each_text object_line 1 e.objects) (device_rows c events e.medium) (config_line e.config) (failures_line e.failures)
    (object_lines 1 12 p.domain.memory) (device_lines c events p) (config_line p.log.config) (failures_line p.failures)
    (losses_lines c n) (contract_line verdict)
    (ap (each_text object_line 1) h.objects ∙ objects_text 1 12 p.domain.memory)
    (device_text c events p e.medium h.medium)
    (ap (λ words. config_line words) h.config)
    (ap (λ count. failures_line count) h.failures)

pub final_same : (s : PartSpec) (events : List Event) (r : PartReport) (p : PartState) (e : PartEnd) → ShowsState s p e
    → r.failures ≡ e.failures → final_rows s.class events r e ≡ final_lines s.class events r.losses r.first_break p
final_same s events r p e h k =
    ap (λ count. each_text object_line 1 e.objects ++ (device_rows s.class events e.medium ++ (config_line e.config
    ++ (losses_lines s.class r.losses ++ (failures_line count ++ contract_line r.first_break))))) k
    ∙ final_text s s.class events r.losses r.first_break p e h

join_three : (a b c x y z l : List ℕ) → a ≡ x → b ≡ y → c ≡ z → a ++ (b ++ (c ++ l)) ≡ x ++ (y ++ (z ++ l))
join_three a b c x y z l p q r = rw (p, q, r) refl

-- the lines of a part's final state, by that state
pub left_same : (s : PartSpec) (c : Class) (events : List Event) (n : Losses) (p : PartState) (e : PartEnd) → ShowsState s p e
    → left_rows c events n e
    ≡ object_lines 1 12 p.domain.memory ++ (device_lines c events p ++ (config_line p.log.config ++ losses_lines c n))
left_same s c events n p e h =
    join_three (each_text object_line 1 e.objects) (device_rows c events e.medium) (config_line e.config)
    (object_lines 1 12 p.domain.memory) (device_lines c events p) (config_line p.log.config) (losses_lines c n)
    (ap (each_text object_line 1) h.objects ∙ objects_text 1 12 p.domain.memory)
    (device_text c events p e.medium h.medium)
    (ap (λ words. config_line words) h.config)

part_same : (number : ℕ) (s : PartSpec) (events : List Event) (e : PartEnd) → ShowsState s (state_of s events) e
    → part_rows number s events (summary s events e) e ≡ part_text number s events
unfolding part_text
part_same number s events e h =
    ap (λ more. part_line number s ++ (event_lines 1 events ++ more))
    (final_text s s.class events (losses events) (first_break s.class s.blocks events) (state_of s events) e h)

parts_same : (number : ℕ) (specs : List PartSpec) (journals : List (Kept Event)) (ends : List PartEnd) → HaveEnds specs journals ends
    → parts_rows number specs journals (summaries specs journals ends) ends ≡ parts_text number specs (lists_of journals)
unfolding parts_text
parts_same number [] journals ends h = refl
parts_same number (s ∷ specs) [] ends h = refl
parts_same number (s ∷ specs) (journal ∷ journals) [] h = absurd h
parts_same number (s ∷ specs) (journal ∷ journals) (e ∷ ends) h =
    ap (λ front. front ++ parts_rows (suc number) specs journals (summaries specs journals ends) ends)
    (part_same number s journal.list e h.0)
    ∙ ap (λ more. part_text number s journal.list ++ more) (parts_same (suc number) specs journals ends h.1)

-- ---- the whole report

pub rows_are_text : (scenario : Scenario) (r : Report) → IsReport scenario r
    → report_rows scenario r ≡ report_text scenario (lists_of r.run.journals) r.run.answers r.run.taps r.status
unfolding report_text
rows_are_text scenario r h =
    ap (λ front. front ++ (threads_text 0 scenario.threads r.run.answers ++ ending_text r.run.taps r.status))
    (ap (λ parts. parts_rows 0 scenario.parts r.run.journals parts r.ends) h.parts
    ∙ parts_same 0 scenario.parts r.run.journals r.ends h.ends)

pub mirror_rows_are_text : (scenario : Scenario) (r : Report) (answers : List MirrorAnswer) (status : ℕ) → IsReport scenario r
    → mirror_report_rows scenario r answers status
    ≡ mirror_report_text scenario (lists_of r.run.journals) answers r.run.taps status
unfolding mirror_report_text
mirror_rows_are_text scenario r answers status h =
    ap (λ front. front ++ (mirror_threads_text scenario.threads answers ++ ending_text r.run.taps status))
    (ap (λ parts. parts_rows 0 scenario.parts r.run.journals parts r.ends) h.parts
    ∙ parts_same 0 scenario.parts r.run.journals r.ends h.ends)

pub mirror_threads_first : (threads : List ThreadSpec) (answers : List MirrorAnswer) (t : ThreadSpec) (more : List ThreadSpec)
    → threads ≡ t ∷ more → mirror_threads_text threads answers ≡ thread_line 0 t ++ each_text mirror_answer_line 1 answers
unfolding mirror_threads_text
mirror_threads_first threads answers t more h = rw h refl

pub mirror_threads_none : (threads : List ThreadSpec) (answers : List MirrorAnswer) → threads ≡ []
    → mirror_threads_text threads answers ≡ []
unfolding mirror_threads_text
mirror_threads_none threads answers h = rw h refl

-- ---- a text with one more piece

pub piece_more : (old mid new x y : List ℕ) → mid ≡ old ++ x → new ≡ mid ++ y → new ≡ old ++ (x ++ y)
piece_more old mid new x y e h = h ∙ (ap (λ t. t ++ y) e ∙ append_assoc old x y)
