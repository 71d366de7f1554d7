-- What is found after a section's events and after the last section.
use Rattle.std.proofs.Common.{◌≡◌, ℕ, Bool, true, false, Option, Some, None, List, [], ◌∷◌, ◌++◌, if◌then◌else◌, drop, length, map, Result, Ok, Err, OnOk, refl, sym, ap, subst, ◌∙◌}
use Rattle.run_laws.specs.Audit.{Auditing, Done, Section, after_line, answers_in_order, done_of, first_unfit, has_nothing, is_complete, is_ended, is_numbered, last_lines, lines_of, own_listeners, published_in, section_end}
use Rattle.report_defs.specs.ReportText.{ending_text, final_lines, threads_text}
use Rattle.part_defs.specs.Runs.{PartRun}
use Rattle.nook_data.specs.declared.steps.Event.{Event}
use Rattle.nook_data.specs.declared.calls.Answer.{Answer}
use Rattle.nook_data.specs.declared.scenario.ThreadSpec.{ThreadSpec}
use Rattle.nook_data.specs.declared.scenario.PartSpec.{PartSpec}
use Rattle.nook_data.specs.declared.scenario.Scenario.{Scenario}
use Rattle.request_taps.specs.Bus.{result_of}
use Rattle.request_taps.proofs.Totals.{all_totals}
use Rattle.run_results.specs.declared.report.PartEnd.{PartEnd}
use Rattle.run_results.specs.declared.report.PartReport.{PartReport}
use Rattle.report_text.specs.Writing.{Wrote}
use Rattle.report_text.specs.declared.write.WriteStop.{WriteStop}
use Rattle.journal_audit.specs.Comparisons.{Comparison, change_in, untouched}
use Rattle.part_defs.specs.State.{PartState}
use Rattle.run_results.specs.Reports.{ShowsState}
use Rattle.run_ends.specs.Ends.{end_of, objects_in}
use Rattle.journal_audit.specs.Found.{at_last, between, found_from, inside}
use Rattle.journal_audit.specs.Position.{Departs, Follows, IsEnding, Position}
use Rattle.journal_audit.specs.Stopping.{Checks, OnUnfit}
use Rattle.journal_audit.specs.declared.stop.Stop.{Stop}
use Rattle.journal_audit.specs.declared.stop.Stop.TheVariants as stops
use Rattle.journal_audit.specs.PastSections.{SumsUp, Past, judged_in}
use Rattle.journal_audit.proofs.Taken.{Held}
use Rattle.journal_audit.proofs.Lines.{due_departed, due_followed, owing}

-- ---- one line

same_step : (scenario : Scenario) (a b : Auditing) (number : ℕ) (line : List ℕ) (lines : List (List ℕ))
    → after_line scenario a line ≡ after_line scenario b line
    → first_unfit scenario a number (line ∷ lines) ≡ first_unfit scenario b number (line ∷ lines)
unfolding first_unfit
same_step scenario a b number line lines e = rw (e, first_unfit) refl

no_step : (scenario : Scenario) (a : Auditing) (number : ℕ) (line : List ℕ) (lines : List (List ℕ))
    → after_line scenario a line ≡ None → first_unfit scenario a number (line ∷ lines) ≡ Some number
unfolding first_unfit
no_step scenario a number line lines e = rw (e, first_unfit) refl

-- ---- after a section's events

ending_step : (scenario : Scenario) (sections : List Done) (s : Section) (coming : List PartSpec) (line due : List ℕ)
    → section_end s ≡ due → is_ended due ≡ true → is_ended line ≡ true → is_numbered line ≡ false → is_complete s ≡ true
    → after_line scenario (inside sections s coming) line
    ≡ after_line scenario (owing (between (sections ++ done_of s ∷ []) coming) due) line
unfolding after_line
ending_step scenario sections s coming line [] e h ended other complete = absurd (cc)
ending_step scenario sections s coming line (byte ∷ due) e h ended other complete = rw (ended, other, complete, e) refl

-- if a complete section is over, its last lines are due
pub ending_due : (scenario : Scenario) (sections : List Done) (s : Section) (coming : List PartSpec) (p : Position) → IsEnding p
    → is_complete s ≡ true → is_ended (section_end s) ≡ true → found_from scenario (inside sections s coming) p
    ≡ found_from scenario (owing (between (sections ++ done_of s ∷ []) coming) (section_end s)) p
ending_due scenario sections s coming p n complete h =
    rw n.next.lines
    (same_step scenario (inside sections s coming) (owing (between (sections ++ done_of s ∷ []) coming) (section_end s)) p.number n.line
    (lines_of (drop (length n.line) p.rest))
    (ending_step scenario sections s coming n.line (section_end s) refl h n.next.ended n.other complete))

early_step : (scenario : Scenario) (sections : List Done) (s : Section) (coming : List PartSpec) (line : List ℕ)
    → is_ended line ≡ true → is_numbered line ≡ false → is_complete s ≡ false
    → after_line scenario (inside sections s coming) line ≡ None
unfolding after_line
early_step scenario sections s coming line ended other early = rw (ended, other, early) refl

-- a section that is not complete has no end
pub ending_early : (scenario : Scenario) (sections : List Done) (s : Section) (coming : List PartSpec) (p : Position) → IsEnding p
    → is_complete s ≡ false → found_from scenario (inside sections s coming) p ≡ Some p.number
ending_early scenario sections s coming p n early =
    rw n.next.lines
    (no_step scenario (inside sections s coming) p.number n.line (lines_of (drop (length n.line) p.rest))
    (early_step scenario sections s coming n.line n.next.ended n.other early))

-- ---- after the last section

last_step : (scenario : Scenario) (sections : List Done) (line due : List ℕ) → last_lines scenario sections ≡ due
    → is_ended due ≡ true → after_line scenario (between sections []) line ≡ after_line scenario (owing (at_last sections []) due) line
unfolding after_line
last_step scenario sections line [] e h = absurd (cc)
last_step scenario sections line (byte ∷ due) e h = rw e refl

last_none : (due : List ℕ) (number : ℕ) → is_ended due ≡ true → Some number ≡ (if has_nothing due then None else Some number)
last_none [] number h = absurd (cc)
last_none (byte ∷ due) number h = refl

last_from : (scenario : Scenario) (sections : List Done) (due : List ℕ) (number : ℕ) (lines : List (List ℕ))
    → last_lines scenario sections ≡ due → is_ended due ≡ true
    → first_unfit scenario (between sections []) number lines ≡ first_unfit scenario (owing (at_last sections []) due) number lines
unfolding first_unfit
last_from scenario sections due number [] e h = last_none due number h
last_from scenario sections due number (line ∷ lines) e h =
    same_step scenario (between sections []) (owing (at_last sections []) due) number line lines (last_step scenario sections line due e h)

-- if no part is to come, the lines after the sections are due
pub last_due : (scenario : Scenario) (sections : List Done) (p : Position) → is_ended (last_lines scenario sections) ≡ true
    → found_from scenario (between sections []) p ≡ found_from scenario (owing (at_last sections []) (last_lines scenario sections)) p
last_due scenario sections p h = last_from scenario sections (last_lines scenario sections) p.number (lines_of p.rest) refl h

-- what was summed up gives these lines
last_of : (scenario : Scenario) (sections : List Done) (t : Past) → SumsUp scenario.parts sections t
    → threads_text 0 scenario.threads (answers_in_order 0 scenario.threads sections)
    ++ ending_text (map result_of t.taps) (if t.broken then 7 else if t.given_up then 1 else 0)
    ≡ last_lines scenario sections
unfolding last_lines
last_of scenario sections t sums =
    rw (sums.broken, sums.given_up, sums.taps, all_totals own_listeners (published_in 0 sections)) refl

pub last_text : (scenario : Scenario) (sections : List Done) (t : Past) (threads : List ThreadSpec) (answers : List (List (ℕ × Answer)))
    (taps : List (ℕ × Bool)) (status : ℕ) → SumsUp scenario.parts sections t → scenario.threads ≡ threads
    → answers ≡ answers_in_order 0 threads sections → taps ≡ map result_of t.taps
    → status ≡ (if t.broken then 7 else if t.given_up then 1 else 0)
    → threads_text 0 threads answers ++ ending_text taps status ≡ last_lines scenario sections
last_text scenario sections t threads answers taps status sums e a l s =
    rw (a, l, s, ← e) (last_of scenario sections t sums)

-- ---- what was compared with a due text

-- the text was there in full, or this is the line at which it was not
pub due_checked : (r : Result (Unit {0}) Stop) (scenario : Scenario) (a : Auditing) (text : List ℕ) (p q : Position) → is_ended text ≡ true
    → OnOk r (Follows text p q) → OnUnfit r (Departs text p)
    → Checks r (found_from scenario (owing a text) p) (found_from scenario (owing a []) q)
due_checked (Ok done) scenario a text p q h follows departs = due_followed scenario a text p q h follows
due_checked (Err (stops.Unfit line)) scenario a text p q h follows departs = due_departed scenario a text p line h departs
due_checked (Err stops.NoMemory) scenario a text p q h follows departs = tt

-- after a comparison that was settled, the text is complete before the new position
pub settled_ok : (r : Result (Unit {0}) Stop) (c : Comparison) (written : Result (Unit {0}) WriteStop) (text : List ℕ) (p q : Position)
    → Held c p.rest written text
    → OnOk r ((t : List ℕ) → Wrote (change_in (untouched p.rest) c) written t → Follows t p q)
    → OnOk r (Follows text p q)
settled_ok (Ok done) c written text p q h f = f text h.is
settled_ok (Err stop) c written text p q h f = tt

-- or it departs from the text at a line
pub settled_unfit : (r : Result (Unit {0}) Stop) (c : Comparison) (written : Result (Unit {0}) WriteStop) (text : List ℕ) (p : Position)
    → Held c p.rest written text
    → OnUnfit r (λ line. (t : List ℕ) → Wrote (change_in (untouched p.rest) c) written t
    → Departs t p line) → OnUnfit r (Departs text p)
settled_unfit (Ok done) c written text p h f = tt
settled_unfit (Err (stops.Unfit line)) c written text p h f = f text h.is
settled_unfit (Err stops.NoMemory) c written text p h f = tt

-- ---- how a section's part ends

-- the end of a part shows the part's state
ends_shown : (spec : PartSpec) (p : PartState) (end : PartEnd) → p.spec ≡ spec → end ≡ end_of p → ShowsState spec p end
unfolding end_of objects_in
ends_shown spec p end e same = rw same (record {
  objects = refl;
  medium = refl;
  config = refl;
  failures = refl;
  limit = ap (λ (s : PartSpec). s.limit) e;
})

same_failures : (s : Section) (judged : PartReport) (end : PartEnd) → judged ≡ judged_in s → end ≡ end_of s.seat.run.state
    → judged.failures ≡ end.failures
unfolding end_of
same_failures s judged end j e = ap (λ (r : PartReport). r.failures) j ∙ ap (λ (x : PartEnd). x.failures) (sym e)

section_text : (s : Section) (spec : PartSpec) (events : List Event) (judged : PartReport) → spec ≡ s.spec → events ≡ s.seat.run.journal
    → judged ≡ judged_in s
    → final_lines spec.class events judged.losses judged.first_break s.seat.run.state ≡ section_end s
unfolding section_end
section_text s spec events judged e j r = rw (e, j, r) refl

-- what holds of the lines written after a section's events
pub end_written : (s : Section) (run : PartRun) (spec : PartSpec) (events : List Event) (judged : PartReport) (end : PartEnd)
    (holds : List ℕ → Type 0) → run ≡ s.seat.run → s.seat.run.state.spec ≡ s.spec → spec ≡ s.spec → events ≡ s.seat.run.journal
    → judged ≡ judged_in s → end ≡ end_of run.state
    → ((state : PartState) → ShowsState spec state end → judged.failures ≡ end.failures
    → holds (final_lines spec.class events judged.losses judged.first_break state)) → holds (section_end s)
end_written s run spec events judged end holds same kept e j r ends f =
    let ended = ends ∙ ap (λ (x : PartRun). end_of x.state) same in
    subst holds (section_text s spec events judged e j r)
    (f s.seat.run.state (ends_shown spec s.seat.run.state end (kept ∙ sym e) ended) (same_failures s judged end r ended))

-- if the report departs from a due text, that line is found, whatever was to be found after the text
pub departs_found : (A B : Type 0) (stop : Stop) (scenario : Scenario) (a : Auditing) (text : List ℕ) (p : Position) (before after : Option ℕ)
    → is_ended text ≡ true → before ≡ found_from scenario (owing a text) p → OnUnfit {T = A} (Err stop) (Departs text p)
    → Checks {T = B} (Err stop) before after
departs_found A B (stops.Unfit line) scenario a text p before after h same departs = same ∙ due_departed scenario a text p line h departs
departs_found A B stops.NoMemory scenario a text p before after h same departs = tt
