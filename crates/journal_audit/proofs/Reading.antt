-- Consecutive lines of events: the section to which they lead, and that they fit.
use Rattle.std.proofs.Common.{◌≡◌, ℕ, suc, ◌+◌, Bool, true, Option, Some, None, List, [], ◌∷◌, ◌++◌, length, refl, sym, ap, ◌∙◌, subst, append_assoc, append-nil, add-zero, length-append, arith}
use Rattle.std.proofs.lemmas.Bool.{and_parts}
use Rattle.std.proofs.lemmas.Slice.Eq.{bytes_eq-Decides}
use Rattle.nook_data.proofs.Options.{none_is_some, same_inside}
use Rattle.nook_data.specs.declared.steps.Event.{Event}
use Rattle.nook_data.specs.declared.steps.Step.{Step}
use Rattle.part_defs.specs.Runs.{event_of, step_of}
use Rattle.part_defs.specs.Steps.{enabled}
use Rattle.part_laws.proofs.Indices.{split}
use Rattle.part_laws.proofs.RunsDetermined.{step_named as step_of_event}
use Rattle.report_defs.specs.ReportLines.{event_line, event_lines}
use Rattle.run_laws.proofs.Nexts.{named_next}
use Rattle.run_laws.specs.Audit.{Section, after_event, after_step, is_line_of, is_numbered, section_after, step_named}
use Rattle.run_laws.specs.Fitting.{FitsFrom, IsNext, section_from}
use Rattle.journal_audit.proofs.Finding.{OfPart, event_fits, event_same_part, line_fits}
use Rattle.journal_audit.proofs.Following.{follows_both, follows_none, line_passed}
use Rattle.journal_audit.specs.Found.{inside}
use Rattle.journal_audit.specs.Position.{Follows, IsNextLine, PassesLine, Position, past}
use Rattle.journal_audit.specs.Readings.{Reads}
use Rattle.journal_audit.specs.Sections.{IsAfter}

-- ---- no line

pub reads_none : (s : Section) (p : Position) → Reads s s p p
unfolding event_lines
reads_none s p = record {
  same = λ scenario sections coming. refl;
  index = refl;
  spec = refl;
  events = [];
  leads = refl;
  journal = sym (append-nil s.seat.run.journal);
  fits = λ later h. h;
  follows = follows_none p;
  lines = omega arith;
}

-- ---- some lines and some more

led_both : (s : Section) (a b : List Event) → section_from s (a ++ b) ≡ section_from (section_from s a) b
led_both s [] b = refl
led_both s (e ∷ a) b = led_both (section_after s (step_of e)) a b

lines_both : (n : ℕ) (a b : List Event) → event_lines n (a ++ b) ≡ event_lines n a ++ event_lines (n + length a) b
unfolding event_lines
lines_both n [] b = rw (add-zero n) refl
lines_both n (e ∷ a) b =
    let m : suc n + length a ≡ n + suc (length a) = omega arith in
    rw (lines_both (suc n) a b, m) (sym (append_assoc (event_line n e) (event_lines (suc n) a) (event_lines (n + suc (length a)) b)))

pub reads_more : (s t u : Section) (p q r : Position) → Reads s t p q → Reads t u q r → Reads s u p r
reads_more s t u p q r a b = record {
  same = λ scenario sections coming. a.same scenario sections coming ∙ b.same scenario sections coming;
  index = b.index ∙ a.index;
  spec = b.spec ∙ a.spec;
  events = a.events ++ b.events;
  leads = led_both s a.events b.events ∙ (ap (λ (x : Section). section_from x b.events) a.leads ∙ b.leads);
  journal = b.journal ∙ (ap (λ j. j ++ b.events) a.journal ∙ append_assoc s.seat.run.journal a.events b.events);
  fits = λ later h. subst (FitsFrom s) (sym (append_assoc a.events b.events later)) (a.fits (b.events ++ later) (b.fits later h));
  follows =
      subst (λ text. Follows text p r)
      (ap (λ n. event_lines first a.events ++ event_lines n b.events) next ∙ sym (lines_both first a.events b.events))
      (follows_both (event_lines first a.events) (event_lines (suc (length t.seat.run.journal)) b.events) p q r a.follows b.follows);
  lines = omega (arith, a.lines, b.lines, length-append a.events b.events);
}
  where
    first : ℕ
    first = suc (length s.seat.run.journal)

    next : suc (length t.seat.run.journal) ≡ first + length a.events
    next =
        let many : length t.seat.run.journal ≡ length s.seat.run.journal + length a.events =
        ap length a.journal ∙ length-append s.seat.run.journal a.events in
        omega arith

-- ---- one line

-- the step that a line of a section makes
record IsStep (s t : Section) (line : List ℕ) : Type 0 where
  taken : Step
  next : IsNext s taken
  may : enabled s.seat.run.state taken ≡ true
  is : line ≡ event_line (suc (length s.seat.run.journal)) (event_of s.seat.run.state taken)
  after : section_after s taken ≡ t

step_by : (s t : Section) (line : List ℕ) (o : Option Step) → step_named s line ≡ o → after_step s line o ≡ Some t → IsStep s t line
step_by s t line None e h = none_is_some h
step_by s t line (Some taken) e h = split (is_line_of s taken line)
    (λ k.
    let parts = and_parts (enabled s.seat.run.state taken) _ k in
    record {
      taken = taken;
      next = named_next s line taken e;
      may = parts.0;
      is = (bytes_eq-Decides line (event_line (suc (length s.seat.run.journal)) (event_of s.seat.run.state taken))).0 parts.1;
      after = same_inside (rw k at h);
    })
    (λ k. none_is_some (rw k at h))

step_taken : (s t : Section) (line : List ℕ) → after_event s line ≡ Some t → IsStep s t line
unfolding after_event
step_taken s t line h = step_by s t line (step_named s line) refl h

-- an event that a section's step makes, followed by events that fit after it
event_before : (s : Section) (taken : Step) (events : List Event) → enabled s.seat.run.state taken ≡ true → IsNext s taken
    → FitsFrom (section_after s taken) events → FitsFrom s (event_of s.seat.run.state taken ∷ events)
unfolding FitsFrom
event_before s taken events may next h =
    subst (λ x. (enabled s.seat.run.state x ≡ true) × (event_of s.seat.run.state x ≡ event_of s.seat.run.state taken) × IsNext s x × FitsFrom (section_after s x) events)
    (sym (step_of_event s.seat.run.state taken)) (may, refl, next, h)

journal_after : (s t : Section) (taken : Step) → section_after s taken ≡ t
    → t.seat.run.journal ≡ s.seat.run.journal ++ event_of s.seat.run.state taken ∷ []
unfolding section_after
journal_after s t taken h = ap (λ (x : Section). x.seat.run.journal) (sym h)

one_event_line : (n : ℕ) (e : Event) → event_line n e ≡ event_lines n (e ∷ [])
unfolding event_lines
one_event_line n e = sym (append-nil (event_line n e))

reads_line : (s t : Section) (p : Position) (line : List ℕ) → IsNextLine p line → is_numbered line ≡ true → after_event s line ≡ Some t
    → Reads s t p (past (length line) p)
reads_line s t p line n numbered e =
    let part : OfPart s t = event_same_part s t line e in
    let k : IsStep s t line = step_taken s t line e in
    let passed : PassesLine line p (past (length line) p) = line_passed p line n in
    let made : Event = event_of s.seat.run.state k.taken in
    record {
      same = λ scenario sections coming.
          line_fits scenario (inside sections s coming) (inside sections t coming) p line n (event_fits scenario sections s t coming line n.ended numbered e);
      index = part.index;
      spec = part.spec;
      events = made ∷ [];
      leads = ap (section_after s) (step_of_event s.seat.run.state k.taken) ∙ k.after;
      journal = journal_after s t k.taken k.after;
      fits = λ later h. event_before s k.taken later k.may k.next (subst (λ (x : Section). FitsFrom x later) (sym k.after) h);
      follows = subst (λ text. Follows text p (past (length line) p)) (k.is ∙ one_event_line (suc (length s.seat.run.journal)) made) passed.follows;
      lines = passed.next ∙ one_more p.number;
    }
  where
    one_more : (n : ℕ) → suc n ≡ n + 1
    one_more n = omega arith

-- a line of an event was taken
pub reads_taken : (s t : Section) (p : Position) (line : List ℕ) (fits : Bool) → IsNextLine p line → is_numbered line ≡ true → fits ≡ true
    → IsAfter fits (after_event s line) t → Reads s t p (past (length line) p)
reads_taken s t p line fits n numbered e h = reads_line s t p line n numbered (subst (λ f. IsAfter f (after_event s line) t) e h)
