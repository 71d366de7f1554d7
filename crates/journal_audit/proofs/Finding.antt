-- What is found from a position on, line by line.
use Rattle.std.proofs.Common.{◌≡◌, ℕ, suc, ◌+◌, ◌<◌, ◌≤◌, ◌==◌, Err, Bool, true, false, if◌then◌else◌, Option, Some, None, List, [], ◌∷◌, length, take, drop, bytes_eq, refl, sym, ap, ◌∙◌, subst, arith}
use Rattle.std.proofs.lemmas.Bool.{eqb-true}
use Rattle.std.proofs.lemmas.List.{length-drop}
use Rattle.report_defs.specs.ReportText.{part_line}
use Rattle.nook_data.specs.declared.scenario.PartSpec.{PartSpec}
use Rattle.nook_data.specs.declared.scenario.Scenario.{Scenario}
use Rattle.nook_data.specs.declared.steps.Step.{Step}
use Rattle.run_laws.specs.Audit.{Auditing, Done, Section, after_event, after_line, after_step, first_unfit, is_ended, is_line_of, is_numbered, is_over, lines_of, opening_section, section_after, step_named}
use Rattle.journal_audit.proofs.Lines.{Fronted, fronted, unended_line, unfit_here}
use Rattle.journal_audit.proofs.Taken.{not_true}
use Rattle.journal_audit.specs.Found.{at_last, between, found_from, inside}
use Rattle.journal_audit.specs.Position.{HasNoLine, IsNextLine, Position, begin_unended, feeds, past}
use Rattle.journal_audit.specs.Sections.{IsAfter}
use Rattle.journal_audit.specs.Stopping.{Leads, OnUnfit}
use Rattle.journal_audit.specs.declared.stop.Stop.{Stop}
use Rattle.journal_audit.specs.declared.stop.Stop.TheVariants as stops

-- ---- the next line

unfit_lines : (scenario : Scenario) (a : Auditing) (number : ℕ) (lines : List (List ℕ)) → is_over a ≡ false → begin_unended lines ≡ true
    → first_unfit scenario a number lines ≡ Some number
unfolding first_unfit
unfit_lines scenario a number [] over h = rw (first_unfit, over) refl
unfit_lines scenario a number (line ∷ lines) over h =
    unfit_here scenario a number line lines (unended_line scenario a line (not_true (is_ended line) h))

-- a line is missing
pub no_line_unfit : (scenario : Scenario) (a : Auditing) (p : Position) (number : ℕ) → is_over a ≡ false → HasNoLine p number
    → found_from scenario a p ≡ Some number
no_line_unfit scenario a p number over h = unfit_lines scenario a p.number (lines_of p.rest) over h.unended ∙ ap Some (sym h.at)

-- the next line does not fit
pub line_unfit : (scenario : Scenario) (a : Auditing) (p : Position) (line : List ℕ) → IsNextLine p line → after_line scenario a line ≡ None
    → found_from scenario a p ≡ Some p.number
line_unfit scenario a p line n e =
    ap (first_unfit scenario a p.number) n.lines ∙ unfit_here scenario a p.number line (lines_of (drop (length line) p.rest)) e

fits_here : (scenario : Scenario) (a b : Auditing) (number : ℕ) (line : List ℕ) (lines : List (List ℕ)) → after_line scenario a line ≡ Some b
    → first_unfit scenario a number (line ∷ lines) ≡ first_unfit scenario b (suc number) lines
unfolding first_unfit
fits_here scenario a b number line lines e = rw (e, first_unfit) refl

-- the next line fits: what is found is found after it
pub line_fits : (scenario : Scenario) (a b : Auditing) (p : Position) (line : List ℕ) → IsNextLine p line → after_line scenario a line ≡ Some b
    → found_from scenario a p ≡ found_from scenario b (past (length line) p)
line_fits scenario a b p line n e =
    ap (first_unfit scenario a p.number) n.lines
    ∙ (fits_here scenario a b p.number line (lines_of (drop (length line) p.rest)) e
    ∙ ap (λ number. first_unfit scenario b number (lines_of (drop (length line) p.rest)))
    (one_more p.number (feeds (take (length line) p.rest)) (ap feeds n.front ∙ n.feeds)))
  where
    one_more : (number ended : ℕ) → ended ≡ 1 → suc number ≡ number + ended
    one_more number ended h = omega arith

-- ---- the first line of a section

pub part_line_fits : (scenario : Scenario) (sections : List Done) (index : ℕ) (spec : PartSpec) (coming : List PartSpec) (line : List ℕ)
    → is_ended line ≡ true → length sections ≡ index → bytes_eq line (part_line index spec) ≡ true
    → after_line scenario (between sections (spec ∷ coming)) line ≡ Some (inside sections (opening_section scenario.threads index spec) coming)
unfolding after_line
part_line_fits scenario sections index spec coming line ended at same = rw (at, ended, same) refl

pub part_line_unfit : (scenario : Scenario) (sections : List Done) (index : ℕ) (spec : PartSpec) (coming : List PartSpec) (line : List ℕ)
    → is_ended line ≡ true → length sections ≡ index → bytes_eq line (part_line index spec) ≡ false
    → after_line scenario (between sections (spec ∷ coming)) line ≡ None
unfolding after_line
part_line_unfit scenario sections index spec coming line ended at same = rw (at, ended, same) refl

-- ---- the lines of events

pub event_fits : (scenario : Scenario) (sections : List Done) (s t : Section) (coming : List PartSpec) (line : List ℕ) → is_ended line ≡ true
    → is_numbered line ≡ true → after_event s line ≡ Some t
    → after_line scenario (inside sections s coming) line ≡ Some (inside sections t coming)
unfolding after_line
event_fits scenario sections s t coming line ended numbered e = rw (ended, numbered, e) refl

pub event_unfit : (scenario : Scenario) (sections : List Done) (s : Section) (coming : List PartSpec) (line : List ℕ) → is_ended line ≡ true
    → is_numbered line ≡ true → after_event s line ≡ None → after_line scenario (inside sections s coming) line ≡ None
unfolding after_line
event_unfit scenario sections s coming line ended numbered e = rw (ended, numbered, e) refl

-- a section of the same part
pub record OfPart (s t : Section) : Type 0 where
  pub index : t.index ≡ s.index
  pub spec : t.spec ≡ s.spec

same_part : (s t : Section) (taken : Step) (fits : Bool) → (if fits then Some (section_after s taken) else None) ≡ Some t → OfPart s t
unfolding section_after
same_part s t taken true e = let is : section_after s taken ≡ t = cc in record { index = sym (ap (λ x. x.index) is); spec = sym (ap (λ x. x.spec) is) }
same_part s t taken false e = absurd (cc)

after_same : (s t : Section) (line : List ℕ) (step : Option Step) → after_step s line step ≡ Some t → OfPart s t
after_same s t line None e = absurd (cc)
after_same s t line (Some taken) e = same_part s t taken (is_line_of s taken line) e

pub event_same_part : (s t : Section) (line : List ℕ) → after_event s line ≡ Some t → OfPart s t
unfolding after_event
event_same_part s t line e = after_same s t line (step_named s line) e

-- ---- the end

pub end_fits : (scenario : Scenario) (sections : List Done) (p : Position) → p.rest ≡ [] → found_from scenario (at_last sections []) p ≡ None
unfolding first_unfit lines_of
end_fits scenario sections p e = ap (λ rest. first_unfit scenario (at_last sections []) p.number (lines_of rest)) e

more_unfit : (scenario : Scenario) (sections : List Done) (line : List ℕ) (feed : Bool) → is_ended line ≡ feed
    → after_line scenario (at_last sections []) line ≡ None
unfolding after_line
more_unfit scenario sections line true e = rw e refl
more_unfit scenario sections line false e = rw e refl

pub end_unfit : (scenario : Scenario) (sections : List Done) (p : Position) (byte : ℕ) (rest : List ℕ) → p.rest ≡ byte ∷ rest
    → found_from scenario (at_last sections []) p ≡ Some p.number
end_unfit scenario sections p byte rest e =
    let f : Fronted [] byte (byte ∷ rest) = fronted [] byte rest refl in
    ap (λ text. first_unfit scenario (at_last sections []) p.number (lines_of text)) e
    ∙ (ap (first_unfit scenario (at_last sections []) p.number) f.is
    ∙ unfit_here scenario (at_last sections []) p.number (byte ∷ f.more) f.lines
    (more_unfit scenario sections (byte ∷ f.more) (is_ended (byte ∷ f.more)) refl))

pub end_reported : (scenario : Scenario) (sections : List Done) (p : Position) (rest : List ℕ) → p.rest ≡ rest → (length rest == 0) ≡ true
    → found_from scenario (at_last sections []) p ≡ None
end_reported scenario sections p [] e h = end_fits scenario sections p e
end_reported scenario sections p (byte ∷ rest) e h = absurd (let none : suc (length rest) ≡ 0 = eqb-true (suc (length rest)) 0 h in omega arith)

pub more_reported : (scenario : Scenario) (sections : List Done) (p : Position) (rest : List ℕ) → p.rest ≡ rest → (length rest == 0) ≡ false
    → found_from scenario (at_last sections []) p ≡ Some p.number
more_reported scenario sections p [] e h = absurd (cc)
more_reported scenario sections p (byte ∷ rest) e h = end_unfit scenario sections p byte rest e

-- ---- stops

-- if this holds of the line at which a check stops, that line is the one that is found
pub stopped : (T U : Type 0) (stop : Stop) (found : Option ℕ) (holds : Type 0) (P : ℕ → Type 0) → OnUnfit {T = T} (Err stop) P
    → ((line : ℕ) → P line → found ≡ Some line) → Leads {T = U} (Err stop) found holds
stopped T U (stops.Unfit line) found holds P h f = f line h
stopped T U stops.NoMemory found holds P h f = tt

-- a stop is passed on
pub passed : (T U : Type 0) (stop : Stop) (before found : Option ℕ) (held holds : Type 0) → Leads {T = T} (Err stop) found held
    → before ≡ found → Leads {T = U} (Err stop) before holds
passed T U (stops.Unfit line) before found held holds h e = e ∙ h
passed T U stops.NoMemory before found held holds h e = tt

-- ---- a line of an event

-- it does not fit
pub event_refused : (scenario : Scenario) (sections : List Done) (coming : List PartSpec) (s t : Section) (p : Position) (line : List ℕ) (fits : Bool)
    → IsNextLine p line → is_numbered line ≡ true → fits ≡ false → IsAfter fits (after_event s line) t
    → found_from scenario (inside sections s coming) p ≡ Some p.number
event_refused scenario sections coming s t p line fits n numbered e h =
    line_unfit scenario (inside sections s coming) p line n
    (event_unfit scenario sections s coming line n.ended numbered (subst (λ f. IsAfter f (after_event s line) t) e h))

not_empty : (line : List ℕ) → is_ended line ≡ true → 0 < length line
not_empty [] h = absurd (cc)
not_empty (byte ∷ line) h = omega arith

pub line_shorter : (p : Position) (line : List ℕ) → IsNextLine p line → length (drop (length line) p.rest) < length p.rest
line_shorter p line n =
    let some : 0 < length line = not_empty line n.ended in
    let within : length line ≤ length p.rest = n.within in
    omega (arith, length-drop (length line) p.rest)
