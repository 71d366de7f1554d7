-- At most one list of journals that fit has a given report, so an audit finds one line.
use Rattle.std.proofs.Common.{◌≡◌, ℕ, suc, Option, Some, None, true, List, [], ◌∷◌, ◌++◌, refl, sym, ap, ap₂, ◌∙◌, subst, append_assoc, true≢false}
use Rattle.std.proofs.lemmas.List.Elements.{recursion_from_All}
use Rattle.std.specs.List.{AllByRecursion}
use Rattle.nook_data.proofs.Options.{same_inside}
use Rattle.nook_data.specs.Valid.{IsValidPart, IsValidScenario}
use Rattle.nook_data.specs.declared.scenario.PartSpec.{PartSpec}
use Rattle.nook_data.specs.declared.scenario.Scenario.{Scenario}
use Rattle.nook_data.specs.declared.scenario.ThreadSpec.{ThreadSpec}
use Rattle.nook_data.specs.declared.steps.Event.{Event}
use Rattle.nook_data.specs.declared.steps.Step.{Step}
use Rattle.part_defs.specs.Runs.{event_of, step_of}
use Rattle.part_laws.proofs.StepsFit.{fit_after, opening_fit}
use Rattle.part_laws.proofs.ValidFits.{valid_fits}
use Rattle.part_laws.specs.Fit.{IsFit}
use Rattle.report_defs.specs.ReportLines.{event_line, event_lines}
use Rattle.report_defs.specs.ReportText.{part_line, part_text, parts_text}
use Rattle.run_laws.proofs.Leading.{section_end_is}
use Rattle.run_laws.proofs.Lines.{text_of, text_of_lines}
use Rattle.run_laws.proofs.Naming.{step_is_named}
use Rattle.run_laws.proofs.OneLine.{IsOneLine, event_one_line, one_line_ended, one_line_first}
use Rattle.run_laws.proofs.Reading.{report_read}
use Rattle.run_laws.proofs.Wholes.{section_end_ended, section_end_other}
use Rattle.run_laws.proofs.Words.{decimal_numbered}
use Rattle.run_laws.specs.Audit.{Section, audited, is_ended, is_numbered, last_lines, lines_of, opening_section, section_after, section_end, step_named}
use Rattle.run_laws.specs.Fitting.{AllFit, FitsFrom, fitting_text, section_from, sections_of}
use Rattle.order_defs.specs.OutOfOrder.{Finds, FindsAfter, IsOutOfOrder}
use Rattle.order_laws.proofs.OutOfOrder.{out_of_order_exists, out_of_order_once}

-- ---- texts that begin alike

first_same : {X : Type 0} {x y : X} {xs ys : List X} → x ∷ xs ≡ y ∷ ys → x ≡ y
first_same h = cc

rest_same : {X : Type 0} {x y : X} {xs ys : List X} → x ∷ xs ≡ y ∷ ys → xs ≡ ys
rest_same h = cc

cancel : (front x y : List ℕ) → front ++ x ≡ front ++ y → x ≡ y
cancel [] x y h = h
cancel (byte ∷ front) x y h = cancel front x y (rest_same h)

lines_same : (a b x y : List ℕ) → IsOneLine a → IsOneLine b → a ++ x ≡ b ++ y → (a ≡ b) × (x ≡ y)
lines_same a b x y p q h =
    let lines : a ∷ lines_of x ≡ b ∷ lines_of y = sym (one_line_first a x p) ∙ ap lines_of h ∙ one_line_first b y q in
    (first_same lines, sym (text_of_lines x) ∙ ap text_of (rest_same lines) ∙ text_of_lines y)

numbered_front : (a x : List ℕ) → is_ended a ≡ true → is_numbered (a ++ x) ≡ is_numbered a
numbered_front [] x h = absurd (true≢false (sym h))
numbered_front (byte ∷ a) x h = refl

event_numbered : (n : ℕ) (e : Event) → is_numbered (event_line n e) ≡ true
unfolding event_line
event_numbered n e = decimal_numbered n _

-- the line of an event is not the first of those after the events
no_end : (n : ℕ) (e : Event) (s : Section) (x y : List ℕ) → event_line n e ++ x ≡ section_end s ++ y → ⊥
no_end n e s x y h = true≢false (
    sym (event_numbered n e)
    ∙ sym (numbered_front (event_line n e) x (one_line_ended (event_line n e) (event_one_line n e)))
    ∙ ap is_numbered h
    ∙ numbered_front (section_end s) y (section_end_ended s)
    ∙ section_end_other s
    )

-- ---- a section

events_same : (s : Section) (n : ℕ) (js ks : List Event) (x y : List ℕ) → IsFit s.seat.run.state → FitsFrom s js → FitsFrom s ks
    → event_lines n js ++ (section_end (section_from s js) ++ x) ≡ event_lines n ks ++ (section_end (section_from s ks) ++ y)
    → (js ≡ ks) × (x ≡ y)
unfolding FitsFrom event_lines section_after
events_same s n [] [] x y f h k same = (refl, cancel (section_end s) x y same)
events_same s n [] (i ∷ ks) x y f h k same =
    absurd (no_end n i s (event_lines (suc n) ks ++ (section_end (section_from s (i ∷ ks)) ++ y)) x
    (sym (append_assoc (event_line n i) (event_lines (suc n) ks) (section_end (section_from s (i ∷ ks)) ++ y)) ∙ sym same))
events_same s n (e ∷ js) [] x y f h k same =
    absurd (no_end n e s (event_lines (suc n) js ++ (section_end (section_from s (e ∷ js)) ++ x)) y
    (sym (append_assoc (event_line n e) (event_lines (suc n) js) (section_end (section_from s (e ∷ js)) ++ x)) ∙ same))
events_same s n (e ∷ js) (i ∷ ks) x y f h k same =
    let both =
    lines_same (event_line n e) (event_line n i) (event_lines (suc n) js ++ (section_end (section_from s (e ∷ js)) ++ x))
    (event_lines (suc n) ks ++ (section_end (section_from s (i ∷ ks)) ++ y)) (event_one_line n e) (event_one_line n i)
    (sym (append_assoc (event_line n e) (event_lines (suc n) js) (section_end (section_from s (e ∷ js)) ++ x))
    ∙ same
    ∙ append_assoc (event_line n i) (event_lines (suc n) ks) (section_end (section_from s (i ∷ ks)) ++ y)) in
    let steps : step_of e ≡ step_of i =
    same_inside (sym (step_is_named s n e f h.0 h.2) ∙ ap (step_named s) both.0 ∙ step_is_named s n i f k.0 k.2) in
    let events : e ≡ i = sym h.1 ∙ ap (event_of s.seat.run.state) steps ∙ k.1 in
    let more =
    events_same (section_after s (step_of e)) (suc n) js ks x y (fit_after s.seat.run.state (step_of e) f h.0) h.3
    (subst (λ (z : Step). FitsFrom (section_after s z) ks) (sym steps) k.3)
    (both.1 ∙ ap (λ (z : Step). event_lines (suc n) ks ++ (section_end (section_from (section_after s z) ks) ++ y)) (sym steps)) in
    (ap₂ (λ (a : Event) as'. a ∷ as') events more.0, more.1)

-- ---- the sections

part_begins : (threads : List ThreadSpec) (index : ℕ) (spec : PartSpec) (journal : List Event) (rest : List ℕ)
    → FitsFrom (opening_section threads index spec) journal
    → part_text index spec journal ++ rest
    ≡ part_line index spec ++ (event_lines 1 journal ++ (section_end (section_from (opening_section threads index spec) journal) ++ rest))
unfolding part_text
part_begins threads index spec journal rest h =
    four_pieces (part_line index spec) (event_lines 1 journal) _ rest
    ∙ ap (λ x. part_line index spec ++ (event_lines 1 journal ++ (x ++ rest))) (sym (section_end_is threads index spec journal h))
  where
    four_pieces : (a b c d : List ℕ) → (a ++ (b ++ c)) ++ d ≡ a ++ (b ++ (c ++ d))
    four_pieces a b c d = simp append_assoc

parts_same : (threads : List ThreadSpec) (index : ℕ) (specs : List PartSpec) (js ks : List (List Event)) (x y : List ℕ)
    → AllByRecursion IsValidPart specs → AllFit threads index specs js → AllFit threads index specs ks
    → parts_text index specs js ++ x ≡ parts_text index specs ks ++ y → js ≡ ks
unfolding AllFit parts_text
parts_same threads index [] [] [] x y v h k same = refl
parts_same threads index [] [] (b ∷ ks) x y v h k same = absurd k
parts_same threads index [] (a ∷ js) ks x y v h k same = absurd h
parts_same threads index (spec ∷ specs) [] ks x y v h k same = absurd h
parts_same threads index (spec ∷ specs) (a ∷ js) [] x y v h k same = absurd k
parts_same threads index (spec ∷ specs) (a ∷ js) (b ∷ ks) x y v h k same =
    let texts : part_line index spec ++ (event_lines 1 a ++ (section_end (section_from (opening_section threads index spec) a) ++ (parts_text (suc index) specs js ++ x)))
    ≡ part_line index spec ++ (event_lines 1 b ++ (section_end (section_from (opening_section threads index spec) b) ++ (parts_text (suc index) specs ks ++ y))) =
    sym (part_begins threads index spec a (parts_text (suc index) specs js ++ x) h.0)
    ∙ sym (append_assoc (part_text index spec a) (parts_text (suc index) specs js) x)
    ∙ same
    ∙ append_assoc (part_text index spec b) (parts_text (suc index) specs ks) y
    ∙ part_begins threads index spec b (parts_text (suc index) specs ks ++ y) k.0 in
    let both =
    events_same (opening_section threads index spec) 1 a b (parts_text (suc index) specs js ++ x) (parts_text (suc index) specs ks ++ y)
    (opening_fit spec (valid_fits spec v.0)) h.0 k.0 (cancel (part_line index spec) _ _ texts) in
    ap₂ (λ (c : List Event) cs. c ∷ cs) both.0 (parts_same threads (suc index) specs js ks x y v.1 h.1 k.1 both.1)

pub journals_once : (scenario : Scenario) (journals others : List (List Event)) → IsValidScenario scenario
    → AllFit scenario.threads 0 scenario.parts journals → AllFit scenario.threads 0 scenario.parts others
    → fitting_text scenario journals ≡ fitting_text scenario others → journals ≡ others
unfolding fitting_text
journals_once scenario journals others v h k same =
    parts_same scenario.threads 0 scenario.parts journals others (last_lines scenario (sections_of scenario.threads 0 scenario.parts journals))
    (last_lines scenario (sections_of scenario.threads 0 scenario.parts others)) (recursion_from_All IsValidPart scenario.parts v.parts) h k same

-- ---- what an audit finds

found_once : (scenario : Scenario) (report : List ℕ) (first line other : Option ℕ) → IsValidScenario scenario → FindsAfter scenario report first line
    → FindsAfter scenario report first other → line ≡ other
found_once scenario report None line other v a b =
    let same : a.journals ≡ b.journals = journals_once scenario a.journals b.journals v a.fit b.fit (sym a.text_is ∙ b.text_is) in
    out_of_order_once scenario b.journals line other (subst (λ js. IsOutOfOrder scenario js line) same a.out_of_order) b.out_of_order
found_once scenario report (Some number) line other v a b = a ∙ sym b

pub finds_once : (scenario : Scenario) (report : List ℕ) (line other : Option ℕ) → IsValidScenario scenario → Finds scenario report line
    → Finds scenario report other → line ≡ other
finds_once scenario report line other v a b = found_once scenario report (audited scenario report) line other v a b

found_exists : (scenario : Scenario) (report : List ℕ) (first : Option ℕ) → audited scenario report ≡ first
    → (line : Option ℕ) × FindsAfter scenario report first line
found_exists scenario report None is =
    let reported = report_read scenario report is in
    let line = out_of_order_exists scenario reported.0 reported.1 in
    (line.0, record { journals = reported.0; fit = reported.1; text_is = reported.2; out_of_order = line.1 })
found_exists scenario report (Some number) is = (Some number, refl)

pub finds_exists : (scenario : Scenario) (report : List ℕ) → (line : Option ℕ) × Finds scenario report line
finds_exists scenario report = found_exists scenario report (audited scenario report) refl
