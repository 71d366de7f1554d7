-- In a report of journals that fit, every line passes.
use Rattle.std.proofs.Common.{◌≡◌, ℕ, suc, ◌+◌, Bool, true, false, None, Some, List, [], ◌∷◌, ◌++◌, length, refl, sym, ap, ◌∙◌, subst, append_assoc, append-nil, length-append, arith, true≢false, eq-eqb, bytes_eq, if◌then◌else◌}
use Rattle.std.proofs.lemmas.Bool.{and_from}
use Rattle.std.proofs.lemmas.List.Elements.{recursion_from_All}
use Rattle.std.proofs.lemmas.Slice.Eq.{bytes_eq-Decides}
use Rattle.std.specs.List.{AllByRecursion}
use Rattle.report_defs.specs.ReportLines.{event_line, event_lines}
use Rattle.report_defs.specs.ReportText.{part_line, part_text, parts_text}
use Rattle.part_defs.specs.Runs.{event_of, step_of}
use Rattle.part_defs.specs.Steps.{enabled}
use Rattle.nook_data.specs.Valid.{IsValidPart, IsValidScenario}
use Rattle.nook_data.specs.declared.steps.Event.{Event}
use Rattle.nook_data.specs.declared.scenario.PartSpec.{PartSpec}
use Rattle.nook_data.specs.declared.scenario.Scenario.{Scenario}
use Rattle.part_laws.proofs.StepsFit.{fit_after, opening_fit}
use Rattle.part_laws.proofs.ValidFits.{valid_fits}
use Rattle.part_laws.specs.Fit.{IsFit}
use Rattle.run_laws.proofs.Leading.{section_end_is}
use Rattle.run_laws.proofs.Lines.{AreEnded, text_of, text_of_lines, whole_ended, whole_lines, ended_whole}
use Rattle.run_laws.proofs.Naming.{step_is_named}
use Rattle.run_laws.proofs.OneLine.{event_one_line, one_line_ended, one_line_first, part_one_line}
use Rattle.run_laws.proofs.Wholes.{last_lines_ended, section_end_ended, section_end_other}
use Rattle.run_laws.proofs.Words.{decimal_numbered}
use Rattle.run_laws.specs.Audit.{Auditing, Done, Section, after_event, after_line, after_step, audited, rest_after, done_of, first_unfit, is_complete, is_ended, is_line_of, is_next, is_numbered, last_lines, lines_of, opening_audit, opening_section, section_after, section_end, with_due, with_section}
use Rattle.run_laws.specs.Fitting.{AllFit, FitsFrom, IsNext, fitting_text, section_from, sections_of}

module _ (scenario : Scenario) where
  -- every line fits, whatever the number of the first
  abbrev Passes : Auditing → List (List ℕ) → Type 0
  Passes a lines = (n : ℕ) → first_unfit scenario a n lines ≡ None

  pass_line : (a b : Auditing) (line : List ℕ) (lines : List (List ℕ)) → after_line scenario a line ≡ Some b → Passes b lines → Passes a (line ∷ lines)
  unfolding first_unfit
  pass_line a b line lines e h = λ n. rw (first_unfit, e) (h (suc n))

  -- ---- lines that are due

  after_front : (line text : List ℕ) → rest_after line (line ++ text) ≡ Some text
  after_front [] text = refl
  after_front (byte ∷ line) text = rw (eq-eqb byte byte refl) (after_front line text)

  due_step : (a : Auditing) (line text : List ℕ) → is_ended line ≡ true
      → after_line scenario (record a { due = line ++ text }) line ≡ Some (record a { due = text })
  unfolding after_line
  due_step a [] text h = absurd (true≢false (sym h))
  due_step a (byte ∷ line) text h = rw h (ap (with_due (record a { due = byte ∷ line ++ text })) (after_front (byte ∷ line) text))

  pass_due : (a : Auditing) (lines more : List (List ℕ)) → AreEnded lines → Passes (record a { due = [] }) more
      → Passes (record a { due = text_of lines }) (lines ++ more)
  pass_due a [] more h k = k
  pass_due a (line ∷ lines) more h k =
      pass_line (record a { due = line ++ text_of lines }) (record a { due = text_of lines }) line (lines ++ more) (due_step a line (text_of lines) h.0)
      (pass_due a lines more h.1 k)

  -- a text whose first line makes it due
  pass_begun : (a b : Auditing) (text rest : List ℕ) → is_ended text ≡ true
      → ((line others : List ℕ) → text ≡ line ++ others → is_ended line ≡ true → after_line scenario a line ≡ is_next b line text)
      → Passes (record b { due = [] }) (lines_of rest) → Passes a (lines_of (text ++ rest))
  pass_begun a b text rest ended begins h =
      subst (Passes a) (sym (whole_lines text rest (ended_whole text ended))) (by_lines (lines_of text) refl)
    where
      empty : text ≡ [] → ⊥
      empty e = true≢false (sym ended ∙ ap is_ended e)

      by_lines : (lines : List (List ℕ)) → lines_of text ≡ lines → Passes a (lines ++ lines_of rest)
      by_lines [] e = absurd (empty (sym (text_of_lines text) ∙ ap text_of e))
      by_lines (line ∷ others) e =
          let are : AreEnded (line ∷ others) = subst AreEnded e (whole_ended text (ended_whole text ended)) in
          let is : text ≡ line ++ text_of others = sym (text_of_lines text) ∙ ap text_of e in
          pass_line a (record b { due = text_of others }) line (others ++ lines_of rest)
          (begins line (text_of others) is are.0 ∙ ap (λ t. with_due b (rest_after line t)) is ∙ ap (with_due b) (after_front line (text_of others)))
          (pass_due b others (lines_of rest) are.1 h)

  -- ---- a section

  abbrev within : List Done → Section → List PartSpec → Auditing
  within done s coming = record { sections = done; current = Some s; due = []; coming = coming; last = false }

  abbrev between : List Done → List PartSpec → Auditing
  between done coming = record { sections = done; current = None; due = []; coming = coming; last = false }

  unnumbered : (text line others : List ℕ) → text ≡ line ++ others → is_ended line ≡ true → is_numbered text ≡ false → is_numbered line ≡ false
  unnumbered text [] others e h k = absurd (true≢false (sym h))
  unnumbered text (byte ∷ line) others e h k = sym (ap is_numbered e) ∙ k

  pass_end : (done : List Done) (s : Section) (coming : List PartSpec) (rest : List ℕ) → is_complete s ≡ true
      → Passes (between (done ++ done_of s ∷ []) coming) (lines_of rest) → Passes (within done s coming) (lines_of (section_end s ++ rest))
  unfolding after_line
  pass_end done s coming rest complete h =
      pass_begun (within done s coming) (between (done ++ done_of s ∷ []) coming) (section_end s) rest (section_end_ended s)
      (λ line others e ended. rw (ended, unnumbered (section_end s) line others e ended (section_end_other s), complete) refl) h

  event_numbered : (n : ℕ) (e : Event) → is_numbered (event_line n e) ≡ true
  unfolding event_line
  event_numbered n e = decimal_numbered n _

  event_fits : (s : Section) (e : Event) → IsFit s.seat.run.state → enabled s.seat.run.state (step_of e) ≡ true
      → event_of s.seat.run.state (step_of e) ≡ e → IsNext s (step_of e)
      → after_event s (event_line (suc (length s.seat.run.journal)) e) ≡ Some (section_after s (step_of e))
  unfolding after_event
  event_fits s e f may is next =
      let line : List ℕ = event_line (suc (length s.seat.run.journal)) e in
      let same : bytes_eq line (event_line (suc (length s.seat.run.journal)) (event_of s.seat.run.state (step_of e))) ≡ true =
      (bytes_eq-Decides line (event_line (suc (length s.seat.run.journal)) (event_of s.seat.run.state (step_of e)))).1
      (ap (event_line (suc (length s.seat.run.journal))) (sym is)) in
      let fits : is_line_of s (step_of e) line ≡ true = and_from (enabled s.seat.run.state (step_of e)) _ may same in
      ap (after_step s line) (step_is_named s (suc (length s.seat.run.journal)) e f may next) ∙ if_true (is_line_of s (step_of e) line) (section_after s (step_of e)) fits
    where
      if_true : (b : Bool) (t : Section) → b ≡ true → (if b then Some t else None) ≡ Some t
      if_true b t h = rw h refl

  event_step : (done : List Done) (s : Section) (coming : List PartSpec) (e : Event) → IsFit s.seat.run.state
      → enabled s.seat.run.state (step_of e) ≡ true → event_of s.seat.run.state (step_of e) ≡ e → IsNext s (step_of e)
      → after_line scenario (within done s coming) (event_line (suc (length s.seat.run.journal)) e) ≡ Some (within done (section_after s (step_of e)) coming)
  unfolding after_line
  event_step done s coming e f may is next =
      let line : List ℕ = event_line (suc (length s.seat.run.journal)) e in
      rw (one_line_ended line (event_one_line (suc (length s.seat.run.journal)) e), event_numbered (suc (length s.seat.run.journal)) e)
      (ap (with_section (within done s coming)) (event_fits s e f may is next))

  pass_events : (done : List Done) (s : Section) (coming : List PartSpec) (events : List Event) (n : ℕ) (rest : List ℕ) → IsFit s.seat.run.state
      → n ≡ suc (length s.seat.run.journal) → FitsFrom s events
      → Passes (between (done ++ done_of (section_from s events) ∷ []) coming) (lines_of rest)
      → Passes (within done s coming) (lines_of (event_lines n events ++ (section_end (section_from s events) ++ rest)))
  unfolding FitsFrom event_lines section_after
  pass_events done s coming [] n rest f at h k = pass_end done s coming rest h k
  pass_events done s coming (e ∷ events) n rest f at h k =
      let t : Section = section_after s (step_of e) in
      let after_it : List ℕ = section_end (section_from t events) ++ rest in
      let one : after_line scenario (within done s coming) (event_line n e) ≡ Some (within done t coming) =
      ap (λ (m : ℕ). after_line scenario (within done s coming) (event_line m e)) at ∙ event_step done s coming e f h.0 h.1 h.2 in
      let longer : suc n ≡ suc (length (s.seat.run.journal ++ event_of s.seat.run.state (step_of e) ∷ [])) =
      ap suc (at ∙ grown (length s.seat.run.journal) ∙ sym (length-append s.seat.run.journal (event_of s.seat.run.state (step_of e) ∷ []))) in
      subst (Passes (within done s coming))
      (sym (ap lines_of (append_assoc (event_line n e) (event_lines (suc n) events) after_it)
      ∙ one_line_first (event_line n e) (event_lines (suc n) events ++ after_it) (event_one_line n e)))
      (pass_line (within done s coming) (within done t coming) (event_line n e) (lines_of (event_lines (suc n) events ++ after_it)) one
      (pass_events done t coming events (suc n) rest (fit_after s.seat.run.state (step_of e) f h.0) longer h.3 k))
    where
      grown : (n : ℕ) → suc n ≡ n + 1
      grown n = omega arith

  -- ---- the sections, and the lines after them

  part_step : (done : List Done) (index : ℕ) (spec : PartSpec) (coming : List PartSpec) → length done ≡ index → IsValidPart spec
      → after_line scenario (between done (spec ∷ coming)) (part_line index spec) ≡ Some (within done (opening_section scenario.threads index spec) coming)
  unfolding after_line
  part_step done index spec coming at v =
      let line : List ℕ = part_line index spec in
      let same : bytes_eq line (part_line index spec) ≡ true = (bytes_eq-Decides line (part_line index spec)).1 refl in
      rw (at, one_line_ended line (part_one_line index spec v.name), same) refl

  pass_parts : (index : ℕ) (specs : List PartSpec) (journals : List (List Event)) (done : List Done) (rest : List ℕ) → length done ≡ index
      → AllByRecursion IsValidPart specs → AllFit scenario.threads index specs journals
      → Passes (between (done ++ sections_of scenario.threads index specs journals) []) (lines_of rest)
      → Passes (between done specs) (lines_of (parts_text index specs journals ++ rest))
  unfolding AllFit parts_text part_text sections_of
  pass_parts index [] [] done rest at v h k = subst (λ d. Passes (between d []) (lines_of rest)) (append-nil done) k
  pass_parts index [] (journal ∷ journals) done rest at v h k = absurd h
  pass_parts index (spec ∷ specs) [] done rest at v h k = absurd h
  pass_parts index (spec ∷ specs) (journal ∷ journals) done rest at v h k =
      let s : Section = opening_section scenario.threads index spec in
      let end : Section = section_from s journal in
      let others : List ℕ = parts_text (suc index) specs journals ++ rest in
      let text : part_text index spec journal ++ others ≡ part_line index spec ++ (event_lines 1 journal ++ (section_end end ++ others)) =
      four_pieces (part_line index spec) (event_lines 1 journal) _ others
      ∙ ap (λ x. part_line index spec ++ (event_lines 1 journal ++ (x ++ others))) (sym (section_end_is scenario.threads index spec journal h.0)) in
      subst (Passes (between done (spec ∷ specs)))
      (sym (ap lines_of (append_assoc (part_text index spec journal) (parts_text (suc index) specs journals) rest ∙ text)
      ∙ one_line_first (part_line index spec) (event_lines 1 journal ++ (section_end end ++ others)) (part_one_line index spec v.0.name)))
      (pass_line (between done (spec ∷ specs)) (within done s specs) (part_line index spec) _ (part_step done index spec specs at v.0)
      (pass_events done s specs journal 1 others (opening_fit spec (valid_fits spec v.0)) refl h.0
      (pass_parts (suc index) specs journals (done ++ done_of end ∷ []) rest
      (length-append done (done_of end ∷ []) ∙ ap (λ (n : ℕ). n + 1) at ∙ next index) v.1 h.1
      (subst (λ d. Passes (between d []) (lines_of rest)) (sym (append_assoc done (done_of end ∷ []) (sections_of scenario.threads (suc index) specs journals))) k))))
    where
      next : (n : ℕ) → n + 1 ≡ suc n
      next n = omega arith

      four_pieces : (a b c d : List ℕ) → (a ++ (b ++ c)) ++ d ≡ a ++ (b ++ (c ++ d))
      four_pieces a b c d = simp append_assoc

  pass_last : (done : List Done) → Passes (between done []) (lines_of (last_lines scenario done))
  unfolding after_line lines_of first_unfit
  pass_last done =
      subst (λ text. Passes (between done []) (lines_of text)) (append-nil (last_lines scenario done))
      (pass_begun (between done []) (record (between done []) { last = true }) (last_lines scenario done) [] (last_lines_ended scenario done)
      (λ line others e ended. rw ended refl) (λ n. refl))

pub report_fits : (scenario : Scenario) (journals : List (List Event)) → IsValidScenario scenario → AllFit scenario.threads 0 scenario.parts journals
    → audited scenario (fitting_text scenario journals) ≡ None
unfolding audited fitting_text opening_audit
report_fits scenario journals v h =
    pass_parts scenario 0 scenario.parts journals [] (last_lines scenario (sections_of scenario.threads 0 scenario.parts journals)) refl
    (recursion_from_All IsValidPart scenario.parts v.parts) h (pass_last scenario (sections_of scenario.threads 0 scenario.parts journals)) 1
