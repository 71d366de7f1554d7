-- A report whose lines all fit is the report of journals that fit.
use Rattle.std.proofs.Common.{◌≡◌, ℕ, suc, ◌+◌, ◌==◌, true, false, None, Some, Option, List, [], ◌∷◌, ◌++◌, length, refl, sym, ap, ◌∙◌, subst, append_assoc, append-nil, length-append, arith, eqb-true, bytes_eq}
use Rattle.std.proofs.lemmas.Bool.{and_parts}
use Rattle.std.proofs.lemmas.Slice.Eq.{bytes_eq-Decides}
use Rattle.report_defs.specs.ReportLines.{event_line, event_lines}
use Rattle.report_defs.specs.ReportText.{part_line, part_text, parts_text}
use Rattle.part_defs.specs.Runs.{event_of}
use Rattle.part_defs.specs.Steps.{enabled}
use Rattle.nook_data.specs.declared.steps.Event.{Event}
use Rattle.nook_data.specs.declared.scenario.PartSpec.{PartSpec}
use Rattle.nook_data.specs.declared.scenario.Scenario.{Scenario}
use Rattle.nook_data.specs.declared.steps.Step.{Step}
use Rattle.part_laws.proofs.Indices.{split}
use Rattle.part_laws.proofs.RunsDetermined.{step_named as step_of_event}
use Rattle.run_laws.proofs.Leading.{section_end_is}
use Rattle.run_laws.proofs.Lines.{text_of, text_of_lines}
use Rattle.run_laws.proofs.Nexts.{named_next}
use Rattle.nook_data.proofs.Options.{none_is_some, same_inside}
use Rattle.run_laws.specs.Audit.{Auditing, Done, Section, after_event, after_line, after_step, audited, rest_after, by_due, done_of, first_unfit, is_complete, is_ended, is_line_of, is_next, is_numbered, last_lines, lines_of, opening_audit, opening_section, past_section, section_after, section_end, step_named, with_due, with_section}
use Rattle.run_laws.specs.Fitting.{AllFit, FitsFrom, IsNext, fitting_text, section_from, sections_of}

some_none : {X G : Type 0} {x : X} → Some x ≡ None → G
some_none h = cc

-- ---- the due text begins with the line

byte_front : (byte first : ℕ) (line text rest : List ℕ) → (byte == first) ≡ true → text ≡ line ++ rest → first ∷ text ≡ byte ∷ (line ++ rest)
byte_front byte first line text rest e h = let same : byte ≡ first = eqb-true byte first e in cc

following_is : (line text rest : List ℕ) → rest_after line text ≡ Some rest → text ≡ line ++ rest
following_is [] text rest h = same_inside h
following_is (byte ∷ line) [] rest h = none_is_some h
following_is (byte ∷ line) (first ∷ text) rest h = split (byte == first)
    (λ e. byte_front byte first line text rest e (following_is line text rest (rw e at h)))
    (λ e. none_is_some (rw e at h))

record IsTaken (a : Auditing) (line due : List ℕ) (b : Auditing) : Type 0 where
  rest : List ℕ
  is : due ≡ line ++ rest
  after : record a { due = rest } ≡ b

next_taken : (a b : Auditing) (line due : List ℕ) → is_next a line due ≡ Some b → IsTaken a line due b
next_taken a b line due h = by_rest (rest_after line due) refl h
  where
    by_rest : (o : Option (List ℕ)) → rest_after line due ≡ o → with_due a o ≡ Some b → IsTaken a line due b
    by_rest None e k = none_is_some k
    by_rest (Some rest) e k = record { rest = rest; is = following_is line due rest e; after = same_inside k }

-- ---- a line of an event

record IsStep (a : Auditing) (s : Section) (line : List ℕ) (b : Auditing) : Type 0 where
  taken : Step
  next : IsNext s taken
  may : enabled s.seat.run.state taken ≡ true
  is : line ≡ event_line (suc (length s.seat.run.journal)) (event_of s.seat.run.state taken)
  after : record a { current = Some (section_after s taken) } ≡ b

step_by : (a b : Auditing) (s : Section) (line : List ℕ) (o : Option Step) → step_named s line ≡ o → with_section a (after_step s line o) ≡ Some b → IsStep a s line b
step_by a b s line None e h = none_is_some h
step_by a b s line (Some taken) e h = split (is_line_of s taken line)
    (λ k.
    let parts = and_parts (enabled s.seat.run.state taken) _ k in
    record {
      taken = taken;
      next = named_next s line taken e;
      may = parts.0;
      is = (bytes_eq-Decides line (event_line (suc (length s.seat.run.journal)) (event_of s.seat.run.state taken))).0 parts.1;
      after = same_inside (rw k at h);
    })
    (λ k. none_is_some (rw k at h))

step_taken : (a b : Auditing) (s : Section) (line : List ℕ) → with_section a (after_event s line) ≡ Some b → IsStep a s line b
unfolding after_event
step_taken a b s line h = step_by a b s line (step_named s line) refl h

-- an event that a section's step makes, followed by events that fit after it
event_before : (s : Section) (taken : Step) (events : List Event) → enabled s.seat.run.state taken ≡ true → IsNext s taken
    → FitsFrom (section_after s taken) events → FitsFrom s (event_of s.seat.run.state taken ∷ events)
unfolding FitsFrom
event_before s taken events may next h =
    subst (λ x. (enabled s.seat.run.state x ≡ true) × (event_of s.seat.run.state x ≡ event_of s.seat.run.state taken) × IsNext s x × FitsFrom (section_after s x) events)
    (sym (step_of_event s.seat.run.state taken)) (may, refl, next, h)

module _ (scenario : Scenario) where
  -- ---- each line is taken

  record Passed (a : Auditing) (n : ℕ) (line : List ℕ) (lines : List (List ℕ)) : Type 0 where
    after : Auditing
    taken : by_due scenario a a.due line ≡ Some after
    more : first_unfit scenario after (suc n) lines ≡ None

  line_taken : (a b : Auditing) (line : List ℕ) → after_line scenario a line ≡ Some b → by_due scenario a a.due line ≡ Some b
  unfolding after_line
  line_taken a b line h = split (is_ended line) (λ e. rw e at h) (λ e. none_is_some (rw e at h))

  first_passed : (a : Auditing) (n : ℕ) (line : List ℕ) (lines : List (List ℕ)) → first_unfit scenario a n (line ∷ lines) ≡ None → Passed a n line lines
  unfolding first_unfit
  first_passed a n line lines h = by_after (after_line scenario a line) refl h
    where
      by_after : (o : Option Auditing) → after_line scenario a line ≡ o
          → elim o as (λ x. Option ℕ) [ None ↦ Some n | (Some b) ↦ first_unfit scenario b (suc n) lines ] ≡ None → Passed a n line lines
      by_after None e k = some_none k
      by_after (Some b) e k = record { after = b; taken = line_taken a b line e; more = k }

  -- ---- the lines after the sections

  abbrev ending : List Done → List ℕ → Auditing
  ending done due = record { sections = done; current = None; due = due; coming = []; last = true }

  ending_reads : (done : List Done) (due : List ℕ) (n : ℕ) (lines : List (List ℕ)) → first_unfit scenario (ending done due) n lines ≡ None → text_of lines ≡ due
  unfolding first_unfit
  ending_reads done [] n [] h = refl
  ending_reads done (byte ∷ due) n [] h = some_none h
  ending_reads done [] n (line ∷ lines) h = none_is_some (first_passed (ending done []) n line lines h).taken
  ending_reads done (byte ∷ due) n (line ∷ lines) h =
      let p : Passed (ending done (byte ∷ due)) n line lines = first_passed (ending done (byte ∷ due)) n line lines h in
      let t : IsTaken (ending done (byte ∷ due)) line (byte ∷ due) p.after = next_taken (ending done (byte ∷ due)) p.after line (byte ∷ due) p.taken in
      ap (λ text. line ++ text) (ending_reads done t.rest (suc n) lines (subst (λ b. first_unfit scenario b (suc n) lines ≡ None) (sym t.after) p.more)) ∙ sym t.is

  -- ---- the sections

  abbrev between : List Done → List PartSpec → List ℕ → Auditing
  between done coming due = record { sections = done; current = None; due = due; coming = coming; last = false }

  abbrev within : List Done → Section → List PartSpec → Auditing
  within done s coming = record { sections = done; current = Some s; due = []; coming = coming; last = false }

  -- what is read between two sections: the due text, and the parts still to come
  record Between (done : List Done) (index : ℕ) (coming : List PartSpec) (due text : List ℕ) : Type 0 where
    journals : List (List Event)
    fit : AllFit scenario.threads index coming journals
    is : text ≡ due ++ (parts_text index coming journals ++ last_lines scenario (done ++ sections_of scenario.threads index coming journals))

  -- what is read in a section: its events, its end, and the parts still to come
  record Within (done : List Done) (index : ℕ) (s : Section) (coming : List PartSpec) (text : List ℕ) : Type 0 where
    events : List Event
    journals : List (List Event)
    fits : FitsFrom s events
    fit : AllFit scenario.threads (suc index) coming journals
    is : text ≡ event_lines (suc (length s.seat.run.journal)) events ++ (section_end (section_from s events)
        ++ (parts_text (suc index) coming journals ++ last_lines scenario (done ++ done_of (section_from s events) ∷ sections_of scenario.threads (suc index) coming journals)))

  record Reads (lines : List (List ℕ)) : Type 0 where
    outside : (done : List Done) (index : ℕ) (coming : List PartSpec) (due : List ℕ) (n : ℕ) → length done ≡ index
        → first_unfit scenario (between done coming due) n lines ≡ None → Between done index coming due (text_of lines)
    inside : (done : List Done) (index : ℕ) (s : Section) (coming : List PartSpec) (n : ℕ) → length done ≡ index
        → first_unfit scenario (within done s coming) n lines ≡ None → Within done index s coming (text_of lines)

  nothing_read : Reads []
  unfolding first_unfit
  nothing_read = record {
    outside = λ done index coming due n at h. some_none h;
    inside = λ done index s coming n at h. some_none h;
  }

  -- ---- one more line

  module _ (line : List ℕ) (lines : List (List ℕ)) (reads : Reads lines) where
    unfit_after : (a b : Auditing) (n : ℕ) → a ≡ b → first_unfit scenario b n lines ≡ None → first_unfit scenario a n lines ≡ None
    unfit_after a b n e h = subst (λ x. first_unfit scenario x n lines ≡ None) (sym e) h

    due_read : (done : List Done) (index : ℕ) (coming : List PartSpec) (byte : ℕ) (due : List ℕ) (n : ℕ) → length done ≡ index
        → Passed (between done coming (byte ∷ due)) n line lines → Between done index coming (byte ∷ due) (line ++ text_of lines)
    due_read done index coming byte due n at p =
        let t : IsTaken (between done coming (byte ∷ due)) line (byte ∷ due) p.after = next_taken (between done coming (byte ∷ due)) p.after line (byte ∷ due) p.taken in
        let r : Between done index coming t.rest (text_of lines) =
        reads.outside done index coming t.rest (suc n) at (unfit_after (between done coming t.rest) p.after (suc n) t.after p.more) in
        let after_it : List ℕ = parts_text index coming r.journals ++ last_lines scenario (done ++ sections_of scenario.threads index coming r.journals) in
        record {
          journals = r.journals;
          fit = r.fit;
          is = ap (λ text. line ++ text) r.is ∙ sym (append_assoc line t.rest after_it) ∙ ap (λ text. text ++ after_it) (sym t.is);
        }

    last_read : (done : List Done) (index : ℕ) (n : ℕ) → Passed (between done [] []) n line lines → Between done index [] [] (line ++ text_of lines)
    unfolding AllFit parts_text sections_of
    last_read done index n p =
        let t : IsTaken (ending done []) line (last_lines scenario done) p.after = next_taken (ending done []) p.after line (last_lines scenario done) p.taken in
        let others : text_of lines ≡ t.rest = ending_reads done t.rest (suc n) lines (unfit_after (ending done t.rest) p.after (suc n) t.after p.more) in
        record {
          journals = [];
          fit = tt;
          is = ap (λ text. line ++ text) others ∙ sym t.is ∙ ap (last_lines scenario) (sym (append-nil done));
        }

    five_pieces : (a b c d e : List ℕ) → ((a ++ (b ++ c)) ++ d) ++ e ≡ a ++ (b ++ (c ++ (d ++ e)))
    five_pieces a b c d e = simp append_assoc

    part_read : (done : List Done) (index : ℕ) (spec : PartSpec) (coming : List PartSpec) (n : ℕ) → length done ≡ index
        → line ≡ part_line index spec → first_unfit scenario (within done (opening_section scenario.threads index spec) coming) (suc n) lines ≡ None
        → Between done index (spec ∷ coming) [] (line ++ text_of lines)
    unfolding AllFit parts_text part_text sections_of
    part_read done index spec coming n at is h =
        let s : Section = opening_section scenario.threads index spec in
        let r : Within done index s coming (text_of lines) = reads.inside done index s coming (suc n) at h in
        let others : List ℕ = parts_text (suc index) coming r.journals in
        let last : List ℕ = last_lines scenario (done ++ done_of (section_from s r.events) ∷ sections_of scenario.threads (suc index) coming r.journals) in
        record {
          journals = r.events ∷ r.journals;
          fit = (r.fits, r.fit);
          is = ap (λ text. text ++ text_of lines) is ∙ ap (λ text. part_line index spec ++ text) r.is
              ∙ ap (λ text. part_line index spec ++ (event_lines 1 r.events ++ (text ++ (others ++ last)))) (section_end_is scenario.threads index spec r.events r.fits)
              ∙ sym (five_pieces (part_line index spec) (event_lines 1 r.events) _ others last);
        }

    begun_read : (done : List Done) (index : ℕ) (spec : PartSpec) (coming : List PartSpec) (n : ℕ) → length done ≡ index
        → Passed (between done (spec ∷ coming) []) n line lines → Between done index (spec ∷ coming) [] (line ++ text_of lines)
    begun_read done index spec coming n at p = split (bytes_eq line (part_line (length done) spec))
        (λ e. part_read done index spec coming n at
        ((bytes_eq-Decides line (part_line (length done) spec)).0 e ∙ ap (λ (k : ℕ). part_line k spec) at)
        (unfit_after (within done (opening_section scenario.threads index spec) coming) p.after (suc n)
        (ap (λ (k : ℕ). within done (opening_section scenario.threads k spec) coming) (sym at) ∙ same_inside (rw e at p.taken)) p.more))
        (λ e. none_is_some (rw e at p.taken))

    outside_read : (done : List Done) (index : ℕ) (coming : List PartSpec) (due : List ℕ) (n : ℕ) → length done ≡ index
        → first_unfit scenario (between done coming due) n (line ∷ lines) ≡ None → Between done index coming due (line ++ text_of lines)
    outside_read done index coming (byte ∷ due) n at h = due_read done index coming byte due n at (first_passed (between done coming (byte ∷ due)) n line lines h)
    outside_read done index [] [] n at h = last_read done index n (first_passed (between done [] []) n line lines h)
    outside_read done index (spec ∷ coming) [] n at h = begun_read done index spec coming n at (first_passed (between done (spec ∷ coming) []) n line lines h)

    -- the text after a section that is at its end
    abbrev after_section : List Done → ℕ → List PartSpec → List (List Event) → Section → List ℕ
    after_section done index coming journals s =
        section_end s ++ (parts_text (suc index) coming journals ++ last_lines scenario (done ++ done_of s ∷ sections_of scenario.threads (suc index) coming journals))

    event_read : (done : List Done) (index : ℕ) (s : Section) (coming : List PartSpec) (n : ℕ) (after : Auditing) → length done ≡ index
        → IsStep (within done s coming) s line after → first_unfit scenario after (suc n) lines ≡ None → Within done index s coming (line ++ text_of lines)
    unfolding section_after event_lines
    event_read done index s coming n after at t h =
        let r : Within done index (section_after s t.taken) coming (text_of lines) =
        reads.inside done index (section_after s t.taken) coming (suc n) at (unfit_after (within done (section_after s t.taken) coming) after (suc n) t.after h) in
        let e : Event = event_of s.seat.run.state t.taken in
        let size : length (s.seat.run.journal ++ e ∷ []) ≡ suc (length s.seat.run.journal) = length-append s.seat.run.journal (e ∷ []) ∙ one_more (length s.seat.run.journal) in
        record {
          events = e ∷ r.events;
          journals = r.journals;
          fits = event_before s t.taken r.events t.may t.next r.fits;
          fit = r.fit;
          is = ap (λ text. text ++ text_of lines) t.is
              ∙ ap (λ text. event_line (suc (length s.seat.run.journal)) e ++ text)
              (r.is ∙ ap (λ (k : ℕ). event_lines (suc k) r.events ++ after_section done index coming r.journals (section_from (section_after s t.taken) r.events)) size)
              ∙ sym (append_assoc (event_line (suc (length s.seat.run.journal)) e) (event_lines (suc (suc (length s.seat.run.journal))) r.events) _)
              ∙ ap (λ (x : Step). event_lines (suc (length s.seat.run.journal)) (e ∷ r.events)
              ++ after_section done index coming r.journals (section_from (section_after s x) r.events)) (sym (step_of_event s.seat.run.state t.taken));
        }
      where
        one_more : (k : ℕ) → k + 1 ≡ suc k
        one_more k = omega arith

    end_read : (done : List Done) (index : ℕ) (s : Section) (coming : List PartSpec) (n : ℕ) (after : Auditing) → length done ≡ index → is_complete s ≡ true
        → is_next (past_section (within done s coming) s) line (section_end s) ≡ Some after → first_unfit scenario after (suc n) lines ≡ None
        → Within done index s coming (line ++ text_of lines)
    unfolding FitsFrom event_lines
    end_read done index s coming n after at complete e h =
        let t : IsTaken (past_section (within done s coming) s) line (section_end s) after = next_taken (past_section (within done s coming) s) after line (section_end s) e in
        let size : length (done ++ done_of s ∷ []) ≡ suc index = length-append done (done_of s ∷ []) ∙ ap (λ (k : ℕ). k + 1) at ∙ one_more index in
        let r : Between (done ++ done_of s ∷ []) (suc index) coming t.rest (text_of lines) =
        reads.outside (done ++ done_of s ∷ []) (suc index) coming t.rest (suc n) size (unfit_after (between (done ++ done_of s ∷ []) coming t.rest) after (suc n) t.after h) in
        let after_it : List ℕ = parts_text (suc index) coming r.journals
        ++ last_lines scenario ((done ++ done_of s ∷ []) ++ sections_of scenario.threads (suc index) coming r.journals) in
        record {
          events = [];
          journals = r.journals;
          fits = complete;
          fit = r.fit;
          is = ap (λ text. line ++ text) r.is ∙ sym (append_assoc line t.rest after_it) ∙ ap (λ text. text ++ after_it) (sym t.is)
              ∙ ap (λ all. section_end s ++ (parts_text (suc index) coming r.journals ++ last_lines scenario all))
              (append_assoc done (done_of s ∷ []) (sections_of scenario.threads (suc index) coming r.journals));
        }
      where
        one_more : (k : ℕ) → k + 1 ≡ suc k
        one_more k = omega arith

    inside_read : (done : List Done) (index : ℕ) (s : Section) (coming : List PartSpec) (n : ℕ) → length done ≡ index
        → first_unfit scenario (within done s coming) n (line ∷ lines) ≡ None → Within done index s coming (line ++ text_of lines)
    inside_read done index s coming n at h =
        let p : Passed (within done s coming) n line lines = first_passed (within done s coming) n line lines h in
        split (is_numbered line)
        (λ e. event_read done index s coming n p.after at (step_taken (within done s coming) p.after s line (rw e at p.taken)) p.more)
        (λ e. split (is_complete s)
        (λ k. end_read done index s coming n p.after at k (rw (e, k) at p.taken) p.more)
        (λ k. none_is_some (rw (e, k) at p.taken)))

  all_read : (lines : List (List ℕ)) → Reads lines
  all_read [] = nothing_read
  all_read (line ∷ lines) =
      let reads : Reads lines = all_read lines in
      record { outside = outside_read line lines reads; inside = inside_read line lines reads }

pub report_read : (scenario : Scenario) (report : List ℕ) → audited scenario report ≡ None
    → (journals : List (List Event)) × AllFit scenario.threads 0 scenario.parts journals × (report ≡ fitting_text scenario journals)
unfolding audited fitting_text opening_audit
report_read scenario report h =
    let r : Between scenario [] 0 scenario.parts [] (text_of (lines_of report)) =
    (all_read scenario (lines_of report)).outside [] 0 scenario.parts [] 1 refl h in
    (r.journals, r.fit, sym (text_of_lines report) ∙ r.is)
