-- The sections of a report, one after another.
use Rattle.std.proofs.Common.{◌≡◌, ℕ, suc, ◌+◌, ◌<◌, ◌≤◌, true, Result, Ok, Err, OnOk, IfOk, None, Option, Some, List, [], ◌∷◌, ◌++◌, length, map, take, drop, get_or, refl, sym, ap, ◌∙◌, subst, append-nil, append_assoc, arith}
use Rattle.std.proofs.lemmas.List.{drop_all, drop_more, length-take-le, map-append, take_all, take_more}
use Rattle.event_order.proofs.Shorter.{as_many_left, shorter_left}
use Rattle.nook_data.specs.declared.memory.NoMemory.{NoMemory}
use Rattle.nook_data.specs.declared.scenario.PartSpec.{PartSpec}
use Rattle.nook_data.specs.declared.scenario.Scenario.{Scenario}
use Rattle.nook_data.specs.declared.scenario.ThreadSpec.{ThreadSpec}
use Rattle.nook_data.specs.declared.steps.Event.{Event}
use Rattle.order_defs.specs.OutOfOrder.{Finds, FindsAfter, first_left}
use Rattle.order_defs.specs.Taking.{opening_taking}
use Rattle.report_defs.specs.ReportLines.{event_lines}
use Rattle.report_defs.specs.ReportText.{part_line, part_text, parts_text}
use Rattle.run_laws.proofs.Leading.{section_end_is}
use Rattle.run_laws.specs.Audit.{Done, Section, audited, done_of, is_complete, journal_in, last_lines, opening_audit, opening_section, section_end}
use Rattle.run_laws.specs.Fitting.{AllFit, Fits, FitsFrom, fitting_text, section_from, sections_of}
use Rattle.journal_audit.proofs.Backs.{ends_back, fit_back, parts_back, sections_back}
use Rattle.journal_audit.proofs.Following.{follows_both, follows_none}
use Rattle.journal_audit.proofs.LinesFound.{ends_many, lines_same}
use Rattle.journal_audit.specs.Found.{ArePast, FitsByItself, at_last, between, found_from, inside}
use Rattle.journal_audit.specs.LinesLeft.{FirstLeftIs, event_ends, left_line}
use Rattle.journal_audit.specs.PastSections.{Past, SumsUp}
use Rattle.journal_audit.specs.Position.{Follows, PassesLine, Position, feeds}
use Rattle.journal_audit.specs.Readings.{Reads}
use Rattle.journal_audit.specs.Stopping.{Checks, Leads}
use Rattle.journal_audit.specs.declared.stop.Stop.{Stop}
use Rattle.journal_audit.specs.declared.stop.Stop.TheVariants as stops

-- ---- one section

-- the section of a part is complete between two positions, and this is the number of the line after its events
pub record IsRead (threads : List ThreadSpec) (index : ℕ) (spec : PartSpec) (s : Section) (p q : Position) (end : ℕ) : Type 0 where
  pub fits : Fits threads index spec s.seat.run.journal
  pub leads : section_from (opening_section threads index spec) s.seat.run.journal ≡ s
  pub text : Follows (part_text index spec s.seat.run.journal) p q
  pub end_is : end ≡ p.number + suc (length s.seat.run.journal)

module _ (threads : List ThreadSpec) (index : ℕ) (spec : PartSpec) (s : Section) where
  fits_whole : (p q : Position) (r : Reads (opening_section threads index spec) s p q) → is_complete s ≡ true
      → FitsFrom (opening_section threads index spec) r.events
  unfolding FitsFrom
  fits_whole p q r complete =
      subst (FitsFrom (opening_section threads index spec)) (append-nil r.events) (r.fits [] complete)

  text_whole : (p q : Position) (r : Reads (opening_section threads index spec) s p q)
      → FitsFrom (opening_section threads index spec) r.events
      → part_line index spec ++ (event_lines 1 r.events ++ section_end s) ≡ part_text index spec r.events
  unfolding part_text
  text_whole p q r fits =
      ap (λ text. part_line index spec ++ (event_lines 1 r.events ++ text))
      (ap section_end (sym r.leads) ∙ section_end_is threads index spec r.events fits)

  pub read_whole : (p q u v : Position) → PassesLine (part_line index spec) p q → Reads (opening_section threads index spec) s q u
      → is_complete s ≡ true → Follows (section_end s) u v → IsRead threads index spec s p v u.number
  read_whole p q u v line r complete ended =
      let same : s.seat.run.journal ≡ r.events = r.journal in
      let fits : FitsFrom (opening_section threads index spec) r.events = fits_whole q u r complete in
      let many : length s.seat.run.journal ≡ length r.events = ap length same in
      let next : q.number ≡ suc p.number = line.next in
      let lines : u.number ≡ q.number + length r.events = r.lines in
      record {
        fits = subst (Fits threads index spec) (sym same) fits;
        leads = ap (section_from (opening_section threads index spec)) same ∙ r.leads;
        text =
            subst (λ text. Follows text p v) (text_whole q u r fits ∙ ap (part_text index spec) (sym same))
            (follows_both (part_line index spec) (event_lines 1 r.events ++ section_end s) p q v line.follows
            (follows_both (event_lines 1 r.events) (section_end s) q u v r.follows ended));
        end_is = omega arith;
      }

-- one more section is past
past_more : (scenario : Scenario) (first : Position) (specs coming : List PartSpec) (spec : PartSpec) (index : ℕ) (s : Section) (p q : Position) (t u : Past)
    (end : ℕ) (past : ArePast scenario first specs (spec ∷ coming) p t) → length specs ≡ index → s.spec ≡ spec
    → IsRead scenario.threads index spec s p q end
    → found_from scenario (opening_audit scenario) first ≡ found_from scenario (between (past.sections ++ done_of s ∷ []) coming) q
    → SumsUp (specs ++ s.spec ∷ []) (past.sections ++ done_of s ∷ []) u → u.ends ≡ t.ends ++ end ∷ []
    → ArePast scenario first (specs ++ spec ∷ []) coming q u
past_more scenario first specs coming spec index s p q t u end past at same read found sums ended =
    record {
      sections = past.sections ++ done_of s ∷ [];
      sums = subst (λ (x : PartSpec). SumsUp (specs ++ x ∷ []) (past.sections ++ done_of s ∷ []) u) same sums;
      same = found;
      fit =
          subst (AllFit scenario.threads 0 (specs ++ spec ∷ [])) (sym journals)
          (fit_back scenario.threads spec journal 0 specs t.journals past.fit (subst (λ (n : ℕ). Fits scenario.threads n spec journal) (sym number) read.fits));
      are =
          ap (λ l. l ++ done_of s ∷ []) past.are
          ∙ (ap (λ (x : Section). done ++ done_of x ∷ []) (sym read.leads)
          ∙ (ap (λ (n : ℕ). done ++ done_of (section_from (opening_section scenario.threads n spec) journal) ∷ []) (sym number)
          ∙ (sym (sections_back scenario.threads spec journal 0 specs t.journals past.fit)
          ∙ ap (sections_of scenario.threads 0 (specs ++ spec ∷ [])) (sym journals))));
      text =
          subst (λ text. Follows text first q)
          (ap (λ (n : ℕ). parts_text 0 specs t.journals ++ part_text n spec journal) (sym number)
          ∙ (sym (parts_back scenario.threads spec journal 0 specs t.journals past.fit) ∙ ap (parts_text 0 (specs ++ spec ∷ [])) (sym journals)))
          (follows_both (parts_text 0 specs t.journals) (part_text index spec journal) first p q past.text read.text);
      ends =
          ended
          ∙ (ap (λ l. l ++ end ∷ []) past.ends
          ∙ (ap (λ (n : ℕ). event_ends first.number 0 specs t.journals ++ n ∷ []) (read.end_is ∙ ap (λ (n : ℕ). n + suc (length journal)) past.text.number)
          ∙ (sym (ends_back scenario.threads spec journal first.number 0 specs t.journals past.fit)
          ∙ ap (event_ends first.number 0 (specs ++ spec ∷ [])) (sym journals))));
    }
  where
    journal : List Event
    journal = s.seat.run.journal

    done : List Done
    done = sections_of scenario.threads 0 specs t.journals

    number : 0 + length specs ≡ index
    number = omega arith

    journals : u.journals ≡ t.journals ++ journal ∷ []
    journals =
        sums.journals
        ∙ (map-append journal_in past.sections (done_of s ∷ []) ∙ ap (λ l. l ++ journal ∷ []) (sym past.sums.journals))

-- the lines after the events were checked
pub section_ends : (r : Result (Unit {0}) Stop) (scenario : Scenario) (first : Position) (specs coming : List PartSpec) (spec : PartSpec) (index : ℕ)
    (s : Section) (p q u v : Position) (t w : Past) (past : ArePast scenario first specs (spec ∷ coming) p t) → length specs ≡ index → s.spec ≡ spec
    → PassesLine (part_line index spec) p q → Reads (opening_section scenario.threads index spec) s q u
    → found_from scenario (opening_audit scenario) first ≡ found_from scenario (inside past.sections s coming) u
    → Checks r (found_from scenario (inside past.sections s coming) u) (found_from scenario (between (past.sections ++ done_of s ∷ []) coming) v)
    → OnOk r (is_complete s ≡ true) → OnOk r (Follows (section_end s) u v) → OnOk r (w.ends ≡ t.ends ++ u.number ∷ [])
    → OnOk r (SumsUp (specs ++ s.spec ∷ []) (past.sections ++ done_of s ∷ []) w)
    → Leads r (found_from scenario (opening_audit scenario) first) (ArePast scenario first (specs ++ spec ∷ []) coming v w)
section_ends (Ok done) scenario first specs coming spec index s p q u v t w past at same line reads found checks complete ended ends sums =
    past_more scenario first specs coming spec index s p v t w u.number past at same
    (read_whole scenario.threads index spec s p q u v line reads complete ended) (found ∙ checks) sums ends
section_ends (Err (stops.Unfit number)) scenario first specs coming spec index s p q u v t w past at same line reads found checks complete ended ends sums =
    found ∙ checks
section_ends (Err stops.NoMemory) scenario first specs coming spec index s p q u v t w past at same line reads found checks complete ended ends sums = tt

-- ---- all sections

pub parts_begun : (scenario : Scenario) (specs : List PartSpec) (p : Position) (t : Past) → specs ≡ scenario.parts → SumsUp [] [] t → t.ends ≡ []
    → ArePast scenario p [] specs p t
unfolding opening_audit AllFit sections_of parts_text
parts_begun scenario specs p t e sums ends = record {
  sections = [];
  sums = sums;
  same = ap (λ coming. found_from scenario (between [] coming) p) (sym e);
  fit = subst (AllFit scenario.threads 0 []) (sym sums.journals) tt;
  are = refl;
  text = follows_none p;
  ends = ends;
}

module _ (scenario : Scenario) (specs : List PartSpec) (i : ℕ) (first p : Position) (t : Past) where
  pub parts_before : i < length specs → length (take i specs) ≡ i
  parts_before h = let within : i ≤ length specs = omega arith in length-take-le i specs within

  -- the next part is still to come
  pub part_coming : (spec : PartSpec) → i < length specs → spec ≡ get_or specs i spec → ArePast scenario first (take i specs) (drop i specs) p t
      → ArePast scenario first (take i specs) (spec ∷ drop (i + 1) specs) p t
  part_coming spec h e a =
      subst (λ coming. ArePast scenario first (take i specs) coming p t)
      (drop_more specs i spec h ∙ ap {B = List PartSpec} (λ (s : PartSpec). s ∷ drop (i + 1) specs) (sym e)) a

  -- its section is past
  pub part_past : (spec : PartSpec) → i < length specs → spec ≡ get_or specs i spec
      → ArePast scenario first (take i specs ++ spec ∷ []) (drop (i + 1) specs) p t
      → ArePast scenario first (take (i + 1) specs) (drop (i + 1) specs) p t
  part_past spec h e a =
      subst (λ past. ArePast scenario first past (drop (i + 1) specs) p t)
      (ap {B = List PartSpec} (λ (s : PartSpec). take i specs ++ s ∷ []) e ∙ sym (take_more specs i spec h)) a

  pub parts_past : (parts : List PartSpec) → specs ≡ parts → length specs ≤ i → ArePast scenario first (take i specs) (drop i specs) p t
      → ArePast scenario first parts [] p t
  parts_past parts e h a =
      subst (λ past. ArePast scenario first past [] p t) (take_all i specs h ∙ e)
      (subst (λ coming. ArePast scenario first (take i specs) coming p t) (drop_all i specs h) a)

-- ---- the whole report

-- the lines after the sections were checked, and that nothing follows
pub report_ends : (r : Result (Unit {0}) Stop) (scenario : Scenario) (first p q : Position) (t : Past) (past : ArePast scenario first scenario.parts [] p t)
    → found_from scenario (between past.sections []) p ≡ found_from scenario (at_last past.sections []) q
    → Follows (last_lines scenario past.sections) p q → Checks r (found_from scenario (at_last past.sections []) q) None → OnOk r (q.rest ≡ [])
    → Leads r (found_from scenario (opening_audit scenario) first) (FitsByItself scenario first t)
unfolding fitting_text
report_ends (Ok done) scenario first p q t past same last checks over = record {
  none = past.same ∙ (same ∙ checks);
  fit = past.fit;
  text = past.text.rest
      ∙ ap (λ text. parts_text 0 scenario.parts t.journals ++ text)
      (last.rest
      ∙ (ap (λ rest. last_lines scenario past.sections ++ rest) over
      ∙ (append-nil (last_lines scenario past.sections) ∙ ap (last_lines scenario) past.are)));
  ends = past.ends;
}
report_ends (Err (stops.Unfit number)) scenario first p q t past same last checks over = past.same ∙ (same ∙ checks)
report_ends (Err stops.NoMemory) scenario first p q t past same last checks over = tt

audited_from : (scenario : Scenario) (report : List ℕ) (p : Position) → p ≡ record { rest = report; number = 1 }
    → found_from scenario (opening_audit scenario) p ≡ audited scenario report
unfolding audited
audited_from scenario report p e = ap (found_from scenario (opening_audit scenario)) e

-- each section has a number of the line after its events
pub as_many_ends : (scenario : Scenario) (first : Position) (t : Past) → FitsByItself scenario first t → length t.ends ≡ length t.journals
as_many_ends scenario first t h = ap length h.ends ∙ ends_many scenario.threads first.number 0 scenario.parts t.journals h.fit

-- a line does not fit by itself
pub finds_unfit : (scenario : Scenario) (report : List ℕ) (p : Position) (line : ℕ) → p ≡ record { rest = report; number = 1 }
    → found_from scenario (opening_audit scenario) p ≡ Some line → Finds scenario report (Some line)
finds_unfit scenario report p line e h =
    subst (λ found. FindsAfter scenario report found (Some line)) (sym h ∙ audited_from scenario report p e) refl

-- each line fits by itself, and this is the line of the first event left
pub finds_left : (r : Result (Option ℕ) NoMemory) (scenario : Scenario) (report : List ℕ) (p : Position) (t : Past) → p ≡ record { rest = report; number = 1 }
    → FitsByItself scenario p t → IfOk r (FirstLeftIs scenario.threads t) → IfOk r (Finds scenario report)
finds_left (Ok line) scenario report p t e h left =
    subst (λ found. FindsAfter scenario report found line) (sym h.none ∙ audited_from scenario report p e)
    (record {
      journals = t.journals;
      fit = h.fit;
      text_is = ap (λ (x : Position). x.rest) (sym e) ∙ h.text;
      out_of_order = record {
        order = left.order;
        end = left.end;
        leads = left.leads;
        stuck = left.stuck;
        line_is = left.line_is
            ∙ (ap (λ ends. left_line ends left.end.left) (h.ends ∙ ap (λ (n : ℕ). event_ends n 0 scenario.parts t.journals) (ap (λ (x : Position). x.number) e))
            ∙ lines_same scenario.threads 1 0 scenario.parts t.journals left.end.left h.fit
            (as_many_left (opening_taking scenario.threads t.journals) left.end left.order left.leads)
            (shorter_left (opening_taking scenario.threads t.journals) left.end left.order left.leads));
      };
    })
finds_left (Err stop) scenario report p t e h left = tt
