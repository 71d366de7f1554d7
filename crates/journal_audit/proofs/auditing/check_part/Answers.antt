-- The parts of a section are checked one after another.
use Rattle.std.proofs.Common.{◌≡◌, ℕ, ◌∷◌, List, length, sym, ap, subst, ◌∙◌}
use Rattle.std.proofs.lemmas.Result.{err_from_is_err_and}
use Rattle.run_laws.specs.Audit.{opening_audit, opening_section}
use Rattle.nook_data.specs.declared.scenario.PartSpec.{PartSpec as Spec}
use Rattle.journal_audit.proofs.Finding.{passed}
use Rattle.journal_audit.proofs.Sections.{section_ends}
use Rattle.journal_audit.proofs.auditing.check_part.Goals as goal
use Rattle.journal_audit.proofs.auditing.check_part.Goals.{In_ok-section}
use Rattle.journal_audit.specs.Found.{ArePast, found_from, inside}
use Rattle.journal_audit.specs.Position.{Position}
use Rattle.journal_audit.specs.Readings.{Reads}

opened : (c : In_ok-section) → c.in_ok-section.section ≡ opening_section c.args.scenario.now.threads c.args.index c.args.spec.now
opened c = c.in_ok-section.ensures ∙ ap (λ threads. opening_section threads c.args.index c.args.spec.now) c.as_slice.ensures

begun : (c : In_ok-section) (first : Position) (specs coming : List Spec) → length specs ≡ c.args.index
    → (past : ArePast c.args.scenario.now first specs (c.args.spec.now ∷ coming) c.args.cursor.now c.args.past.now)
    → found_from c.args.scenario.now (opening_audit c.args.scenario.now) first
    ≡ found_from c.args.scenario.now (inside past.sections c.in_ok-section.section coming) c.check_part_line.new.cursor
begun c first specs coming many past =
    past.same
    ∙ (c.in_ok-check_part_line.ensures.checks c.args.scenario.now past.sections coming (past.sums.many ∙ many)
    ∙ ap (λ s. found_from c.args.scenario.now (inside past.sections s coming) c.check_part_line.new.cursor) (sym (opened c)))

pub returns-in_err-check_events : goal.returns-in_err-check_events
returns-in_err-check_events c = λ first specs coming many past.
    let here = (goal.at.returns-in_err-check_events c).In_ok-section in
    let p = err_from_is_err_and c.from_residual-in_err-check_events.result c.from_residual-in_err-check_events.ensures.1 in
    rw (p.1, p.2)
    (passed (Unit {0}) (Unit {0}) c.in_err-check_events.field-0.0 (found_from c.args.scenario.now (opening_audit c.args.scenario.now) first)
    (found_from c.args.scenario.now (inside past.sections c.in_ok-section.section coming) c.check_part_line.new.cursor) _ _
    (c.in_err-check_events.ensures.checks c.args.scenario.now past.sections coming) (begun here first specs coming many past))

pub returns : goal.returns
returns c = λ first specs coming many past.
    let here = (goal.at.returns c).In_ok-section in
    let s = c.check_events.new.section in
    let reads : Reads (opening_section c.args.scenario.now.threads c.args.index c.args.spec.now) s c.check_part_line.new.cursor c.check_events.new.cursor =
    subst (λ x. Reads x s c.check_part_line.new.cursor c.check_events.new.cursor) (opened here) c.in_ok-check_events.ensures.reads in
    let index : s.index ≡ c.args.index = reads.index in
    let spec : s.spec ≡ c.args.spec.now = reads.spec in
    section_ends c.check_ending.result c.args.scenario.now first specs coming c.args.spec.now c.args.index s c.args.cursor.now
    c.check_part_line.new.cursor c.check_events.new.cursor c.check_ending.new.cursor c.args.past.now c.check_ending.new.past past many spec
    c.in_ok-check_part_line.ensures.text reads
    (begun here first specs coming many past ∙ c.in_ok-check_events.ensures.checks c.args.scenario.now past.sections coming)
    (c.check_ending.ensures.checks c.args.scenario.now past.sections coming c.in_ok-check_events.ensures.ending)
    c.check_ending.ensures.complete c.check_ending.ensures.text c.check_ending.ensures.ends
    (c.check_ending.ensures.sums specs past.sections (many ∙ sym index) past.sums)
