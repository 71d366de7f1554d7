use Rattle.std.proofs.Common.{◌≡◌, ℕ, List, ◌∷◌, Bor, Some, true, false, bytes_eq, length, refl, sym, ap, subst, ◌∙◌}
use Rattle.std.proofs.lemmas.Slice.Eq.{bytes_eq-Decides}
use Rattle.std.proofs.lemmas.Result.{err_from_is_err_and}
use Rattle.run_laws.specs.Audit.{opening_section}
use Rattle.report_defs.specs.ReportText.{part_line}
use Rattle.journal_audit.proofs.Finding.{line_fits, line_unfit, no_line_unfit, part_line_fits, part_line_unfit, stopped}
use Rattle.journal_audit.proofs.auditing.check_part_line.Goals as goal
use Rattle.journal_audit.specs.Found.{between, found_from, inside}
use Rattle.journal_audit.proofs.Following.{line_passed}
use Rattle.journal_audit.specs.Position.{HasNoLine, IsNextLine, PassesLine, past}

pub returns-in_err-line-clause-checks : goal.returns-in_err-line-clause-checks
returns-in_err-line-clause-checks c = λ scenario sections coming at.
    let p = err_from_is_err_and c.from_residual.result c.from_residual.ensures.1 in
    rw (p.1, p.2)
    (stopped (Bor (List ℕ)) (Unit {0}) c.in_err-line.field-0.0 (found_from scenario (between sections (c.args.spec.now ∷ coming)) c.args.cursor.now) _
    (HasNoLine c.args.cursor.now) c.in_err-line.ensures.unfit
    (λ line h. no_line_unfit scenario (between sections (c.args.spec.now ∷ coming)) c.args.cursor.now line refl h))

pub returns-then-not-branch-clause-checks : goal.returns-then-not-branch-clause-checks
returns-then-not-branch-clause-checks c = λ scenario sections coming at.
    let next : IsNextLine c.args.cursor.now c.in_ok-line.line.now = c.in_ok-line.ensures.ok in
    let other : bytes_eq c.in_ok-line.line.now (part_line c.args.index c.args.spec.now) ≡ false = sym c.in_ok-is_part_line.ensures ∙ c.if-not-branch.true in
    line_unfit scenario (between sections (c.args.spec.now ∷ coming)) c.args.cursor.now c.in_ok-line.line.now next
    (part_line_unfit scenario sections c.args.index c.args.spec.now coming c.in_ok-line.line.now next.ended at other)
    ∙ ap Some (sym c.number.ensures)

pub returns-clause-checks : goal.returns-clause-checks
returns-clause-checks c = λ scenario sections coming at.
    let next : IsNextLine c.args.cursor.now c.in_ok-line.line.now = c.in_ok-line.ensures.ok in
    let same : bytes_eq c.in_ok-line.line.now (part_line c.args.index c.args.spec.now) ≡ true = sym c.in_ok-is_part_line.ensures ∙ c.if-not-branch.false in
    line_fits scenario (between sections (c.args.spec.now ∷ coming)) (inside sections (opening_section scenario.threads c.args.index c.args.spec.now) coming)
    c.args.cursor.now c.in_ok-line.line.now next
    (part_line_fits scenario sections c.args.index c.args.spec.now coming c.in_ok-line.line.now next.ended at same)
    ∙ ap (found_from scenario (inside sections (opening_section scenario.threads c.args.index c.args.spec.now) coming)) (sym c.skip.ensures)

pub returns-clause-text : goal.returns-clause-text
returns-clause-text c =
    let line = c.in_ok-line.line.now in
    let next : IsNextLine c.args.cursor.now line = c.in_ok-line.ensures.ok in
    let same : bytes_eq line (part_line c.args.index c.args.spec.now) ≡ true = sym c.in_ok-is_part_line.ensures ∙ c.if-not-branch.false in
    subst (PassesLine (part_line c.args.index c.args.spec.now) c.args.cursor.now) (sym c.skip.ensures)
    (subst (λ l. PassesLine l c.args.cursor.now (past (length line) c.args.cursor.now))
    ((bytes_eq-Decides line (part_line c.args.index c.args.spec.now)).0 same) (line_passed c.args.cursor.now line next))
