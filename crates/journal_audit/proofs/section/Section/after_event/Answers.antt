use Rattle.std.proofs.Common.{◌∙◌, sym}
use Rattle.journal_audit.proofs.SectionSteps.{is_taken, line_fits, none_named, not_taken, other_line, some_event}
use Rattle.journal_audit.proofs.section.Section.after_event.Goals as goal

pub returns-in_default : goal.returns-in_default
returns-in_default c = none_named c.args.self.now c.args.line.now (sym c.in_default.is ∙ c.in_ok-step.ensures)

pub returns-then-not-branch : goal.returns-then-not-branch
returns-then-not-branch c =
    not_taken c.args.self.now c.take.new.self c.args.line.now c.in-Some.step c.in_ok-take.field-0 (sym c.in-Some.is ∙ c.in_ok-step.ensures)
    c.if-not-branch.true c.in_ok-take.ensures

pub is_newest-requires : goal.is_newest-requires
is_newest-requires c =
    some_event c.args.self.now c.take.new.self c.in-Some.step
    (is_taken c.args.self.now c.take.new.self c.in-Some.step c.in_ok-take.field-0 c.if-not-branch.false c.in_ok-take.ensures)

pub returns-then-not-branch-2 : goal.returns-then-not-branch-2
returns-then-not-branch-2 c =
    other_line c.args.self.now c.take.new.self c.args.line.now c.in-Some.step c.in_ok-is_newest.field-0 (sym c.in-Some.is ∙ c.in_ok-step.ensures)
    (is_taken c.args.self.now c.take.new.self c.in-Some.step c.in_ok-take.field-0 c.if-not-branch.false c.in_ok-take.ensures)
    c.if-not-branch-2.true c.in_ok-is_newest.ensures

pub hear-requires : goal.hear-requires
hear-requires c =
    some_event c.args.self.now c.take.new.self c.in-Some.step
    (is_taken c.args.self.now c.take.new.self c.in-Some.step c.in_ok-take.field-0 c.if-not-branch.false c.in_ok-take.ensures)

pub returns : goal.returns
returns c =
    line_fits c.args.self.now c.take.new.self c.hear.new.self c.args.line.now c.in-Some.step c.in_ok-is_newest.field-0
    (sym c.in-Some.is ∙ c.in_ok-step.ensures)
    (is_taken c.args.self.now c.take.new.self c.in-Some.step c.in_ok-take.field-0 c.if-not-branch.false c.in_ok-take.ensures)
    c.if-not-branch-2.false c.in_ok-is_newest.ensures c.in_ok-hear.ensures
