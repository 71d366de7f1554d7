use Rattle.std.proofs.Common.{◌∙◌}
use Rattle.audit_input.proofs.Lengths.{above, another, differ, named_utf8, unparsed}
use Rattle.audit_input.proofs.length_named.Goals as goal

pub returns-in_default-clause-none : goal.returns-in_default-clause-none
returns-in_default-clause-none c = λ n e small. absurd (c.in_default.ensures.cases.0 (named_utf8 c.args.text.now n e small))

pub returns-in_default-parse-clause-none : goal.returns-in_default-parse-clause-none
returns-in_default-parse-clause-none c =
    unparsed _ c.args.text.now c.in-Ok.text.now c.parse.result c.in_default-parse.field-0 c.in-Ok.ensures.cases.0 c.parse.ensures.value.0
    c.in_default-parse.is

pub returns-then-number-ge-TOO_LONG-clause-none : goal.returns-then-number-ge-TOO_LONG-clause-none
returns-then-number-ge-TOO_LONG-clause-none c =
    above _ c.args.text.now c.in-Ok.text.now c.parse.result c.in-Ok-parse.number c.in-Ok.ensures.cases.0 c.parse.ensures.value.0
    c.in-Ok-parse.is c.if-number-ge-TOO_LONG.true

pub returns-then-ne-clause-none : goal.returns-then-ne-clause-none
returns-then-ne-clause-none c =
    another _ c.args.text.now c.in-Ok.text.now c.parse.result c.in-Ok-parse.number c.in-Ok.ensures.cases.0 c.parse.ensures.value.0
    c.in-Ok-parse.is (λ e. differ _ _ c.ne.result c.ne.ensures c.if-ne.true (c.format.ensures.text ∙ e))
