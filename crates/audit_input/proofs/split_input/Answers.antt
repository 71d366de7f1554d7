use Rattle.audit_input.proofs.Lengths.{hands_too_few, hands_without_feed, hands_without_length}
use Rattle.audit_input.proofs.split_input.Goals as goal

pub returns-in_default-clause-none : goal.returns-in_default-clause-none
returns-in_default-clause-none c = hands_without_feed c.args.bytes.now c.in_default.ensures

pub returns-in_default-length_named-clause-none : goal.returns-in_default-length_named-clause-none
returns-in_default-length_named-clause-none c = hands_without_length c.args.bytes.now c.in-Some.end c.in-Some.ensures c.in_default-length_named.ensures.none

pub returns-then-rest-length-clause-none : goal.returns-then-rest-length-clause-none
returns-then-rest-length-clause-none c =
    let named = c.in-Some-length_named.ensures.found in
    hands_too_few c.args.bytes.now c.in-Some.end c.in-Some-length_named.length c.in-Some.ensures named.0 named.1 c.if-rest-length.true
