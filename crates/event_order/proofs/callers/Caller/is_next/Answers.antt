use Rattle.std.proofs.Common.{sym, ◌∙◌}
use Rattle.event_order.proofs.Nexts.{decided}
use Rattle.event_order.proofs.callers.Caller.is_next.Goals as goal

pub returns : goal.returns
returns c =
    decided c.self.inside.rest.now c.self.inside.waiting c.args.self.now c.args.part c.args.op.now c.in-Some.field-0.now c.is_same.result
    c.self.view_is (sym c.is_some.ensures ∙ c.if-is_some.false) (sym c.in-Some.ensures.value) c.if-own-part.false c.is_same.ensures
