use Rattle.std.proofs.Common.{◌≡◌, Some, sym, ◌∙◌, subst}
use Rattle.part_defs.specs.Runs.{PartRun, next_any}
use Rattle.part_server.proofs.Steps.{settle_gives}
use Rattle.part_server.proofs.held.LockedPart.settle.Goals as goal

pub returns-in-Ok-clause-gives : goal.returns-in-Ok-clause-gives
returns-in-Ok-clause-gives c =
    settle_gives c.args.self.now c.step.new.self c.in-Some.step c.in-Ok.field-0 c.in-Ok.ensures.stepped
    (subst (λ (r : PartRun). next_any r.state ≡ Some c.in-Some.step) c.self.view_is (sym c.next_any.ensures.next ∙ c.in-Some.is))
