use Rattle.part_core.proofs.Claimed.{blocked_is}
use Rattle.part_core.proofs.state.State.is_blocked.Goals as goal

pub returns : goal.returns
returns c =
    let known = rw (← c.self.view_is) at c.requires in
    rw (← c.self.view_is) (blocked_is c.self.inside.spec.class c.args.call.now c.self.inside.log.pending c.blocked_by.result c.is_some.result
    known c.blocked_by.ensures c.is_some.ensures)
