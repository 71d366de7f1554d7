use Rattle.std.proofs.Common.{rules, tests}
use Rattle.std.proofs.lemmas.Iterator.{YieldsList-from_slice}
use Rattle.std.proofs.lemmas.Iterator.Search.{find_from_yields_List}
use Rattle.part_defs.proofs.PartCases.{is_of_thread}
use Rattle.shadow_log.proofs.Numbers.{lent_open}
use Rattle.shadow_log.proofs.log.ShadowLog.call_of_thread.Goals as goal

pub returns-clause-number : goal.returns-clause-number
returns-clause-number c = rw (← c.self.view_is)
    (lent_open (λ x. x.now) c.find.result c.args.thread c.self.inside.count c.self.inside.pending.items c.self.invariant
    (find_from_yields_List (is_of_thread c.args.thread) _ _ _ c.find.ensures.ran (YieldsList-from_slice c.self.inside.pending.items cc) (λ x b q k. search (rules, tests))))
