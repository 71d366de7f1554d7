use Rattle.std.proofs.Common.{rules, tests}
use Rattle.std.proofs.lemmas.Iterator.{YieldsList-from_slice}
use Rattle.std.proofs.lemmas.Iterator.Search.{position_from_yields_List}
use Rattle.part_defs.specs.Log.{is_call}
use Rattle.shadow_log.proofs.Numbers.{position_is}
use Rattle.shadow_log.proofs.log.position_of.Goals as goal

pub returns : goal.returns
returns c = position_is c.args.call c.args.pending.now c.position.result
    (position_from_yields_List (is_call c.args.call) _ _ _ c.position.ensures.ran (YieldsList-from_slice c.args.pending.now cc) (λ x b q k. search (rules, tests)))
