use Rattle.std.proofs.Common.{rules, tests, ◌∙◌}
use Rattle.std.proofs.lemmas.Iterator.{YieldsList-from_slice}
use Rattle.std.proofs.lemmas.Iterator.Search.{find_from_yields_List}
use Rattle.machine_defs.specs.BurstFaults.{is_of_burst}
use Rattle.fault_points.proofs.points.trap_of_burst.Goals as goal

pub returns : goal.returns
returns c =
    c.copied.ensures
    ∙ find_from_yields_List (is_of_burst c.args.burst) _ _ _ c.find.ensures.ran (YieldsList-from_slice c.args.traps.now cc)
    (λ x b q k. search (rules, tests))
