use Rattle.std.specs.Prelude.{ℕ, ◌+◌, List, [], ◌∷◌}
use Rattle.report_defs.specs.Campaigns.{lost_of}
use Rattle.run_results.specs.declared.report.PartReport.{PartReport}

-- the losses of some parts
abbrev pub lost_in : List PartReport → ℕ
lost_in [] = 0
lost_in (part ∷ parts) = lost_of part.losses + lost_in parts
