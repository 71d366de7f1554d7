use Rattle.std.proofs.Common.{◌≡◌, drop}
use Rattle.nook_data.specs.Names.{is_among}
use Rattle.nook_data.specs.Valid.{part_names}
use Rattle.scenario_read.proofs.names.has_part.Given as goal

abbrev pub invariant-loop-part : goal.invariant-loop-part
invariant-loop-part l = is_among (part_names l.parts) l.name ≡ is_among (part_names (drop l.part-index l.parts)) l.name
