use Rattle.std.proofs.Common.{◌≡◌, ◌-◌, [], ◌++◌}
use Rattle.machine_defs.specs.Pages.{opening_memory, opening_objects}
use Rattle.domain_pages.proofs.frames.opening_frames.Given as goal

abbrev pub invariant-loop-object : goal.invariant-loop-object
invariant-loop-object l = l.frames.items ++ opening_objects l.object (13 - l.object) ≡ opening_memory []
