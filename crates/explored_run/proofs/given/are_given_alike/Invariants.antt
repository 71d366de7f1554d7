use Rattle.std.proofs.Common.{◌≡◌, length, map, take}
use Rattle.explored_run.specs.Alike.{given_at}
use Rattle.explored_run.proofs.given.are_given_alike.Given as goal

abbrev pub invariant-loop-number : goal.invariant-loop-number
invariant-loop-number l = (length l.simulation.parts ≡ length l.other.parts) × (map given_at (take l.number l.simulation.parts) ≡ map given_at (take l.number l.other.parts))
