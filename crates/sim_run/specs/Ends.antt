use Rattle.std.specs.Prelude.{List, map}
use Rattle.run_defs.specs.Simulation.{RunningPart}
use Rattle.run_results.specs.declared.report.PartEnd.{PartEnd}
use Rattle.run_ends.specs.Ends.{end_of}

-- the final state of a part of a simulation
abbrev pub end_of_seat : RunningPart → PartEnd
end_of_seat seat = end_of seat.run.state

-- the final state of each part
abbrev pub ends_of : List RunningPart → List PartEnd
ends_of seats = map end_of_seat seats
