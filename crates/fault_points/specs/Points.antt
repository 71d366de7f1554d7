use Rattle.std.specs.Prelude.{List, [], ◌∷◌, ◌++◌}
use Rattle.fault_points.specs.declared.points.BurstPoints.{BurstPoints}
use Rattle.guard_defs.specs.Every.{faults_in}
use Rattle.nook_data.specs.Types.{Fault, FaultKind}

-- every fault of some kinds at the positions in some bursts
abbrev pub faults_at : List FaultKind → List BurstPoints → List Fault
faults_at kinds [] = []
faults_at kinds (b ∷ bursts) = faults_in kinds b.burst 0 b.points ++ faults_at kinds bursts
