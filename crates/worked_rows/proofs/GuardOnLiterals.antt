use Rattle.std.specs.Prelude.{⊤}
use Rattle.guard_defs.specs.Guard.{guarded}
use Rattle.guard_defs.specs.GuardedRuns.{guarded_runs, guarded_taken}
use Rattle.guard_defs.specs.Turns.{turns_to}
use Rattle.worked_rows.proofs.OnLiterals.{nook_on_literals}

-- a law that computes guarded runs unfolds this one name
unfoldable pub guard_on_literals : ⊤
unfolding nook_on_literals guarded guarded_runs guarded_taken turns_to
guard_on_literals = tt
