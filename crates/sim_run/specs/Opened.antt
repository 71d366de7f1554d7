use Rattle.std.specs.Prelude.{Option, Some, None}
use Rattle.run_defs.specs.Simulation.{Waiting}
use Rattle.sim_run.specs.declared.script.Open.{Open}

-- the open call that a thread's mark represents
abbrev pub waiting_of : Option Open → Option Waiting
waiting_of None = None
waiting_of (Some o) = Some (record { part = o.part; call = o.call })
