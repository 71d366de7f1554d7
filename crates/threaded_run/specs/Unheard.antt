-- What a run leaves before it is published.
use Rattle.std.specs.Prelude.{map}
use Rattle.app_threads.specs.declared.stop.WorkerStop.{WorkerStop}
use Rattle.app_threads.specs.declared.stop.WorkerStop.TheVariants as stop
use Rattle.nook_data.specs.declared.desks.DeskRefused.TheVariants as refused
use Rattle.nook_data.specs.declared.scenario.Scenario.{Scenario}
use Rattle.run_results.specs.Reports.{HaveEnds}
use Rattle.run_results.specs.Journals.{AreRuns, events_in}
use Rattle.threaded_run.specs.declared.running.Unheard.{Unheard}
use Rattle.threaded_run.specs.Threaded.{IsThreaded}

-- the scenario was run by its threads, and each part ends as reported
pub record IsWholeRun (scenario : Scenario) (left : Unheard) : Type 0 where
  pub runs : AreRuns scenario.parts (map events_in left.journals)
  pub ends : HaveEnds scenario.parts left.journals left.ends
  pub threaded : IsThreaded scenario (map events_in left.journals) left.answers

-- a worker stopped because memory ran out
abbrev pub IsForMemory : WorkerStop → Type 0
IsForMemory (stop.Refused work index part (refused.NoMemory call)) = Unit {0}
IsForMemory (stop.Refused work index part refusal) = ⊥
IsForMemory stop.NoMemory = Unit {0}
