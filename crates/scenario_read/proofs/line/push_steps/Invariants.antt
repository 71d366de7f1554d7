use Rattle.std.proofs.Common.{◌≡◌, ◌++◌, drop}
use Rattle.std.specs.Prelude.{flat_map, string_bytes}
use Rattle.input_defs.specs.Faults.{step_text}
use Rattle.scenario_read.proofs.line.push_steps.Given as goal

abbrev pub invariant-loop-step : goal.invariant-loop-step
invariant-loop-step l = string_bytes l.line ++ flat_map step_text (drop l.step-index l.path) ≡ string_bytes l.initial.line ++ flat_map step_text l.path
