use Rattle.std.specs.Prelude.{◌≡◌, ℕ, Bool, Option, Some, None, List, [], Result, IfOk, is_some}
use Rattle.nook_data.specs.declared.scenario.Scenario.{Scenario}
use Rattle.nook_io.specs.Changes.{Change}
use Rattle.report_text.specs.Writing.{Wrote}
use Rattle.report_text.specs.declared.write.WriteStop.{WriteStop}
use Rattle.burst_trace.specs.Text.{IsTraceText}

-- How writing a trace changes a sink.

-- the text of a trace; no text if there is no trace
abbrev pub text_in : Option (List ℕ) → List ℕ
text_in None = []
text_in (Some text) = text

-- a trace was written completely, or only a prefix of it, and the result says whether there is one
pub record WroteTrace (sink : Change) (result : Result Bool WriteStop) (trace : Option (List ℕ)) : Type 0 where
  pub wrote : Wrote sink result (text_in trace)
  pub there : IfOk result (λ there. there ≡ is_some trace)

-- what was written so is the trace of a burst of the scenario's scheduled run
pub record Traces (scenario : Scenario) (index burst : ℕ) (sink : Change) (result : Result Bool WriteStop) : Type 0 where
  pub trace : Option (List ℕ)
  pub is : IsTraceText scenario index burst trace
  pub wrote : WroteTrace sink result trace
