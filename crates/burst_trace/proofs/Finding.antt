-- A burst that was found is traced from the domain before it and its event.
use Rattle.std.proofs.Common.{◌≡◌, ◌∙◌, ◌-◌, ◌<◌, ◌≤◌, ℕ, zero, suc, Bool, false, Option, Some, None, List, [], ◌∷◌, Result, Ok, Err, get_or, length, option_map, slice_get, refl, sym, ap, arith, subst}
use Rattle.std.proofs.lemmas.Option.{slice_get-get_or}
use Rattle.run_defs.specs.Simulation.{IsScheduledRun, Simulation, journals_of}
use Rattle.nook_data.specs.Valid.{IsValidScenario}
use Rattle.nook_data.specs.declared.scenario.PartSpec.{PartSpec}
use Rattle.nook_data.specs.declared.scenario.Scenario.{Scenario}
use Rattle.nook_io.specs.Changes.{Change, Stream, between}
use Rattle.report_text.specs.declared.write.WriteStop.{WriteStop}
use Rattle.report_text.specs.declared.write.WriteStop.TheVariants.{Fault}
use Rattle.sim_run.proofs.Ending.{scheduled_ends}
use Rattle.sim_run.specs.Bursts.{LeadsToBurst, burst_found, shown_burst}
use Rattle.sim_run.specs.declared.whole_run.FoundBurst.{FoundBurst}
use Rattle.burst_trace.proofs.Reporting.{unwritten, wrote_none}
use Rattle.burst_trace.specs.Text.{IsTraceText, event_trace, found_trace, trace_text}
use Rattle.burst_trace.specs.Writing.{Traces, WroteTrace}

-- the result of the run determines the trace
led : (scenario : Scenario) (index burst : ℕ) (spec : PartSpec) (found : Option FoundBurst) → LeadsToBurst scenario index burst found
    → slice_get scenario.parts index ≡ Some spec → IsTraceText scenario index burst (found_trace index (Some spec) (option_map shown_burst found))
led scenario index burst spec found l h = record {
  simulation = l.simulation;
  scheduled = l.scheduled;
  text_is = ap (found_trace index (Some spec)) l.same
      ∙ sym (ap (λ part. found_trace index part (burst_found burst (slice_get scenario.parts index) (slice_get (journals_of l.simulation) index))) h);
}

-- the trace of a burst that was found
pub traces_found : {sink : Change} {result : Result Bool WriteStop} (scenario : Scenario) (index burst : ℕ) (spec : PartSpec)
    (led_to : Option FoundBurst) (found : FoundBurst) → LeadsToBurst scenario index burst led_to → led_to ≡ Some found
    → slice_get scenario.parts index ≡ Some spec → WroteTrace sink result (event_trace index spec found.domain.state found.event)
    → Traces scenario index burst sink result
traces_found scenario index burst spec led_to found l is h w = record {
  trace = event_trace index spec found.domain.state found.event;
  is = led scenario index burst spec (Some found) (subst (LeadsToBurst scenario index burst) is l) h;
  wrote = w;
}

-- there is no such burst
pub traces_none : (scenario : Scenario) (index burst : ℕ) (spec : PartSpec) (led_to : Option FoundBurst) (sink : Stream)
    → LeadsToBurst scenario index burst led_to → led_to ≡ None → slice_get scenario.parts index ≡ Some spec
    → Traces scenario index burst (between sink sink) (Ok false)
traces_none scenario index burst spec led_to sink l is h = record {
  trace = None;
  is = led scenario index burst spec None (subst (LeadsToBurst scenario index burst) is l) h;
  wrote = wrote_none sink;
}

none_at : (specs : List PartSpec) (index : ℕ) → length specs ≤ index → slice_get specs index ≡ None
none_at [] index l = refl
none_at (spec ∷ specs) zero l = absurd (omega (arith, l))
none_at (spec ∷ specs) (suc index) l = none_at specs index (omega (arith, l))

-- there is no such part
pub traces_no_part : (scenario : Scenario) (index burst : ℕ) (specs : List PartSpec) (sink : Stream) → IsValidScenario scenario
    → specs ≡ scenario.parts → length specs ≤ index → Traces scenario index burst (between sink sink) (Ok false)
traces_no_part scenario index burst specs sink v e l = record {
  trace = None;
  is = record {
    simulation = end.0;
    scheduled = end.1;
    text_is = sym (ap (λ part. found_trace index part (burst_found burst (slice_get scenario.parts index) (slice_get (journals_of end.0) index))) none);
  };
  wrote = wrote_none sink;
}
  where
    end : (s : Simulation) × IsScheduledRun scenario s
    end = scheduled_ends scenario v

    none : slice_get scenario.parts index ≡ None
    none = ap (λ xs. slice_get xs index) (sym e) ∙ none_at specs index l

-- the run does not reach the burst, so nothing is written of any trace
pub traces_unled : (scenario : Scenario) (index burst : ℕ) (sink : Stream) (stop : WriteStop) → IsValidScenario scenario
    → (stop ≡ Fault → ⊥) → Traces scenario index burst (between sink sink) (Err stop)
traces_unled scenario index burst sink stop v other = record {
  trace = trace_text scenario.parts (journals_of end.0) index burst;
  is = record { simulation = end.0; scheduled = end.1; text_is = refl };
  wrote = unwritten sink stop (trace_text scenario.parts (journals_of end.0) index burst) other;
}
  where
    end : (s : Simulation) × IsScheduledRun scenario s
    end = scheduled_ends scenario v

-- the part at an index of a scenario's parts
pub part_found : (parts specs : List PartSpec) (index : ℕ) (spec : PartSpec) → specs ≡ parts → index < length specs → spec ≡ get_or specs index spec
    → slice_get parts index ≡ Some spec
part_found parts specs index spec e l at =
    ap (λ xs. slice_get xs index) (sym e) ∙ slice_get-get_or specs index spec l ∙ ap {B = Option PartSpec} (λ (x : PartSpec). Some x) (sym at)
