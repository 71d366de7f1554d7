-- What is written of a trace.
use Rattle.std.proofs.Common.{◌≡◌, ℕ, List, [], Bool, true, false, is_some, Option, Result, Ok, Err, Some, None, inl, inr, refl, sym, true≢false}
use Rattle.nook_io.specs.Listening.{Listening}
use Rattle.input_defs.specs.ScenarioReading.{scenario_from}
use Rattle.nook_data.specs.declared.scenario.Scenario.{Scenario}
use Rattle.burst_trace.proofs.Retold.{reports_burst}
use Rattle.burst_trace.specs.Text.{IsTraceText}
use Rattle.burst_trace.specs.Writing.{Traces, text_in}
use Rattle.report_text.proofs.WroteLemmas.{prefix_longer}
use Rattle.report_text.specs.declared.write.WriteStop.{WriteStop}
use Rattle.nooks.specs.Answers.{AnswersInput, IsTraceOf, Says}
use Rattle.run_defs.specs.Simulation.{journals_of}
use Rattle.nooks.specs.Endings.{IsBegun, IsWritten, Writes}
use Rattle.nook_io.specs.Changes.{Change}
use Rattle.nooks.specs.Streams.{Gains, GainsFront, Whole}
use Rattle.nooks.specs.Texts.{no_such_burst_text}
use Rattle.nooks.specs.declared.program.Status.{Status}
use Rattle.nooks.specs.declared.program.Status.TheVariants as ended
use Rattle.command_forms.specs.declared.words.Form.TheVariants as form
use Rattle.nooks.proofs.Written.{writes_more}

-- the text is the trace of this burst
pub is_trace_of : (bytes : List ℕ) (scenario : Scenario) (part burst : ℕ) (text : List ℕ) → scenario_from bytes ≡ Ok scenario
    → IsTraceText scenario part burst (Some text) → IsTraceOf bytes part burst text
is_trace_of bytes scenario part burst text reading is = record {
  scenario = scenario;
  reading = reading;
  trace = is;
  reports = reports_burst scenario.parts (journals_of is.simulation) part burst text is.text_is;
}

whole_by : (bytes : List ℕ) (scenario : Scenario) (part burst : ℕ) (sink : Change) (hearing : List Listening) (trace : Option (List ℕ))
    → scenario_from bytes ≡ Ok scenario → IsTraceText scenario part burst trace → true ≡ is_some trace → Gains sink (text_in trace)
    → IsWritten (AnswersInput (form.Trace part burst) (Whole bytes) hearing) sink ended.Done
whole_by bytes scenario part burst sink hearing None reading is there gained = absurd (true≢false there)
whole_by bytes scenario part burst sink hearing (Some text) reading is there gained =
    record { text = text; answer = inr (is_trace_of bytes scenario part burst text reading is, refl); gained = gained }

front_by : (bytes : List ℕ) (scenario : Scenario) (part burst : ℕ) (sink : Change) (hearing : List Listening) (trace : Option (List ℕ))
    → scenario_from bytes ≡ Ok scenario → IsTraceText scenario part burst trace → GainsFront sink (text_in trace)
    → IsBegun (AnswersInput (form.Trace part burst) (Whole bytes) hearing) sink
front_by bytes scenario part burst sink hearing None reading is front = record {
  text = no_such_burst_text;
  status = ended.BadInput;
  answer = inl (inr (record { scenario = scenario; reading = reading; none = is; text_is = refl }), refl);
  gained = prefix_longer sink.before.contents sink.after.contents [] no_such_burst_text front;
}
front_by bytes scenario part burst sink hearing (Some text) reading is front = record {
  text = text;
  status = ended.Done;
  answer = inr (is_trace_of bytes scenario part burst text reading is, refl);
  gained = front;
}

none_by : (bytes : List ℕ) (scenario : Scenario) (part burst : ℕ) (sink : Change) (hearing : List Listening) (trace : Option (List ℕ)) (status : Status)
    → scenario_from bytes ≡ Ok scenario → IsTraceText scenario part burst trace → false ≡ is_some trace
    → Writes (Says no_such_burst_text ended.BadInput) sink status → Writes (AnswersInput (form.Trace part burst) (Whole bytes) hearing) sink status
none_by bytes scenario part burst sink hearing (Some text) status reading is there ends = absurd (true≢false (sym there))
none_by bytes scenario part burst sink hearing None status reading is there ends =
    writes_more (Says no_such_burst_text ended.BadInput) (AnswersInput (form.Trace part burst) (Whole bytes) hearing) sink status
    (λ text s says. inl (inr (record { scenario = scenario; reading = reading; none = is; text_is = says.0 }), says.1)) ends

-- a trace was written in full, or a prefix of it
pub trace_written : (bytes : List ℕ) (scenario : Scenario) (part burst : ℕ) (sink : Change) (hearing : List Listening)
    → scenario_from bytes ≡ Ok scenario → Traces scenario part burst sink (Ok true)
    → IsWritten (AnswersInput (form.Trace part burst) (Whole bytes) hearing) sink ended.Done
trace_written bytes scenario part burst sink hearing reading t =
    whole_by bytes scenario part burst sink hearing t.trace reading t.is t.wrote.there t.wrote.wrote.ok

pub trace_begun : (bytes : List ℕ) (scenario : Scenario) (part burst : ℕ) (sink : Change) (hearing : List Listening) (stop : WriteStop)
    → scenario_from bytes ≡ Ok scenario → Traces scenario part burst sink (Err stop)
    → IsBegun (AnswersInput (form.Trace part burst) (Whole bytes) hearing) sink
trace_begun bytes scenario part burst sink hearing stop reading t =
    front_by bytes scenario part burst sink hearing t.trace reading t.is t.wrote.wrote.err

-- there is no such burst
pub none_answers : (bytes : List ℕ) (scenario : Scenario) (part burst : ℕ) (trace sink : Change) (hearing : List Listening)
    (status : Status) → scenario_from bytes ≡ Ok scenario → Traces scenario part burst trace (Ok false)
    → Writes (Says no_such_burst_text ended.BadInput) sink status → Writes (AnswersInput (form.Trace part burst) (Whole bytes) hearing) sink status
none_answers bytes scenario part burst trace sink hearing status reading t ends =
    none_by bytes scenario part burst sink hearing t.trace status reading t.is t.wrote.there ends
