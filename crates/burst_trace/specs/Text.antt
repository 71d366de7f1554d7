use Rattle.std.specs.Prelude.{◌≡◌, ℕ, nat_le, if◌then◌else◌, Option, Some, None, List, [], ◌++◌, codes, slice_get}
use Rattle.nook_data.specs.declared.limits.TheConstants.{SHADOW}
use Rattle.nook_data.specs.declared.machine.Act.{Act}
use Rattle.nook_data.specs.declared.calls.Answer.{Answer}
use Rattle.nook_data.specs.declared.steps.End.{End}
use Rattle.nook_data.specs.declared.steps.Event.{Event}
use Rattle.nook_data.specs.declared.steps.Event.TheVariants as event
use Rattle.nook_data.specs.declared.steps.FailCause.{FailCause}
use Rattle.nook_data.specs.declared.scenario.Fault.{Fault}
use Rattle.nook_data.specs.declared.scenario.PartSpec.{PartSpec}
use Rattle.nook_data.specs.declared.scenario.Scenario.{Scenario}
use Rattle.nook_data.specs.declared.machine.Context.{Context}
use Rattle.part_defs.specs.Domain.{context_of, machine_of}
use Rattle.report_defs.specs.ReportLines.{acts_tail, answer_tail, cause_tail, end_text, line_feed, spaced, with_number}
use Rattle.run_defs.specs.Simulation.{IsScheduledRun, Simulation, journals_of}
use Rattle.part_defs.specs.State.{DomainState}
use Rattle.machine_defs.specs.BurstFaults.{faults_of_burst}
use Rattle.sim_run.specs.Bursts.{burst_found}
use Rattle.turn_trace.specs.Bursts.{TracedBurst, burst_trace}
use Rattle.turn_trace.specs.Lines.{start_line, step_lines, unstruck_lines}

-- The text of the trace of one burst of a run.

-- the first line: the part's index and name, the burst's number, its context and its call
abbrev pub head_line : ℕ → PartSpec → ℕ → ℕ → ℕ → List ℕ
head_line index spec burst context call =
    with_number (codes "trace ") index ++ (codes " " ++ (spec.name ++ (with_number (codes " burst ") burst
    ++ (with_number (codes " context ") context ++ (with_number (codes " call ") call ++ line_feed)))))

-- how the burst ended, as its event shows it: its count of instructions, its end, its acts, its answer and its failure
abbrev pub end_line : ℕ → End → List Act → Option Answer → Option FailCause → List ℕ
end_line count end acts answer failure =
    with_number (codes "n") count ++ (codes " "
    ++ ((end_text end ++ (acts_tail acts ++ (answer_tail answer ++ cause_tail failure))) ++ line_feed))

-- the burst of a context, from the domain before it
abbrev pub traced_in : Context → List Fault → DomainState → TracedBurst
traced_in x faults d = burst_trace d.entries faults (machine_of x d)

-- the state at the start of the burst, and its steps
abbrev pub burst_lines : Context → List Fault → DomainState → List ℕ
burst_lines x faults d = start_line x.cpu ++ step_lines d.entries (traced_in x faults d).steps

-- how it ended, and the faults that did not strike
abbrev pub last_lines : List ℕ → List Fault → List ℕ
last_lines end unstruck = end ++ unstruck_lines unstruck

-- the whole text
unfoldable pub trace_lines : List ℕ → List ℕ → Context → List Fault → DomainState → List ℕ
trace_lines head end x faults d = head ++ (burst_lines x faults d ++ last_lines end (traced_in x faults d).unstruck)

abbrev pub trace_by : List ℕ → List ℕ → List Fault → DomainState → Option Context → Option (List ℕ)
trace_by head end faults d None = None
trace_by head end faults d (Some x) = Some (trace_lines head end x faults d)

-- a context of a domain, if it exists and is Inside
abbrev pub inside_of : ℕ → DomainState → Option Context
inside_of context d = if nat_le context SHADOW then context_of context d.contexts else None

-- how the burst of an event ended
abbrev pub event_end : Event → List ℕ
event_end (event.Burst context call burst count end acts answer failure) = end_line count end acts answer failure
event_end _ = []

-- the burst of a part's context, between its first line and the line of its end
unfoldable pub part_lines : List ℕ → List ℕ → ℕ → ℕ → PartSpec → DomainState → Option (List ℕ)
part_lines head end burst context spec d = trace_by head end (faults_of_burst burst spec.faults) d (inside_of context d)

-- the trace of a part's burst by its event, from the domain before it
abbrev pub event_trace : ℕ → PartSpec → DomainState → Event → Option (List ℕ)
event_trace index spec d (event.Burst context call burst count end acts answer failure) =
    part_lines (head_line index spec burst context call) (end_line count end acts answer failure) burst context spec d
event_trace index spec d _ = None

-- the trace of what was found of a part's burst: the domain before it, and its event
abbrev pub found_trace : ℕ → Option PartSpec → Option (DomainState × Event) → Option (List ℕ)
found_trace index None found = None
found_trace index (Some spec) None = None
found_trace index (Some spec) (Some found) = event_trace index spec found.0 found.1

-- the trace of a burst of part `index`, from the journals of a run; none if they have no such burst
abbrev pub trace_text : List PartSpec → List (List Event) → ℕ → ℕ → Option (List ℕ)
trace_text specs journals index burst =
    found_trace index (slice_get specs index) (burst_found burst (slice_get specs index) (slice_get journals index))

-- it is the trace of a burst of the scenario's scheduled run
pub record IsTraceText (scenario : Scenario) (index burst : ℕ) (text : Option (List ℕ)) : Type 0 where
  pub simulation : Simulation
  pub scheduled : IsScheduledRun scenario simulation
  pub text_is : text ≡ trace_text scenario.parts (journals_of simulation) index burst
