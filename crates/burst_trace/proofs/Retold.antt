-- The text of a trace matches the burst in the journal.
use Rattle.std.proofs.Common.{◌≡◌, ℕ, Option, Some, None, List, slice_get, refl, sym, ap, ◌∙◌}
use Rattle.machine_defs.specs.Burst.{burst}
use Rattle.machine_defs.specs.BurstFaults.{faults_of_burst}
use Rattle.nook_data.specs.declared.calls.Answer.{Answer}
use Rattle.nook_data.specs.declared.machine.Act.{Act}
use Rattle.nook_data.specs.declared.machine.Context.{Context}
use Rattle.nook_data.specs.declared.scenario.Fault.{Fault}
use Rattle.nook_data.specs.declared.scenario.PartSpec.{PartSpec}
use Rattle.nook_data.specs.declared.steps.End.{End}
use Rattle.nook_data.specs.declared.steps.Event.{Event}
use Rattle.nook_data.specs.declared.steps.Event.TheVariants as event
use Rattle.nook_data.specs.declared.steps.FailCause.{FailCause}
use Rattle.part_defs.specs.Domain.{machine_of}
use Rattle.part_defs.specs.State.{DomainState}
use Rattle.sim_run.specs.Bursts.{burst_found}
use Rattle.turn_trace.proofs.Recorded.{retold}
use Rattle.burst_trace.specs.Retold.{ReportsBurst, context_in, number_in}
use Rattle.burst_trace.specs.Text.{end_line, event_end, event_trace, found_trace, head_line, inside_of, part_lines, trace_by, trace_lines, trace_text}

none_reported : {P : Type 0} (text : List ℕ) → Some text ≡ None → P
none_reported text e = absurd (cc)

text_reported : (text other : List ℕ) → Some text ≡ Some other → text ≡ other
text_reported text other e = cc

divided : (head end : List ℕ) (number context : ℕ) (spec : PartSpec) (d : DomainState)
    → part_lines head end number context spec d ≡ trace_by head end (faults_of_burst number spec.faults) d (inside_of context d)
unfolding part_lines
divided head end number context spec d = refl

module _ (specs : List PartSpec) (journals : List (List Event)) (index number : ℕ) (text : List ℕ) where
  reported_in : (spec : PartSpec) (d : DomainState) (e : Event) (head : List ℕ) (x : Option Context) → slice_get specs index ≡ Some spec
      → burst_found number (Some spec) (slice_get journals index) ≡ Some (d, e) → inside_of (context_in e) d ≡ x
      → Some text ≡ trace_by head (event_end e) (faults_of_burst (number_in e) spec.faults) d x → ReportsBurst specs journals index number text
  reported_in spec d e head None part found inside is = none_reported text is
  reported_in spec d e head (Some x) part found inside is = record {
    spec = spec;
    domain = d;
    shown = e;
    found = found;
    is_part = part;
    context = x;
    inside = inside;
    head = head;
    text_is = text_reported text (trace_lines head (event_end e) x (faults_of_burst (number_in e) spec.faults) d) is;
    retells = retold d.entries (faults_of_burst (number_in e) spec.faults) (machine_of x d);
  }

  reported_event : (spec : PartSpec) (d : DomainState) (e : Event) → slice_get specs index ≡ Some spec
      → burst_found number (Some spec) (slice_get journals index) ≡ Some (d, e) → Some text ≡ event_trace index spec d e
      → ReportsBurst specs journals index number text
  reported_event spec d (event.Invoke call thread o answer) part found is = none_reported text is
  reported_event spec d (event.Enter call thread attempt answer) part found is = none_reported text is
  reported_event spec d (event.Stage stage answers released) part found is = none_reported text is
  reported_event spec d (event.Arrive frame kept) part found is = none_reported text is
  reported_event spec d (event.Burst context call b count end acts answer failure) part found is =
      reported_in spec d (event.Burst context call b count end acts answer failure) (head_line index spec b context call) (inside_of context d)
      part found refl (is ∙ divided (head_line index spec b context call) (end_line count end acts answer failure) b context spec d)

  reported_found : (spec : Option PartSpec) (found : Option (DomainState × Event)) → slice_get specs index ≡ spec
      → burst_found number spec (slice_get journals index) ≡ found → Some text ≡ found_trace index spec found
      → ReportsBurst specs journals index number text
  reported_found None found part is reported = none_reported text reported
  reported_found (Some spec) None part is reported = none_reported text reported
  reported_found (Some spec) (Some found) part is reported = reported_event spec found.0 found.1 part is reported

  pub reports_burst : Some text ≡ trace_text specs journals index number → ReportsBurst specs journals index number text
  reports_burst is =
      reported_found (slice_get specs index) (burst_found number (slice_get specs index) (slice_get journals index)) refl refl is
