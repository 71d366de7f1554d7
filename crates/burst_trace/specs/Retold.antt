use Rattle.std.specs.Prelude.{◌≡◌, ℕ, Option, Some, List, slice_get}
use Rattle.machine_defs.specs.Burst.{burst}
use Rattle.machine_defs.specs.BurstFaults.{faults_of_burst}
use Rattle.nook_data.specs.declared.machine.Context.{Context}
use Rattle.nook_data.specs.declared.scenario.PartSpec.{PartSpec}
use Rattle.nook_data.specs.declared.steps.Event.{Event}
use Rattle.nook_data.specs.declared.steps.Event.TheVariants as event
use Rattle.part_defs.specs.Domain.{machine_of}
use Rattle.part_defs.specs.State.{DomainState}
use Rattle.sim_run.specs.Bursts.{burst_found}
use Rattle.turn_trace.specs.Retelling.{Retells}
use Rattle.burst_trace.specs.Text.{event_end, inside_of, trace_lines, traced_in}

-- The text of a trace matches the burst in the journal.

-- the context of a burst, and its number
abbrev pub context_in : Event → ℕ
context_in (event.Burst context call burst count end acts answer failure) = context
context_in _ = 0

abbrev pub number_in : Event → ℕ
number_in (event.Burst context call burst count end acts answer failure) = burst
number_in _ = 0

-- a text matches a burst of a part: it shows the end that the burst's event has in the journal, and before it the
-- instructions and strikes of the burst that the context runs from the part's domain at that moment
pub record ReportsBurst (specs : List PartSpec) (journals : List (List Event)) (index number : ℕ)
    (text : List ℕ) : Type 0 where
  pub spec : PartSpec
  pub domain : DomainState
  pub shown : Event
  pub found : burst_found number (Some spec) (slice_get journals index) ≡ Some (domain, shown)
  pub is_part : slice_get specs index ≡ Some spec
  pub context : Context
  pub inside : inside_of (context_in shown) domain ≡ Some context
  pub head : List ℕ
  pub text_is : text
      ≡ trace_lines head (event_end shown) context (faults_of_burst (number_in shown) spec.faults) domain
  pub retells : Retells (faults_of_burst (number_in shown) spec.faults)
      (traced_in context (faults_of_burst (number_in shown) spec.faults) domain)
      (burst domain.entries (faults_of_burst (number_in shown) spec.faults) (machine_of context domain))
