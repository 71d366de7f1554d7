-- The section to which events lead.
use Rattle.std.proofs.Common.{◌≡◌, ℕ, List, [], ◌∷◌, ◌++◌, refl, sym, ap, ◌∙◌, append_assoc, append-nil}
use Rattle.promise_defs.specs.Contract.{first_break}
use Rattle.promise_defs.specs.Losses.{losses}
use Rattle.report_defs.specs.ReportText.{final_lines}
use Rattle.part_defs.specs.Runs.{event_of, state_from, step_of}
use Rattle.part_defs.specs.State.{PartState}
use Rattle.nook_data.specs.declared.steps.Event.{Event}
use Rattle.nook_data.specs.declared.scenario.PartSpec.{PartSpec}
use Rattle.nook_data.specs.declared.scenario.ThreadSpec.{ThreadSpec}
use Rattle.run_laws.specs.Audit.{Section, opening_section, section_after, section_end}
use Rattle.run_laws.specs.Fitting.{FitsFrom, section_from}

-- the events follow in the section's journal, and its part is in the state to which they lead
pub record IsLed (s : Section) (events : List Event) (t : Section) : Type 0 where
  pub spec : t.spec ≡ s.spec
  pub journal : t.seat.run.journal ≡ s.seat.run.journal ++ events
  pub state : t.seat.run.state ≡ state_from s.seat.run.state events

pub section_led : (s : Section) (events : List Event) → FitsFrom s events → IsLed s events (section_from s events)
unfolding FitsFrom section_after state_from
section_led s [] h = record { spec = refl; journal = sym (append-nil s.seat.run.journal); state = refl }
section_led s (e ∷ events) h =
    let led : IsLed (section_after s (step_of e)) events (section_from (section_after s (step_of e)) events) =
    section_led (section_after s (step_of e)) events h.3 in
    record {
      spec = led.spec;
      journal = led.journal ∙ append_assoc s.seat.run.journal (event_of s.seat.run.state (step_of e) ∷ []) events
          ∙ ap {B = List Event} (λ x. s.seat.run.journal ++ x ∷ events) h.1;
      state = led.state;
    }

-- the lines after the events of a whole section
pub section_end_is : (threads : List ThreadSpec) (index : ℕ) (spec : PartSpec) (journal : List Event)
    → FitsFrom (opening_section threads index spec) journal
    → section_end (section_from (opening_section threads index spec) journal)
    ≡ final_lines spec.class journal (losses journal) (first_break spec.class spec.blocks journal) (state_from (opening_section threads index spec).seat.run.state journal)
unfolding section_end
section_end_is threads index spec journal h =
    let end : Section = section_from (opening_section threads index spec) journal in
    let led : IsLed (opening_section threads index spec) journal end = section_led (opening_section threads index spec) journal h in
    ap (λ (x : PartSpec). final_lines x.class end.seat.run.journal (losses end.seat.run.journal) (first_break x.class x.blocks end.seat.run.journal) end.seat.run.state) led.spec
    ∙ ap (λ (xs : List Event). final_lines spec.class xs (losses xs) (first_break spec.class spec.blocks xs) end.seat.run.state) led.journal
    ∙ ap (λ (p : PartState). final_lines spec.class journal (losses journal) (first_break spec.class spec.blocks journal) p) led.state
