-- Each part of a whole run ends in the state that its journal leads to.
use Rattle.std.proofs.Common.{◌≡◌, IfOk, map, Result, Ok, Err, List, [], ◌∷◌, sym, ap, ◌∙◌, subst}
use Rattle.nook_data.specs.declared.steps.Event.{Event}
use Rattle.nook_data.specs.declared.scenario.PartSpec.{PartSpec}
use Rattle.nook_data.specs.declared.scenario.Scenario.{Scenario}
use Rattle.nook_data.specs.declared.memory.NoMemory.{NoMemory}
use Rattle.machine_defs.specs.Devices.{medium_of}
use Rattle.nook_data.specs.Views.Room.{Kept}
use Rattle.part_defs.specs.Runs.{state_of}
use Rattle.run_defs.specs.Simulation.{IsScheduledRun, RunningPart, Simulation, journal_of, journals_of}
use Rattle.part_defs.specs.State.{PartState}
use Rattle.part_defs.specs.Steps.{opening}
use Rattle.part_laws.proofs.DeviceStays.{opening_spec, spec_from}
use Rattle.run_results.specs.Reports.{HaveEnds, ShowsState, objects_from}
use Rattle.sim_run.proofs.Reaching.{seats_of_runs}
use Rattle.run_ends.specs.declared.whole_run.WholeRun.{WholeRun}
use Rattle.run_ends.specs.Ends.{end_of, objects_in}
use Rattle.sim_run.specs.Ends.{ends_of}
use Rattle.sim_run.specs.Reached.{AreSeatsOf, IsSeatOf}
use Rattle.run_results.specs.Journals.{events_in}

shows : (spec : PartSpec) (seat : RunningPart) (events : List Event) → IsSeatOf spec seat → events ≡ seat.run.journal
    → ShowsState spec (state_of spec events) (end_of seat.run.state)
unfolding end_of objects_in
shows spec seat events s e =
    let same : seat.run.state ≡ state_of spec events = s.state ∙ ap (state_of spec) (sym e) in record {
      objects = ap (λ (p : PartState). objects_from 1 12 p.domain.memory) same;
      medium = ap (λ (p : PartState). medium_of p.domain.device) same;
      config = ap (λ (p : PartState). p.log.config) same;
      failures = ap (λ (p : PartState). p.failures) same;
      limit = ap (λ (x : PartSpec). x.limit) (spec_from (opening spec) events ∙ opening_spec spec);
    }

have_ends : (specs : List PartSpec) (seats : List RunningPart) (journals : List (Kept Event)) → AreSeatsOf specs seats
    → map events_in journals ≡ map journal_of seats → HaveEnds specs journals (ends_of seats)
have_ends [] [] journals a j = tt
have_ends [] (seat ∷ seats) journals a j = absurd a
have_ends (spec ∷ specs) [] journals a j = absurd a
have_ends (spec ∷ specs) (seat ∷ seats) [] a j = absurd (cc)
have_ends (spec ∷ specs) (seat ∷ seats) (journal ∷ journals) a j =
    let first : journal.list ≡ seat.run.journal = cc in
    let rest : map events_in journals ≡ map journal_of seats = cc in
    (shows spec seat journal.list a.0 first, have_ends specs seats journals a.1 rest)

ends_at : (specs : List PartSpec) (seats : List RunningPart) (x : WholeRun) → AreSeatsOf specs seats
    → map events_in x.run.journals ≡ map journal_of seats → x.ends ≡ ends_of seats → HaveEnds specs x.run.journals x.ends
ends_at specs seats x a j e = rw e (have_ends specs seats x.run.journals a j)

pub ends_reported : (r : Result WholeRun NoMemory) (scenario : Scenario) (s : Simulation) → IsScheduledRun scenario s
    → IfOk r (λ x. map events_in x.run.journals ≡ journals_of s) → IfOk r (λ x. x.ends ≡ ends_of s.parts)
    → IfOk r (λ x. HaveEnds scenario.parts x.run.journals x.ends)
ends_reported (Err x) scenario s h j e = e
ends_reported (Ok x) scenario s h j e = ends_at scenario.parts s.parts x
    (subst (λ (y : Simulation). AreSeatsOf scenario.parts y.parts) h.reached (seats_of_runs scenario h.steps)) j e
