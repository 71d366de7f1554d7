use Rattle.std.specs.Prelude.{ℕ, Option, List, option_map}
use Rattle.nook_data.specs.Types.{Break, Event, PartSpec}
use Rattle.part_defs.specs.State.{PartState}
use Rattle.promise_defs.specs.Contract.{first_break}
use Rattle.promise_defs.specs.Losses.{losses}
use Rattle.report_defs.specs.ReportText.{final_lines}

-- The lines of a part after its events, without the number of the event that broke a clause first.

-- a clause, at no event
abbrev pub at_no_event : ℕ → Break
at_no_event clause = record { event = 0; clause = clause }

-- a verdict without the number of its event
abbrev pub undated : Option Break → Option Break
undated verdict = option_map (λ (b : Break). at_no_event b.clause) verdict

-- the lines of a part, from its spec, its journal and its final state
abbrev pub closing_lines : PartSpec → List Event → PartState → List ℕ
closing_lines spec events p =
    final_lines spec.class events (losses events) (undated (first_break spec.class spec.blocks events)) p
