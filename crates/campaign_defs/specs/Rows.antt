use Rattle.std.specs.Prelude.{◌≡◌, ℕ, Bool, true, false, bytes_eq, codes, flat_map, if◌then◌else◌, List, [], ◌∷◌, ◌++◌, Option, Some, None}
use Rattle.std.specs.Prelude.{option_map, slice_get}
use Rattle.std.specs.List.{AllZip}
use Rattle.campaign_defs.specs.Members.{IsBaseRun, IsMemberRun, Ran, members}
use Rattle.campaign_defs.specs.Types.{Detail, Row}
use Rattle.plan_defs.specs.Types.{Plan}
use Rattle.nook_data.specs.Types.{Answer, Class, Event, FailCause, Fault, Losses, PartSpec}
use Rattle.nook_data.specs.declared.steps.Event.TheVariants as event
use Rattle.part_defs.specs.Runs.{state_of}
use Rattle.part_defs.specs.State.{PartState}
use Rattle.promise_defs.specs.Contract.{first_break}
use Rattle.promise_defs.specs.Losses.{losses}
use Rattle.report_defs.specs.Campaigns.{row_of}
use Rattle.report_defs.specs.ReportLines.{line_feed, spaced}
use Rattle.report_defs.specs.ReportText.{answer_lines, device_lines, losses_lines, object_lines}
use Rattle.run_defs.specs.Simulation.{answer_table, journals_of}

-- The rows of a campaign's table.

-- ---- what is compared with the base's run

-- the final lines of a part: the objects, the medium or output of the device, the record and the losses
abbrev pub left_lines : Class → List Event → Losses → PartState → List ℕ
left_lines c events n p =
    object_lines 1 12 p.domain.memory ++ (device_lines c events p
    ++ ((codes "config" ++ (flat_map spaced p.log.config ++ line_feed)) ++ losses_lines c n))

-- the final lines of a part from its journal
abbrev pub left_text : PartSpec → List Event → List ℕ
left_text spec events = left_lines spec.class events (losses events) (state_of spec events)

-- the final lines of some parts, each with its journal
abbrev pub left_texts : List PartSpec → List (List Event) → List (List ℕ)
left_texts [] journals = []
left_texts (spec ∷ specs) [] = []
left_texts (spec ∷ specs) (events ∷ journals) = left_text spec events ∷ left_texts specs journals

-- the lines of each thread's answers
abbrev pub answer_texts : List (List (ℕ × Answer)) → List (List ℕ)
answer_texts [] = []
answer_texts (answers ∷ more) = answer_lines 1 answers ∷ answer_texts more

-- the two lists of texts are equal
abbrev pub texts_eq : List (List ℕ) → List (List ℕ) → Bool
texts_eq [] [] = true
texts_eq [] (other ∷ others) = false
texts_eq (text ∷ texts) [] = false
texts_eq (text ∷ texts) (other ∷ others) = if bytes_eq text other then texts_eq texts others else false

-- ---- what is reported of the struck part

-- why a burst failed, if it did
abbrev pub cause_of : Event → Option FailCause
cause_of (event.Burst context call burst count end acts a failure) = failure
cause_of e = None

-- the cause of the first failure in a journal
abbrev pub first_cause : List Event → Option FailCause
first_cause [] = None
first_cause (e ∷ events) = elim (cause_of e) [ Some cause ↦ Some cause | None ↦ first_cause events ]

-- the first clause that a part broke
abbrev pub first_clause : PartSpec → List Event → Option ℕ
first_clause spec events = option_map (λ b. b.clause) (first_break spec.class spec.blocks events)

-- the first clause that a part broke, if the part and its journal exist
abbrev pub clause_at : Option PartSpec → Option (List Event) → Option ℕ
clause_at (Some spec) (Some events) = first_clause spec events
clause_at spec events = None

abbrev pub cause_at : Option (List Event) → Option FailCause
cause_at (Some events) = first_cause events
cause_at None = None

-- ---- rows

-- the detail of a run compared with the base's, given the index of the struck part
abbrev pub detail_of : ℕ → Ran → Ran → Detail
detail_of index base ran =
    let specs : List PartSpec = ran.scenario.parts in let journals : List (List Event) = journals_of ran.simulation in record {
      same_answers = texts_eq (answer_texts (answer_table base.simulation)) (answer_texts (answer_table ran.simulation));
      same_left = texts_eq (left_texts base.scenario.parts (journals_of base.simulation)) (left_texts specs journals);
      clause = clause_at (slice_get specs index) (slice_get journals index);
      cause = cause_at (slice_get journals index);
    }

-- a value, if it is requested
abbrev pub if_asked : {T : Type 0} → Bool → T → Option T
if_asked true it = Some it
if_asked false it = None

-- the row of a run of a campaign, given the base's run
abbrev pub plan_row : Plan → Ran → Ran → Row
plan_row plan base ran = record {
  counts = row_of ran.scenario.parts (journals_of ran.simulation) (answer_table ran.simulation);
  detail = if_asked plan.detail (detail_of plan.part base ran);
  traps = if_asked plan.guard ran.traps;
}

-- the row of the member with these faults
pub record IsMemberRow (plan : Plan) (base : Ran) (faults : List Fault) (row : Row) : Type 0 where
  pub ran : Ran
  pub is_run : IsMemberRun plan faults ran
  pub same : row ≡ plan_row plan base ran

-- one row for each of some members, in their order
abbrev pub AreMemberRows : Plan → Ran → List (List Fault) → List Row → Type 0
AreMemberRows plan base lists rows = AllZip (IsMemberRow plan base) lists rows

-- the table of a campaign: its base's run, and one row for each member
pub record IsPlanTable (plan : Plan) (base : Ran) (rows : List Row) : Type 0 where
  pub is_base : IsBaseRun plan base
  pub members : AreMemberRows plan base (members plan base) rows
