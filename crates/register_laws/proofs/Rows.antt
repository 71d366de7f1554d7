-- The row of a run does not depend on the faults of a part, only on its journals and answers.
use Rattle.std.proofs.Common.{◌≡◌, ℕ, zero, suc, ◌+◌, ◌||◌, if◌then◌else◌, is_some, Bool, true, false, Option, Some, None, List, [], ◌∷◌, map, slice_get, slice_set, refl, sym, ap, ◌∙◌, subst}
use Rattle.campaign_defs.specs.Members.{Ran}
use Rattle.campaign_defs.specs.Rows.{answer_texts, cause_at, clause_at, if_asked, left_lines, left_text, left_texts, plan_row, texts_eq}
use Rattle.campaign_defs.specs.Types.{Detail, Row}
use Rattle.front_laws.specs.Fronts.{with_faults}
use Rattle.guard_defs.specs.Guard.{with_own}
use Rattle.nook_data.proofs.Options.{none_is_some, same_inside}
use Rattle.nook_data.specs.Types.{Answer, Class, Event, Fault, Losses, MemberRow, PartSpec}
use Rattle.nook_data.specs.declared.classes.Class.TheVariants as class
use Rattle.part_defs.specs.Runs.{state_of}
use Rattle.part_defs.specs.Stages.{is_given_up}
use Rattle.part_defs.specs.State.{PartState}
use Rattle.part_laws.proofs.Indices.{get_set_same}
use Rattle.plan_defs.specs.Types.{Plan}
use Rattle.promise_defs.specs.Contract.{first_break}
use Rattle.promise_defs.specs.Losses.{losses}
use Rattle.report_defs.specs.Campaigns.{gone_count, lost_count, row_of}
use Rattle.report_defs.specs.ReportText.{device_lines, failures_count, has_break, has_given_up, status_of}
use Rattle.run_defs.specs.Simulation.{answer_table, events_count, journals_of}

-- ---- one part

device_same : (c : Class) (events : List Event) (fs : List Fault) (p : PartState) → device_lines c events (with_own fs p) ≡ device_lines c events p
device_same class.Block events fs p = refl
device_same class.Net events fs p = refl
device_same class.Sound events fs p = refl

left_own : (c : Class) (events : List Event) (n : Losses) (fs : List Fault) (p : PartState) → left_lines c events n (with_own fs p) ≡ left_lines c events n p
left_own class.Block events n fs p = refl
left_own class.Net events n fs p = refl
left_own class.Sound events n fs p = refl

module _ (fs : List Fault) (spec : PartSpec) (journal : List Event)
    (same : state_of (with_faults fs spec) journal ≡ with_own fs (state_of spec journal)) where
  abbrev other : PartSpec
  other = with_faults fs spec

  left_same : left_text other journal ≡ left_text spec journal
  left_same = ap (left_lines spec.class journal (losses journal)) same ∙ left_own spec.class journal (losses journal) fs (state_of spec journal)

  failing_same : (state_of other journal).failures ≡ (state_of spec journal).failures
  failing_same = ap (λ (p : PartState). p.failures) same

  given_up_same : is_given_up (state_of other journal) ≡ is_given_up (state_of spec journal)
  given_up_same = ap is_given_up same

  -- ---- all parts, if one of them has other faults

  breaks_set : (index : ℕ) (specs : List PartSpec) (journals : List (List Event)) → slice_get specs index ≡ Some spec
      → has_break (slice_set specs index other) journals ≡ has_break specs journals
  unfolding has_break
  breaks_set index [] journals e = none_is_some e
  breaks_set zero (x ∷ specs) [] e = refl
  breaks_set zero (x ∷ specs) (events ∷ journals) e =
      ap (λ (y : PartSpec). is_some (first_break y.class y.blocks events) || has_break specs journals) (sym (same_inside e))
  breaks_set (suc index) (x ∷ specs) [] e = refl
  breaks_set (suc index) (x ∷ specs) (events ∷ journals) e =
      ap (λ (b : Bool). is_some (first_break x.class x.blocks events) || b) (breaks_set index specs journals e)

  given_set : (index : ℕ) (specs : List PartSpec) (journals : List (List Event))
      → slice_get specs index ≡ Some spec → slice_get journals index ≡ Some journal
      → has_given_up (slice_set specs index other) journals ≡ has_given_up specs journals
  unfolding has_given_up
  given_set index [] journals e g = none_is_some e
  given_set zero (x ∷ specs) [] e g = none_is_some g
  given_set zero (x ∷ specs) (events ∷ journals) e g =
      ap (λ (b : Bool). b || has_given_up specs journals)
      (ap (λ (es : List Event). is_given_up (state_of other es)) (same_inside g) ∙ given_up_same
      ∙ ap (λ (es : List Event). is_given_up (state_of spec es)) (sym (same_inside g))
      ∙ ap (λ (y : PartSpec). is_given_up (state_of y events)) (sym (same_inside e)))
  given_set (suc index) (x ∷ specs) [] e g = none_is_some g
  given_set (suc index) (x ∷ specs) (events ∷ journals) e g =
      ap (λ (b : Bool). is_given_up (state_of x events) || b) (given_set index specs journals e g)

  failures_set : (index : ℕ) (specs : List PartSpec) (journals : List (List Event))
      → slice_get specs index ≡ Some spec → slice_get journals index ≡ Some journal
      → failures_count (slice_set specs index other) journals ≡ failures_count specs journals
  unfolding failures_count
  failures_set index [] journals e g = none_is_some e
  failures_set zero (x ∷ specs) [] e g = none_is_some g
  failures_set zero (x ∷ specs) (events ∷ journals) e g =
      ap (λ (n : ℕ). n + failures_count specs journals)
      (ap (λ (es : List Event). (state_of other es).failures) (same_inside g) ∙ failing_same
      ∙ ap (λ (es : List Event). (state_of spec es).failures) (sym (same_inside g))
      ∙ ap (λ (y : PartSpec). (state_of y events).failures) (sym (same_inside e)))
  failures_set (suc index) (x ∷ specs) [] e g = none_is_some g
  failures_set (suc index) (x ∷ specs) (events ∷ journals) e g =
      ap (λ (n : ℕ). (state_of x events).failures + n) (failures_set index specs journals e g)

  lefts_set : (index : ℕ) (specs : List PartSpec) (journals : List (List Event))
      → slice_get specs index ≡ Some spec → slice_get journals index ≡ Some journal
      → left_texts (slice_set specs index other) journals ≡ left_texts specs journals
  lefts_set index [] journals e g = none_is_some e
  lefts_set zero (x ∷ specs) [] e g = none_is_some g
  lefts_set zero (x ∷ specs) (events ∷ journals) e g =
      ap (λ (text : List ℕ). text ∷ left_texts specs journals)
      (ap (left_text other) (same_inside g) ∙ left_same ∙ ap (left_text spec) (sym (same_inside g))
      ∙ ap (λ (y : PartSpec). left_text y events) (sym (same_inside e)))
  lefts_set (suc index) (x ∷ specs) [] e g = none_is_some g
  lefts_set (suc index) (x ∷ specs) (events ∷ journals) e g =
      ap (λ (texts : List (List ℕ)). left_text x events ∷ texts) (lefts_set index specs journals e g)

  abbrev status_by : Bool → Bool → ℕ
  status_by broken gone = if broken then 7 else if gone then 1 else 0

  abbrev row_by : List (List Event) → List (List (ℕ × Answer)) → ℕ → ℕ → MemberRow
  row_by journals answers status failures = record {
    status = status;
    events = events_count journals;
    failures = failures;
    gone = gone_count answers;
    lost = lost_count journals;
  }

  counts_set : (index : ℕ) (specs : List PartSpec) (journals : List (List Event)) (answers : List (List (ℕ × Answer)))
      → slice_get specs index ≡ Some spec → slice_get journals index ≡ Some journal
      → row_of (slice_set specs index other) journals answers ≡ row_of specs journals answers
  unfolding row_of
  counts_set index specs journals answers e g =
      let struck_specs : List PartSpec = slice_set specs index other in
      ap (λ (b : Bool). row_by journals answers (status_by b (has_given_up struck_specs journals)) (failures_count struck_specs journals))
      (breaks_set index specs journals e)
      ∙ ap (λ (b : Bool). row_by journals answers (status_by (has_break specs journals) b) (failures_count struck_specs journals))
      (given_set index specs journals e g)
      ∙ ap (row_by journals answers (status_of specs journals)) (failures_set index specs journals e g)

  clause_set : (index : ℕ) (specs : List PartSpec) (o : Option (List Event)) → slice_get specs index ≡ Some spec
      → clause_at (slice_get (slice_set specs index other) index) o ≡ clause_at (slice_get specs index) o
  clause_set index specs o e =
      ap (λ (x : Option PartSpec). clause_at x o) (get_set_same specs index spec other e)
      ∙ by_journal o ∙ ap (λ (x : Option PartSpec). clause_at x o) (sym e)
    where
      by_journal : (o : Option (List Event)) → clause_at (Some other) o ≡ clause_at (Some spec) o
      by_journal None = refl
      by_journal (Some events) = refl

  -- ---- the row

  module _ (plan : Plan) (own ran changed : Ran) (journals_are : journals_of changed.simulation ≡ journals_of ran.simulation)
      (answers_are : answer_table changed.simulation ≡ answer_table ran.simulation) (traps_are : changed.traps ≡ ran.traps)
      (e : slice_get ran.scenario.parts plan.part ≡ Some spec) (g : slice_get (journals_of ran.simulation) plan.part ≡ Some journal)
      (parts_are : changed.scenario.parts ≡ slice_set ran.scenario.parts plan.part other) where
    abbrev row_from : MemberRow → List (List ℕ) → Option ℕ → List (List Event) → List (List (ℕ × Answer)) → ℕ → Row
    row_from counts lefts clause journals answers traps = record {
      counts = counts;
      detail = if_asked plan.detail (record {
        same_answers = texts_eq (answer_texts (answer_table own.simulation)) (answer_texts answers);
        same_left = texts_eq (left_texts own.scenario.parts (journals_of own.simulation)) lefts;
        clause = clause;
        cause = cause_at (slice_get journals plan.part);
      });
      traps = if_asked plan.guard traps;
    }

    abbrev row_with : List PartSpec → List (List Event) → List (List (ℕ × Answer)) → ℕ → Row
    row_with specs journals answers traps =
        row_from (row_of specs journals answers) (left_texts specs journals) (clause_at (slice_get specs plan.part) (slice_get journals plan.part))
        journals answers traps

    pub plan_row_same : plan_row plan own changed ≡ plan_row plan own ran
    plan_row_same =
        let specs : List PartSpec = ran.scenario.parts in
        let journals : List (List Event) = journals_of ran.simulation in
        let answers : List (List (ℕ × Answer)) = answer_table ran.simulation in
        let struck_specs : List PartSpec = slice_set specs plan.part other in
        ap (λ (x : List PartSpec). row_with x (journals_of changed.simulation) (answer_table changed.simulation) changed.traps) parts_are
        ∙ ap (λ (x : List (List Event)). row_with struck_specs x (answer_table changed.simulation) changed.traps) journals_are
        ∙ ap (λ (x : List (List (ℕ × Answer))). row_with struck_specs journals x changed.traps) answers_are
        ∙ ap (λ (x : ℕ). row_with struck_specs journals answers x) traps_are
        ∙ ap (λ (x : MemberRow). row_from x (left_texts struck_specs journals)
        (clause_at (slice_get struck_specs plan.part) (slice_get journals plan.part)) journals answers ran.traps)
        (counts_set plan.part specs journals answers e g)
        ∙ ap (λ (x : List (List ℕ)). row_from (row_of specs journals answers) x
        (clause_at (slice_get struck_specs plan.part) (slice_get journals plan.part)) journals answers ran.traps)
        (lefts_set plan.part specs journals e g)
        ∙ ap (λ (x : Option ℕ). row_from (row_of specs journals answers) (left_texts specs journals) x journals answers ran.traps)
        (clause_set plan.part specs (slice_get journals plan.part) e)
