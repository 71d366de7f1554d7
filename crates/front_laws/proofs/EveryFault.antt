-- A fault of some kinds is in the list of every fault, or no burst reaches it; so its row is in the table.
use Rattle.std.proofs.Common.{◌≡◌, ◌⊎◌, ◌≤◌, ◌<◌, inl, inr, ℕ, zero, suc, ◌+◌, ◌==◌, Bool, true, false, ◌||◌, nat_lt, if◌then◌else◌, is_some, Option, Some, None, List, [], ◌∷◌, ◌++◌, map, slice_get, slice_set, refl, sym, ap, subst, ◌∙◌, arith, append_assoc}
use Rattle.std.proofs.lemmas.Bool.{eqb-false, eqb-true, ltb-false, ltb-true}
use Rattle.std.specs.List.{AllZip}
use Rattle.nook_data.proofs.Options.{none_is_some, same_inside}
use Rattle.nook_data.specs.Members.{struck, struck_parts, with_fault, with_struck}
use Rattle.nook_data.specs.declared.calls.Answer.{Answer}
use Rattle.nook_data.specs.declared.campaign.MemberRow.{MemberRow}
use Rattle.nook_data.specs.declared.scenario.Fault.{Fault}
use Rattle.nook_data.specs.declared.scenario.FaultKind.{FaultKind}
use Rattle.nook_data.specs.declared.scenario.PartSpec.{PartSpec}
use Rattle.nook_data.specs.declared.scenario.Scenario.{Scenario}
use Rattle.nook_data.specs.declared.steps.Event.{Event}
use Rattle.nook_data.specs.declared.steps.Step.{Step}
use Rattle.nook_data.specs.declared.steps.Step.TheVariants as step
use Rattle.guard_defs.specs.Every.{IsIn, every_fault, every_fault_guarded, every_from, every_guarded_from, faults_in, faults_of_step, open_turns, put_at}
use Rattle.guard_defs.specs.Guard.{guard, guarded, known_at_first}
use Rattle.machine_defs.proofs.BurstKeeps.{split}
use Rattle.part_defs.specs.Runs.{state_after, state_of, step_of}
use Rattle.part_defs.specs.Stages.{is_given_up}
use Rattle.part_defs.specs.State.{PartState}
use Rattle.part_defs.specs.Steps.{opening}
use Rattle.promise_defs.specs.Contract.{Known, first_break, known_after}
use Rattle.report_defs.specs.Campaigns.{IsRowOf, gone_count, lost_count, row_of}
use Rattle.report_defs.specs.ReportText.{failures_count, has_break, has_given_up, status_of}
use Rattle.run_defs.specs.Simulation.{IsScheduledRun, RunningPart, Simulation, answer_table, events_count, journal_of, journals_of}
use Rattle.front_laws.specs.Every.{AllKept, AreRowsOf, EndsWell, base_row}
use Rattle.front_laws.specs.Fronts.{IsPast, IsPastFrom, IsUnreached}
use Rattle.front_laws.specs.GuardedPast.{IsPastGuarded, IsPastGuardedFrom, IsUnreachedGuarded, StaysBefore}
use Rattle.front_laws.specs.Owned.{owned, struck_at}
use Rattle.front_laws.proofs.Unreached.{unreached}
use Rattle.front_laws.proofs.WholeRuns.{owned_journals, scheduled_same}

-- ---- items of lists

in_first : {X : Type 0} (x : X) (xs ys : List X) → IsIn xs x → IsIn (xs ++ ys) x
in_first {X} x xs ys (front, back, e) = (front, back ++ ys, ap (λ (l : List X). l ++ ys) e ∙ append_assoc front (x ∷ back) ys)

in_second : {X : Type 0} (x : X) (xs ys : List X) → IsIn ys x → IsIn (xs ++ ys) x
in_second {X} x xs ys (front, back, e) = (xs ++ front, back, ap (λ (l : List X). xs ++ l) e ∙ sym (append_assoc xs front (x ∷ back)))

in_more : {X : Type 0} (x y : X) (xs : List X) → IsIn xs x → IsIn (y ∷ xs) x
in_more {X} x y xs (front, back, e) = (y ∷ front, back, ap (λ (l : List X). y ∷ l) e)

map_both : {X Y : Type 0} (g : X → Y) (front back : List X) → map g (front ++ back) ≡ map g front ++ map g back
map_both g [] back = refl
map_both {X} {Y} g (x ∷ front) back = ap (λ (l : List Y). g x ∷ l) (map_both g front back)

in_map : {X Y : Type 0} (g : X → Y) (x : X) (xs : List X) → IsIn xs x → IsIn (map g xs) (g x)
in_map g x xs (front, back, e) = (map g front, map g back, ap (map g) e ∙ map_both g front (x ∷ back))

zip_at : {A B : Type 0} (R : A → B → Type 0) (front : List A) (x : A) (back : List A) (rows : List B)
    → AllZip R (front ++ x ∷ back) rows → (row : B) × IsIn rows row × R x row
zip_at R [] x back [] h = absurd h
zip_at R [] x back (row ∷ rows) h = (row, ([], rows, refl), h.0)
zip_at R (a ∷ front) x back [] h = absurd h
zip_at R (a ∷ front) x back (row ∷ rows) h =
    let later = zip_at R front x back rows h.1 in (later.0, in_more later.0 row rows later.1, later.2)

-- ---- a fault of a burst is listed there or not reached

in_burst : (kinds : List FaultKind) (f : Fault) (after turns : ℕ) → IsIn kinds f.kind → after ≤ f.after → f.after < after + turns
    → IsIn (faults_in kinds f.burst after turns) f
unfolding faults_in
in_burst kinds f after zero among low high = absurd (omega arith)
in_burst kinds f after (suc turns) among low high = split (nat_lt after f.after)
    (λ later. let l : after < f.after = ltb-true after f.after later in
    in_second f (map (put_at f.burst after) kinds) (faults_in kinds f.burst (after + 1) turns)
    (in_burst kinds f (after + 1) turns among (omega arith) (omega arith)))
    (λ here. let l : f.after ≤ after = ltb-false after f.after here in
    let same : f.after ≡ after = omega arith in
    in_first f (map (put_at f.burst after) kinds) (faults_in kinds f.burst (after + 1) turns)
    (subst (λ (n : ℕ). IsIn (map (put_at f.burst n) kinds) f) same (in_map (put_at f.burst f.after) f.kind kinds among)))

stays_before : (f : Fault) (p : PartState) (context : ℕ) (o : Option Fault) → open_turns p context o ≤ f.after → StaysBefore f p context o
stays_before f p context None h = h
stays_before f p context (Some stop) h = omega arith

abbrev IsListedOrPast : List FaultKind → Fault → PartState → ℕ → Option Fault → Type 0
IsListedOrPast kinds f p context o =
    IsIn (faults_in kinds (p.bursts + 1) 0 (open_turns p context o)) f ⊎ (p.bursts + 1 ≡ f.burst → StaysBefore f p context o)

burst_listed : (kinds : List FaultKind) (f : Fault) (p : PartState) (context : ℕ) (o : Option Fault) → IsIn kinds f.kind
    → IsListedOrPast kinds f p context o
burst_listed kinds f p context o among = split (f.burst == (p.bursts + 1))
    (λ own. of_burst (eqb-true f.burst (p.bursts + 1) own))
    (λ other. inr (λ same. absurd (eqb-false f.burst (p.bursts + 1) other (sym same))))
  where
    of_burst : f.burst ≡ p.bursts + 1 → IsListedOrPast kinds f p context o
    of_burst own = split (nat_lt f.after (open_turns p context o))
        (λ early. let l : f.after < open_turns p context o = ltb-true f.after (open_turns p context o) early in
        inl (subst (λ (n : ℕ). IsIn (faults_in kinds n 0 (open_turns p context o)) f) own
        (in_burst kinds f 0 (open_turns p context o) among (omega arith) (omega arith))))
        (λ late. inr (λ same. stays_before f p context o (ltb-false f.after (open_turns p context o) late)))

join_listed : {P Q : Type 0} (f : Fault) (xs ys : List Fault) → IsIn xs f ⊎ P → IsIn ys f ⊎ Q → IsIn (xs ++ ys) f ⊎ (P × Q)
join_listed f xs ys (inl here) later = inl (in_first f xs ys here)
join_listed f xs ys (inr past) (inl there) = inl (in_second f xs ys there)
join_listed f xs ys (inr past) (inr later) = inr (past, later)

step_listed : (kinds : List FaultKind) (f : Fault) (p : PartState) (s : Step) → IsIn kinds f.kind
    → IsIn (faults_of_step kinds p None s) f ⊎ IsPast f p s
step_listed kinds f p (step.Invoke thread o) among = inr tt
step_listed kinds f p (step.Enter thread) among = inr tt
step_listed kinds f p step.Stage among = inr tt
step_listed kinds f p (step.Arrive frame) among = inr tt
step_listed kinds f p (step.Burst context) among = burst_listed kinds f p context None among

step_listed_guarded : (kinds : List FaultKind) (f : Fault) (p : PartState) (k : Known) (s : Step) → IsIn kinds f.kind
    → IsIn (faults_of_step kinds p (guard p k s) s) f ⊎ IsPastGuarded f p k s
step_listed_guarded kinds f p k (step.Invoke thread o) among = inr tt
step_listed_guarded kinds f p k (step.Enter thread) among = inr tt
step_listed_guarded kinds f p k step.Stage among = inr tt
step_listed_guarded kinds f p k (step.Arrive frame) among = inr tt
step_listed_guarded kinds f p k (step.Burst context) among = burst_listed kinds f p context (guard p k (step.Burst context)) among

from_listed : (kinds : List FaultKind) (f : Fault) (p : PartState) (events : List Event) → IsIn kinds f.kind
    → IsIn (every_from kinds p events) f ⊎ IsPastFrom f p events
unfolding every_from IsPastFrom
from_listed kinds f p [] among = inr tt
from_listed kinds f p (e ∷ events) among =
    join_listed f (faults_of_step kinds p None (step_of e)) (every_from kinds (state_after p (step_of e)) events)
    (step_listed kinds f p (step_of e) among) (from_listed kinds f (state_after p (step_of e)) events among)

guarded_from_listed : (kinds : List FaultKind) (f : Fault) (p : PartState) (k : Known) (events : List Event) → IsIn kinds f.kind
    → IsIn (every_guarded_from kinds p k events) f ⊎ IsPastGuardedFrom f p k events
unfolding every_guarded_from IsPastGuardedFrom
guarded_from_listed kinds f p k [] among = inr tt
guarded_from_listed kinds f p k (e ∷ events) among =
    join_listed f (faults_of_step kinds p (guard p k (step_of e)) (step_of e))
    (every_guarded_from kinds (state_after (guarded p k (step_of e)) (step_of e)) (known_after k e) events)
    (step_listed_guarded kinds f p k (step_of e) among)
    (guarded_from_listed kinds f (state_after (guarded p k (step_of e)) (step_of e)) (known_after k e) events among)

pub listed : (kinds : List FaultKind) (f : Fault) (spec : PartSpec) (journal : List Event) → IsIn kinds f.kind
    → IsIn (every_fault kinds spec journal) f ⊎ IsUnreached f spec journal
listed kinds f spec journal among = from_listed kinds f (opening spec) journal among

pub listed_guarded : (kinds : List FaultKind) (f : Fault) (spec : PartSpec) (journal : List Event) → IsIn kinds f.kind
    → IsIn (every_fault_guarded kinds spec journal) f ⊎ IsUnreachedGuarded f spec journal
listed_guarded kinds f spec journal among = guarded_from_listed kinds f (opening spec) (known_at_first spec) journal among

-- ---- a fault that is not reached does not change the row

module _ (f : Fault) where
  failing_same : (spec : PartSpec) (events : List Event) → IsUnreached f spec events
      → (state_of (with_fault f spec) events).failures ≡ (state_of spec events).failures
  failing_same spec events h = ap (λ (p : PartState). p.failures) (unreached spec f events h).state

  given_up_same : (spec : PartSpec) (events : List Event) → IsUnreached f spec events
      → is_given_up (state_of (with_fault f spec) events) ≡ is_given_up (state_of spec events)
  given_up_same spec events h = ap is_given_up (unreached spec f events h).state

  breaks_set : (index : ℕ) (specs : List PartSpec) (journals : List (List Event)) (spec : PartSpec) → slice_get specs index ≡ Some spec
      → has_break (slice_set specs index (with_fault f spec)) journals ≡ has_break specs journals
  unfolding has_break
  breaks_set index [] journals spec e = none_is_some e
  breaks_set zero (x ∷ specs) [] spec e = refl
  breaks_set zero (x ∷ specs) (events ∷ journals) spec e =
      ap (λ (y : PartSpec). is_some (first_break y.class y.blocks events) || has_break specs journals) (sym (same_inside e))
  breaks_set (suc index) (x ∷ specs) [] spec e = refl
  breaks_set (suc index) (x ∷ specs) (events ∷ journals) spec e =
      ap (λ (b : Bool). is_some (first_break x.class x.blocks events) || b) (breaks_set index specs journals spec e)

  given_set : (index : ℕ) (specs : List PartSpec) (journals : List (List Event)) (spec : PartSpec) (journal : List Event)
      → slice_get specs index ≡ Some spec → slice_get journals index ≡ Some journal → IsUnreached f spec journal
      → has_given_up (slice_set specs index (with_fault f spec)) journals ≡ has_given_up specs journals
  unfolding has_given_up
  given_set index [] journals spec journal e g h = none_is_some e
  given_set zero (x ∷ specs) [] spec journal e g h = none_is_some g
  given_set zero (x ∷ specs) (events ∷ journals) spec journal e g h =
      ap (λ (b : Bool). b || has_given_up specs journals)
      (given_up_same spec events (subst (IsUnreached f spec) (sym (same_inside g)) h)
      ∙ ap (λ (y : PartSpec). is_given_up (state_of y events)) (sym (same_inside e)))
  given_set (suc index) (x ∷ specs) [] spec journal e g h = none_is_some g
  given_set (suc index) (x ∷ specs) (events ∷ journals) spec journal e g h =
      ap (λ (b : Bool). is_given_up (state_of x events) || b) (given_set index specs journals spec journal e g h)

  failures_set : (index : ℕ) (specs : List PartSpec) (journals : List (List Event)) (spec : PartSpec) (journal : List Event)
      → slice_get specs index ≡ Some spec → slice_get journals index ≡ Some journal → IsUnreached f spec journal
      → failures_count (slice_set specs index (with_fault f spec)) journals ≡ failures_count specs journals
  unfolding failures_count
  failures_set index [] journals spec journal e g h = none_is_some e
  failures_set zero (x ∷ specs) [] spec journal e g h = none_is_some g
  failures_set zero (x ∷ specs) (events ∷ journals) spec journal e g h =
      ap (λ (n : ℕ). n + failures_count specs journals)
      (failing_same spec events (subst (IsUnreached f spec) (sym (same_inside g)) h)
      ∙ ap (λ (y : PartSpec). (state_of y events).failures) (sym (same_inside e)))
  failures_set (suc index) (x ∷ specs) [] spec journal e g h = none_is_some g
  failures_set (suc index) (x ∷ specs) (events ∷ journals) spec journal e g h =
      ap (λ (n : ℕ). (state_of x events).failures + n) (failures_set index specs journals spec journal e g h)

abbrev status_by : Bool → Bool → ℕ
status_by broken gone = if broken then 7 else if gone then 1 else 0

abbrev row_by : List (List Event) → List (List (ℕ × Answer)) → ℕ → ℕ → MemberRow
row_by journals answers status failures = record {
  status = status;
  events = events_count journals;
  failures = failures;
  gone = gone_count answers;
  lost = lost_count journals;
}

row_same : (f : Fault) (index : ℕ) (specs : List PartSpec) (journals : List (List Event)) (answers : List (List (ℕ × Answer)))
    (spec : PartSpec) (journal : List Event) → slice_get specs index ≡ Some spec → slice_get journals index ≡ Some journal
    → IsUnreached f spec journal → row_of (struck_parts specs index f) journals answers ≡ row_of specs journals answers
unfolding row_of
row_same f index specs journals answers spec journal e g h =
    ap (λ (o : Option PartSpec). row_of (with_struck specs index f o) journals answers) e
    ∙ ap (λ (b : Bool). row_by journals answers (status_by b (has_given_up struck_specs journals)) (failures_count struck_specs journals))
    (breaks_set f index specs journals spec e)
    ∙ ap (λ (b : Bool). row_by journals answers (status_by (has_break specs journals) b) (failures_count struck_specs journals))
    (given_set f index specs journals spec journal e g h)
    ∙ ap (row_by journals answers (status_of specs journals)) (failures_set f index specs journals spec journal e g h)
  where
    struck_specs : List PartSpec
    struck_specs = slice_set specs index (with_fault f spec)

journal_at : (parts : List RunningPart) (index : ℕ) (seat : RunningPart) → slice_get parts index ≡ Some seat
    → slice_get (map journal_of parts) index ≡ Some seat.run.journal
journal_at [] index seat h = none_is_some h
journal_at (x ∷ parts) zero seat h = ap (λ (y : RunningPart). Some y.run.journal) (same_inside h)
journal_at (x ∷ parts) (suc index) seat h = journal_at parts index seat h

status_is : (specs : List PartSpec) (journals : List (List Event)) (answers : List (List (ℕ × Answer)))
    → (row_of specs journals answers).status ≡ status_of specs journals
unfolding row_of
status_is specs journals answers = refl

row_status : (scenario : Scenario) (row : MemberRow) (r : IsRowOf scenario row) → row.status ≡ 0
    → status_of scenario.parts (journals_of r.simulation) ≡ 0
row_status scenario row r ends =
    sym (status_is scenario.parts (journals_of r.simulation) (answer_table r.simulation))
    ∙ sym (ap (λ (x : MemberRow). x.status) r.same) ∙ ends

-- ---- the row of every fault

module _ (scenario : Scenario) (index : ℕ) (spec : PartSpec) (s : Simulation) (seat : RunningPart) (run : IsScheduledRun scenario s)
    (there : slice_get scenario.parts index ≡ Some spec) (at : slice_get s.parts index ≡ Some seat) where
  past_row : (f : Fault) → IsUnreached f spec seat.run.journal → IsRowOf (struck scenario index f) (base_row scenario s)
  past_row f past = record {
    simulation = owned (struck_at index f) s;
    scheduled = scheduled_same scenario index f s spec seat run there at past;
    same = sym (ap (λ (journals : List (List Event)). row_of (struck_parts scenario.parts index f) journals (answer_table s))
        (owned_journals (struck_at index f) s)
        ∙ row_same f index scenario.parts (journals_of s) (answer_table s) spec seat.run.journal there (journal_at s.parts index seat at) past);
  }

  pub row_of_every : (kinds : List FaultKind) (rows : List MemberRow) (f : Fault)
      → AreRowsOf scenario index (every_fault kinds spec seat.run.journal) rows → IsIn kinds f.kind
      → (row : MemberRow) × IsIn (base_row scenario s ∷ rows) row × IsRowOf (struck scenario index f) row
  row_of_every kinds rows f zipped among = by_list (listed kinds f spec seat.run.journal among)
    where
      by_list : IsIn (every_fault kinds spec seat.run.journal) f ⊎ IsUnreached f spec seat.run.journal
          → (row : MemberRow) × IsIn (base_row scenario s ∷ rows) row × IsRowOf (struck scenario index f) row
      by_list (inl (front, back, e)) =
          let found = zip_at (λ (g : Fault) (row : MemberRow). IsRowOf (struck scenario index g) row) front f back rows
          (subst (λ (faults : List Fault). AreRowsOf scenario index faults rows) e zipped) in
          (found.0, in_more found.0 (base_row scenario s) rows found.1, found.2)
      by_list (inr past) = (base_row scenario s, ([], rows, refl), past_row f past)

  pub kept_by_rows : (kinds : List FaultKind) (rows : List MemberRow) (f : Fault)
      → AreRowsOf scenario index (every_fault kinds spec seat.run.journal) rows → IsIn kinds f.kind
      → AllKept (base_row scenario s ∷ rows) → EndsWell (struck scenario index f)
  kept_by_rows kinds rows f zipped among all =
      let found = row_of_every kinds rows f zipped among in record {
        simulation = found.2.simulation;
        scheduled = found.2.scheduled;
        status_is = row_status (struck scenario index f) found.0 found.2 (all found.0 found.1);
      }
