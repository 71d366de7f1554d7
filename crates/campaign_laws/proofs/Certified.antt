-- The table of every fault covers every fault.
use Rattle.std.proofs.Common.{◌≡◌, ◌∙◌, ◌⊎◌, inl, inr, ℕ, zero, suc, ◌<◌, Bool, true, false, List, [], ◌∷◌, ◌++◌, map, length, Option, Some, None, slice_get, ap, refl, subst, sym, arith}
use Rattle.std.proofs.lemmas.List.{length-map}
use Rattle.std.specs.List.{AllZip}
use Rattle.campaign_defs.specs.Members.{IsFreeRun, IsGuardedRunOf, IsRunUnder, Ran, alone, every_of, every_under, members_of}
use Rattle.campaign_defs.specs.Rows.{AreMemberRows, IsMemberRow, IsPlanTable, plan_row}
use Rattle.campaign_defs.specs.Types.{Row}
use Rattle.campaign_laws.proofs.Statuses.{gone_in_parts, gone_owned, guarded_status, status_by}
use Rattle.campaign_laws.specs.Certificates.{AllEndWell, EndsWellUnder}
use Rattle.front_laws.proofs.EveryFault.{kept_by_rows, listed_guarded}
use Rattle.front_laws.proofs.GuardedRuns.{AreOf, begins_of, guarded_scheduled}
use Rattle.front_laws.proofs.GuardedStruck.{guarded_schedule_same}
use Rattle.front_laws.proofs.FirstStops.{specs_of_run}
use Rattle.front_laws.specs.Every.{AllKept, AreRowsOf, EndsWell, base_row}
use Rattle.front_laws.specs.GuardedPast.{IsUnreachedGuarded, inserted_at}
use Rattle.front_laws.specs.Owned.{owned}
use Rattle.guard_defs.specs.Every.{IsIn, every_fault, every_fault_guarded}
use Rattle.guard_defs.specs.GuardedRuns.{IsGuardedSchedule, guarded_runs, guarded_scenario, spec_of, stops_found}
use Rattle.plan_defs.specs.Plans.{IsValidPlan, struck_by, with_struck_by}
use Rattle.plan_defs.specs.Types.{Plan, Strikes}
use Rattle.plan_defs.specs.declared.plan.Strikes.TheVariants as strikes
use Rattle.nook_data.specs.Members.{struck, with_struck}
use Rattle.nook_data.specs.declared.campaign.MemberRow.{MemberRow}
use Rattle.nook_data.specs.declared.scenario.Fault.{Fault}
use Rattle.nook_data.specs.declared.scenario.FaultKind.{FaultKind}
use Rattle.nook_data.specs.declared.scenario.PartSpec.{PartSpec}
use Rattle.nook_data.specs.declared.scenario.Scenario.{Scenario}
use Rattle.report_defs.specs.Campaigns.{IsRowOf, row_of}
use Rattle.report_defs.specs.ReportText.{status_of}
use Rattle.run_defs.specs.Simulation.{IsScheduledRun, RunningPart, Simulation, answer_table, begins, journals_of, runs}

-- ---- a single fault

struck_alone_parts : (parts : List PartSpec) (index : ℕ) (f : Fault) (o : Option PartSpec)
    → with_struck_by parts index (alone f) o ≡ with_struck parts index f o
struck_alone_parts parts index f None = refl
struck_alone_parts parts index f (Some part) = refl

struck_alone : (scenario : Scenario) (index : ℕ) (f : Fault) → struck_by scenario index (alone f) ≡ struck scenario index f
struck_alone scenario index f =
    ap (λ (parts : List PartSpec). record scenario { parts = parts })
    (struck_alone_parts scenario.parts index f (slice_get scenario.parts index))

-- ---- lists

there_is : {X : Type 0} (xs : List X) (i : ℕ) → i < length xs → (x : X) × (slice_get xs i ≡ Some x)
there_is [] i h = absurd (omega (arith, h))
there_is (x ∷ xs) zero h = (x, refl)
there_is (x ∷ xs) (suc i) h = there_is xs i (omega (arith, h))

in_more : {X : Type 0} (x y : X) (xs : List X) → IsIn xs x → IsIn (y ∷ xs) x
in_more x y xs (front, back, e) = (y ∷ front, back, ap (λ l. y ∷ l) e)

map_apart : {X Y : Type 0} (g : X → Y) (front : List X) (x : X) (back : List X)
    → map g (front ++ x ∷ back) ≡ map g front ++ g x ∷ map g back
map_apart g [] x back = refl
map_apart g (y ∷ front) x back = ap (λ l. g y ∷ l) (map_apart g front x back)

zip_in : {A B : Type 0} (R : A → B → Type 0) (front : List A) (x : A) (back : List A) (rows : List B)
    → AllZip R (front ++ x ∷ back) rows → (row : B) × IsIn rows row × R x row
zip_in R [] x back [] h = absurd h
zip_in R [] x back (row ∷ rows) h = (row, ([], rows, refl), h.0)
zip_in R (a ∷ front) x back [] h = absurd h
zip_in R (a ∷ front) x back (row ∷ rows) h =
    let later = zip_in R front x back rows h.1 in (later.0, in_more later.0 row rows later.1, later.2)

-- ---- without a guard

abbrev counts_of : Row → MemberRow
counts_of row = row.counts

module _ (plan : Plan) (free : plan.guard ≡ false) (base : Ran) where
  row_alone : (f : Fault) (row : Row) → IsMemberRow plan base (alone f) row → IsRowOf (struck plan.base plan.part f) row.counts
  row_alone f row is =
      let run : IsFreeRun (struck_by plan.base plan.part (alone f)) is.ran =
      subst (λ (g : Bool). IsRunUnder g (struck_by plan.base plan.part (alone f)) is.ran) free is.is_run in
      let same : is.ran.scenario ≡ struck plan.base plan.part f = run.same ∙ struck_alone plan.base plan.part f in record {
        simulation = is.ran.simulation;
        scheduled = subst (λ (s : Scenario). IsScheduledRun s is.ran.simulation) (struck_alone plan.base plan.part f) run.scheduled;
        same = ap (λ (r : Row). r.counts) is.same
            ∙ ap (λ (s : Scenario). row_of s.parts (journals_of is.ran.simulation) (answer_table is.ran.simulation)) same;
      }

  rows_alone : (faults : List Fault) (rows : List Row) → AreMemberRows plan base (map alone faults) rows
      → AreRowsOf plan.base plan.part faults (map counts_of rows)
  rows_alone [] [] are = tt
  rows_alone [] (row ∷ rows) are = absurd are
  rows_alone (f ∷ faults) [] are = absurd are
  rows_alone (f ∷ faults) (row ∷ rows) are = (row_alone f row are.0, rows_alone faults rows are.1)

kept_counts : (rows : List Row) → AllEndWell rows → (m : MemberRow) (front back : List MemberRow)
    → map counts_of rows ≡ front ++ m ∷ back → m.status ≡ 0
kept_counts [] all m [] back e = absurd (cc)
kept_counts [] all m (x ∷ front) back e = absurd (cc)
kept_counts (row ∷ rows) all m [] back e =
    let head : row.counts ≡ m = cc in
    ap (λ (c : MemberRow). c.status) (sym head) ∙ all row ([], rows, refl)
kept_counts (row ∷ rows) all m (x ∷ front) back e =
    let tail : map counts_of rows ≡ front ++ m ∷ back = cc in
    kept_counts rows (λ r here. all r (in_more r row rows here)) m front back tail

all_kept : (rows : List Row) → AllEndWell rows → AllKept (map counts_of rows)
all_kept rows all m (front, back, e) = kept_counts rows all m front back e

-- ---- the rows of every fault

status_is : (scenario : Scenario) (s : Simulation) → (row_of scenario.parts (journals_of s) (answer_table s)).status
    ≡ status_of scenario.parts (journals_of s)
unfolding row_of
status_is scenario s = refl

module _ (plan : Plan) (kinds : List FaultKind) (base : Ran) (rows : List Row) (f : Fault) (spec : PartSpec) (seat : RunningPart)
    (strike : plan.strikes ≡ strikes.Every kinds) (table : IsPlanTable plan base rows)
    (all : AllEndWell (plan_row plan base base ∷ rows)) (among : IsIn kinds f.kind)
    (there : slice_get plan.base.parts plan.part ≡ Some spec)
    (at : slice_get base.simulation.parts plan.part ≡ Some seat) where
  listed_rows : AreMemberRows plan base (map alone (every_under plan.guard kinds spec seat.run.journal)) rows
  listed_rows =
      subst (λ (o : Option RunningPart). AreMemberRows plan base (map alone (every_of plan.guard kinds (Some spec) o)) rows) at
      (subst (λ (o : Option PartSpec). AreMemberRows plan base
      (map alone (every_of plan.guard kinds o (slice_get base.simulation.parts plan.part))) rows) there
      (subst (λ (s : Strikes). AreMemberRows plan base (members_of plan s base) rows) strike table.members))

  free_certified : plan.guard ≡ false → EndsWellUnder false (struck plan.base plan.part f)
  free_certified free =
      let run : IsFreeRun plan.base base = subst (λ (g : Bool). IsRunUnder g plan.base base) free table.is_base in
      let scheduled : IsScheduledRun plan.base base.simulation = run.scheduled in
      let counted : AreRowsOf plan.base plan.part (every_fault kinds spec seat.run.journal) (map counts_of rows) =
      rows_alone plan free base (every_fault kinds spec seat.run.journal) rows
      (subst (λ (g : Bool). AreMemberRows plan base (map alone (every_under g kinds spec seat.run.journal)) rows) free listed_rows) in
      let own : (plan_row plan base base).counts ≡ base_row plan.base base.simulation =
      ap (λ (s : Scenario). row_of s.parts (journals_of base.simulation) (answer_table base.simulation)) run.same in
      let kept : AllKept (base_row plan.base base.simulation ∷ map counts_of rows) =
      subst (λ (r : MemberRow). AllKept (r ∷ map counts_of rows)) own (all_kept (plan_row plan base base ∷ rows) all) in
      let ends : EndsWell (struck plan.base plan.part f) =
      kept_by_rows plan.base plan.part spec base.simulation seat scheduled there at kinds (map counts_of rows) f counted among kept in
      record {
        ran = record { scenario = struck plan.base plan.part f; simulation = ends.simulation; traps = 0 };
        is_run = record { same = refl; scheduled = ends.scheduled; no_traps = refl };
        status_is = ends.status_is;
      }

  -- a listed fault has a row, which is that of its run
  listed_certified : plan.guard ≡ true → IsIn (every_fault_guarded kinds spec seat.run.journal) f
      → EndsWellUnder true (struck plan.base plan.part f)
  listed_certified guarded (front, back, e) =
      let rows_are : AreMemberRows plan base (map alone (front ++ f ∷ back)) rows =
      subst (λ (faults : List Fault). AreMemberRows plan base (map alone faults) rows) e
      (subst (λ (g : Bool). AreMemberRows plan base (map alone (every_under g kinds spec seat.run.journal)) rows) guarded listed_rows) in
      let found = zip_in (IsMemberRow plan base) (map alone front) (alone f) (map alone back) rows
      (subst (λ (lists : List (List Fault)). AreMemberRows plan base lists rows) (map_apart alone front f back) rows_are) in
      let is : IsMemberRow plan base (alone f) found.0 = found.2 in
      let zero_row : found.0.counts.status ≡ 0 = all found.0 (in_more found.0 (plan_row plan base base) rows found.1) in
      record {
        ran = is.ran;
        is_run = subst (λ (s : Scenario). IsRunUnder true s is.ran) (struck_alone plan.base plan.part f)
            (subst (λ (g : Bool). IsRunUnder g (struck_by plan.base plan.part (alone f)) is.ran) guarded is.is_run);
        status_is = sym (status_is is.ran.scenario is.ran.simulation)
            ∙ sym (ap (λ (r : Row). r.counts.status) is.same) ∙ zero_row;
      }

  -- a fault that no burst reaches does not change the base's guarded run
  past_certified : plan.guard ≡ true → IsUnreachedGuarded f spec seat.run.journal
      → EndsWellUnder true (struck plan.base plan.part f)
  past_certified guarded past =
      let run : IsGuardedRunOf plan.base base = subst (λ (g : Bool). IsRunUnder g plan.base base) guarded table.is_base in
      let s : Simulation = base.simulation in
      let change : ℕ → List Fault → List Fault = inserted_at plan.part (length spec.faults) f in
      let other : Simulation = owned change s in
      let again : IsGuardedSchedule (struck plan.base plan.part f) other =
      guarded_schedule_same plan.base plan.part f s spec seat run.guarded there at past in
      let zero_base : status_of base.scenario.parts (journals_of s) ≡ 0 =
      sym (status_is base.scenario s) ∙ all (plan_row plan base base) ([], rows, refl) in
      let parts : base.scenario.parts ≡ map spec_of s.parts = ap (λ (x : Scenario). x.parts) run.same in
      let gone : status_by false (gone_in_parts s.parts) ≡ 0 =
      sym (guarded_status plan.base s run.guarded)
      ∙ ap (λ (specs : List PartSpec). status_of specs (journals_of s)) (sym parts) ∙ zero_base in
      record {
        ran = record {
          scenario = guarded_scenario (struck plan.base plan.part f) other;
          simulation = other;
          traps = length (stops_found again.steps (begins (struck plan.base plan.part f)));
        };
        is_run = record {
          guarded = again;
          same = refl;
          scheduled = guarded_scheduled (struck plan.base plan.part f) other again;
          count = refl;
        };
        status_is = guarded_status (struck plan.base plan.part f) other again
            ∙ ap (status_by false) (gone_owned change 0 s.parts) ∙ gone;
      }

  guarded_certified : plan.guard ≡ true → EndsWellUnder true (struck plan.base plan.part f)
  guarded_certified guarded = by_list (listed_guarded kinds f spec seat.run.journal among)
    where
      by_list : IsIn (every_fault_guarded kinds spec seat.run.journal) f ⊎ IsUnreachedGuarded f spec seat.run.journal
          → EndsWellUnder true (struck plan.base plan.part f)
      by_list (inl here) = listed_certified guarded here
      by_list (inr past) = past_certified guarded past

  by_guard : (g : Bool) → plan.guard ≡ g → EndsWellUnder g (struck plan.base plan.part f)
  by_guard false e = free_certified e
  by_guard true e = guarded_certified e

-- ---- the part of the base's run

same_count : (parts : List RunningPart) (specs : List PartSpec) → AreOf parts specs → length parts ≡ length specs
unfolding AreOf
same_count [] [] are = refl
same_count [] (spec ∷ specs) are = absurd are
same_count (seat ∷ parts) [] are = absurd are
same_count (seat ∷ parts) (spec ∷ specs) are = ap suc (same_count parts specs are.1)

as_many_parts : (g : Bool) (scenario : Scenario) (ran : Ran) → IsRunUnder g scenario ran
    → length ran.simulation.parts ≡ length scenario.parts
as_many_parts false scenario ran is =
    let counted : length (map spec_of (runs is.scheduled.steps (begins scenario)).parts) ≡ length scenario.parts =
    ap length (specs_of_run scenario is.scheduled.steps) in
    sym (length-map ran.simulation.parts spec_of)
    ∙ sym (ap (λ (t : Simulation). length (map spec_of t.parts)) is.scheduled.reached) ∙ counted
as_many_parts true scenario ran is =
    sym (ap (λ (t : Simulation). length t.parts) is.guarded.reached)
    ∙ same_count (guarded_runs is.guarded.steps (begins scenario)).parts scenario.parts (begins_of scenario is.guarded.steps)

pub certified : (plan : Plan) (kinds : List FaultKind) (base : Ran) (rows : List Row) (f : Fault) → IsValidPlan plan
    → plan.strikes ≡ strikes.Every kinds → IsPlanTable plan base rows → AllEndWell (plan_row plan base base ∷ rows)
    → IsIn kinds f.kind → EndsWellUnder plan.guard (struck plan.base plan.part f)
certified plan kinds base rows f valid strike table all among =
    let there = there_is plan.base.parts plan.part valid.part in
    let many : length base.simulation.parts ≡ length plan.base.parts = as_many_parts plan.guard plan.base base table.is_base in
    let low = valid.part in
    let at = there_is base.simulation.parts plan.part (omega (arith, many, low)) in
    by_guard plan kinds base rows f there.0 at.0 strike table all among there.1 at.1 plan.guard refl
