-- A valid plan has one table.
use Rattle.std.proofs.Common.{◌≡◌, ◌∙◌, List, [], ◌∷◌, refl, sym, ap, subst}
use Rattle.std.specs.List.{AllByRecursion}
use Rattle.std.proofs.lemmas.List.Elements.{recursion_from_All}
use Rattle.campaign_defs.specs.Members.{CanRunMember, Ran, members}
use Rattle.campaign_defs.specs.Rows.{AreMemberRows, IsMemberRow, IsPlanTable, plan_row}
use Rattle.campaign_defs.specs.Types.{Row}
use Rattle.campaign_laws.proofs.MemberRuns.{members_can_run}
use Rattle.campaign_laws.proofs.RunsUnder.{run_under_exists, run_under_once}
use Rattle.campaign_laws.proofs.Struck.{base_can_run}
use Rattle.plan_defs.specs.Plans.{IsValidPlan, struck_by}
use Rattle.plan_defs.specs.Types.{Plan}
use Rattle.nook_data.specs.declared.scenario.Fault.{Fault}

-- ---- it has a table

pub row_exists : (plan : Plan) (base : Ran) (faults : List Fault) → CanRunMember plan faults
    → (row : Row) × IsMemberRow plan base faults row
row_exists plan base faults can =
    let run = run_under_exists plan.guard (struck_by plan.base plan.part faults) can in
    (plan_row plan base run.0, record { ran = run.0; is_run = run.1; same = refl })

rows_exist : (plan : Plan) (base : Ran) (lists : List (List Fault)) → AllByRecursion (CanRunMember plan) lists
    → (rows : List Row) × AreMemberRows plan base lists rows
rows_exist plan base [] can = ([], tt)
rows_exist plan base (faults ∷ lists) can =
    let first = row_exists plan base faults can.0 in
    let rest = rows_exist plan base lists can.1 in
    (first.0 ∷ rest.0, (first.1, rest.1))

pub plan_table_exists : (plan : Plan) → IsValidPlan plan → (base : Ran) × ((rows : List Row) × IsPlanTable plan base rows)
plan_table_exists plan valid =
    let base = run_under_exists plan.guard plan.base (base_can_run plan valid) in
    let rows = rows_exist plan base.0 (members plan base.0)
    (recursion_from_All (CanRunMember plan) (members plan base.0) (members_can_run plan base.0 valid base.1)) in
    (base.0, (rows.0, record { is_base = base.1; members = rows.1 }))

-- ---- it has one

pub row_once : (plan : Plan) (base : Ran) (faults : List Fault) (row other : Row) → IsMemberRow plan base faults row
    → IsMemberRow plan base faults other → row ≡ other
row_once plan base faults row other h k =
    h.same
    ∙ (ap (plan_row plan base) (run_under_once plan.guard (struck_by plan.base plan.part faults) h.ran k.ran h.is_run k.is_run)
    ∙ sym k.same)

pub rows_once : (plan : Plan) (base : Ran) (lists : List (List Fault)) (rows others : List Row) → AreMemberRows plan base lists rows
    → AreMemberRows plan base lists others → rows ≡ others
rows_once plan base [] [] [] h k = refl
rows_once plan base [] [] (other ∷ others) h k = absurd k
rows_once plan base [] (row ∷ rows) others h k = absurd h
rows_once plan base (faults ∷ lists) [] others h k = absurd h
rows_once plan base (faults ∷ lists) (row ∷ rows) [] h k = absurd k
rows_once plan base (faults ∷ lists) (row ∷ rows) (other ∷ others) h k =
    ap (λ (first : Row). first ∷ rows) (row_once plan base faults row other h.0 k.0)
    ∙ ap (λ (rest : List Row). other ∷ rest) (rows_once plan base lists rows others h.1 k.1)

pub plan_table_once : (plan : Plan) (base other : Ran) (rows others : List Row) → IsPlanTable plan base rows
    → IsPlanTable plan other others → (base ≡ other) × (rows ≡ others)
plan_table_once plan base other rows others h k =
    let same : base ≡ other = run_under_once plan.guard plan.base base other h.is_base k.is_base in (
      same,
      rows_once plan other (members plan other) rows others
          (subst (λ (r : Ran). AreMemberRows plan r (members plan r) rows) same h.members) k.members,
    )
