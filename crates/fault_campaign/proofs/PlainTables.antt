-- A plain campaign is a plan of one fault for each member, without a guard.
use Rattle.std.proofs.Common.{◌≡◌, ◌∙◌, refl, sym, subst, ap, ℕ, ◌+◌, ◌≤◌, List, [], ◌∷◌, map, length, arith, false, true, Option, Some, None}
use Rattle.std.specs.Prelude.{All, Err, IfOk, Ok, Result, slice_get}
use Rattle.campaign_defs.specs.Members.{CanRunMember, IsFreeRun, Ran, alone}
use Rattle.campaign_defs.specs.Rows.{AreMemberRows, IsMemberRow, plan_row}
use Rattle.campaign_defs.specs.TableText.{counts_of}
use Rattle.campaign_defs.specs.Types.{Row}
use Rattle.campaign_rows.specs.Shown.{IsShown}
use Rattle.campaign_laws.proofs.MemberRuns.{members_can_run}
use Rattle.fault_campaign.proofs.Given.{rows_over}
use Rattle.fault_campaign.specs.Bases.{IsBaseOf}
use Rattle.fault_campaign.specs.NumberedRows.{AreRowsFor}
use Rattle.fault_campaign.specs.Plain.{plain_plan}
use Rattle.fault_campaign.specs.declared.base.Base.{Base}
use Rattle.nook_data.specs.Members.{IsValidCampaign, faults_at, member, struck, with_struck}
use Rattle.nook_data.specs.declared.campaign.Campaign.{Campaign}
use Rattle.nook_data.specs.declared.campaign.MemberRow.{MemberRow}
use Rattle.nook_data.specs.declared.scenario.Fault.{Fault}
use Rattle.nook_data.specs.declared.scenario.PartSpec.{PartSpec}
use Rattle.nook_data.specs.declared.scenario.Scenario.{Scenario}
use Rattle.nook_data.specs.declared.memory.NoMemory.{NoMemory}
use Rattle.plan_defs.specs.declared.plan.Plan.{Plan}
use Rattle.plan_defs.specs.Plans.{IsValidPlan, struck_by, with_struck_by}
use Rattle.report_defs.specs.Campaigns.{AreRows, IsRowOf, IsTable, row_of}
use Rattle.run_defs.specs.Simulation.{IsScheduledRun, answer_table, journals_of}

pub plain_is_valid : (campaign : Campaign) → IsValidCampaign campaign → IsValidPlan (plain_plan campaign)
plain_is_valid campaign h = record {
  base = h.base;
  part = h.part;
  strikes = (h.fault_count, h.faults);
  op_count = h.op_count;
  room = let r = h.room in omega (arith, r);
  traps = λ e. absurd (cc e);
}

pub plain_can_run : (campaign : Campaign) (base : Base) → IsValidCampaign campaign → IsBaseOf (plain_plan campaign) base
    → All (CanRunMember (plain_plan campaign)) (map alone campaign.faults)
plain_can_run campaign base h b = members_can_run (plain_plan campaign) b.ran (plain_is_valid campaign h) b.is_base

struck_alone : (parts : List PartSpec) (index : ℕ) (f : Fault) (o : Option PartSpec) → with_struck_by parts index (alone f) o ≡ with_struck parts index f o
struck_alone parts index f None = refl
struck_alone parts index f (Some part) = refl

member_alone : (campaign : Campaign) (f : Fault) → struck_by campaign.base campaign.part (alone f) ≡ member campaign f
member_alone campaign f =
    ap (λ (parts : List PartSpec). record campaign.base { parts = parts })
    (struck_alone campaign.base.parts campaign.part f (slice_get campaign.base.parts campaign.part))

plain_row : (campaign : Campaign) (own : Ran) (f : Fault) (row : Row) → IsMemberRow (plain_plan campaign) own (alone f) row
    → IsRowOf (member campaign f) row.counts
plain_row campaign own f row is =
    let run : IsFreeRun (struck_by campaign.base campaign.part (alone f)) is.ran = is.is_run in
    let same : is.ran.scenario ≡ member campaign f = run.same ∙ member_alone campaign f in
    record {
      simulation = is.ran.simulation;
      scheduled = subst (λ (s : Scenario). IsScheduledRun s is.ran.simulation) (member_alone campaign f) run.scheduled;
      same = ap (λ (r : Row). r.counts) is.same
          ∙ ap (λ (s : Scenario). row_of s.parts (journals_of is.ran.simulation) (answer_table is.ran.simulation)) same;
    }

plain_rows : (campaign : Campaign) (own : Ran) (faults : List Fault) (rows : List Row) → AreMemberRows (plain_plan campaign) own (map alone faults) rows
    → AreRows campaign faults (counts_of rows)
plain_rows campaign own [] [] are = tt
plain_rows campaign own [] (row ∷ rows) are = absurd are
plain_rows campaign own (f ∷ faults) [] are = absurd are
plain_rows campaign own (f ∷ faults) (row ∷ rows) are = (plain_row campaign own f row are.0, plain_rows campaign own faults rows are.1)

-- the counts in the rows of a plain campaign's plan are its table
pub plain_table : (campaign : Campaign) (base : Base) (rows : List Row) (table : List MemberRow) → IsBaseOf (plain_plan campaign) base
    → AreRowsFor (plain_plan campaign) base.shown (map alone campaign.faults) rows → table ≡ counts_of rows → IsTable campaign table
plain_table campaign base rows table b are e =
    subst (IsTable campaign) (sym e)
    (plain_rows campaign b.ran campaign.faults rows
    (rows_over (plain_plan campaign) base.shown b.ran (map alone campaign.faults) rows b.shown are))

-- the same for a plan that equals the campaign's

pub can_run_as : (campaign : Campaign) (plan : Plan) (base : Base) (lists : List (List Fault)) → IsValidCampaign campaign
    → plan ≡ plain_plan campaign → IsBaseOf plan base → lists ≡ map alone campaign.faults → All (CanRunMember plan) lists
can_run_as campaign plan base lists h e b l =
    subst (λ (p : Plan). All (CanRunMember p) lists) (sym e)
    (subst (All (CanRunMember (plain_plan campaign))) (sym l)
    (plain_can_run campaign base h (subst (λ (p : Plan). IsBaseOf p base) e b)))

pub table_as : (r : Result (List MemberRow) NoMemory) (campaign : Campaign) (plan : Plan) (base : Base) (lists : List (List Fault)) (rows some : List Row)
    → plan ≡ plain_plan campaign → IsBaseOf plan base → lists ≡ map alone campaign.faults → AreRowsFor plan base.shown lists rows
    → some ≡ rows → IfOk r (λ table. table ≡ counts_of some) → IfOk r (IsTable campaign)
table_as (Err why) campaign plan base lists rows some e b l are same is = tt
table_as (Ok table) campaign plan base lists rows some e b l are same is =
    plain_table campaign base rows table (subst (λ (p : Plan). IsBaseOf p base) e b)
    (subst (λ (p : Plan). AreRowsFor p base.shown (map alone campaign.faults) rows) e
    (subst (λ ls. AreRowsFor plan base.shown ls rows) l are))
    (is ∙ ap (λ rs. counts_of rs) same)
