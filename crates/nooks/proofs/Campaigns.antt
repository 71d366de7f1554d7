-- The runs of a campaign keep all promises of runs.
use Rattle.std.proofs.Common.{◌≡◌, ℕ, Bool, true, false, List, [], ◌∷◌, Ok, inr, sym, subst, true≢false}
use Rattle.std.specs.List.{AllByRecursion, AllZip}
use Rattle.std.proofs.lemmas.List.Elements.{recursion_from_All}
use Rattle.campaign_defs.specs.Members.{CanRunMember, CanRunUnder, IsRunUnder, Ran, members}
use Rattle.campaign_defs.specs.Rows.{AreMemberRows, IsMemberRow, IsPlanTable}
use Rattle.campaign_defs.specs.TableText.{plan_table_text}
use Rattle.campaign_defs.specs.Types.{Row}
use Rattle.campaign_laws.proofs.MemberRuns.{members_can_run}
use Rattle.campaign_laws.proofs.PlanTables.{plan_table_exists}
use Rattle.campaign_laws.proofs.RunsUnder.{run_under_valid}
use Rattle.campaign_laws.proofs.Struck.{base_can_run}
use Rattle.front_laws.proofs.FirstStops.{guarded_keeps}
use Rattle.guard_defs.specs.FirstBreaks.{NoneBreaks}
use Rattle.headline_laws.specs.Headline.{AreSafe}
use Rattle.input_defs.specs.PlanReading.{plan_from}
use Rattle.nook_data.specs.Valid.{IsValidScenario}
use Rattle.nook_data.specs.declared.scenario.Fault.{Fault}
use Rattle.nook_data.specs.declared.scenario.Scenario.{Scenario}
use Rattle.nook_io.specs.Listening.{Listening}
use Rattle.plan_defs.specs.Plans.{IsValidPlan, struck_by}
use Rattle.plan_defs.specs.Types.{Plan}
use Rattle.run_defs.specs.Simulation.{IsScheduledRun, journals_of}
use Rattle.run_laws.proofs.Reached.{parts_answered}
use Rattle.sim_run.proofs.Ending.{runs_scheduled}
use Rattle.nooks.proofs.Guards.{run_kept}
use Rattle.nooks.proofs.Safety.{all_safe}
use Rattle.nooks.proofs.Written.{writes_more}
use Rattle.nooks.specs.Answers.{AnswersInput, AreKept, AreMembers, IsMember, IsPromised, IsTableOf, Says}
use Rattle.nooks.specs.Endings.{Writes}
use Rattle.nook_io.specs.Changes.{Change}
use Rattle.nooks.specs.Streams.{Whole}
use Rattle.nooks.specs.declared.program.Status.{Status}
use Rattle.nooks.specs.declared.program.Status.TheVariants as ended
use Rattle.command_forms.specs.declared.words.Form.TheVariants as form

-- ---- runs

-- with or without a guard, a run of a campaign is the scheduled run of the scenario that ran
scheduled_under : (guard : Bool) (scenario : Scenario) (ran : Ran) → IsRunUnder guard scenario ran
    → IsScheduledRun ran.scenario ran.simulation
scheduled_under false scenario ran is = subst (λ (s : Scenario). IsScheduledRun s ran.simulation) (sym is.same) is.scheduled
scheduled_under true scenario ran is = is.scheduled

-- with a guard no part of the run breaks its contract
kept_under : (guard : Bool) (scenario : Scenario) (ran : Ran) → IsRunUnder guard scenario ran
    → AreSafe ran.scenario.parts (journals_of ran.simulation) → guard ≡ true
    → AreKept ran.scenario.parts (journals_of ran.simulation)
kept_under false scenario ran is safe guarded = absurd (true≢false (sym guarded))
kept_under true scenario ran is safe guarded =
    let none : NoneBreaks ran.simulation = subst NoneBreaks is.guarded.reached (guarded_keeps scenario is.guarded.steps) in
    run_kept scenario ran.scenario ran.simulation is.same none safe

run_promised : (guard : Bool) (scenario : Scenario) (ran : Ran) → CanRunUnder guard scenario → IsRunUnder guard scenario ran
    → IsPromised guard scenario ran
run_promised guard scenario ran can is =
    let valid : IsValidScenario ran.scenario = run_under_valid guard scenario ran can is in
    let scheduled : IsScheduledRun ran.scenario ran.simulation = scheduled_under guard scenario ran is in
    let safe : AreSafe ran.scenario.parts (journals_of ran.simulation) =
    all_safe ran.scenario (journals_of ran.simulation) valid (runs_scheduled ran.scenario ran.simulation scheduled) in record {
      is_run = is;
      whole = record { safe = safe; answered = parts_answered ran.scenario ran.simulation valid scheduled };
      kept = kept_under guard scenario ran is safe;
    }

-- ---- members

member_of_row : (plan : Plan) (base : Ran) (faults : List Fault) (row : Row) → CanRunMember plan faults → IsMemberRow plan base faults row
    → IsMember plan base faults row
member_of_row plan base faults row can is = record {
  ran = is.ran;
  promised = run_promised plan.guard (struck_by plan.base plan.part faults) is.ran can is.is_run;
  row_is = is.same;
}

members_of_rows : (plan : Plan) (base : Ran) (lists : List (List Fault)) (rows : List Row) → AllByRecursion (CanRunMember plan) lists
    → AreMemberRows plan base lists rows → AllZip (IsMember plan base) lists rows
members_of_rows plan base [] [] can are = tt
members_of_rows plan base [] (row ∷ rows) can are = absurd are
members_of_rows plan base (faults ∷ lists) [] can are = absurd are
members_of_rows plan base (faults ∷ lists) (row ∷ rows) can are =
    (member_of_row plan base faults row can.0 are.0, members_of_rows plan base lists rows can.1 are.1)

-- ---- tables

-- a campaign's table, whose runs keep all promises of runs
pub record IsPromisedTable (plan : Plan) (base : Ran) (rows : List Row) : Type 0 where
  pub table : IsPlanTable plan base rows
  pub promised : IsPromised plan.guard plan.base base
  pub are : AreMembers plan base rows

table_promised : (plan : Plan) (base : Ran) (rows : List Row) → IsValidPlan plan → IsPlanTable plan base rows → IsPromisedTable plan base rows
table_promised plan base rows valid table = record {
  table = table;
  promised = run_promised plan.guard plan.base base (base_can_run plan valid) table.is_base;
  are = members_of_rows plan base (members plan base) rows
      (recursion_from_All (CanRunMember plan) (members plan base) (members_can_run plan base valid table.is_base)) table.members;
}

pub promised_table : (plan : Plan) → IsValidPlan plan → (base : Ran) × ((rows : List Row) × IsPromisedTable plan base rows)
promised_table plan valid =
    let there = plan_table_exists plan valid in (there.0, (there.1.0, table_promised plan there.0 there.1.0 valid there.1.1))

-- the table of the bytes that a campaign was read from
pub table_of : (bytes : List ℕ) (plan : Plan) (base : Ran) (rows : List Row) (text : List ℕ) → plan_from bytes ≡ Ok plan
    → IsPromisedTable plan base rows → text ≡ plan_table_text plan base rows → IsTableOf bytes text
table_of bytes plan base rows text reading is same = record {
  plan = plan;
  reading = reading;
  base = base;
  promised = is.promised;
  rows = rows;
  members = is.are;
  text_is = same;
}

-- the bytes of a campaign are answered with this table
pub campaign_answered : (bytes : List ℕ) (plan : Plan) (hearing : List Listening) (sink : Change) (status : Status)
    → plan_from bytes ≡ Ok plan → IsValidPlan plan
    → ((base : Ran) (rows : List Row) → IsPlanTable plan base rows → Writes (Says (plan_table_text plan base rows) ended.Done) sink status)
    → Writes (AnswersInput form.Campaign (Whole bytes) hearing) sink status
campaign_answered bytes plan hearing sink status reading valid ends =
    let there = promised_table plan valid in
    writes_more (Says (plan_table_text plan there.0 there.1.0) ended.Done) (AnswersInput form.Campaign (Whole bytes) hearing) sink status
    (λ text s said. inr (table_of bytes plan there.0 there.1.0 text reading there.1.1 said.0, said.1))
    (ends there.0 there.1.0 there.1.1.table)
