-- A report in the making: what the program's internal functions pass on to one another.
use Rattle.std.specs.Prelude.{◌≡◌, ℕ, List, [], ◌∷◌, map}
use Rattle.guarded_run.specs.Guarded.{IsGuarded}
use Rattle.guarded_run.specs.declared.guarded.Guarded.{Guarded}
use Rattle.nook_io.specs.Listening.{Listening}
use Rattle.nook_data.specs.declared.steps.Event.{Event}
use Rattle.nook_data.specs.declared.mirror.MirrorAnswer.{MirrorAnswer}
use Rattle.nook_data.specs.declared.scenario.Scenario.{Scenario}
use Rattle.mirrored_run.specs.Mirrors.{IsMirrorRun, mirror_status}
use Rattle.nook_io.specs.Listening.{tap_result}
use Rattle.headline_laws.specs.Headline.{AreSafe}
use Rattle.run_results.specs.Reports.{IsReport}
use Rattle.run_results.specs.declared.run.Run.{Run}
use Rattle.run_results.specs.declared.report.Report.{Report}
use Rattle.run_results.specs.Journals.{events_in}
use Rattle.threaded_run.specs.Threaded.{in_parts}
use Rattle.nooks.specs.Answers.{IsRunOf, IsWhole, Left}
use Rattle.nooks.specs.declared.program.Status.{Status}
use Rattle.nooks.specs.declared.program.Status.TheVariants as ended
use Rattle.command_forms.specs.declared.words.Form.{Form}
use Rattle.command_forms.specs.declared.words.Form.TheVariants as form

-- what a run in memory left
abbrev pub left_of : Run → Left
left_of run = record { journals = map events_in run.journals; answers = run.answers; taps = run.taps }

-- a report of the scenario's run, whose parts end as their journals lead
pub record IsMade (asked : Form) (scenario : Scenario) (hearing : List Listening) (report : Report) : Type 0 where
  pub run : IsRunOf asked scenario hearing (left_of report.run)
  pub whole : IsWhole scenario (left_of report.run)
  pub is_report : IsReport scenario report

-- a scenario was guarded, and this is a report of the guarded scenario's run
pub record IsGuardMade (scenario : Scenario) (hearing : List Listening) (made : Guarded) (report : Report) : Type 0 where
  pub guarded : IsGuarded scenario made
  pub run : IsMade form.Run made.scenario hearing report

-- a report of a run of the scenario's mirror, whose parts end as their journals lead, with these answers and this
-- status
pub record IsMirrorMade (scenario : Scenario) (hearing : List Listening) (report : Report) (answers : List MirrorAnswer)
    (number : ℕ) : Type 0 where
  pub left : List Event
  pub right : List Event
  pub journals : map events_in report.run.journals ≡ left ∷ right ∷ []
  pub run : IsMirrorRun scenario left right answers
  pub safe : AreSafe scenario.parts (left ∷ right ∷ [])
  pub printed : report.run.taps ≡ map (λ l. tap_result l (in_parts 0 (left ∷ right ∷ []))) hearing
  pub status : number ≡ mirror_status scenario left right answers
  pub is_report : IsReport scenario report

-- the status with a report's number; any number except 0 and 1 means a broken contract
abbrev pub ReportsStatus : ℕ → Status → Type 0
ReportsStatus number ended.Done = number ≡ 0
ReportsStatus number ended.GivenUp = number ≡ 1
ReportsStatus number ended.ContractBroken = (number ≡ 0 → ⊥) × (number ≡ 1 → ⊥)
ReportsStatus number status = ⊥
