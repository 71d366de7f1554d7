use Rattle.std.proofs.Common.{◌≡◌, ◌==◌, ◌∙◌, if◌then◌else◌, ap, map, subst}
use Rattle.std.specs.List.{list_any}
use Rattle.mirrored_run.specs.Mirrors.{is_lost}
use Rattle.run_results.specs.Statuses.{status_number}
use Rattle.request_taps.specs.Bus.{result_of, after_hearing_all}
use Rattle.run_results.specs.Journals.{events_in}
use Rattle.threaded_run.specs.Threaded.{in_parts}
use Rattle.nooks.proofs.Mirrors.{mirror_made_at}
use Rattle.nooks.proofs.mirroring.judge_mirror.Goals as goal

pub returns : goal.returns
returns g c hearing begun =
    let made = c.in_ok-mirrored.ensures in
    let journals = map events_in c.in_ok-mirrored.mirrored.whole.run.journals in
    mirror_made_at c.args.scenario.now hearing c.in_ok-mirrored.mirrored.whole.run c.in_ok-mirrored.mirrored.answers c.in_ok-report.report
    c.number-status.result made.mirrored.0 made.mirrored.1 c.requires.valid made.runs made.mirrored.2 made.mirrored.3
    (made.totals ∙ (ap (map result_of) made.heard ∙ ap (λ taps. map result_of (after_hearing_all (in_parts 0 journals) taps)) begun))
    c.in_ok-report.ensures.run (c.in_ok-report.ensures.whole made.ends)
    (c.number-status.ensures
    ∙ subst (λ answers. status_number c.mirror_status.result
    ≡ (if c.in_ok-report.report.status == 7 then 7 else if list_any is_lost answers then 1 else 0))
    c.as_slice.ensures c.mirror_status.ensures)
