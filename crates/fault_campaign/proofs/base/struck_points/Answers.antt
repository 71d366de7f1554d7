use Rattle.std.proofs.Common.{◌≡◌, ◌∙◌, ap, sym, Some}
use Rattle.fault_campaign.proofs.Bases.{journal_there, positions_found, traps_by}
use Rattle.part_laws.proofs.Indices.{get_map}
use Rattle.run_results.specs.Journals.{events_in}
use Rattle.fault_campaign.proofs.base.struck_points.Goals as goal

pub get-journal-requires : goal.get-journal-requires
get-journal-requires c = journal_there c.args.plan.now c.args.outcome.now c.requires.valid c.requires.outcome

pub returns : goal.returns
returns c =
    positions_found c.points_of.result c.args.plan.now c.args.outcome.now c.get-spec.result.now c.as_slice.result.now c.from-traps.result.now
    c.requires.outcome c.get-spec.ensures
    (get_map events_in c.args.outcome.now.report.run.journals c.args.plan.now.part _ c.get-journal.ensures
    ∙ ap (λ journal. Some journal) (sym c.as_slice.ensures))
    (traps_by c.from-traps.result.now c.faults_at.result.now c.len.result c.get-spec.result.now c.as_slice-run.result.now c.scenario.result.now
    c.args.plan.now.part c.args.outcome.now.guarded c.args.plan.now.base c.from-traps.ensures c.len.ensures c.faults_at.ensures c.as_slice-run.ensures c.scenario.ensures)
    c.points_of.ensures.free c.points_of.ensures.guarded
