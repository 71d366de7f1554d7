use Rattle.std.proofs.Common.{List, ap, ap₂, ◌∙◌}
use Rattle.explore_defs.specs.Outcomes.{given_by, shown_losses}
use Rattle.explored_run.proofs.Loops.{outcome_is}
use Rattle.explored_run.proofs.outcomes.outcome_of.Goals as goal
use Rattle.nook_data.specs.Types.{Class, Event, Losses, PartSpec}
use Rattle.report_defs.specs.ReportText.{journal_acts}

pub returns : goal.returns
returns c =
    let class = ap (λ (s : PartSpec). s.class) c.spec.ensures.spec in
    outcome_is c.args.part.now c.args.monitor.now c.in_ok-objects.field-0 c.in_ok-given_of.field-0 c.shown_losses.result
    c.broken_clause.result c.requires c.in_ok-objects.ensures
    (c.in_ok-given_of.ensures
    ∙ ap₂ (λ (x : Class) (events : List Event). given_by x (journal_acts events)) class
    (c.as_slice.ensures ∙ c.journal.ensures.journal))
    (c.shown_losses.ensures ∙ ap₂ (λ (x : Class) (n : Losses). shown_losses x n) class c.losses.ensures.value)
    c.broken_clause.ensures
