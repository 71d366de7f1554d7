use Rattle.std.proofs.Common.{is_some, ◌∷◌, ◌++◌, [], ap, map, ◌∙◌}
use Rattle.std.proofs.lemmas.List.{map-append}
use Rattle.event_order.specs.Lefts.{events_in}
use Rattle.run_laws.specs.Audit.{each_of_part}
use Rattle.run_results.specs.declared.report.PartReport.{PartReport}
use Rattle.request_taps.specs.Bus.{after_hearing_all}
use Rattle.journal_audit.specs.PastSections.{Past}
use Rattle.journal_audit.proofs.Kept.{kept, or_same}
use Rattle.journal_audit.proofs.past.PastSections.add.Goals as goal

pub returns-clause-sums : goal.returns-clause-sums
returns-clause-sums c =
    let answers = ap (λ (t : Past). t.answers) c.self.view_is in
    let journals = ap (λ (t : Past). t.journals) c.self.view_is in
    let taps = ap (λ (t : Past). t.taps) c.self.view_is in
    let broken = ap (λ (t : Past). t.broken) c.self.view_is in
    let given_up = ap (λ (t : Past). t.given_up) c.self.view_is in
    λ specs sections index sums.
    kept specs sections c.args.section c.args.self.now _ index sums
    (record {
      answers = c.in_ok-push.ensures.ok
          ∙ (ap (λ l. l ++ c.in_ok-done.done.answers ∷ []) answers
          ∙ ap (λ a. c.args.self.now.answers ++ a ∷ []) c.in_ok-done.ensures.answers);
      journals = ap (map events_in) c.in_ok-push-2.ensures.ok
          ∙ (map-append events_in c.self.inside.journals (c.in_ok-done.done.journal ∷ [])
          ∙ (ap (λ l. l ++ c.in_ok-done.done.journal.list ∷ []) journals
          ∙ ap (λ j. c.args.self.now.journals ++ j ∷ []) c.in_ok-done.ensures.journal));
      taps = c.hear_all.ensures
          ∙ (ap (after_hearing_all (each_of_part c.index.result c.events.result.now)) taps
          ∙ (ap (λ n. after_hearing_all (each_of_part n c.events.result.now) c.args.self.now.taps) c.index.ensures
          ∙ ap (λ events. after_hearing_all (each_of_part c.args.section.index events) c.args.self.now.taps) c.events.ensures.events));
      broken = or_same broken (c.is_some.ensures ∙ ap (λ (r : PartReport). is_some r.first_break) c.requires.judged);
      given_up = or_same given_up c.is_given_up.ensures;
    })
