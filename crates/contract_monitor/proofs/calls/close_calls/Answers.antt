use Rattle.std.proofs.Common.{◌==◌, ℕ, not, map, refl, ap, rules, ◌∙◌}
use Rattle.std.specs.List.{list_any}
use Rattle.std.proofs.lemmas.Fn.{filter_same}
use Rattle.nook_data.specs.declared.calls.Answer.{Answer}
use Rattle.promise_defs.specs.Contract.{OpenCall, is_answered_in}
use Rattle.promise_defs.specs.Losses.{CallEffects}
use Rattle.contract_monitor.specs.declared.calls.Call.{Call}
use Rattle.contract_monitor.specs.Calls.{open_of, effects_of}
use Rattle.contract_monitor.proofs.Changes.{filter_seen}
use Rattle.contract_monitor.proofs.calls.close_calls.Goals as goal

pub returns-clause-opened : goal.returns-clause-opened
returns-clause-opened c =
    ap (map open_of)
    (filter_same _ (λ (x : Call). not (list_any (λ (a : ℕ × Answer). a.0 == x.number) c.args.answers.now)) _ (λ x b f' k. search rules) _ _
    c.retain.ensures.filtered)
    ∙ filter_seen open_of (λ (x : Call). not (list_any (λ (a : ℕ × Answer). a.0 == x.number) c.args.answers.now))
    (λ (x : OpenCall). not (is_answered_in c.args.answers.now x)) (λ x. refl) c.args.calls.now.items

pub returns-clause-tallied : goal.returns-clause-tallied
returns-clause-tallied c =
    ap (map effects_of)
    (filter_same _ (λ (x : Call). not (list_any (λ (a : ℕ × Answer). a.0 == x.number) c.args.answers.now)) _ (λ x b f' k. search rules) _ _
    c.retain.ensures.filtered)
    ∙ filter_seen effects_of (λ (x : Call). not (list_any (λ (a : ℕ × Answer). a.0 == x.number) c.args.answers.now))
    (λ (x : CallEffects). not (list_any (λ (a : ℕ × Answer). a.0 == x.number) c.args.answers.now)) (λ x. refl) c.args.calls.now.items
