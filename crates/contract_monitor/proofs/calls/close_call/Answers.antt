use Rattle.std.proofs.Common.{◌==◌, not, map, refl, ap, rules, ◌∙◌}
use Rattle.std.proofs.lemmas.Fn.{filter_same}
use Rattle.promise_defs.specs.Contract.{OpenCall}
use Rattle.promise_defs.specs.Losses.{CallEffects}
use Rattle.contract_monitor.specs.declared.calls.Call.{Call}
use Rattle.contract_monitor.specs.Calls.{open_of, effects_of}
use Rattle.contract_monitor.proofs.Changes.{filter_seen}
use Rattle.contract_monitor.proofs.calls.close_call.Goals as goal

pub returns-clause-opened : goal.returns-clause-opened
returns-clause-opened c =
    ap (map open_of)
    (filter_same _ (λ (x : Call). not (c.args.number == x.number)) _ (λ x b f' k. search rules) _ _ c.retain.ensures.filtered)
    ∙ filter_seen open_of (λ (x : Call). not (c.args.number == x.number)) (λ (x : OpenCall). not (c.args.number == x.number)) (λ x. refl)
    c.args.calls.now.items

pub returns-clause-tallied : goal.returns-clause-tallied
returns-clause-tallied c =
    ap (map effects_of)
    (filter_same _ (λ (x : Call). not (c.args.number == x.number)) _ (λ x b f' k. search rules) _ _ c.retain.ensures.filtered)
    ∙ filter_seen effects_of (λ (x : Call). not (c.args.number == x.number)) (λ (x : CallEffects). not (c.args.number == x.number)) (λ x. refl)
    c.args.calls.now.items
