use Rattle.std.proofs.Common.{rules, not, ◌==◌}
use Rattle.std.proofs.lemmas.Fn.{filter_same}
use Rattle.claim_index.proofs.claimants.remove_number.Goals as goal

pub returns : goal.returns
returns c = filter_same _ (λ n. not (n == c.args.call)) _ (λ x b f' h. search rules) _ _ c.retain.ensures.filtered
