use Rattle.std.proofs.Common.{rules, not, ◌==◌, filter, refl}
use Rattle.std.proofs.lemmas.Fn.{filter_same}
use Rattle.claim_index.proofs.Blocks.{past_at, set_at}
use Rattle.claim_index.proofs.by_block.ByBlock.remove_at.Goals as goal

pub returns-in-Some : goal.returns-in-Some
returns-in-Some c = set_at c.args.self.now.numbers.items c.args.block c.in-Some.numbers.now c.retain.new.self
    (λ xs. filter (λ n. not (n == c.args.call)) xs) c.in-Some.ensures.item.3.0 c.in-Some.ensures.value
    (filter_same _ (λ n. not (n == c.args.call)) _ (λ x b f' h. search rules) _ _ c.retain.ensures.filtered)

pub returns-in_default : goal.returns-in_default
returns-in_default c = past_at c.args.self.now.numbers.items c.args.block (λ xs. filter (λ n. not (n == c.args.call)) xs) c.in_default.ensures.item.3 refl
