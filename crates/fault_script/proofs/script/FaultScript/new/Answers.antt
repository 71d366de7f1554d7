use Rattle.std.proofs.Common.{rules}
use Rattle.std.proofs.lemmas.List.Sorted.{IsNonDecreasingBy-from_sort_by_key, answers_always}
use Rattle.fault_script.proofs.Points.{sorted_twice, same_faults}
use Rattle.fault_script.proofs.script.FaultScript.new.Goals as goal

pub invariant_of-result : goal.invariant_of-result
invariant_of-result c = (sorted_twice c.args.faults _ _
    (IsNonDecreasingBy-from_sort_by_key (λ f. f.after) _ c.in_ok-sort_by_key.ensures.sorted (λ a r q k. search rules))
    (rw (← c.into_vec-faults.ensures) (c.in_ok-sort_by_key.ensures.stable (λ f. f.after) (answers_always _ _ _ (λ f a r q k. search rules))))
    (IsNonDecreasingBy-from_sort_by_key (λ f. f.burst) _ c.in_ok-sort_by_key-2.ensures.sorted (λ a r q k. search rules))
    (c.in_ok-sort_by_key-2.ensures.stable (λ f. f.burst) (answers_always _ _ _ (λ f a r q k. search rules)))).ordered

pub returns : goal.returns
returns c = same_faults c.args.faults _ (sorted_twice c.args.faults _ _
    (IsNonDecreasingBy-from_sort_by_key (λ f. f.after) _ c.in_ok-sort_by_key.ensures.sorted (λ a r q k. search rules))
    (rw (← c.into_vec-faults.ensures) (c.in_ok-sort_by_key.ensures.stable (λ f. f.after) (answers_always _ _ _ (λ f a r q k. search rules))))
    (IsNonDecreasingBy-from_sort_by_key (λ f. f.burst) _ c.in_ok-sort_by_key-2.ensures.sorted (λ a r q k. search rules))
    (c.in_ok-sort_by_key-2.ensures.stable (λ f. f.burst) (answers_always _ _ _ (λ f a r q k. search rules))))
