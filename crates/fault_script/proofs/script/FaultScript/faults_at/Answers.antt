use Rattle.std.proofs.Common.{rules, nat_lt, nat_le, refl, ◌∙◌}
use Rattle.std.proofs.lemmas.List.Sorted.{IsPartitionPoint-from_clause}
use Rattle.fault_script.proofs.Parts.{part_at}
use Rattle.fault_script.proofs.script.FaultScript.faults_at.Goals as goal

pub returns : goal.returns
returns c = rw (← c.self.view_is)
    (part_at c.args.burst _ _ c.self.inside.faults.items c.deref.result.now _ _ c.deref.ensures.value
    (c.split_at.ensures.back ∙ rw (c.deref-2.ensures.value, c.deref.ensures.value) refl) c.split_at-2.ensures.front
    c.self.invariant c.partition_point-start.ensures.bound c.partition_point-count.ensures.bound
    (λ h. IsPartitionPoint-from_clause (λ f. nat_lt f.burst c.args.burst) _ _ c.partition_point-start.ensures.partitioned h (λ a r q k. search rules))
    (λ h. IsPartitionPoint-from_clause (λ f. nat_le f.burst c.args.burst) _ _ c.partition_point-count.ensures.partitioned h (λ a r q k. search rules)))
