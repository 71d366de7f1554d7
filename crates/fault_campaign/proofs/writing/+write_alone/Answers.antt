use Rattle.std.proofs.Common.{◌++◌, ◌∙◌, ap, map, subst, sym}
use Rattle.std.specs.Prelude.{All}
use Rattle.std.proofs.lemmas.Result.{err_from_is_err_and}
use Rattle.campaign_defs.specs.Members.{CanRunMember, alone}
use Rattle.fault_campaign.proofs.EveryFaults.{lists_apart}
use Rattle.fault_campaign.proofs.Given.{all_in_back, all_in_front, gives_cut, gives_then, split_whole}
use Rattle.fault_campaign.proofs.writing.+write_alone.Goals as goal

pub write_batch-requires-clause-can_run : goal.write_batch-requires-clause-can_run
write_batch-requires-clause-can_run g t c κs within =
    let batch = c.split_at.result.0.now in
    let more = c.split_at.result.1.now in
    let apart = lists_apart c.args.faults.now batch more (split_whole _ c.args.faults.now batch more c.split_at.ensures.front c.split_at.ensures.back) in
    subst (All (CanRunMember c.args.run.now.plan.now)) (sym (c.as_slice.ensures ∙ c.in_ok-members.ensures))
    (all_in_front (CanRunMember c.args.run.now.plan.now) (map alone batch) (map alone more) (map alone c.args.faults.now) apart c.requires.can_run)

pub returns-in_err-write_batch : goal.returns-in_err-write_batch
returns-in_err-write_batch g t c own shown =
    let q = err_from_is_err_and c.from_residual-in_err-write_batch.result c.from_residual-in_err-write_batch.ensures.1 in
    let batch = c.split_at.result.0.now in
    let more = c.split_at.result.1.now in
    let apart = lists_apart c.args.faults.now batch more (split_whole _ c.args.faults.now batch more c.split_at.ensures.front c.split_at.ensures.back)
    ∙ ap (λ front. front ++ map alone more) (sym (c.as_slice.ensures ∙ c.in_ok-members.ensures)) in
    rw (q.1, q.2)
    (gives_cut c.args.run.now.plan.now own c.as_slice.result.now (map alone more) (map alone c.args.faults.now) _ _ _ _ _ apart
    (c.in_err-write_batch.ensures own shown))

pub write_alone-requires-clause-can_run : goal.write_alone-requires-clause-can_run
write_alone-requires-clause-can_run g t c κs within =
    let batch = c.split_at.result.0.now in
    let more = c.split_at.result.1.now in
    all_in_back (CanRunMember c.args.run.now.plan.now) (map alone batch) (map alone more) (map alone c.args.faults.now)
    (lists_apart c.args.faults.now batch more (split_whole _ c.args.faults.now batch more c.split_at.ensures.front c.split_at.ensures.back))
    c.requires.can_run

pub returns : goal.returns
returns g t c own shown =
    let batch = c.split_at.result.0.now in
    let more = c.split_at.result.1.now in
    let apart = lists_apart c.args.faults.now batch more (split_whole _ c.args.faults.now batch more c.split_at.ensures.front c.split_at.ensures.back)
    ∙ ap (λ front. front ++ map alone more) (sym (c.as_slice.ensures ∙ c.in_ok-members.ensures)) in
    gives_then c.args.run.now.plan.now own c.as_slice.result.now (map alone more) (map alone c.args.faults.now) _ _ _ _ _ _ _ _ apart
    (c.in_ok-write_batch.ensures own shown) (c.write_alone.ensures own shown)
