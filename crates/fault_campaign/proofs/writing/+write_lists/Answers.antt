use Rattle.std.proofs.lemmas.Result.{err_from_is_err_and}
use Rattle.fault_campaign.proofs.Given.{gives_cut, gives_then, split_whole}
use Rattle.fault_campaign.proofs.writing.+write_lists.Goals as goal

pub write_batch-requires-clause-right : goal.write_batch-requires-clause-right
write_batch-requires-clause-right g t c κs within = c.nothing_known.ensures c.args.run.now.plan.now c.args.run.now.shown.now

pub returns-in_err-write_batch : goal.returns-in_err-write_batch
returns-in_err-write_batch g t c own shown =
    let q = err_from_is_err_and c.from_residual.result c.from_residual.ensures.1 in
    let batch = c.split_at.result.0.now in
    let more = c.split_at.result.1.now in
    rw (q.1, q.2)
    (gives_cut c.args.run.now.plan.now own batch more c.args.members.now _ _ _ _ _
    (split_whole _ c.args.members.now batch more c.split_at.ensures.front c.split_at.ensures.back) (c.in_err-write_batch.ensures own shown))

pub returns : goal.returns
returns g t c own shown =
    let batch = c.split_at.result.0.now in
    let more = c.split_at.result.1.now in
    gives_then c.args.run.now.plan.now own batch more c.args.members.now _ _ _ _ _ _ _ _
    (split_whole _ c.args.members.now batch more c.split_at.ensures.front c.split_at.ensures.back)
    (c.in_ok-write_batch.ensures own shown) (c.write_lists.ensures own shown)
