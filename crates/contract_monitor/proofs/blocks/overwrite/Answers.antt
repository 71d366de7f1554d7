use Rattle.std.proofs.Common.{◌∙◌, ap, arith, length}
use Rattle.std.proofs.lemmas.List.{length-set}
use Rattle.contract_monitor.proofs.Overwriting.{all_set, one_set}
use Rattle.contract_monitor.proofs.blocks.overwrite.Goals as goal

pub loop-index-preserved : goal.loop-index-preserved
loop-index-preserved c = record {
  words = c.set.ensures
      ∙ one_set c.args.words.now c.args.list.now c.loop-index.list c.loop-index.index _ c.get.result.now c.requires c.get.ensures (omega arith)
      c.loop-index.invariant.words;
  size = ap length c.set.ensures ∙ (length-set c.loop-index.list c.loop-index.index c.get.result.now ∙ c.loop-index.invariant.size);
}

pub returns : goal.returns
returns c = c.loop-index.invariant.words
    ∙ all_set c.args.words.now c.args.list.now c.loop-index.index c.requires (omega (arith, c.loop-index-test.false, c.len-index-end.ensures))
