use Rattle.std.proofs.Common.{◌++◌, ◌+◌, ◌-◌, [], ap, sym, ◌∙◌, append_assoc, slice_get, unwrap_or}
use Rattle.promise_defs.specs.Blocks.{get_blocks}
use Rattle.contract_monitor.proofs.OneBlock.{blocks_more}
use Rattle.contract_monitor.proofs.blocks.get_blocks.Goals as goal

pub loop-i-preserved : goal.loop-i-preserved
loop-i-preserved c =
    let step = blocks_more c.args.medium.now c.args.first c.args.count c.loop-i.i c.loop-i-test.true in
    let words = unwrap_or (slice_get c.args.medium.now (c.args.first + c.loop-i.i)) [] in
    let rest = get_blocks c.args.medium.now (c.args.first + (c.loop-i.i + 1)) (c.args.count - (c.loop-i.i + 1)) in
    rw (c.in_ok-extend_from_slice.ensures.items, c.block_words-words.ensures, c.from.ensures, c.from-in-loop-i.ensures)
    (append_assoc c.loop-i.made.items words rest ∙ (ap (λ t. c.loop-i.made.items ++ t) (sym step) ∙ c.loop-i.invariant))
