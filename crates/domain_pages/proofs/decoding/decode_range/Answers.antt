use Rattle.std.proofs.Common.{arith, ◌∙◌}
use Rattle.std.proofs.lemmas.List.{length-set}
use Rattle.domain_pages.proofs.Decoded.{all_decoded, one_more}
use Rattle.domain_pages.proofs.decoding.decode_range.Goals as goal

pub loop-address-preserved : goal.loop-address-preserved
loop-address-preserved c =
    let ds = c.loop-address.decoded in
    let at = c.loop-address.address in (
      length-set ds at c.entry_of.result ∙ c.loop-address.invariant.0,
      one_more ds c.args.text.now at c.args.end c.entry_of.result (omega (arith, c.loop-address-test.true, c.loop-address.invariant.0, c.requires.within)) c.entry_of.ensures c.loop-address.invariant.1,
    )

pub returns : goal.returns
returns c =
    all_decoded c.loop-address.decoded c.args.text.now c.loop-address.address c.args.end c.loop-address.invariant.0 (omega (arith, c.loop-address-test.false)) c.loop-address.invariant.1
