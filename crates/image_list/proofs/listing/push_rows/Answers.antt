use Rattle.std.proofs.Common.{arith, append-nil, drop}
use Rattle.image_list.proofs.Rows.{no_lines, rows_more}
use Rattle.image_list.proofs.listing.push_rows.Goals as goal

pub returns-in-None : goal.returns-in-None
returns-in-None c =
    let none = no_lines c.loop-word.address (drop c.loop-word.word-index c.args.words.now) c.loop-word.rest.now c.in-None.ensures.cases in
    rw (none, append-nil) at c.loop-word.invariant.text

pub loop-word-preserved : goal.loop-word-preserved
loop-word-preserved c = record {
  address = omega (arith, c.loop-word.invariant.address);
  text = rows_more c.args.section c.loop-word.address c.loop-word.word-index _ c.args.words.now c.loop-word.rest.now c.in-Some.more.now c.in-Some.line.now _ _ _
      c.loop-word-test.true c.in-Some.ensures.cases.0 c.in_ok-push_row-in-Some.ensures c.loop-word.invariant.text;
}
