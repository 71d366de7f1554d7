use Rattle.image_list.proofs.Rows.{row_text}
use Rattle.image_list.proofs.listing.push_row.Goals as goal

pub returns : goal.returns
returns c = row_text c.args.section c.args.address c.args.word c.args.line _ _ _ _ _
    c.in_ok-write.ensures.bytes c.in_ok-push_digits.ensures c.in_ok-write-2.ensures.bytes c.in_ok-push_says.ensures
