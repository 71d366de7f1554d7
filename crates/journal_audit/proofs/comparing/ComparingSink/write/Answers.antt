-- A write adds to what was written exactly the bytes that were taken.
use Rattle.std.proofs.Common.{◌≡◌, ◌+◌, ◌<◌, ◌++◌, ◌∷◌, [], false, is_some, length, take, get_or, ap, sym, arith}
use Rattle.journal_audit.proofs.Compared.{held_more, written_more, written_other}
use Rattle.journal_audit.proofs.comparing.ComparingSink.write.Goals as goal
use Rattle.journal_audit.specs.Comparisons.{list_of}

pub returns-then-common-piece-clause-bytes : goal.returns-then-common-piece-clause-bytes
returns-then-common-piece-clause-bytes c =
    let none : is_some c.self.inside.wrong ≡ false = cc in
    let n = c.common_front-common.result in
    held_more c.args.self.now c.self.inside.text.now (take (c.self.inside.at + n) c.self.inside.text.now ++ list_of c.self.inside.wrong)
    (take n c.args.piece.now) (sym (ap (λ k. k.text) c.self.view_is))
    (written_more c.args.self.now c.self.inside.text.now c.args.piece.now c.split_at.result.1.now c.self.inside.at n
    c.self.inside.wrong c.self.inside.faults (sym c.self.view_is) none c.split_at.ensures.back c.common_front-common.ensures.same)

pub returns-clause-bytes : goal.returns-clause-bytes
returns-clause-bytes c =
    let none : is_some c.self.inside.wrong ≡ false = cc in
    let n = c.common_front-common.result in
    let less : n < length c.args.piece.now = omega arith in
    held_more c.args.self.now c.self.inside.text.now (take (c.self.inside.at + n) c.self.inside.text.now ++ get_or c.args.piece.now n 0 ∷ [])
    (take (n + 1) c.args.piece.now) (sym (ap (λ k. k.text) c.self.view_is))
    (written_other c.args.self.now c.self.inside.text.now c.args.piece.now c.split_at.result.1.now c.self.inside.at n
    c.self.inside.wrong c.self.inside.faults (sym c.self.view_is) none c.split_at.ensures.back c.common_front-common.ensures.same less)
