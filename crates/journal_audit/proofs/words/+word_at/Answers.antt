use Rattle.std.proofs.Common.{◌≡◌, ◌+◌, ◌-◌, ◌≤◌, length, drop, sym, arith}
use Rattle.std.proofs.lemmas.List.{length-drop, take_all}
use Rattle.journal_audit.proofs.WordsRead.{word_first, word_later, word_none, word_only}
use Rattle.journal_audit.proofs.words.+word_at.Goals as goal

pub returns-in-Some : goal.returns-in-Some
returns-in-Some t c = word_first c.args.index c.args.line.now c.in-Some.at c.if-index-eq0.true (sym c.in-Some.ensures)

pub returns-in-Some-2 : goal.returns-in-Some-2
returns-in-Some-2 t c =
    let rest = drop (c.in-Some.at + 1) c.args.line.now in
    let whole : length rest ≤ length c.args.line.now - (c.in-Some.at + 1) = omega (arith, length-drop (c.in-Some.at + 1) c.args.line.now) in
    word_later c.args.index c.args.line.now _ c.word_at.result.now c.in-Some.at (omega arith) (sym c.in-Some.ensures) (take_all _ rest whole) c.word_at.ensures

pub returns-in-None : goal.returns-in-None
returns-in-None t c = word_only c.args.index c.args.line.now c.if-index-eq0-2.true (sym c.in-None.ensures)

pub returns-in-None-2 : goal.returns-in-None-2
returns-in-None-2 t c =
    let line = c.args.line.now in
    let none : length line - length line ≡ 0 = omega arith in
    rw none (word_none c.args.index line (omega arith) (sym c.in-None.ensures))
