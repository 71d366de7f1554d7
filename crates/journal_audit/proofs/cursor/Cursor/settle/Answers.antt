-- What was compared is the whole text, or a prefix of it and another byte.
use Rattle.std.proofs.Common.{◌≡◌, ℕ, Option, None, Some, Err, true, false, List, refl, sym, ◌∙◌, ap, subst, is_some}
use Rattle.report_text.specs.Writing.{Wrote}
use Rattle.report_text.specs.declared.write.WriteStop.TheVariants as stops
use Rattle.journal_audit.proofs.Taken.{Written, departs_taken, follows_taken, written_kept}
use Rattle.journal_audit.proofs.cursor.Cursor.settle.Goals as goal
use Rattle.journal_audit.proofs.cursor.Cursor.settle.Goals.{After-is_some}
use Rattle.journal_audit.specs.Comparisons.{change_in, untouched}
use Rattle.journal_audit.specs.Position.{Departs, Follows, past}

enough : (c : After-is_some) → c.args.written ≡ Err stops.NoMemory → ⊥
enough c e = let same = rw e at c.eq.ensures in cc (same, c.if-eq.false)

none_wrong : (wrong : Option ℕ) → is_some wrong ≡ false → wrong ≡ None
none_wrong None h = refl
none_wrong (Some byte) h = absurd (cc)

some_wrong : (wrong : Option ℕ) → is_some wrong ≡ true → (byte : ℕ) × (wrong ≡ Some byte)
some_wrong None h = absurd (cc)
some_wrong (Some byte) h = (byte, refl)

written : (c : After-is_some) (text : List ℕ)
    → Wrote (change_in (untouched c.args.self.now.rest) c.args.compared.now) c.args.written text
    → Written c.args.compared.now c.args.written text
written c text wrote = record { enough = enough c; faults = c.wrong.ensures.faults; wrote = written_kept c.args.compared.now c.args.self.now.rest c.args.written text (record { is = wrote }) }

skipped : (c : After-is_some) → c.skip.new.self ≡ past c.args.compared.now.at c.args.self.now
skipped c = c.skip.ensures ∙ ap (λ n. past n c.args.self.now) c.matched.ensures.result

wrongness : (c : After-is_some) → is_some c.args.compared.now.wrong ≡ c.is_some.result
wrongness c = ap is_some (sym c.wrong.ensures.result) ∙ sym c.is_some.ensures

pub returns-then-is_some-clause-unfit : goal.returns-then-is_some-clause-unfit
returns-then-is_some-clause-unfit c = λ text wrote.
    let here = (goal.at.returns-then-is_some-clause-unfit c).After-is_some in
    let other = some_wrong c.args.compared.now.wrong (wrongness here ∙ c.if-is_some.true) in
    let number : (past c.args.compared.now.at c.args.self.now).number ≡ c.self.inside.number =
    sym (ap (λ p. p.number) c.self.view_is ∙ ap (λ p. p.number) (skipped here)) in
    subst (Departs text c.args.self.now) number
    (departs_taken c.args.self.now c.args.compared.now c.args.written text other.0 c.requires (written here text wrote) other.1 c.wrong.ensures.other)

pub returns-clause-ok : goal.returns-clause-ok
returns-clause-ok c = λ text wrote.
    let here = (goal.at.returns-clause-ok c).After-is_some in
    subst (Follows text c.args.self.now) (sym (skipped here))
    (follows_taken c.args.self.now c.args.compared.now c.args.written text c.requires (written here text wrote)
    (none_wrong c.args.compared.now.wrong (wrongness here ∙ c.if-is_some.false)))
