-- A line is a text if all of the line was taken and nothing else.
use Rattle.std.proofs.Common.{◌≡◌, ◌≤◌, ℕ, Option, None, Some, Err, Bool, true, false, not, is_none, is_some, nat_eq, length, refl, sym, ap, ◌∙◌, subst}
use Rattle.report_defs.specs.ReportText.{part_line}
use Rattle.report_text.specs.Writing.{Wrote}
use Rattle.report_text.specs.declared.write.WriteStop.TheVariants as stops
use Rattle.journal_audit.proofs.Taken.{Held, Written, taken_all, taken_wrong, text_kept, written_kept}
use Rattle.journal_audit.proofs.auditing.is_part_line.Goals as goal
use Rattle.journal_audit.proofs.auditing.is_part_line.Goals.{After-is_none}
use Rattle.journal_audit.specs.Comparisons.{Comparison, change_in}

enough : (c : After-is_none) → c.write_part_line-written.result ≡ Err stops.NoMemory → ⊥
enough c e = let same = rw e at c.eq.ensures in cc (same, c.if-eq.false)

none_wrong : (wrong : Option ℕ) → is_none wrong ≡ true → wrong ≡ None
none_wrong None h = refl
none_wrong (Some byte) h = absurd (cc)

some_wrong : (wrong : Option ℕ) → is_none wrong ≡ false → (byte : ℕ) × (wrong ≡ Some byte)
some_wrong None h = absurd (cc)
some_wrong (Some byte) h = (byte, refl)

as_reported : (wrong : Option ℕ) (none : Bool) → not none ≡ is_some wrong → is_none wrong ≡ none
as_reported None true h = refl
as_reported None false h = absurd (cc)
as_reported (Some byte) true h = absurd (cc)
as_reported (Some byte) false h = refl

held : (c : After-is_none) → Held c.write_part_line-written.new.sink c.args.line.now c.write_part_line-written.result (part_line c.args.index c.args.spec.now)
held c =
    let sink : Comparison = c.write_part_line-written.new.sink in
    record {
      is =
          subst (λ k. Wrote (change_in k sink) c.write_part_line-written.result (part_line c.args.index c.args.spec.now))
          c.new-compared.ensures
          (subst (λ n. Wrote (change_in c.new-compared.result sink) c.write_part_line-written.result (part_line n c.args.spec.now))
          c.from.ensures c.write_part_line-written.ensures);
    }

written : (c : After-is_none) → Written c.write_part_line-written.new.sink c.write_part_line-written.result (part_line c.args.index c.args.spec.now)
written c = record {
  enough = enough c;
  faults = c.wrong.ensures.faults;
  wrote = written_kept c.write_part_line-written.new.sink c.args.line.now c.write_part_line-written.result (part_line c.args.index c.args.spec.now) (held c);
}

kept : (c : After-is_none) → c.write_part_line-written.new.sink.text ≡ c.args.line.now
kept c = text_kept c.write_part_line-written.new.sink c.args.line.now c.write_part_line-written.result (part_line c.args.index c.args.spec.now) (held c)

wrongness : (c : After-is_none) → is_none c.write_part_line-written.new.sink.wrong ≡ c.is_none.result
wrongness c = ap is_none (sym c.wrong.ensures.result) ∙ as_reported c.wrong.result c.is_none.result (sym c.is_none.ensures)

pub returns-then-is_none : goal.returns-then-is_none
returns-then-is_none c =
    let here = (goal.at.returns-then-is_none c).After-is_none in
    let sink : Comparison = c.write_part_line-written.new.sink in
    let within : sink.at ≤ length sink.text = subst (λ n. n ≤ length sink.text) c.matched.ensures.result c.matched.ensures.within in
    ap (λ n. nat_eq n (length c.args.line.now)) c.matched.ensures.result
    ∙ taken_all sink c.args.line.now c.write_part_line-written.result (part_line c.args.index c.args.spec.now) (kept here) (written here)
    (none_wrong sink.wrong (wrongness here ∙ c.if-is_none.true)) within

pub returns-else-is_none : goal.returns-else-is_none
returns-else-is_none c =
    let here = (goal.at.returns-else-is_none c).After-is_none in
    let sink : Comparison = c.write_part_line-written.new.sink in
    let other = some_wrong sink.wrong (wrongness here ∙ c.if-is_none.false) in
    c.if-is_none.false
    ∙ sym (taken_wrong sink c.args.line.now c.write_part_line-written.result (part_line c.args.index c.args.spec.now) other.0 (kept here) (written here)
    other.1 c.wrong.ensures.other)
