use Rattle.std.proofs.Common.{sym, ap, ◌∙◌, codes}
use Rattle.run_laws.specs.Audit.{arrival_of, context_in, if_burst, if_entered, if_invoked, step_named}
use Rattle.journal_audit.proofs.Naming.{found_named, named_arrival, named_burst, named_entry, named_invocation, named_nothing, named_stage, same_words}
use Rattle.journal_audit.proofs.section.Section.step_named.Goals as goal

pub returns-then-eq : goal.returns-then-eq
returns-then-eq c =
    let s = c.args.self.now in
    let line = c.args.line.now in
    let a = same_words c.if-eq.ensures c.word_at-kind.ensures c.as_slice.ensures in
    found_named c.invocation.result (if_invoked s.threads (context_in (codes "t") c.word_at.result.now)) (step_named s line) c.invocation.ensures
    (named_invocation s line a ∙ ap (λ w. if_invoked s.threads (context_in (codes "t") w)) (sym c.word_at.ensures))

pub returns-then-eq-2 : goal.returns-then-eq-2
returns-then-eq-2 c =
    let a = same_words c.if-eq.ensures c.word_at-kind.ensures c.as_slice.ensures in
    let b = same_words c.if-eq-2.ensures c.word_at-kind.ensures c.as_slice-2.ensures in
    c.entry.ensures ∙ ap (λ w. if_entered (context_in (codes "x") w)) c.word_at-then-eq-2.ensures
    ∙ sym (named_entry c.args.self.now c.args.line.now a b)

pub returns-then-eq-3 : goal.returns-then-eq-3
returns-then-eq-3 c =
    let a = same_words c.if-eq.ensures c.word_at-kind.ensures c.as_slice.ensures in
    let b = same_words c.if-eq-2.ensures c.word_at-kind.ensures c.as_slice-2.ensures in
    let d = same_words c.if-eq-3.ensures c.word_at-kind.ensures c.as_slice-3.ensures in
    c.burst.ensures ∙ ap (λ w. if_burst (context_in (codes "x") w)) c.word_at-then-eq-3.ensures
    ∙ sym (named_burst c.args.self.now c.args.line.now a b d)

pub returns-then-eq-4 : goal.returns-then-eq-4
returns-then-eq-4 c =
    let a = same_words c.if-eq.ensures c.word_at-kind.ensures c.as_slice.ensures in
    let b = same_words c.if-eq-2.ensures c.word_at-kind.ensures c.as_slice-2.ensures in
    let d = same_words c.if-eq-3.ensures c.word_at-kind.ensures c.as_slice-3.ensures in
    let e = same_words c.if-eq-4.ensures c.word_at-kind.ensures c.as_slice-4.ensures in
    sym (named_stage c.args.self.now c.args.line.now a b d e)

pub returns-then-eq-5 : goal.returns-then-eq-5
returns-then-eq-5 c =
    let s = c.args.self.now in
    let line = c.args.line.now in
    let a = same_words c.if-eq.ensures c.word_at-kind.ensures c.as_slice.ensures in
    let b = same_words c.if-eq-2.ensures c.word_at-kind.ensures c.as_slice-2.ensures in
    let d = same_words c.if-eq-3.ensures c.word_at-kind.ensures c.as_slice-3.ensures in
    let e = same_words c.if-eq-4.ensures c.word_at-kind.ensures c.as_slice-4.ensures in
    let f = same_words c.if-eq-5.ensures c.word_at-kind.ensures c.as_slice-5.ensures in
    found_named c.arrival.result (arrival_of s.seat.coming) (step_named s line) c.arrival.ensures (named_arrival s line a b d e f)

pub returns : goal.returns
returns c =
    let a = same_words c.if-eq.ensures c.word_at-kind.ensures c.as_slice.ensures in
    let b = same_words c.if-eq-2.ensures c.word_at-kind.ensures c.as_slice-2.ensures in
    let d = same_words c.if-eq-3.ensures c.word_at-kind.ensures c.as_slice-3.ensures in
    let e = same_words c.if-eq-4.ensures c.word_at-kind.ensures c.as_slice-4.ensures in
    let f = same_words c.if-eq-5.ensures c.word_at-kind.ensures c.as_slice-5.ensures in
    sym (named_nothing c.args.self.now c.args.line.now a b d e f)
