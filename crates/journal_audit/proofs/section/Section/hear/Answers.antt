use Rattle.std.proofs.Common.{◌≡◌, ◌≤◌, List, ◌++◌, take, drop, ap, length, map, sym, arith}
use Rattle.run_laws.specs.Audit.{Section}
use Rattle.journal_audit.specs.Sections.{OnPart, state_in, with_threads}
use Rattle.journal_audit.proofs.Hearing.{put_back}
use Rattle.journal_audit.proofs.SectionSteps.{note_newest, parts_noted, threads_noted}
use Rattle.journal_audit.proofs.section.Section.hear.Goals as goal

pub invariant_of-self : goal.invariant_of-self
invariant_of-self c =
    let i = c.self.inside in
    let old = i.threads.items in
    let given = c.deref_mut.result.now in
    let new = c.hear_all.new.threads in
    let same : given ≡ old = c.deref_mut.ensures.value in
    let many : length new ≡ length old = omega (arith, c.hear_all.auto.threads, ap length same) in
    let few : length new ≤ 16 = omega (arith, c.self.invariant.2) in
    rw (put_back i.threads.len new old (omega (arith, i.threads.ok.0)) many)
    (c.self.invariant.0, parts_noted i.index old given new same c.self.invariant.1 c.hear_all.ensures.parts, few)

pub returns : goal.returns
returns c =
    let i = c.self.inside in
    let old = i.threads.items in
    let given = c.deref_mut.result.now in
    let new = c.hear_all.new.threads in
    let same : given ≡ old = c.deref_mut.ensures.value in
    let many : length new ≡ length old = omega (arith, c.hear_all.auto.threads, ap length same) in
    let left = put_back i.threads.len new old (omega (arith, i.threads.ok.0)) many in
    let s : Section = record { index = i.index; spec = i.spec.now; seat = record { run = i.part; coming = i.coming.now }; threads = map state_in old } in
    let t = with_threads s (map state_in (take i.threads.len (new ++ drop (length new) old))) in
    let w = c.self.view_is in
    rw (sym w)
    (note_newest c.hear_all.result s t (map state_in new) c.newest.result.now c.newest.ensures (ap (λ (ts : List OnPart). with_threads s (map state_in ts)) left)
    (threads_noted c.hear_all.result i.index c.newest.result.now old given new same c.self.invariant.1 c.hear_all.ensures.states))
