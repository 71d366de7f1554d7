-- The number of the line follows from that of the line after the section's events.
use Rattle.std.proofs.Common.{◌≡◌, ◌<◌, ◌-◌, List, length, map, ap, ◌∙◌, subst, arith, ℕ}
use Rattle.event_order.specs.Ends.{IsLeftOver}
use Rattle.event_order.specs.Lefts.{events_in}
use Rattle.nook_data.specs.declared.steps.Event.{Event}
use Rattle.journal_audit.proofs.LinesFound.{none_left, part_within, some_left}
use Rattle.journal_audit.proofs.past.PastSections.first_left.Goals as goal
use Rattle.journal_audit.proofs.past.PastSections.first_left.Goals.{In_ok-first}
use Rattle.journal_audit.specs.PastSections.{Past}
use Rattle.std.specs.Prelude.{slice_index_or}

journals : (c : In_ok-first) → map events_in c.as_slice.result.now ≡ c.args.self.now.journals
journals c = ap (map events_in) c.as_slice.ensures ∙ ap (λ (t : Past). t.journals) c.self.view_is

pub index-requires : goal.index-requires
index-requires c =
    let here = (goal.at.index-requires c).In_ok-first in
    let over = subst (IsLeftOver c.args.threads.now (map events_in c.as_slice.result.now)) c.in-Some.is c.in_ok-first.ensures in
    let ends : c.self.inside.ends.items ≡ c.args.self.now.ends = ap (λ (t : Past). t.ends) c.self.view_is in
    let within : c.in-Some.first.part < length c.args.self.now.ends =
    part_within c.args.threads.now (map events_in c.as_slice.result.now) c.args.self.now c.in-Some.first over (journals here) c.requires in
    omega (arith, within, ap length ends, c.self.inside.ends.ok.0)

pub returns-in-Some : goal.returns-in-Some
returns-in-Some c =
    let here = (goal.at.returns-in-Some c).In_ok-first in
    let over = subst (IsLeftOver c.args.threads.now (map events_in c.as_slice.result.now)) c.in-Some.is c.in_ok-first.ensures in
    let ends : c.self.inside.ends.items ≡ c.args.self.now.ends = ap (λ (t : Past). t.ends) c.self.view_is in
    some_left c.args.threads.now (map events_in c.as_slice.result.now) c.args.self.now c.in-Some.first c.saturating_sub.result c.index.result.now over
    (journals here) c.requires
    (c.saturating_sub.ensures
    ∙ ap (λ (n : ℕ). n - c.in-Some.first.count)
    (c.index.ensures ∙ ap (λ (l : List ℕ). slice_index_or l c.in-Some.first.part c.index.result.now) ends))

pub returns-in-None : goal.returns-in-None
returns-in-None c =
    let here = (goal.at.returns-in-None c).In_ok-first in
    let over = subst (IsLeftOver c.args.threads.now (map events_in c.as_slice.result.now)) c.in-None.is c.in_ok-first.ensures in
    none_left c.args.threads.now (map events_in c.as_slice.result.now) c.args.self.now over (journals here) c.requires
