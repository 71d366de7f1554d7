use Rattle.std.proofs.Common.{◌≡◌, ◌∙◌, sym, subst}
use mathlib.Core.List.{IsPrefix}
use Rattle.desk_like.specs.Stamps.{IsStamped, IsStampedFrom}
use Rattle.part_defs.specs.Runs.{PartRun}
use Rattle.shares.specs.Shares.{IsWhole}
use Rattle.part_server.specs.Entries.{events_of, stamps_of}
use Rattle.part_server.specs.Turns.{SeatValue}
use Rattle.part_server.proofs.Entries.{took_alone, took_begins, took_begun}
use Rattle.part_server.proofs.desk.PartDesk.close.Goals as goal

pub returns-clause-begins : goal.returns-clause-begins
returns-clause-begins g c =
    subst (λ (s : SeatValue). IsPrefix (events_of s.seat.me.0.seen) c.into_part.result.journal) c.seat.view_is
    (subst (λ (r : PartRun). IsPrefix (events_of c.seat.inside.seat.me.0.seen) r.journal) (sym (c.into_part.ensures.part ∙ c.open-held.ensures.run))
    (took_begins c.close.result c.open-held.ensures.stamped c.seat.inside.seat.me.0 c.close.ensures.begins))

pub returns-clause-alone : goal.returns-clause-alone
returns-clause-alone g c =
    subst (λ (s : SeatValue). IsWhole s.seat.me.0.share → c.into_part.result.journal ≡ events_of s.seat.me.0.seen) c.seat.view_is
    (subst (λ (r : PartRun). IsWhole c.seat.inside.seat.me.0.share → r.journal ≡ events_of c.seat.inside.seat.me.0.seen) (sym (c.into_part.ensures.part ∙ c.open-held.ensures.run))
    (took_alone c.close.result c.open-held.ensures.stamped c.seat.inside.seat.me.0 c.close.ensures.alone))

pub returns-clause-stamped : goal.returns-clause-stamped
returns-clause-stamped g c =
    subst (λ (s : SeatValue). IsStampedFrom (stamps_of s.seat.me.0.seen) c.into_part.result.journal) c.seat.view_is
    (record {
      stamps = c.close.result.stamps;
      begins = took_begun c.close.result c.open-held.ensures.stamped c.seat.inside.seat.me.0 c.close.ensures.begins;
      stamped = subst (λ (r : PartRun). IsStamped r.journal c.close.result.stamps) (sym (c.into_part.ensures.part ∙ c.open-held.ensures.run)) c.open-held.ensures.stamped;
    })
