-- A seat into which another was joined.
use Rattle.std.proofs.Common.{◌≡◌, ◌⊎◌, ℕ, Option, Some, List, sym, ap, ◌∙◌, subst}
use mathlib.Core.List.{IsPrefix}
use Rattle.nook_data.specs.declared.scenario.PartSpec.{PartSpec}
use Rattle.desk_like.specs.Desks.{Joins}
use Rattle.turn_lock.specs.Views.{joined, learnt}
use Rattle.part_server.specs.declared.stamped.Stamped.{Stamped}
use Rattle.part_server.specs.Entries.{TurnView, events_of}
use Rattle.part_server.specs.Turns.{IsSeen, SeatValue, TurnValue, timed_view}
use Rattle.part_server.proofs.Entries.{events_either, joined_one, of_either, prefix_events}

pub joined_seen : (spec : PartSpec) (v w x : TurnView) → (x.seen ≡ v.seen) ⊎ (x.seen ≡ w.seen) → v.origin ≡ Some spec → w.origin ≡ Some spec → x.origin ≡ Some spec
    → IsSeen v.origin (events_of v.seen) → IsSeen w.origin (events_of w.seen) → IsSeen x.origin (events_of x.seen)
joined_seen spec v w x one p q r a b =
    of_either (λ (l : List Stamped). IsSeen x.origin (events_of l)) v.seen w.seen x.seen one
    (subst (λ (o : Option PartSpec). IsSeen o (events_of v.seen)) (p ∙ sym r) a)
    (subst (λ (o : Option PartSpec). IsSeen o (events_of w.seen)) (q ∙ sym r) b)

pub joined_views : (v w x : TurnView) (m n k : ℕ) → x ≡ learnt (joined v w) → IsPrefix v.seen x.seen → IsPrefix w.seen x.seen
    → Joins (timed_view v m) (timed_view w n) (timed_view x k)
joined_views v w x m n k is p q = record {
  seen = prefix_events v.seen x.seen p;
  other_seen = prefix_events w.seen x.seen q;
  longer = events_either v.seen w.seen x.seen (joined_one v w x is);
  made = ap (λ (y : TurnView). y.made) is;
  share = ap (λ (y : TurnView). y.share) is;
}

-- what holds for the fields of two seats holds for the seats
pub of_views : (P : SeatValue → SeatValue → Type 0) (s : TurnValue) (m : ℕ) (t : TurnValue) (n : ℕ) (seat other : SeatValue)
    → record { seat = s; clock = m } ≡ seat → record { seat = t; clock = n } ≡ other
    → P (record { seat = s; clock = m }) (record { seat = t; clock = n }) → P seat other
of_views P s m t n seat other e f h =
    subst (λ (x : SeatValue). P x other) e (subst (λ (y : SeatValue). P (record { seat = s; clock = m }) y) f h)
