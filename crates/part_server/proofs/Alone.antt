-- What a desk's seat may claim follows from what a turn's seat may claim.
use Rattle.std.proofs.Common.{◌≡◌, ℕ, ◌<◌, ◌≤◌, Bool, true, false, List, length, All, refl, sym, ap, ◌∙◌, subst, arith}
use Rattle.nook_data.specs.declared.steps.Event.{Event}
use Rattle.desk_like.specs.Desks.{Accounts}
use Rattle.shares.specs.Shares.{Share, half, IsWhole}
use Rattle.shares.proofs.Shares.{half_in, half_has, halves_apart}
use Rattle.turn_lock.specs.Seats.{MadeIsSeen}
use Rattle.turn_lock.specs.Views.{took, halved, newcomer}
use Rattle.part_server.specs.Entries.{TurnView}
use Rattle.part_server.specs.Turns.{ended, seen_view, timed_view}
use Rattle.part_server.proofs.Ends.{Vw}

-- a desk's list is empty at first
pub accounts_of : (v : Vw) (stamps : List ℕ) (clock : ℕ) → v.start ≡ 0 → MadeIsSeen v → Accounts (seen_view v stamps clock)
accounts_of v stamps clock none t = record {
  within = subst (λ (n : ℕ). All (λ number. (n < number) × (number ≤ length v.seen)) v.made) none t.within;
  all = λ alone number past low. t.all alone number (let begun = none in omega arith) low;
}

ended_start : (b : Bool) (z : Vw) (more : List Event) → (ended b z more).start ≡ z.start
ended_start true z more = refl
ended_start false z more = refl

-- a seat that ended its turn
pub ended_accounts : (v z w : Vw) (stamps : List ℕ) (clock : ℕ) (b : Bool) (all more : List Event) → v.start ≡ 0 → z ≡ took v all → w ≡ ended b z more → MadeIsSeen w
    → (w.start ≡ 0) × Accounts (seen_view w stamps clock)
ended_accounts v z w stamps clock b all more none taken given t =
    let start : w.start ≡ 0 = ap (λ (x : Vw). x.start) given ∙ (ended_start b z more ∙ (ap (λ (x : Vw). x.start) taken ∙ none)) in
    (start, accounts_of w stamps clock start t)

left_not_whole : (s : Share) → IsWhole (half false s) → ⊥
left_not_whole s all =
    let point : ℕ → Bool = λ _. true in
    let other = half_has true s point (half_in false s point (all point)) in
    halves_apart s other.0 (all other.0) other.1

right_not_whole : (s : Share) → IsWhole (half true s) → ⊥
right_not_whole s all =
    let point : ℕ → Bool = λ _. true in
    let other = half_has false s point (half_in true s point (all point)) in
    halves_apart s other.0 other.1 (all other.0)

-- a seat that was split, and the seat that was split from it: neither is alone
pub halved_accounts : (v w : TurnView) (m n : ℕ) → w ≡ halved v → Accounts (timed_view v m) → Accounts (timed_view w n)
halved_accounts v w m n same a = subst (λ (z : TurnView). Accounts (timed_view z n)) (sym same) record {
  within = a.within;
  all = λ alone. absurd (left_not_whole v.share alone);
}

pub newcomer_accounts : (v w : TurnView) (n : ℕ) → w ≡ newcomer v → Accounts (timed_view w n)
newcomer_accounts v w n same = subst (λ (z : TurnView). Accounts (timed_view z n)) (sym same) record {
  within = λ k d lt. absurd (omega arith);
  all = λ alone. absurd (right_not_whole v.share alone);
}

-- a seat whose clock was raised
pub raised_accounts : (v : TurnView) (m n : ℕ) → Accounts (timed_view v m) → Accounts (timed_view v n)
raised_accounts v m n a = record { within = a.within; all = a.all }
