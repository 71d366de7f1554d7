-- How consecutive turns change what a seat knows.
use Rattle.std.proofs.Common.{◌≡◌, ◌⊎◌, inl, inr, ℕ, zero, suc, ◌<◌, ◌≤◌, Some, List, [], ◌∷◌, ◌++◌, length, refl, sym, ap, ◌∙◌, subst, arith, append_assoc, append-nil}
use Rattle.std.specs.List.{Contains, AllByRecursion}
use Rattle.std.proofs.lemmas.List.Elements.{All-nil, All-cons, All-append, Contains-append_left, Contains-append_right, recursion_from_All, All-from_recursion}
use Rattle.std.proofs.lemmas.Bool.{cases_lt}
use mathlib.Core.List.{IsPrefix}
use Rattle.nook_data.specs.declared.steps.Event.{Event}
use Rattle.nook_data.specs.declared.calls.Op.{Op}
use Rattle.nook_data.specs.Numbered.{at_number}
use Rattle.desk_like.specs.Desks.{DeskView, IsAlone, IsAt, IsInvoke, IsOther, IsRisingFrom, Adds, AddsNothing, Waits, Invokes}
use Rattle.shares.specs.Shares.{IsWhole}
use Rattle.part_laws.proofs.Indices.{get_keep}
use Rattle.turn_lock.proofs.Prefixes.{prefix_refl, prefix_trans, prefix_length}

-- ---- event numbers

pub low_at : (number : ℕ) (xs : List Event) (e : Event) → at_number number xs ≡ Some e → (0 < number) × (number ≤ length xs)
low_at zero xs e h = cc
low_at (suc k) [] e h = cc
low_at (suc zero) (x ∷ xs) e h = (omega arith, omega arith)
low_at (suc (suc k)) (x ∷ xs) e h = let m = low_at (suc k) xs e h in let l : suc k ≤ length xs = m.1 in (omega arith, omega arith)

pub at_low : (number : ℕ) (xs : List Event) (Is : Event → Type 0) → IsAt xs number Is → (0 < number) × (number ≤ length xs)
at_low number xs Is at = low_at number xs at.event at.there

keep_at : (number : ℕ) (xs ys : List Event) (e : Event) → at_number number xs ≡ Some e → at_number number (xs ++ ys) ≡ Some e
keep_at zero xs ys e h = h
keep_at (suc k) xs ys e h = get_keep xs ys k e h

-- the event with a number stays the same when the list grows
pub still_at : (number : ℕ) (xs ys : List Event) (Is : Event → Type 0) → IsPrefix xs ys → IsAt xs number Is → IsAt ys number Is
still_at number xs ys Is pre at = record {
  event = at.event;
  there = ap (at_number number) (sym pre.1) ∙ keep_at number xs pre.0 at.event at.there;
  is = at.is;
}

-- ---- rising numbers

abbrev AreLow : ℕ → List ℕ → Type 0
AreLow n numbers = AllByRecursion (λ number. number ≤ n) numbers

rising_weaker : (m n : ℕ) (numbers : List ℕ) → m ≤ n → IsRisingFrom n numbers → IsRisingFrom m numbers
rising_weaker m n [] h r = tt
rising_weaker m n (number ∷ numbers) h r = let l : n < number = r.0 in (omega arith, r.1)

rising_more : (m n : ℕ) (ps qs : List ℕ) → m ≤ n → IsRisingFrom m ps → AreLow n ps → IsRisingFrom n qs → IsRisingFrom m (ps ++ qs)
rising_more m n [] qs h r low s = rising_weaker m n qs h s
rising_more m n (p ∷ ps) qs h r low s = (r.0, rising_more p n ps qs low.0 r.1 low.1 s)

low_others : (seen : List Event) (numbers : List ℕ) → AllByRecursion (λ number. IsAt seen number IsOther) numbers → AreLow (length seen) numbers
low_others seen [] all = tt
low_others seen (number ∷ numbers) all = ((at_low number seen IsOther all.0).1, low_others seen numbers all.1)

others_still : (xs ys : List Event) (numbers : List ℕ) → IsPrefix xs ys → AllByRecursion (λ number. IsAt xs number IsOther) numbers
    → AllByRecursion (λ number. IsAt ys number IsOther) numbers
others_still xs ys [] pre all = tt
others_still xs ys (number ∷ numbers) pre all = (still_at number xs ys IsOther pre all.0, others_still xs ys numbers pre all.1)

-- ---- added events

pub adds_nothing : (v : DeskView) → AddsNothing v v
adds_nothing v = record {
  seen = prefix_refl v.seen;
  made = sym (append-nil v.made);
  rising = tt;
  share = refl;
  own = λ alone number past low. absurd (none (length v.seen) number past low);
}
  where
    none : (n number : ℕ) → n < number → number ≤ n → ⊥
    none n number a b = omega arith

pub adds_more : (u v w : DeskView) (ps qs : List ℕ) → AreLow (length v.seen) ps → Adds u v ps → Adds v w qs → Adds u w (ps ++ qs)
adds_more u v w ps qs low a b = record {
  seen = prefix_trans u.seen v.seen w.seen a.seen b.seen;
  made = b.made ∙ ap (λ (xs : List ℕ). xs ++ qs) a.made ∙ append_assoc u.made ps qs;
  rising = rising_more (length u.seen) (length v.seen) ps qs (prefix_length u.seen v.seen a.seen) a.rising low b.rising;
  share = b.share ∙ a.share;
  own = λ alone number past within. by_seen alone number past within (cases_lt (length v.seen) number);
}
  where
    by_seen : IsAlone u → (number : ℕ) → length u.seen < number → number ≤ length w.seen → (length v.seen < number) ⊎ (number ≤ length v.seen)
        → Contains (ps ++ qs) number
    by_seen alone number past within (inl h) = Contains-append_right ps qs number (b.own (subst IsWhole (sym a.share) alone) number h within)
    by_seen alone number past within (inr h) = Contains-append_left ps qs number (a.own alone number past h)

-- ---- waiting

pub waits_nothing : (v w : DeskView) → AddsNothing v w → Waits v w
waits_nothing v w a = record { numbers = []; adds = a; others = All-nil (λ number. IsAt w.seen number IsOther) }

pub waits_one : (v w : DeskView) (number : ℕ) → Adds v w (number ∷ []) → IsAt w.seen number IsOther → Waits v w
waits_one v w number a at = record {
  numbers = number ∷ [];
  adds = a;
  others = All-cons (λ p. IsAt w.seen p IsOther) number [] at (All-nil (λ p. IsAt w.seen p IsOther));
}

pub waits_more : (u v w : DeskView) → Waits u v → Waits v w → Waits u w
waits_more u v w a b =
    let one = recursion_from_All (λ number. IsAt v.seen number IsOther) a.numbers a.others in
    record {
      numbers = a.numbers ++ b.numbers;
      adds = adds_more u v w a.numbers b.numbers (low_others v.seen a.numbers one) a.adds b.adds;
      others = All-append (λ number. IsAt w.seen number IsOther) a.numbers b.numbers
          (All-from_recursion (λ number. IsAt w.seen number IsOther) a.numbers (others_still v.seen w.seen a.numbers b.adds.seen one))
          b.others;
    }

-- ---- an invocation, followed by waiting

pub invokes_once : (v w : DeskView) (call thread : ℕ) (o : Op) (number : ℕ) → Adds v w (number ∷ []) → IsAt w.seen number (IsInvoke call thread o)
    → Invokes v w call thread o number
invokes_once v w call thread o number a at = record {
  others = [];
  adds = a;
  invoked = at;
  rest = All-nil (λ p. IsAt w.seen p IsOther);
}

pub invokes_more : (u v w : DeskView) (call thread : ℕ) (o : Op) (number : ℕ) → Adds u v (number ∷ []) → IsAt v.seen number (IsInvoke call thread o)
    → Waits v w → Invokes u w call thread o number
invokes_more u v w call thread o number a at b = record {
  others = b.numbers;
  adds = adds_more u v w (number ∷ []) b.numbers ((at_low number v.seen (IsInvoke call thread o) at).1, tt) a b.adds;
  invoked = still_at number v.seen w.seen (IsInvoke call thread o) b.adds.seen at;
  rest = b.others;
}
