-- Worked cases: crossed scripts and a ring have no clock; a thread that goes to and fro has one.
use Rattle.std.proofs.Common.{◌≡◌, ℕ, zero, suc, ◌<◌, ◌≤◌, Some, List, [], ◌∷◌, length, refl, sym, subst, arith}
use Rattle.desk_like.specs.Desks.{IsAt, IsInvoke, IsReceipt}
use Rattle.nook_data.specs.declared.calls.Answer.{Answer}
use Rattle.nook_data.specs.declared.calls.Op.{Op}
use Rattle.nook_data.specs.declared.desks.Receipt.{Receipt}
use Rattle.nook_data.specs.declared.steps.Event.{Event}
use Rattle.nook_data.specs.declared.steps.Event.TheVariants as event
use Rattle.nook_data.proofs.Options.{none_is_some, same_inside}
use Rattle.desk_like.specs.Stamps.{stamp_at}
use Rattle.order_defs.specs.OneClock.{AreOneRun, AreStamped, Follow, journal_on}
use Rattle.order_laws.specs.Cases.{calls_of, crossed_journals, crossed_threads, ring_journals, ring_threads, to_and_fro, woven_journals}
use Rattle.order_laws.proofs.Stamps.{answered_later, later_position, position_within, stamps_rise}

-- ---- the number of a thread's call

is_second : (o : Op) (a : Answer) (first next thread call number : ℕ) → (first ≡ thread → ⊥) → IsAt (calls_of o a first next) number (IsInvoke call thread o) → number ≡ 2
is_second o a first next thread call zero apart at = none_is_some at.there
is_second o a first next thread call (suc zero) apart at = absurd (apart (subst (IsInvoke call thread o) (sym (same_inside at.there)) at.is).1)
is_second o a first next thread call (suc (suc zero)) apart at = refl
is_second o a first next thread call (suc (suc (suc k))) apart at = none_is_some at.there

is_first : (o : Op) (a : Answer) (first next thread call number : ℕ) → (next ≡ thread → ⊥) → IsAt (calls_of o a first next) number (IsInvoke call thread o) → number ≡ 1
is_first o a first next thread call zero apart at = none_is_some at.there
is_first o a first next thread call (suc zero) apart at = refl
is_first o a first next thread call (suc (suc zero)) apart at = absurd (apart (subst (IsInvoke call thread o) (sym (same_inside at.there)) at.is).1)
is_first o a first next thread call (suc (suc (suc k))) apart at = none_is_some at.there

-- a thread that goes from one part to another: its call on the first has a lower stamp than that on the second
goes_over : (journals : List (List Event)) (stamps : List (List ℕ)) (stamped : AreStamped journals stamps) (thread p q a b : ℕ) (o : Op) (receipts : List Receipt)
    → Follow journals stamps thread 0 ((p, o) ∷ (q, o) ∷ []) receipts
    → ((call number : ℕ) → IsAt (journal_on journals p) number (IsInvoke call thread o) → number ≡ a)
    → ((call number : ℕ) → IsAt (journal_on journals q) number (IsInvoke call thread o) → number ≡ b) → stamp_at stamps p a < stamp_at stamps q b
goes_over journals stamps stamped thread p q a b o [] f first next = absurd f
goes_over journals stamps stamped thread p q a b o (r ∷ []) f first next = absurd f.2
goes_over journals stamps stamped thread p q a b o (r ∷ s ∷ t ∷ more) f first next = absurd f.2.2
goes_over journals stamps stamped thread p q a b o (r ∷ s ∷ []) f first next =
    let later : stamp_at stamps p r.at_invoke ≤ stamp_at stamps p r.at_reply = answered_later journals stamps stamped p thread o r f.0 in
    let over : stamp_at stamps p r.at_reply < stamp_at stamps q s.at_invoke = f.2.1 in
    subst (λ (x : ℕ). stamp_at stamps p x < stamp_at stamps q b) (first r.call r.at_invoke f.0.invoked)
    (subst (λ (x : ℕ). stamp_at stamps p r.at_invoke < stamp_at stamps q x) (next s.call s.at_invoke f.2.0.invoked) (omega arith))

-- two calls of a part
calls_rise : (journals : List (List Event)) (stamps : List (List ℕ)) (stamped : AreStamped journals stamps) (p : ℕ) → 2 ≤ length (journal_on journals p)
    → stamp_at stamps p 1 < stamp_at stamps p 2
calls_rise journals stamps stamped p l = stamps_rise journals stamps stamped p 1 2 (omega arith) l

pub crossed_none : (o : Op) (a : Answer) (name : List ℕ) → AreOneRun (crossed_threads o name) (crossed_journals o a) → ⊥
crossed_none o a name h =
    let over : stamp_at h.stamps 0 2 < stamp_at h.stamps 1 1 =
    goes_over (crossed_journals o a) h.stamps h.stamped 0 0 1 2 1 o h.in_order.0.receipts h.in_order.0.follow
    (λ call number at. is_second o a 1 0 0 call number (λ e. omega arith) at) (λ call number at. is_first o a 0 1 0 call number (λ e. omega arith) at) in
    let back : stamp_at h.stamps 1 2 < stamp_at h.stamps 0 1 =
    goes_over (crossed_journals o a) h.stamps h.stamped 1 1 0 2 1 o h.in_order.1.0.receipts h.in_order.1.0.follow
    (λ call number at. is_second o a 0 1 1 call number (λ e. omega arith) at) (λ call number at. is_first o a 1 0 1 call number (λ e. omega arith) at) in
    let here : stamp_at h.stamps 0 1 < stamp_at h.stamps 0 2 = calls_rise (crossed_journals o a) h.stamps h.stamped 0 (omega arith) in
    let there : stamp_at h.stamps 1 1 < stamp_at h.stamps 1 2 = calls_rise (crossed_journals o a) h.stamps h.stamped 1 (omega arith) in
    round _ _ _ _ over back here there
  where
    round : (a b c d : ℕ) → b < c → d < a → a < b → c < d → ⊥
    round a b c d x y z w = omega arith

pub ring_none : (o : Op) (a : Answer) (name : List ℕ) → AreOneRun (ring_threads o name) (ring_journals o a) → ⊥
ring_none o a name h =
    let first : stamp_at h.stamps 0 2 < stamp_at h.stamps 1 1 =
    goes_over (ring_journals o a) h.stamps h.stamped 0 0 1 2 1 o h.in_order.0.receipts h.in_order.0.follow
    (λ call number at. is_second o a 2 0 0 call number (λ e. omega arith) at) (λ call number at. is_first o a 0 1 0 call number (λ e. omega arith) at) in
    let second : stamp_at h.stamps 1 2 < stamp_at h.stamps 2 1 =
    goes_over (ring_journals o a) h.stamps h.stamped 1 1 2 2 1 o h.in_order.1.0.receipts h.in_order.1.0.follow
    (λ call number at. is_second o a 0 1 1 call number (λ e. omega arith) at) (λ call number at. is_first o a 1 2 1 call number (λ e. omega arith) at) in
    let third : stamp_at h.stamps 2 2 < stamp_at h.stamps 0 1 =
    goes_over (ring_journals o a) h.stamps h.stamped 2 2 0 2 1 o h.in_order.1.1.0.receipts h.in_order.1.1.0.follow
    (λ call number at. is_second o a 1 2 2 call number (λ e. omega arith) at) (λ call number at. is_first o a 2 0 2 call number (λ e. omega arith) at) in
    round _ _ _ _ _ _ first second third (calls_rise (ring_journals o a) h.stamps h.stamped 0 (omega arith)) (calls_rise (ring_journals o a) h.stamps h.stamped 1 (omega arith))
    (calls_rise (ring_journals o a) h.stamps h.stamped 2 (omega arith))
  where
    round : (a b c d e f : ℕ) → b < c → d < e → f < a → a < b → c < d → e < f → ⊥
    round a b c d e f x y z p q r = omega arith

-- ---- to and fro

abbrev receipt : Answer → ℕ → Receipt
receipt a call = record { call = call; at_invoke = call; at_reply = call; answer = a }

pub woven_one_run : (o : Op) (a : Answer) (name : List ℕ) → AreOneRun (to_and_fro o name) (woven_journals o a)
woven_one_run o a name = record {
  stamps = (1 ∷ 3 ∷ []) ∷ (2 ∷ 4 ∷ []) ∷ [];
  stamped = (
    record { count = refl; rising = (omega arith, (omega arith, tt)) },
    (record { count = refl; rising = (omega arith, (omega arith, tt)) }, tt),
  );
  in_order = (
    record {
      receipts = receipt a 1 ∷ receipt a 1 ∷ receipt a 2 ∷ receipt a 2 ∷ [];
      follow = (one, omega arith, (one, omega arith, (two, omega arith, (two, omega arith, tt))));
    },
    tt,
  );
}
  where
    one : IsReceipt (calls_of o a 0 0) 0 o (receipt a 1)
    one = record {
      invoked = record { event = event.Invoke 1 0 o (Some a); there = refl; is = (refl, refl, refl) };
      answered = record { event = event.Invoke 1 0 o (Some a); there = refl; is = refl };
      ordered = omega arith;
    }

    two : IsReceipt (calls_of o a 0 0) 0 o (receipt a 2)
    two = record {
      invoked = record { event = event.Invoke 2 0 o (Some a); there = refl; is = (refl, refl, refl) };
      answered = record { event = event.Invoke 2 0 o (Some a); there = refl; is = refl };
      ordered = omega arith;
    }

-- the numbers of two calls of a part, by their order
two_numbers : (p q : ℕ) → 0 < p → p < q → q ≤ 2 → (p ≡ 1) × (q ≡ 2)
two_numbers p q low less high = (omega arith, omega arith)

module _ (o : Op) (a : Answer) (name : List ℕ) (h : AreOneRun (to_and_fro o name) (woven_journals o a)) where
  invoked_within : (p call number : ℕ) → journal_on (woven_journals o a) p ≡ calls_of o a 0 0 → IsAt (journal_on (woven_journals o a) p) number (IsInvoke call 0 o)
      → (0 < number) × (number ≤ 2)
  invoked_within p call number is at =
      let within = position_within (journal_on (woven_journals o a) p) number at.event at.there in
      (within.0, subst (λ (j : List Event). number ≤ length j) is within.1)

  woven : (receipts : List Receipt) → Follow (woven_journals o a) h.stamps 0 0 ((0, o) ∷ (1, o) ∷ (0, o) ∷ (1, o) ∷ []) receipts
      → (stamp_at h.stamps 0 1 < stamp_at h.stamps 1 1) × (stamp_at h.stamps 1 1 < stamp_at h.stamps 0 2) × (stamp_at h.stamps 0 2 < stamp_at h.stamps 1 2)
  woven [] f = absurd f
  woven (r ∷ []) f = absurd f.2
  woven (r ∷ s ∷ []) f = absurd f.2.2
  woven (r ∷ s ∷ t ∷ []) f = absurd f.2.2.2
  woven (r ∷ s ∷ t ∷ u ∷ v ∷ more) f = absurd f.2.2.2.2
  woven (r ∷ s ∷ t ∷ u ∷ []) f =
      let one : stamp_at h.stamps 0 r.at_invoke ≤ stamp_at h.stamps 0 r.at_reply = answered_later (woven_journals o a) h.stamps h.stamped 0 0 o r f.0 in
      let two : stamp_at h.stamps 1 s.at_invoke ≤ stamp_at h.stamps 1 s.at_reply = answered_later (woven_journals o a) h.stamps h.stamped 1 0 o s f.2.0 in
      let three : stamp_at h.stamps 0 t.at_invoke ≤ stamp_at h.stamps 0 t.at_reply = answered_later (woven_journals o a) h.stamps h.stamped 0 0 o t f.2.2.0 in
      let first : stamp_at h.stamps 0 r.at_reply < stamp_at h.stamps 1 s.at_invoke = f.2.1 in
      let second : stamp_at h.stamps 1 s.at_reply < stamp_at h.stamps 0 t.at_invoke = f.2.2.1 in
      let third : stamp_at h.stamps 0 t.at_reply < stamp_at h.stamps 1 u.at_invoke = f.2.2.2.1 in
      let r_in = invoked_within 0 r.call r.at_invoke refl f.0.invoked in
      let s_in = invoked_within 1 s.call s.at_invoke refl f.2.0.invoked in
      let t_in = invoked_within 0 t.call t.at_invoke refl f.2.2.0.invoked in
      let u_in = invoked_within 1 u.call u.at_invoke refl f.2.2.2.0.invoked in
      let here = two_numbers r.at_invoke t.at_invoke r_in.0 (later_position (woven_journals o a) h.stamps h.stamped 0 r.at_invoke t.at_invoke r_in.1 (omega arith)) t_in.1 in
      let there = two_numbers s.at_invoke u.at_invoke s_in.0 (later_position (woven_journals o a) h.stamps h.stamped 1 s.at_invoke u.at_invoke s_in.1 (omega arith)) u_in.1 in
      by_position r.at_invoke s.at_invoke t.at_invoke u.at_invoke here.0 there.0 here.1 there.1 (omega arith) (omega arith) (omega arith)
    where
      by_position : (p q x y : ℕ) → p ≡ 1 → q ≡ 1 → x ≡ 2 → y ≡ 2 → stamp_at h.stamps 0 p < stamp_at h.stamps 1 q → stamp_at h.stamps 1 q < stamp_at h.stamps 0 x
          → stamp_at h.stamps 0 x < stamp_at h.stamps 1 y
          → (stamp_at h.stamps 0 1 < stamp_at h.stamps 1 1) × (stamp_at h.stamps 1 1 < stamp_at h.stamps 0 2) × (stamp_at h.stamps 0 2 < stamp_at h.stamps 1 2)
      by_position p q x y p_is q_is x_is y_is k l m = (
        subst (λ (c : ℕ). stamp_at h.stamps 0 c < stamp_at h.stamps 1 1) p_is (subst (λ (c : ℕ). stamp_at h.stamps 0 p < stamp_at h.stamps 1 c) q_is k),
        subst (λ (c : ℕ). stamp_at h.stamps 1 c < stamp_at h.stamps 0 2) q_is (subst (λ (c : ℕ). stamp_at h.stamps 1 q < stamp_at h.stamps 0 c) x_is l),
        subst (λ (c : ℕ). stamp_at h.stamps 0 c < stamp_at h.stamps 1 2) x_is (subst (λ (c : ℕ). stamp_at h.stamps 0 x < stamp_at h.stamps 1 c) y_is m),
      )

  woven_alone : (stamp_at h.stamps 0 1 < stamp_at h.stamps 1 1) × (stamp_at h.stamps 1 1 < stamp_at h.stamps 0 2) × (stamp_at h.stamps 0 2 < stamp_at h.stamps 1 2)
  woven_alone = woven h.in_order.0.receipts h.in_order.0.follow

pub woven_so : (o : Op) (a : Answer) (name : List ℕ) (h : AreOneRun (to_and_fro o name) (woven_journals o a))
    → (stamp_at h.stamps 0 1 < stamp_at h.stamps 1 1) × (stamp_at h.stamps 1 1 < stamp_at h.stamps 0 2)
    × (stamp_at h.stamps 0 2 < stamp_at h.stamps 1 2)
woven_so o a name h = woven_alone o a name h
