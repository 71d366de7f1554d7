-- Journals with one clock can be taken event by event: the event with the least stamp may always be taken.
use Rattle.std.proofs.Common.{◌≡◌, ◌⊎◌, inl, inr, ℕ, zero, suc, ◌+◌, ◌-◌, ◌<◌, ◌≤◌, ◌==◌, nat_le, Bool, true, Option, Some, None, List, [], ◌∷◌, length, map, filter, slice_get, slice_index_or, slice_set, refl, sym, ap, ◌∙◌, subst, arith, eqb-true, eq-eqb}
use Rattle.std.proofs.lemmas.Bool.{eqb-false, leb-true, leb-false}
use Rattle.std.proofs.lemmas.List.{get_or-set_other, get_or-set_same}
use Rattle.std.specs.List.{AllByRecursion}
use Rattle.desk_like.specs.Desks.{IsAt, IsInvoke, IsRisingFrom}
use Rattle.nook_data.specs.Numbered.{at_number}
use Rattle.nook_data.specs.declared.calls.Op.{Op}
use Rattle.nook_data.specs.declared.desks.Receipt.{Receipt}
use Rattle.nook_data.specs.declared.scenario.PartSpec.{PartSpec}
use Rattle.nook_data.specs.declared.scenario.ThreadSpec.{ThreadSpec}
use Rattle.nook_data.specs.declared.steps.Event.{Event}
use Rattle.nook_data.specs.declared.steps.Event.TheVariants as event
use Rattle.nook_data.proofs.Options.{none_is_some, same_inside}
use Rattle.part_laws.proofs.Indices.{from_map, split}
use Rattle.run_defs.specs.Simulation.{ThreadState, Waiting, events_count, opening_thread, started, thread_after, threads_after}
use Rattle.threaded_run.specs.Others.{HaveNoOthers, is_invocation_by, operations_on}
use Rattle.threaded_run.specs.Threaded.{HaveReceipts, invoked_on}
use Rattle.threaded_run.proofs.Counted.{if_false, if_true}
use Rattle.threaded_run.proofs.Numbered.{ComeAfter, Has, all_after, first_after, rest_after}
use Rattle.run_laws.specs.Audit.{is_on}
use Rattle.audited_runs.proofs.Asked.{invoked_are, numbered_are}
use Rattle.audited_runs.proofs.Numbered.{AreAll, passes_first, passes_not}
use Rattle.audited_runs.proofs.Shares.{filter_none, filter_same}
use Rattle.desk_like.specs.Stamps.{stamp_at}
use Rattle.order_defs.specs.OneClock.{AreInOrder, AreOneRun, AreStamped, Follow, IsInOrder, journal_on}
use Rattle.order_defs.specs.Taking.{IsAllTaken, IsNextOf, IsThrough, IsTimely, Leads, MayTake, Taking, after_taking, opening_taking}
use Rattle.order_laws.proofs.Ahead.{AreToCome, HasReplyIfOpen, IsAhead, IsInvocationBy, IsInvokedIn, IsNextEvent, ahead_after, invokes_first, invokes_free, one_more, one_more_here, one_more_there}
use Rattle.order_laws.proofs.Stamps.{answered_later, later_position, position_within, stamps_keep}

-- ---- the least of the first events left

record IsLeast (left : List (List Event)) (f : ℕ → ℕ) : Type 0 where
  part : ℕ
  event : Event
  rest : List Event
  at : slice_get left part ≡ Some (event ∷ rest)
  least : (j : ℕ) (x : Event) (more : List Event) → slice_index_or left j [] ≡ x ∷ more → f part ≤ f j

not_both : {x : Event} {xs : List Event} {G : Type 0} → [] ≡ x ∷ xs → G
not_both h = cc

same_number : (n : ℕ) → n ≤ n
same_number n = omega arith

find_least : (left : List (List Event)) (f : ℕ → ℕ) → ((j : ℕ) → slice_index_or left j [] ≡ []) ⊎ IsLeast left f
find_least [] f = inl (λ j. refl)
find_least ([] ∷ left) f = elim (find_least left (λ j. f (suc j))) [
  | inl none ↦ inl (λ j. empty none j)
  | inr l ↦ inr (record { part = suc l.part; event = l.event; rest = l.rest; at = l.at; least = λ j x more h. further l j x more h })
]
  where
    empty : ((j : ℕ) → slice_index_or left j [] ≡ []) → (j : ℕ) → slice_index_or ([] ∷ left) j [] ≡ []
    empty none zero = refl
    empty none (suc j) = none j

    further : (l : IsLeast left (λ j. f (suc j))) (j : ℕ) (x : Event) (more : List Event) → slice_index_or ([] ∷ left) j [] ≡ x ∷ more → f (suc l.part) ≤ f j
    further l zero x more h = not_both h
    further l (suc j) x more h = l.least j x more h
find_least ((e ∷ rest) ∷ left) f = elim (find_least left (λ j. f (suc j))) [
  | inl none ↦ inr (record { part = 0; event = e; rest = rest; at = refl; least = λ j x more h. alone none j x more h })
  | inr l ↦ split (nat_le (f 0) (f (suc l.part)))
      (λ le. inr (record { part = 0; event = e; rest = rest; at = refl; least = λ j x more h. first l (leb-true (f 0) (f (suc l.part)) le) j x more h }))
      (λ gt. inr (record { part = suc l.part; event = l.event; rest = l.rest; at = l.at; least = λ j x more h. later l (leb-false (f 0) (f (suc l.part)) gt) j x more h }))
]
  where
    alone : ((j : ℕ) → slice_index_or left j [] ≡ []) → (j : ℕ) (x : Event) (more : List Event) → slice_index_or ((e ∷ rest) ∷ left) j [] ≡ x ∷ more → f 0 ≤ f j
    alone none zero x more h = same_number (f 0)
    alone none (suc j) x more h = not_both (sym (none j) ∙ h)

    first : (l : IsLeast left (λ j. f (suc j))) → f 0 ≤ f (suc l.part) → (j : ℕ) (x : Event) (more : List Event)
        → slice_index_or ((e ∷ rest) ∷ left) j [] ≡ x ∷ more → f 0 ≤ f j
    first l le zero x more h = same_number (f 0)
    first l le (suc j) x more h = let least : f (suc l.part) ≤ f (suc j) = l.least j x more h in omega arith

    later : (l : IsLeast left (λ j. f (suc j))) → f (suc l.part) < f 0 → (j : ℕ) (x : Event) (more : List Event)
        → slice_index_or ((e ∷ rest) ∷ left) j [] ≡ x ∷ more → f (suc l.part) ≤ f j
    later l gt zero x more h = omega arith
    later l gt (suc j) x more h = l.least j x more h

-- ---- lists of events left

pub left_is : (left : List (List Event)) (k : ℕ) (x : List Event) → slice_get left k ≡ Some x → (slice_index_or left k [] ≡ x) × (k < length left)
left_is [] k x h = none_is_some h
left_is (y ∷ left) zero x h = (same_inside h, omega arith)
left_is (y ∷ left) (suc k) x h =
    let more = left_is left k x h in
    let low : k < length left = more.1 in
    (more.0, omega arith)

pub one_fewer : (left : List (List Event)) (k : ℕ) (e : Event) (rest : List Event) → slice_get left k ≡ Some (e ∷ rest)
    → events_count left ≡ suc (events_count (slice_set left k rest))
one_fewer [] k e rest h = none_is_some h
one_fewer (y ∷ left) zero e rest h =
    let size : length y ≡ suc (length rest) = ap length (same_inside h) in
    sum (length y) (length rest) (events_count left) size
  where
    sum : (a b c : ℕ) → a ≡ suc b → a + c ≡ suc (b + c)
    sum a b c e = omega arith
one_fewer (y ∷ left) (suc k) e rest h =
    sum (length y) (events_count left) (events_count (slice_set left k rest)) (one_fewer left k e rest h)
  where
    sum : (a b c : ℕ) → b ≡ suc c → a + b ≡ suc (a + c)
    sum a b c e = omega arith

none_left : (left : List (List Event)) (j : ℕ) → events_count left ≡ 0 → (e : Event) (rest : List Event) → slice_get left j ≡ Some (e ∷ rest) → ⊥
none_left left j none e rest h = wrong (events_count (slice_set left j rest)) (sym none ∙ one_fewer left j e rest h)
  where
    wrong : (n : ℕ) → 0 ≡ suc n → ⊥
    wrong n e = omega arith

-- an event after the first n is left
is_left : (journal : List Event) (n : ℕ) (events : List Event) (number : ℕ) (x : Event) → ComeAfter journal n events → n < number → at_number number journal ≡ Some x
    → (e : Event) × ((rest : List Event) × (events ≡ e ∷ rest))
is_left journal n (e ∷ rest) number x are l at = (e, (rest, refl))
is_left journal n [] zero x are l at = none_is_some at
is_left journal n [] (suc m) x are l at =
    let there : n + (m - n) ≡ m = omega arith in
    none_is_some (are (m - n) ∙ ap (slice_get journal) there ∙ at)

-- ---- the threads before an event, from those after it

thread_before : (n number : ℕ) (e : Event) (threads : List ThreadState) (k : ℕ) (t' : ThreadState) → slice_get (threads_after n number e threads) k ≡ Some t'
    → (t : ThreadState) × (slice_get threads k ≡ Some t) × (thread_after number e (started (n + k) number e t) ≡ t')
thread_before n number e [] k t' h = none_is_some h
thread_before n number e (x ∷ threads) zero t' h = (x, refl, ap (λ (m : ℕ). thread_after number e (started m number e x)) (plus n) ∙ same_inside h)
  where
    plus : (n : ℕ) → n + 0 ≡ n
    plus n = omega arith
thread_before n number e (x ∷ threads) (suc k) t' h =
    let b = thread_before (n + 1) number e threads k t' h in
    (b.0, b.1, ap (λ (m : ℕ). thread_after number e (started m number e b.0)) (next n k) ∙ b.2)
  where
    next : (n k : ℕ) → n + suc k ≡ n + 1 + k
    next n k = omega arith

pub own_before : (number : ℕ) (e : Event) (threads : List ThreadState) (i : ℕ) (t' : ThreadState) → slice_get (threads_after 0 number e threads) i ≡ Some t'
    → (t : ThreadState) × (slice_get threads i ≡ Some t) × (thread_after number e (started i number e t) ≡ t')
own_before number e threads i t' h =
    let b = thread_before 0 number e threads i t' h in
    (b.0, b.1, ap (λ (m : ℕ). thread_after number e (started m number e b.0)) (none i) ∙ b.2)
  where
    none : (i : ℕ) → i ≡ 0 + i
    none i = omega arith

pub none_before : (n number : ℕ) (e : Event) (threads : List ThreadState) (k : ℕ) → slice_get (threads_after n number e threads) k ≡ None → slice_get threads k ≡ None
none_before n number e [] k h = refl
none_before n number e (x ∷ threads) zero h = absurd (some_none h)
  where
    some_none : {y : ThreadState} → Some y ≡ None → ⊥
    some_none h = cc
none_before n number e (x ∷ threads) (suc k) h = none_before (n + 1) number e threads k h

-- ---- the state of a run

module _ (journals : List (List Event)) (stamps : List (List ℕ)) (stamped : AreStamped journals stamps) where
  -- these numbers of events of each part were taken, and what is still to come of each thread is in order
  record IsReachedAt (s : Taking) (n : ℕ → ℕ) : Type 0 where
    left : (part : ℕ) → ComeAfter (journal_on journals part) (n part) (slice_index_or s.left part [])
    ahead : (i : ℕ) (t : ThreadState) → slice_get s.threads i ≡ Some t → IsAhead journals stamps stamped i n t.rest t.waiting
    others : (i part number : ℕ) → slice_get s.threads i ≡ None → IsAt (journal_on journals part) number (IsInvocationBy i) → ⊥

  abbrev first_stamp : (ℕ → ℕ) → ℕ → ℕ
  first_stamp n part = stamp_at stamps part (suc (n part))

  module _ (s : Taking) (n : ℕ → ℕ) (st : IsReachedAt s n) where
    next_event : (l : IsLeast s.left (first_stamp n)) → IsNextEvent journals stamps stamped n l.part l.event
    next_event l =
        let is = left_is s.left l.part (l.event ∷ l.rest) l.at in
        record {
          here = first_after (journal_on journals l.part) (n l.part) l.event l.rest (subst (ComeAfter (journal_on journals l.part) (n l.part)) is.0 (st.left l.part));
          least = λ part number x later at.
              let some = is_left (journal_on journals part) (n part) (slice_index_or s.left part []) number x (st.left part) later at in
              let low : stamp_at stamps l.part (suc (n l.part)) ≤ stamp_at stamps part (suc (n part)) = l.least part some.0 some.1.0 some.1.1 in
              let kept : stamp_at stamps part (suc (n part)) ≤ stamp_at stamps part number =
              stamps_keep journals stamps stamped part (suc (n part)) number later (position_within (journal_on journals part) number x at).1 in
              sum _ _ _ low kept;
        }
      where
        sum : (a b c : ℕ) → a ≤ b → b ≤ c → a ≤ c
        sum a b c l m = omega arith

    -- an invocation with the least stamp is its thread's next
    timely : (k : ℕ) (e : Event) → IsNextEvent journals stamps stamped n k e → IsTimely s.threads k e
    timely k (event.Invoke call i o a) next = by_thread (slice_get s.threads i) refl
      where
        by : IsInvocationBy i (event.Invoke call i o a)
        by = eq-eqb i i refl

        by_thread : (q : Option ThreadState) → slice_get s.threads i ≡ q → IsNextOf s.threads i k o
        by_thread None none = absurd (st.others i k (suc (n k)) none (record { event = event.Invoke call i o a; there = next.here; is = by }))
        by_thread (Some t) at =
            let h : IsAhead journals stamps stamped i n t.rest t.waiting = st.ahead i t at in
            let f = invokes_first journals stamps stamped n k (event.Invoke call i o a) next i t.rest t.waiting h by in
            let there : at_number f.receipt.at_invoke (journal_on journals k) ≡ Some f.is.invoked.event = f.is.invoked.there in
            let e_is : event.Invoke call i o a ≡ f.is.invoked.event =
            same_inside (sym next.here ∙ ap (λ (p : ℕ). at_number p (journal_on journals k)) (sym f.at) ∙ there) in
            let invoked : IsInvoke f.receipt.call i f.op (event.Invoke call i o a) = subst (IsInvoke f.receipt.call i f.op) (sym e_is) f.is.invoked.is in
            record {
              t = t;
              more = f.more;
              at = at;
              free = invokes_free journals stamps stamped n k (event.Invoke call i o a) next i t.rest t.waiting h by;
              next = f.rest_is ∙ ap {B = List (ℕ × Op)} (λ (x : Op). (k, x) ∷ f.more) (sym invoked.2);
            }
    timely k (event.Enter call thread attempt a) next = tt
    timely k (event.Burst context call burst count end acts a failure) next = tt
    timely k (event.Stage stage answers released) next = tt
    timely k (event.Arrive frame kept) next = tt

    holds_after : (k : ℕ) (e : Event) (rest : List Event) → slice_get s.left k ≡ Some (e ∷ rest) → IsNextEvent journals stamps stamped n k e
        → IsReachedAt (after_taking s k e rest) (one_more n k)
    holds_after k e rest at next = record {
      left = λ part. split (part == k)
          (λ here.
          let same : part ≡ k = eqb-true part k here in
          subst (λ (q : ℕ). ComeAfter (journal_on journals q) (one_more n k q) (slice_index_or (slice_set s.left k rest) q [])) (sym same) own)
          (λ there.
          let apart : slice_index_or (slice_set s.left k rest) part [] ≡ slice_index_or s.left part [] =
          get_or-set_other s.left k part rest [] (λ e. eqb-false part k there e) in
          subst (ComeAfter (journal_on journals part) (one_more n k part)) (sym apart)
          (subst (λ (m : ℕ). ComeAfter (journal_on journals part) m (slice_index_or s.left part [])) (sym (one_more_there n k part there)) (st.left part)));
      ahead = λ i t' h.
          let b = own_before k e s.threads i t' h in
          subst (λ (t : ThreadState). IsAhead journals stamps stamped i (one_more n k) t.rest t.waiting) b.2
          (ahead_after journals stamps stamped n k e next i b.0 (st.ahead i b.0 b.1));
      others = λ i part number h at. st.others i part number (none_before 0 k e s.threads i h) at;
    }
      where
        is : (slice_index_or s.left k [] ≡ e ∷ rest) × (k < length s.left)
        is = left_is s.left k (e ∷ rest) at

        own : ComeAfter (journal_on journals k) (one_more n k k) (slice_index_or (slice_set s.left k rest) k [])
        own = subst (λ (m : ℕ). ComeAfter (journal_on journals k) m (slice_index_or (slice_set s.left k rest) k [])) (sym (one_more_here n k))
            (subst (ComeAfter (journal_on journals k) (suc (n k))) (sym (get_or-set_same s.left k rest [] is.1))
            (rest_after (journal_on journals k) (n k) e rest (subst (ComeAfter (journal_on journals k) (n k)) is.0 (st.left k))))

    -- ---- no event is left

    through : ((part : ℕ) → slice_index_or s.left part [] ≡ []) → (i : ℕ) (t : ThreadState) → slice_get s.threads i ≡ Some t → IsThrough t
    through none i t at =
        let h : IsAhead journals stamps stamped i n t.rest t.waiting = st.ahead i t at in
        (no_rest h.last t.rest h.receipts h.follow h.to_come, no_wait h.last t.waiting h.reply)
      where
        nothing : (part number : ℕ) (x : Event) → n part < number → at_number number (journal_on journals part) ≡ Some x → ⊥
        nothing part number x later there =
            let some = is_left (journal_on journals part) (n part) (slice_index_or s.left part []) number x (st.left part) later there in
            not_both (sym (none part) ∙ some.1.1)

        no_rest : (last : ℕ) (rest : List (ℕ × Op)) (receipts : List Receipt) → Follow journals stamps i last rest receipts → AreToCome n rest receipts → rest ≡ []
        no_rest last [] receipts f c = refl
        no_rest last (o ∷ rest) [] f c = absurd f
        no_rest last ((p, op) ∷ rest) (r ∷ receipts) f c = absurd (nothing p r.at_invoke f.0.invoked.event c.0 f.0.invoked.there)

        no_wait : (last : ℕ) (w : Option Waiting) → HasReplyIfOpen journals stamps stamped n last w → w ≡ None
        no_wait last None h = refl
        no_wait last (Some w) h = absurd (nothing w.part h.number h.there.event h.later h.there.there)

  -- ---- all events

  -- an order in which everything can be taken
  pub record IsOrdered (s : Taking) : Type 0 where
    pub order : List ℕ
    pub end : Taking
    pub leads : Leads s order end
    pub all : IsAllTaken end

  ended : (s : Taking) (n : ℕ → ℕ) → IsReachedAt s n → ((part : ℕ) → slice_index_or s.left part [] ≡ []) → IsOrdered s
  ended s n st none =
      record { order = []; end = s; leads = refl; all = record { none_left = none; through = each s.threads (λ i t at. through s n st none i t at) } }
    where
      each : (threads : List ThreadState) → ((i : ℕ) (t : ThreadState) → slice_get threads i ≡ Some t → IsThrough t) → AllByRecursion IsThrough threads
      each [] h = tt
      each (t ∷ threads) h = (h 0 t refl, each threads (λ i x at. h (suc i) x at))

  ordered : (m : ℕ) (s : Taking) (n : ℕ → ℕ) → events_count s.left ≡ m → IsReachedAt s n → IsOrdered s
  ordered zero s n size st = elim (find_least s.left (first_stamp n)) [
    | inl none ↦ ended s n st none
    | inr l ↦ absurd (none_left s.left l.part size l.event l.rest l.at)
  ]
  ordered (suc m) s n size st = elim (find_least s.left (first_stamp n)) [
    | inl none ↦ ended s n st none
    | inr l ↦
        let next : IsNextEvent journals stamps stamped n l.part l.event = next_event s n st l in
        let may : MayTake s l.part = record { event = l.event; rest = l.rest; at = l.at; timely = timely s n st l.part l.event next } in
        let more : IsOrdered (after_taking s l.part l.event l.rest) =
        ordered m (after_taking s l.part l.event l.rest) (one_more n l.part) (less (sym (one_fewer s.left l.part l.event l.rest l.at) ∙ size))
        (holds_after s n st l.part l.event l.rest l.at next) in
        record { order = l.part ∷ more.order; end = more.end; leads = (may, more.leads); all = more.all }
  ]
    where
      less : {a b : ℕ} → suc a ≡ suc b → a ≡ b
      less e = omega arith

  -- ---- the beginning

  in_order_at : (first : ℕ) (threads : List ThreadSpec) (k : ℕ) (t : ThreadSpec) → AreInOrder journals stamps first threads → slice_get threads k ≡ Some t
      → IsInOrder journals stamps (first + k) t.ops
  in_order_at first [] k t h at = none_is_some at
  in_order_at first (x ∷ threads) zero t h at =
      subst (λ (m : ℕ). IsInOrder journals stamps m t.ops) (plus first) (subst (λ (y : ThreadSpec). IsInOrder journals stamps first y.ops) (same_inside at) h.0)
    where
      plus : (n : ℕ) → n ≡ n + 0
      plus n = omega arith
  in_order_at first (x ∷ threads) (suc k) t h at =
      subst (λ (m : ℕ). IsInOrder journals stamps m t.ops) (next first k) (in_order_at (suc first) threads k t h.1 at)
    where
      next : (n k : ℕ) → suc n + k ≡ n + suc k
      next n k = omega arith

  pub have_receipts : (i last : ℕ) (ops : List (ℕ × Op)) (receipts : List Receipt) → Follow journals stamps i last ops receipts → HaveReceipts journals i ops receipts
  have_receipts i last [] [] f = tt
  have_receipts i last [] (r ∷ receipts) f = absurd f
  have_receipts i last (o ∷ ops) [] f = absurd f
  have_receipts i last ((part, op) ∷ ops) (r ∷ receipts) f = (f.0, have_receipts i (stamp_at stamps part r.at_reply) ops receipts f.2)

  -- the numbers of a thread's invocations rise in each journal
  pub rising_on : (i last low part : ℕ) (ops : List (ℕ × Op)) (receipts : List Receipt) → Follow journals stamps i last ops receipts
      → low ≤ length (journal_on journals part) → stamp_at stamps part low ≤ last → IsRisingFrom low (invoked_on part ops receipts)
  rising_on i last low part [] receipts f within l = tt
  rising_on i last low part (o ∷ ops) [] f within l = tt
  rising_on i last low part ((p, op) ∷ ops) (r ∷ receipts) f within l =
      let first : last < stamp_at stamps p r.at_invoke = f.1 in
      let mid : stamp_at stamps p r.at_invoke ≤ stamp_at stamps p r.at_reply = answered_later journals stamps stamped p i op r f.0 in
      split (p == part)
      (λ here.
      let same : p ≡ part = eqb-true p part here in
      let above : stamp_at stamps part low < stamp_at stamps part r.at_invoke =
      subst (λ (q : ℕ). stamp_at stamps part low < stamp_at stamps q r.at_invoke) same (omega arith) in
      let low_is : low < r.at_invoke = later_position journals stamps stamped part low r.at_invoke within above in
      let number : r.at_invoke ≤ length (journal_on journals part) =
      subst (λ (q : ℕ). r.at_invoke ≤ length (journal_on journals q)) same (position_within (journal_on journals p) r.at_invoke f.0.invoked.event f.0.invoked.there).1 in
      let kept : stamp_at stamps part r.at_invoke ≤ stamp_at stamps p r.at_reply =
      subst (λ (q : ℕ). stamp_at stamps q r.at_invoke ≤ stamp_at stamps p r.at_reply) same mid in
      subst (IsRisingFrom low) (sym (if_true (p == part) (r.at_invoke ∷ invoked_on part ops receipts) (invoked_on part ops receipts) here))
      (low_is, rising_on i (stamp_at stamps p r.at_reply) r.at_invoke part ops receipts f.2 number kept))
      (λ there.
      subst (IsRisingFrom low) (sym (if_false (p == part) (r.at_invoke ∷ invoked_on part ops receipts) (invoked_on part ops receipts) there))
      (rising_on i (stamp_at stamps p r.at_reply) low part ops receipts f.2 within (omega arith)))

  all_to_come : (i last : ℕ) (ops : List (ℕ × Op)) (receipts : List Receipt) → Follow journals stamps i last ops receipts → AreToCome (λ k. 0) ops receipts
  all_to_come i last [] receipts f = tt
  all_to_come i last (o ∷ ops) [] f = tt
  all_to_come i last ((p, op) ∷ ops) (r ∷ receipts) f =
      ((position_within (journal_on journals p) r.at_invoke f.0.invoked.event f.0.invoked.there).0, all_to_come i (stamp_at stamps p r.at_reply) ops receipts f.2)

  invoked_in : (part number : ℕ) (ops : List (ℕ × Op)) (receipts : List Receipt) → Has number (invoked_on part ops receipts) → IsInvokedIn part number ops receipts
  invoked_in part number [] receipts h = absurd h
  invoked_in part number (o ∷ ops) [] h = absurd h
  invoked_in part number ((p, op) ∷ ops) (r ∷ receipts) h = split (p == part)
      (λ here. by_position (eqb-true p part here) (λ x. invoked_in part number ops receipts x)
      (subst (Has number) (if_true (p == part) (r.at_invoke ∷ invoked_on part ops receipts) (invoked_on part ops receipts) here) h))
      (λ there. inr (invoked_in part number ops receipts
      (subst (Has number) (if_false (p == part) (r.at_invoke ∷ invoked_on part ops receipts) (invoked_on part ops receipts) there) h)))
    where
      by_position : p ≡ part → (Has number (invoked_on part ops receipts) → IsInvokedIn part number ops receipts)
          → (number ≡ r.at_invoke) ⊎ Has number (invoked_on part ops receipts) → ((p ≡ part) × (r.at_invoke ≡ number)) ⊎ IsInvokedIn part number ops receipts
      by_position same more (inl x) = inl (same, sym x)
      by_position same more (inr x) = inr (more x)

  -- the numbers of all events of a kind include each of them
  all_held : (test : Event → Bool) (journal : List Event) (n : ℕ) (events : List Event) (numbers : List ℕ) → ComeAfter journal n events
      → AreAll test journal n events numbers → (j : ℕ) (e : Event) → slice_get events j ≡ Some e → test e ≡ true → Has (suc (n + j)) numbers
  all_held test journal n [] numbers are all j e at passes = none_is_some at
  all_held test journal n (x ∷ events) [] are all zero e at passes =
      absurd (wrong (length (filter test events)) (all.count ∙ ap length (filter_same test x events (subst (λ (y : Event). test y ≡ true) (sym (same_inside at)) passes))))
    where
      wrong : (n : ℕ) → 0 ≡ suc n → ⊥
      wrong n e = omega arith
  all_held test journal n (x ∷ events) (number ∷ numbers) are all zero e at passes =
      inl (sym ((passes_first test journal n x events number numbers are (subst (λ (y : Event). test y ≡ true) (sym (same_inside at)) passes) all).0 ∙ plus n))
    where
      plus : (n : ℕ) → suc n ≡ suc (n + 0)
      plus n = omega arith
  all_held test journal n (x ∷ events) numbers are all (suc j) e at passes = split (test x)
      (λ holds. by_positions numbers holds all (λ more here. all_held test journal (suc n) events more (rest_after journal n x events are) here j e at passes))
      (λ fails. subst (λ (m : ℕ). Has m numbers) (next n j)
      (all_held test journal (suc n) events numbers (rest_after journal n x events are) (passes_not test journal n x events numbers are fails all) j e at passes))
    where
      next : (n j : ℕ) → suc (suc n + j) ≡ suc (n + suc j)
      next n j = omega arith

      wrong : (n : ℕ) → 0 ≡ suc n → ⊥
      wrong n e = omega arith

      by_positions : (numbers : List ℕ) → test x ≡ true → AreAll test journal n (x ∷ events) numbers
          → ((more : List ℕ) → AreAll test journal (suc n) events more → Has (suc (suc n + j)) more) → Has (suc (n + suc j)) numbers
      by_positions [] holds all held = absurd (wrong (length (filter test events)) (all.count ∙ ap length (filter_same test x events holds)))
      by_positions (number ∷ more) holds all held =
          inr (subst (λ (m : ℕ). Has m more) (next n j) (held more (passes_first test journal n x events number more are holds all).1))

  -- a part's journal has the thread's operations on the part; a part that does not exist has no journal
  counted_at : (threads : List ThreadSpec) (i first : ℕ) (parts : List PartSpec) (js : List (List Event)) → HaveNoOthers threads first parts js → (k : ℕ)
      → (length (filter (is_invocation_by i) (slice_index_or js k [])) ≡ operations_on (first + k) (slice_get threads i)) ⊎ (slice_index_or js k [] ≡ [])
  counted_at threads i first [] [] h k = inr refl
  counted_at threads i first [] (journal ∷ js) h k = absurd h
  counted_at threads i first (spec ∷ parts) [] h k = absurd h
  counted_at threads i first (spec ∷ parts) (journal ∷ js) h zero =
      inl (h.0.invoked i ∙ ap (λ (p : ℕ). operations_on p (slice_get threads i)) (plus first))
    where
      plus : (n : ℕ) → n ≡ n + 0
      plus n = omega arith
  counted_at threads i first (spec ∷ parts) (journal ∷ js) h (suc k) =
      elim (counted_at threads i (suc first) parts js h.1 k) [
        | inl e ↦ inl (e ∙ ap (λ (p : ℕ). operations_on p (slice_get threads i)) (next first k))
        | inr e ↦ inr e
      ]
    where
      next : (n k : ℕ) → suc n + k ≡ n + suc k
      next n k = omega arith

  module _ (threads : List ThreadSpec) (parts : List PartSpec) (none : HaveNoOthers threads 0 parts journals) (in_order : AreInOrder journals stamps 0 threads) where
    counted : (i part : ℕ) (t : Option ThreadSpec) → slice_get threads i ≡ t
        → (length (filter (is_invocation_by i) (journal_on journals part)) ≡ operations_on part t) ⊎ (journal_on journals part ≡ [])
    counted i part t at = elim (counted_at threads i 0 parts journals none part) [
      | inl e ↦ inl (e ∙ ap (λ (p : ℕ). operations_on p (slice_get threads i)) (first part) ∙ ap (operations_on part) at)
      | inr e ↦ inr e
    ]
      where
        first : (p : ℕ) → 0 + p ≡ p
        first p = omega arith

    -- an empty journal has no event
    no_event : (part number : ℕ) (P : Event → Type 0) → journal_on journals part ≡ [] → IsAt (journal_on journals part) number P → ⊥
    no_event part number P empty at = by_position number (subst (λ (j : List Event). at_number number j ≡ Some at.event) empty at.there)
      where
        by_position : (p : ℕ) → at_number p [] ≡ Some at.event → ⊥
        by_position zero h = none_is_some h
        by_position (suc p) h = none_is_some h

    invoked_all : (i : ℕ) (t : ThreadSpec) (receipts : List Receipt) → slice_get threads i ≡ Some t → Follow journals stamps i 0 t.ops receipts → (part number : ℕ)
        → IsAt (journal_on journals part) number (IsInvocationBy i) → IsInvokedIn part number t.ops receipts
    invoked_all i t receipts at f part number inv = elim (counted i part (Some t) at) [
      | inl size ↦ by_position size number inv.there
      | inr empty ↦ absurd (no_event part number (IsInvocationBy i) empty inv)
    ]
      where
        by_position : length (filter (is_invocation_by i) (journal_on journals part)) ≡ length (filter (is_on part) t.ops) → (p : ℕ)
            → at_number p (journal_on journals part) ≡ Some inv.event → IsInvokedIn part p t.ops receipts
        by_position size zero there = none_is_some there
        by_position size (suc m) there =
            let on = invoked_are part (journal_on journals part) journals refl i t.ops receipts (have_receipts i 0 t.ops receipts f) in
            let indexed = numbered_are (journal_on journals part) i (filter (is_on part) t.ops) (invoked_on part t.ops receipts) on in
            let all : AreAll (is_invocation_by i) (journal_on journals part) 0 (journal_on journals part) (invoked_on part t.ops receipts) = record {
              rising = rising_on i 0 0 part t.ops receipts f (omega arith) (omega arith);
              indexed = indexed.0;
              count = indexed.1 ∙ sym size;
            } in
            invoked_in part (suc m) t.ops receipts (subst (λ (k : ℕ). Has (suc k) (invoked_on part t.ops receipts)) (plus m)
            (all_held (is_invocation_by i) (journal_on journals part) 0 (journal_on journals part) (invoked_on part t.ops receipts) (all_after (journal_on journals part)) all m inv.event
            there inv.is))
          where
            plus : (m : ℕ) → 0 + m ≡ m
            plus m = omega arith

    holds_first : IsReachedAt (opening_taking threads journals) (λ part. 0)
    holds_first = record {
      left = λ part. all_after (journal_on journals part);
      ahead = λ i t at.
          let from = from_map opening_thread threads i t at in
          let own : IsInOrder journals stamps i from.0.ops = subst (λ (k : ℕ). IsInOrder journals stamps k from.0.ops) (first i) (in_order_at 0 threads i from.0 in_order from.1) in
          subst (λ (x : ThreadState). IsAhead journals stamps stamped i (λ part. 0) x.rest x.waiting) (sym from.2) (record {
            last = 0;
            receipts = own.receipts;
            follow = own.follow;
            to_come = all_to_come i 0 from.0.ops own.receipts own.follow;
            all = λ part number l inv. invoked_all i from.0 own.receipts from.1 own.follow part number inv;
            reply = tt;
          });
      others = λ i part number at inv. elim (counted i part None (none_of_map opening_thread threads i at)) [
        | inl size ↦ absurd (no_invocation (journal_on journals part) i size number inv)
        | inr empty ↦ no_event part number (IsInvocationBy i) empty inv
      ];
    }
      where
        first : (i : ℕ) → 0 + i ≡ i
        first i = omega arith

        none_of_map : {X Y : Type 0} (f : X → Y) (xs : List X) (k : ℕ) → slice_get (map f xs) k ≡ None → slice_get xs k ≡ None
        none_of_map f [] k h = refl
        none_of_map f (x ∷ xs) zero h = cc
        none_of_map f (x ∷ xs) (suc k) h = none_of_map f xs k h

        no_position : (journal : List Event) (i : ℕ) → length (filter (is_invocation_by i) journal) ≡ 0 → (m : ℕ) (e : Event) → slice_get journal m ≡ Some e
            → is_invocation_by i e ≡ true → ⊥
        no_position [] i size m e at is = none_is_some at
        no_position (x ∷ journal) i size zero e at is =
            wrong (length (filter (is_invocation_by i) journal))
            (sym size ∙ ap length (filter_same (is_invocation_by i) x journal (subst (λ (y : Event). is_invocation_by i y ≡ true) (sym (same_inside at)) is)))
          where
            wrong : (n : ℕ) → 0 ≡ suc n → ⊥
            wrong n e = omega arith
        no_position (x ∷ journal) i size (suc m) e at is = no_position journal i (fewer (is_invocation_by i) x journal size) m e at is
          where
            fewer : (test : Event → Bool) (e : Event) (events : List Event) → length (filter test (e ∷ events)) ≡ 0 → length (filter test events) ≡ 0
            fewer test e events h = split (test e)
                (λ passes. absurd (wrong (length (filter test events)) (sym h ∙ ap length (filter_same test e events passes))))
                (λ fails. sym (ap length (filter_none test e events fails)) ∙ h)
              where
                wrong : (n : ℕ) → 0 ≡ suc n → ⊥
                wrong n e = omega arith

        no_invocation : (journal : List Event) (i : ℕ) → length (filter (is_invocation_by i) journal) ≡ 0 → (number : ℕ) → IsAt journal number (IsInvocationBy i) → ⊥
        no_invocation journal i size zero inv = none_is_some inv.there
        no_invocation journal i size (suc m) inv = no_position journal i size m inv.event inv.there inv.is

-- journals that are one run can be taken event by event
pub one_run_ordered : (threads : List ThreadSpec) (parts : List PartSpec) (journals : List (List Event)) → HaveNoOthers threads 0 parts journals → AreOneRun threads journals
    → (order : List ℕ) × ((end : Taking) × (Leads (opening_taking threads journals) order end × IsAllTaken end))
one_run_ordered threads parts journals none one =
    let o : IsOrdered journals one.stamps one.stamped (opening_taking threads journals) =
    ordered journals one.stamps one.stamped (events_count journals) (opening_taking threads journals) (λ part. 0) refl
    (holds_first journals one.stamps one.stamped threads parts none one.in_order) in
    (o.order, (o.end, (o.leads, o.all)))
