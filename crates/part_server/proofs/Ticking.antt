-- How a turn changes the stamps and the clock of the seat that takes it.
use Rattle.std.proofs.Common.{◌≡◌, ◌⊎◌, ℕ, zero, suc, ◌<◌, ◌≤◌, Bool, true, false, true≢false, List, [], ◌∷◌, ◌++◌, length, get_or, sym, ap, ◌∙◌, subst, arith, length-append, append_assoc, append-nil}
use Rattle.std.proofs.Math.Seq.{get_or-append_seam}
use Rattle.std.proofs.lemmas.Bool.Decides.{nat_tests}
use Rattle.std.proofs.lemmas.List.Elements.{All-nil, All-append, All-weaker}
use mathlib.Core.List.{IsPrefix}
use Rattle.clocks.specs.Clocks.{last_of, latest}
use Rattle.clocks.proofs.Lasts.{last_added}
use Rattle.nook_data.specs.declared.steps.Event.{Event}
use Rattle.part_defs.specs.Runs.{PartRun}
use Rattle.desk_like.specs.Desks.{DeskView, IsRisingFrom}
use Rattle.desk_like.specs.Stamps.{Clocked, IsStamped, JoinsClocks, Ticks, stamp_of}
use Rattle.turn_lock.proofs.Prefixes.{prefix_refl, prefix_trans, prefix_snoc}
use Rattle.part_server.specs.Entries.{DatedRun, TurnView, entries, events_of, stamps_of}
use Rattle.part_server.specs.Turns.{Dates, EndsStamped, IsGrown, StampsOnce, timed_view}
use Rattle.part_server.proofs.Entries.{entries_last, of_either, prefix_stamps}
use Rattle.part_server.proofs.Ends.{GrowsBy}

-- ---- times

pub latest_left : (a b : ℕ) → a ≤ latest a b
latest_left a b = grind (arith, nat_tests)

pub latest_right : (a b : ℕ) → b ≤ latest a b
latest_right a b = grind (arith, nat_tests)

-- ---- rising stamps

below_last : (low stamp : ℕ) (stamps : List ℕ) → IsRisingFrom low (stamp ∷ stamps) → low < last_of (stamp ∷ stamps)
below_last low stamp [] h = h.0
below_last low stamp (next ∷ stamps) h =
    let first : low < stamp = h.0 in
    let rest : stamp < last_of (next ∷ stamps) = below_last stamp next stamps h.1 in
    omega arith

rising_last : (low : ℕ) (stamps : List ℕ) (stamp : ℕ) → IsRisingFrom low stamps → low < stamp → last_of stamps < stamp → IsRisingFrom low (stamps ++ stamp ∷ [])
rising_last low [] stamp h past last = (past, tt)
rising_last low (s ∷ []) stamp h past last = (h.0, (last, tt))
rising_last low (s ∷ next ∷ stamps) stamp h past last =
    let below : s < last_of (next ∷ stamps) = below_last s next stamps h.1 in
    let here : last_of (next ∷ stamps) < stamp = last in
    (h.0, rising_last s (next ∷ stamps) stamp h.1 (omega arith) here)

pub last_stamp : (stamps : List ℕ) (stamp number : ℕ) → number ≡ suc (length stamps) → stamp_of (stamps ++ stamp ∷ []) number ≡ stamp
last_stamp stamps stamp number e = ap (λ (n : ℕ). stamp_of (stamps ++ stamp ∷ []) n) e ∙ get_or-append_seam (0 ∷ stamps) stamp [] 0

-- a stamp that is larger than a number stays so if stamps are added
above_still : (xs ys : List ℕ) (k n : ℕ) → n < get_or xs k 0 → n < get_or (xs ++ ys) k 0
above_still [] ys k n h = absurd (omega arith)
above_still (x ∷ xs) ys zero n h = h
above_still (x ∷ xs) ys (suc k) n h = above_still xs ys k n h

still_above : (xs ys : List ℕ) (number n : ℕ) → IsPrefix xs ys → n < stamp_of xs number → n < stamp_of ys number
still_above xs ys number n p h = subst (λ (l : List ℕ). n < stamp_of l number) p.1 (above_still (0 ∷ xs) p.0 number n h)

-- ---- how several calls change a seat's clock

pub ticks_same : (v : DeskView) → Ticks v v
ticks_same v = record {
  stamps = prefix_refl v.stamps;
  clock = omega arith;
  numbers = [];
  made = sym (append-nil v.made);
  later = All-nil (λ number. v.clock < stamp_of v.stamps number);
}

pub ticks_more : (u v w : DeskView) → Ticks u v → Ticks v w → Ticks u w
ticks_more u v w a b =
    let first : u.clock ≤ v.clock = a.clock in
    let second : v.clock ≤ w.clock = b.clock in
    record {
      stamps = prefix_trans u.stamps v.stamps w.stamps a.stamps b.stamps;
      clock = omega arith;
      numbers = a.numbers ++ b.numbers;
      made = b.made ∙ ap (λ (xs : List ℕ). xs ++ b.numbers) a.made ∙ append_assoc u.made a.numbers b.numbers;
      later = All-append (λ number. u.clock < stamp_of w.stamps number) a.numbers b.numbers
          (All-weaker (λ number. u.clock < stamp_of v.stamps number) (λ number. u.clock < stamp_of w.stamps number)
          (λ number h. still_above v.stamps w.stamps number u.clock b.stamps h) a.numbers a.later)
          (All-weaker (λ number. v.clock < stamp_of w.stamps number) (λ number. u.clock < stamp_of w.stamps number)
          (λ number h. before (stamp_of w.stamps number) first h) b.numbers b.later);
    }
  where
    before : (n : ℕ) → u.clock ≤ v.clock → v.clock < n → u.clock < n
    before n h i = omega arith

-- ---- how a turn changes stamps

module _ (es es' : List Event) (ss ss' : List ℕ) (m n : ℕ) (was : IsStamped es ss) where
  -- one more event, with one more stamp
  module _ (e : Event) (more : es' ≡ es ++ e ∷ []) (once : StampsOnce true ss m ss' n) where
    past_last : last_of ss < n
    past_last = let l = latest_left (last_of ss) m in let p = once.0 in omega arith

    past_clock : m < n
    past_clock = let l = latest_right (last_of ss) m in let p = once.0 in omega arith

    count_added : length es' ≡ suc (length ss)
    count_added = let c = was.count in omega (arith, ap length more, length-append es (e ∷ []))

    added_stamped : IsStamped es' ss'
    added_stamped = record {
      count = let c = count_added in omega (arith, ap length once.1, length-append ss (n ∷ []));
      rising = subst (λ (l : List ℕ). IsRisingFrom 0 l) (sym once.1) (rising_last 0 ss n was.rising (omega (arith, past_clock)) past_last);
    }

    pub added_ends : EndsStamped true ss m es' ss' n
    added_ends = record {
      begins = prefix_snoc ss ss' n once.1;
      stamped = added_stamped;
      last = let l : last_of ss' ≡ n = ap last_of once.1 ∙ last_added ss n in omega arith;
      risen = let p = past_clock in omega arith;
      added = λ _. let s : stamp_of ss' (length es') ≡ n = ap (λ (l : List ℕ). stamp_of l (length es')) once.1 ∙ last_stamp ss n (length es') count_added in
          let p = past_clock in omega arith;
    }

    pub added_grown : IsGrown true (entries es ss) (entries es' ss')
    added_grown = (
      record { event = e; stamp = n },
      ap (λ (l : List Event). entries l ss') more ∙ (ap (λ (l : List ℕ). entries (es ++ e ∷ []) l) once.1 ∙ entries_last es ss e n was.count),
    )

  -- nothing was added
  module _ (same : es' ≡ es) (once : StampsOnce false ss m ss' n) where
    pub same_ends : EndsStamped false ss m es' ss' n
    same_ends = record {
      begins = subst (λ (l : List ℕ). IsPrefix ss l) (sym once.1) (prefix_refl ss);
      stamped = subst (λ (l : List ℕ). IsStamped es' l) (sym once.1) (subst (λ (l : List Event). IsStamped l ss) (sym same) was);
      last = let l = latest_right m (last_of ss) in let s : last_of ss' ≡ last_of ss = ap last_of once.1 in let p = once.0 in omega arith;
      risen = let l = latest_left m (last_of ss) in let p = once.0 in omega arith;
      added = λ yes. absurd (true≢false (sym yes));
    }

    pub same_grown : IsGrown false (entries es ss) (entries es' ss')
    same_grown = ap (λ (l : List Event). entries l ss') same ∙ ap (λ (l : List ℕ). entries es l) once.1

-- how a part with its stamps was changed
dated : (b : Bool) (x y : DatedRun) (m n : ℕ) → IsStamped x.run.journal x.stamps → GrowsBy b x.run y.run → StampsOnce b x.stamps m y.stamps n → Dates b x y m n
dated true x y m n was more once = record {
  was = was;
  grown = added_grown x.run.journal y.run.journal x.stamps y.stamps m n was more.0.0 more.0.1 once;
  spec = more.1;
  ends = added_ends x.run.journal y.run.journal x.stamps y.stamps m n was more.0.0 more.0.1 once;
}
dated false x y m n was same once = record {
  was = was;
  grown = same_grown x.run.journal y.run.journal x.stamps y.stamps m n was same.0 once;
  spec = same.1;
  ends = same_ends x.run.journal y.run.journal x.stamps y.stamps m n was same.0 once;
}

-- a step of the part r, with a stamp if it added an event
pub step_dates : {b is_added : Bool} {x : DatedRun} {r : PartRun} {ss : List ℕ} (q : PartRun) (ss' : List ℕ) (m n : ℕ) → record { run = r; stamps = ss } ≡ x → IsStamped r.journal ss
    → GrowsBy b r q → is_added ≡ b → StampsOnce is_added ss m ss' n → Dates b x (record { run = q; stamps = ss' }) m n
step_dates {b} {is_added} {x} {r} {ss} q ss' m n is was grows same once =
    subst (λ (y : DatedRun). Dates b y (record { run = q; stamps = ss' }) m n) is
    (dated b (record { run = r; stamps = ss }) (record { run = q; stamps = ss' }) m n was grows (subst (λ (c : Bool). StampsOnce c ss m ss' n) same once))

-- a look, followed by a step
pub then_dates : {b : Bool} {x y : DatedRun} {m k n : ℕ} → Dates false x x m k → Dates b x y k n → Dates b x y m n
then_dates {b} {x} {y} {m} {k} {n} look step =
    let first : m ≤ k = look.ends.risen in
    let second : k ≤ n = step.ends.risen in
    record {
      was = step.was;
      grown = step.grown;
      spec = step.spec;
      ends = record {
        begins = step.ends.begins;
        stamped = step.ends.stamped;
        last = step.ends.last;
        risen = omega arith;
        added = λ yes. let past : k < stamp_of y.stamps (length y.run.journal) = step.ends.added yes in omega arith;
      };
    }

-- ---- a clock that is raised

pub raised_clocked : (v : TurnView) (m n : ℕ) → m ≤ n → Clocked (timed_view v m) → Clocked (timed_view v n)
raised_clocked v m n h c = record { stamped = c.stamped; last = let l : last_of (stamps_of v.seen) ≤ m = c.last in omega arith }

-- a seat into which another was joined
pub joined_clocked : (v w x : TurnView) (m n k : ℕ) → (x.seen ≡ v.seen) ⊎ (x.seen ≡ w.seen) → k ≡ latest m n → Clocked (timed_view v m) → Clocked (timed_view w n)
    → Clocked (timed_view x k)
joined_clocked v w x m n k one raised a b =
    let left : m ≤ k = let l = latest_left m n in omega arith in
    let right : n ≤ k = let l = latest_right m n in omega arith in
    let both = of_either (λ l. IsStamped (events_of l) (stamps_of l) × (last_of (stamps_of l) ≤ k)) v.seen w.seen x.seen one
    (a.stamped, (raised_clocked v m k left a).last) (b.stamped, (raised_clocked w n k right b).last) in
    record { stamped = both.0; last = both.1 }

pub joined_clocks : (v w x : TurnView) (m n k : ℕ) → IsPrefix v.seen x.seen → IsPrefix w.seen x.seen → k ≡ latest m n
    → JoinsClocks (timed_view v m) (timed_view w n) (timed_view x k)
joined_clocks v w x m n k p q raised = record { stamps = prefix_stamps v.seen x.seen p; other_stamps = prefix_stamps w.seen x.seen q; clock = raised }
