-- A step under the guard, with a fault that it does not reach.
use Rattle.std.proofs.Common.{◌≡◌, ◌≤◌, ◌<◌, inl, inr, ℕ, suc, ◌+◌, ◌==◌, true, nat_le, nat_lt, Option, Some, None, List, [], ◌∷◌, ◌++◌, length, take, drop, map, refl, sym, ap, subst, ◌∙◌, arith, append_assoc, append-nil, length-append, length-take-le, take-append-drop}
use Rattle.std.proofs.lemmas.Bool.{eq-eqb, eqb-true, leb-false, leb-true, ltb-false, ltb-true, ne_eqb}
use Rattle.std.proofs.lemmas.List.{drop-append-le, length-map, map-append, take-append-le}
use Rattle.std.specs.List.{AllByRecursion}
use Rattle.nook_data.specs.declared.clause.Clause.{Clause}
use Rattle.nook_data.specs.declared.machine.Act.{Act}
use Rattle.nook_data.specs.declared.machine.Context.{Context}
use Rattle.nook_data.specs.declared.scenario.Fault.{Fault}
use Rattle.nook_data.specs.declared.scenario.FaultKind.TheVariants as fault
use Rattle.nook_data.specs.declared.steps.Event.{Event}
use Rattle.nook_data.specs.declared.steps.Step.{Step}
use Rattle.nook_data.specs.declared.steps.Step.TheVariants as step
use Rattle.guard_defs.specs.Deeds.{deeds_before, deeds_in}
use Rattle.guard_defs.specs.Guard.{guard, guard_trap, guarded, trap_for, turns_in, with_own, with_trap}
use Rattle.guard_defs.specs.Turns.{turns_before, turns_of}
use Rattle.machine_defs.proofs.BurstKeeps.{split}
use Rattle.machine_defs.specs.Burst.{Burst, burst}
use Rattle.machine_defs.specs.BurstFaults.{faults_of_burst}
use Rattle.part_defs.proofs.PartCases.{burst_by, burst_step}
use Rattle.part_defs.specs.Calls.{Stepped}
use Rattle.part_defs.specs.Domain.{after_burst, context_of, domain_burst, machine_of}
use Rattle.part_defs.specs.Runs.{event_of}
use Rattle.part_defs.specs.State.{PartState}
use Rattle.part_defs.specs.Steps.{served_number}
use Rattle.promise_defs.specs.Contract.{Deed, Known, acts, broken}
use Rattle.guard_defs.specs.Every.{turns_made}
use Rattle.front_laws.specs.Fronts.{put_after}
use Rattle.front_laws.specs.Guarded.{broken_by}
use Rattle.front_laws.specs.GuardedPast.{IsPastGuarded, StaysBefore, inserted}
use Rattle.front_laws.proofs.Alike.{before_same, within_same}
use Rattle.front_laws.proofs.Deeds.{IsSome, before_front, broken_some, some_broken}
use Rattle.front_laws.proofs.GuardRun.{IsTrapOf, trap_is}
use Rattle.front_laws.proofs.GuardStep.{crossed, deeds_across, event_is, has_deed, none_breaks, own_faults, step_deeds}
use Rattle.front_laws.proofs.Ordered.{after_both, burst_rises, other_burst, own_burst}
use Rattle.front_laws.proofs.Past.{burst_acts_front, burst_past}
use Rattle.front_laws.proofs.Reaching.{burst_act_made, burst_crossing_last, burst_turns_cut}
use Rattle.front_laws.proofs.Same.{IsSameBurst, burst_same, event_same}
use Rattle.front_laws.proofs.Unreached.{following_same}
use Rattle.front_laws.proofs.Within.{HasDeed, deed_reached, is_crossing}

-- the deed and its instruction, with a fault after that instruction

module _ (f : Fault) (context : ℕ) (p : PartState) (k : Known) (x : Context) (own : List Fault) where
  abbrev pub made : Burst
  made = burst p.domain.entries own (machine_of x p.domain)

  abbrev pub struck : Burst
  struck = burst p.domain.entries (put_after f own) (machine_of x p.domain)

  abbrev pub deeds : Burst → List Deed
  deeds b = step_deeds context p (after_burst context x b p.domain)

  abbrev pub call : ℕ
  call = served_number context p

  abbrev pub index : ℕ
  index = deeds_before call k (deeds made)

  -- a burst that reaches the same position and breaks a clause too
  pub record IsAsWrong (b : Burst) : Type 0 where
    pub before : deeds_before call k (deeds b) ≡ index
    pub wrong : IsSome (broken_by call k (deeds b))

  same_wrong : index < length (deeds made) → (b : Burst) → b ≡ made → IsAsWrong b
  same_wrong less b e = subst IsAsWrong (sym e) (record { before = refl; wrong = broken_some call k (deeds made) less })

  parts_of : (n : ℕ) (done : List Act) (rest : List Deed)
      → map acts done ++ rest ≡ map acts (take n done) ++ (map acts (drop n done) ++ rest)
  parts_of n done rest =
      ap (λ (xs : List Act). map acts xs ++ rest) (sym (take-append-drop n done))
      ∙ ap (λ (xs : List Deed). xs ++ rest) (map-append acts (take n done) (drop n done))
      ∙ append_assoc (map acts (take n done)) (map acts (drop n done)) rest

  early_wrong : index < length made.acts → (b : Burst) (later : List Act) → b.acts ≡ take (suc index) made.acts ++ later → IsAsWrong b
  early_wrong less b later e =
      let front : List Deed = map acts (take (suc index) made.acts) in
      let rest : List Deed = map acts (drop (suc index) made.acts) ++ deeds_across (crossed context p (after_burst context x made p.domain)) in
      let rest' : List Deed = map acts later ++ deeds_across (crossed context p (after_burst context x b p.domain)) in
      let whole : deeds made ≡ front ++ rest =
      parts_of (suc index) made.acts (deeds_across (crossed context p (after_burst context x made p.domain))) in
      let whole' : deeds b ≡ front ++ rest' =
      ap (λ (xs : List Act). map acts xs ++ deeds_across (crossed context p (after_burst context x b p.domain))) e
      ∙ ap (λ (xs : List Deed). xs ++ deeds_across (crossed context p (after_burst context x b p.domain)))
      (map-append acts (take (suc index) made.acts) later)
      ∙ append_assoc front (map acts later) (deeds_across (crossed context p (after_burst context x b p.domain))) in
      let few : length front ≡ suc index =
      length-map (take (suc index) made.acts) acts ∙ length-take-le (suc index) made.acts less in
      let here : deeds_before call k (front ++ rest) ≡ index = ap (deeds_before call k) (sym whole) in
      let same : deeds_before call k (front ++ rest') ≡ deeds_before call k (front ++ rest) =
      before_front call k front rest rest' (subst (λ (n : ℕ). deeds_before call k (front ++ rest) < n) (sym few) (low (deeds_before call k (front ++ rest)) index here)) in
      let before : deeds_before call k (deeds b) ≡ index = ap (deeds_before call k) whole' ∙ same ∙ here in
      let sum : length (front ++ rest') ≡ length front + length rest' = length-append front rest' in
      let long : length (deeds b) ≡ length (front ++ rest') = ap length whole' in
      record {
        before = before;
        wrong = broken_some call k (deeds b)
            (under (deeds_before call k (deeds b)) (length (deeds b)) (length (front ++ rest')) (length front) (length rest') index before long sum few);
      }
    where
      low : (a b : ℕ) → a ≡ b → a < suc b
      low a b e = omega arith

      under : (d l w a r n : ℕ) → d ≡ n → l ≡ w → w ≡ a + r → a ≡ suc n → d < l
      under d l w a r n e1 e2 e3 e4 = omega arith

  pub still_wrong : index < length (deeds made) → turns_before index p.domain.entries own (machine_of x p.domain) < f.after → IsAsWrong struck
  still_wrong less early = split (nat_le (turns_of p.domain.entries own (machine_of x p.domain)) f.after)
      (λ past. same_wrong less struck (burst_past f p.domain.entries own (machine_of x p.domain) (leb-true _ f.after past)))
      (λ reached. let far : f.after < turns_of p.domain.entries own (machine_of x p.domain) = leb-false _ f.after reached in
      split (nat_lt index (length made.acts))
      (λ act. let low : index < length made.acts = ltb-true index (length made.acts) act in
      let begun = burst_acts_front (suc (turns_before index p.domain.entries own (machine_of x p.domain))) p.domain.entries (put_after f own) (machine_of x p.domain) in
      early_wrong low struck begun.0
      (begun.1 ∙ ap (λ (xs : List Act). xs ++ begun.0)
      (within_same f (suc (turns_before index p.domain.entries own (machine_of x p.domain))) p.domain.entries own (machine_of x p.domain) early
      ∙ burst_act_made index p.domain.entries own (machine_of x p.domain) low)))
      (λ none. let low : length made.acts ≤ index = ltb-false index (length made.acts) none in
      let last : suc (turns_before index p.domain.entries own (machine_of x p.domain)) ≡ turns_of p.domain.entries own (machine_of x p.domain) =
      burst_crossing_last index p.domain.entries own (machine_of x p.domain) low
      (crosses low (has_deed context p (after_burst context x made p.domain) made index refl refl less)) in
      absurd (omega arith)))
    where
      crosses : length made.acts ≤ index → HasDeed index made → is_crossing made.ending ≡ true
      crosses low (inl act) = absurd (omega arith)
      crosses low (inr is) = is

-- ---- the guard's trap, with a fault that its burst does not reach

turns_in_same : (p q : PartState) (n : ℕ) (o : Option Context)
    → ((x : Context) → o ≡ Some x → turns_before n q.domain.entries (own_faults q) (machine_of x q.domain)
    ≡ turns_before n p.domain.entries (own_faults p) (machine_of x p.domain))
    → turns_in q n o ≡ turns_in p n o
turns_in_same p q n None h = refl
turns_in_same p q n (Some x) h = h x refl

abbrev trap_at : PartState → ℕ → Fault
trap_at p after = record { burst = p.bursts + 1; after = after; kind = fault.Trap }

some_trap : (cs : List Clause) (t : Fault) → IsSome cs → trap_for cs t ≡ Some t
some_trap [] t h = absurd h
some_trap (c ∷ more) t h = refl

module _ (faults : List Fault) (p : PartState) (k : Known) (context : ℕ) where
  abbrev with' : PartState
  with' = with_own faults p

  abbrev s' : Step
  s' = step.Burst context

  -- the burst is the same
  other_guard : own_faults with' ≡ own_faults p → guard with' k s' ≡ guard p k s'
  other_guard e =
      let ev : event_of with' s' ≡ event_of p s' =
      event_same faults p s' (ap (λ (xs : List Fault). domain_burst context xs p.domain) e) in
      let after : turns_in with' (deeds_before (served_number context p) k (deeds_in (event_of with' s'))) (context_of context p.domain.contexts)
      ≡ turns_in p (deeds_before (served_number context p) k (deeds_in (event_of p s'))) (context_of context p.domain.contexts) =
      ap (λ (y : Event). turns_in with' (deeds_before (served_number context p) k (deeds_in y)) (context_of context p.domain.contexts)) ev
      ∙ turns_in_same p with' (deeds_before (served_number context p) k (deeds_in (event_of p s'))) (context_of context p.domain.contexts)
      (λ x runs. ap (λ (xs : List Fault). turns_before (deeds_before (served_number context p) k (deeds_in (event_of p s'))) p.domain.entries xs (machine_of x p.domain)) e) in
      ap (λ (n : ℕ). trap_for (broken k (event_of with' s')) (trap_at p n)) after
      ∙ ap (λ (y : Event). trap_for (broken k y) (guard_trap context p k)) ev

  -- the burst breaks nothing
  free_guard : IsSameBurst faults p s' → broken k (event_of p s') ≡ [] → guard with' k s' ≡ None
  free_guard h none =
      ap (λ (cs : List Clause). trap_for cs (guard_trap context with' k)) (ap (broken k) (event_same faults p s' h) ∙ none)

  -- the burst breaks a clause, and the fault comes after the guard's trap
  module _ (f : Fault) (x : Context) (e : own_faults with' ≡ put_after f (own_faults p)) (runs : context_of context p.domain.contexts ≡ Some x)
      (clause : Clause) (more : List Clause) (breaks : broken k (event_of p s') ≡ clause ∷ more)
      (early : (guard_trap context p k).after < f.after) where
    event_made : event_of p s' ≡ (burst_step context p (after_burst context x (made f context p k x (own_faults p)) p.domain)).event
    event_made =
        event_is context p ∙ ap (λ (o : Option Context). (burst_step context p (burst_by context (own_faults p) p.domain o)).event) runs

    event_struck : event_of with' s' ≡ (burst_step context p (after_burst context x (struck f context p k x (own_faults p)) p.domain)).event
    event_struck =
        event_is context with'
        ∙ ap (λ (xs : List Fault). (burst_step context with' (burst_by context xs p.domain (context_of context p.domain.contexts))).event) e
        ∙ ap (λ (o : Option Context). (burst_step context with' (burst_by context (put_after f (own_faults p)) p.domain o)).event) runs
        ∙ ap (λ (t : Stepped). t.event) (burst_same faults context p (after_burst context x (struck f context p k x (own_faults p)) p.domain))

    deed : ℕ
    deed = index f context p k x (own_faults p)

    deed_is : deeds_before (served_number context p) k (deeds_in (event_of p s')) ≡ index f context p k x (own_faults p)
    deed_is = ap (λ (y : Event). deeds_before (served_number context p) k (deeds_in y)) event_made

    after_is : (guard_trap context p k).after
        ≡ turns_before (index f context p k x (own_faults p)) p.domain.entries (own_faults p) (machine_of x p.domain)
    after_is =
        ap (λ (n : ℕ). turns_in p n (context_of context p.domain.contexts)) deed_is
        ∙ ap (turns_in p (index f context p k x (own_faults p))) runs

    less : index f context p k x (own_faults p) < length (deeds f context p k x (own_faults p) (made f context p k x (own_faults p)))
    less = some_broken (served_number context p) k (deeds f context p k x (own_faults p) (made f context p k x (own_faults p))) clause more
        (ap (broken k) (sym event_made) ∙ breaks)

    wrong : IsAsWrong f context p k x (own_faults p) (struck f context p k x (own_faults p))
    wrong = still_wrong f context p k x (own_faults p) less
        (subst (λ (n : ℕ). n < f.after) after_is early)

    struck_guard : guard with' k s' ≡ Some (guard_trap context p k)
    struck_guard =
        let after : turns_in with' (deeds_before (served_number context p) k (deeds_in (event_of with' s'))) (context_of context p.domain.contexts)
        ≡ (guard_trap context p k).after =
        ap (λ (y : Event). turns_in with' (deeds_before (served_number context p) k (deeds_in y)) (context_of context p.domain.contexts)) event_struck
        ∙ ap (λ (n : ℕ). turns_in with' n (context_of context p.domain.contexts)) wrong.before
        ∙ ap (turns_in with' (index f context p k x (own_faults p))) runs
        ∙ ap (λ (xs : List Fault). turns_before (index f context p k x (own_faults p)) p.domain.entries xs (machine_of x p.domain)) e
        ∙ before_same f (index f context p k x (own_faults p)) p.domain.entries (own_faults p) (machine_of x p.domain)
        (subst (λ (n : ℕ). n < f.after) after_is early)
        ∙ sym after_is in
        ap (λ (n : ℕ). trap_for (broken k (event_of with' s')) (trap_at p n)) after
        ∙ ap (λ (y : Event). trap_for (broken k y) (guard_trap context p k)) event_struck
        ∙ some_trap _ (guard_trap context p k) wrong.wrong

    -- the burst with the trap does not reach the fault
    turns_few : turns_made (with_own (p.spec.faults ++ guard_trap context p k ∷ []) p) (context_of context p.domain.contexts) ≤ f.after
    turns_few =
        let t : Fault = guard_trap context p k in
        let q : PartState = with_own (p.spec.faults ++ t ∷ []) p in
        let rest_after : own_faults q ≡ put_after t (own_faults p) =
        own_burst (p.bursts + 1) p.spec.faults t (eq-eqb (p.bursts + 1) (p.bursts + 1) refl) in
        let has = has_deed context p (after_burst context x (made f context p k x (own_faults p)) p.domain) (made f context p k x (own_faults p))
        (index f context p k x (own_faults p)) refl refl less in
        let reached = deed_reached (index f context p k x (own_faults p)) p.domain.entries (own_faults p) (machine_of x p.domain) has in
        let cut : turns_of p.domain.entries (put_after t (own_faults p)) (machine_of x p.domain) ≡ t.after =
        burst_turns_cut t p.domain.entries (own_faults p) (machine_of x p.domain) refl (burst_rises (p.bursts + 1) p.spec.faults)
        (subst (λ (n : ℕ). n < turns_of p.domain.entries (own_faults p) (machine_of x p.domain)) (sym after_is) reached) in
        let all : turns_made q (context_of context p.domain.contexts) ≡ t.after =
        ap (turns_made q) runs ∙ ap (λ (xs : List Fault). turns_of p.domain.entries xs (machine_of x p.domain)) rest_after ∙ cut in
        below (turns_made q (context_of context p.domain.contexts)) t.after all early
      where
        below : (a b : ℕ) → a ≡ b → b < f.after → a ≤ f.after
        below a b e h = omega arith

-- ---- a step under the guard, with a fault after the part's own

-- faults of earlier bursts
abbrev pub AreEarlier : ℕ → List Fault → Type 0
AreEarlier bursts faults = AllByRecursion (λ t. t.burst ≤ bursts) faults

earlier_faults : (n : ℕ) (own earlier : List Fault) → AreEarlier n earlier → faults_of_burst (n + 1) (own ++ earlier) ≡ faults_of_burst (n + 1) own
earlier_faults n own [] h = ap (faults_of_burst (n + 1)) (append-nil own)
earlier_faults n own (t ∷ earlier) h =
    ap (faults_of_burst (n + 1)) (sym (append_assoc own (t ∷ []) earlier))
    ∙ earlier_faults n (own ++ t ∷ []) earlier h.1
    ∙ other_burst (n + 1) own t (ne_eqb t.burst (n + 1) (λ same. let low : t.burst ≤ n = h.0 in omega arith))

inserted_faults : (count : ℕ) (f : Fault) (n : ℕ) (faults : List Fault) → AreEarlier n (drop count faults)
    → faults_of_burst (n + 1) (inserted count f faults) ≡ faults_of_burst (n + 1) (take count faults ++ f ∷ [])
inserted_faults count f n faults h =
    ap (faults_of_burst (n + 1)) (sym (append_assoc (take count faults) (f ∷ []) (drop count faults)))
    ∙ earlier_faults n (take count faults ++ f ∷ []) (drop count faults) h

own_part : (count n : ℕ) (faults : List Fault) → AreEarlier n (drop count faults)
    → faults_of_burst (n + 1) faults ≡ faults_of_burst (n + 1) (take count faults)
own_part count n faults h =
    ap (faults_of_burst (n + 1)) (sym (take-append-drop count faults)) ∙ earlier_faults n (take count faults) (drop count faults) h

pub inserted_more : (count : ℕ) (f : Fault) (faults more : List Fault) → count ≤ length faults
    → inserted count f faults ++ more ≡ inserted count f (faults ++ more)
inserted_more count f faults more h =
    append_assoc (take count faults) (f ∷ drop count faults) more
    ∙ ap (λ (xs : List Fault). xs ++ (f ∷ (drop count faults ++ more))) (sym (take-append-le count faults more h))
    ∙ ap (λ (xs : List Fault). take count (faults ++ more) ++ f ∷ xs) (sym (drop-append-le count faults more h))

-- the part that takes the step is the one without the fault, with the fault added, and does the same burst
pub record IsStruckStep (count : ℕ) (f : Fault) (p : PartState) (k : Known) (s : Step) : Type 0 where
  pub part : guarded (with_own (inserted count f p.spec.faults) p) k s
      ≡ with_own (inserted count f (guarded p k s).spec.faults) (guarded p k s)
  pub same : IsSameBurst (inserted count f (guarded p k s).spec.faults) (guarded p k s) s

module _ (count : ℕ) (f : Fault) (p : PartState) (k : Known) (s : Step) (room : count ≤ length p.spec.faults) where
  abbrev more' : List Fault
  more' = inserted count f p.spec.faults

  abbrev SameWith : Option Fault → Type 0
  SameWith None = IsSameBurst more' p s
  SameWith (Some t) = IsSameBurst (more' ++ t ∷ []) (with_own (p.spec.faults ++ t ∷ []) p) s

  guarded_is : (q : PartState) (o : Option Fault) → guard q k s ≡ o → guarded q k s ≡ with_trap o q
  unfolding guarded
  guarded_is q o e = ap (λ (t : Option Fault). with_trap t q) e

  struck_by : (o : Option Fault) → guard p k s ≡ o → guard (with_own more' p) k s ≡ o → SameWith o → IsStruckStep count f p k s
  struck_by None e e' h =
      let g : guarded p k s ≡ p = guarded_is p None e in
      record {
        part = guarded_is (with_own more' p) None e' ∙ ap (λ (q : PartState). with_own (inserted count f q.spec.faults) q) (sym g);
        same = subst (λ (q : PartState). IsSameBurst (inserted count f q.spec.faults) q s) (sym g) h;
      }
  struck_by (Some t) e e' h =
      let q : PartState = with_own (p.spec.faults ++ t ∷ []) p in
      let g : guarded p k s ≡ q = guarded_is p (Some t) e in
      let faults : more' ++ t ∷ [] ≡ inserted count f (p.spec.faults ++ t ∷ []) = inserted_more count f p.spec.faults (t ∷ []) room in
      record {
        part = guarded_is (with_own more' p) (Some t) e' ∙ ap (λ (xs : List Fault). with_own xs p) faults
            ∙ ap (λ (r : PartState). with_own (inserted count f r.spec.faults) r) (sym g);
        same = subst (λ (r : PartState). IsSameBurst (inserted count f r.spec.faults) r s) (sym g)
            (subst (λ (xs : List Fault). IsSameBurst xs q s) faults h);
      }

-- the fault belongs to another burst
other_struck : (count : ℕ) (f : Fault) (p : PartState) (k : Known) (context : ℕ) → count ≤ length p.spec.faults
    → own_faults (with_own (inserted count f p.spec.faults) p) ≡ own_faults p → IsStruckStep count f p k (step.Burst context)
other_struck count f p k context room e = by_trap (guard p k (step.Burst context)) refl (trap_is p k (step.Burst context))
  where
    same_with : (o : Option Fault) (q : PartState) → IsTrapOf p (step.Burst context) o q → SameWith count f p k (step.Burst context) room o
    same_with None q h = ap (λ (xs : List Fault). domain_burst context xs p.domain) e
    same_with (Some t) q h =
        let n : ℕ = p.bursts + 1 in
        let here : (t.burst == n) ≡ true = eq-eqb t.burst n h.0 in
        ap (λ (xs : List Fault). domain_burst context xs p.domain)
        (own_burst n (inserted count f p.spec.faults) t here ∙ ap (put_after t) e ∙ sym (own_burst n p.spec.faults t here))

    by_trap : (o : Option Fault) → guard p k (step.Burst context) ≡ o
        → IsTrapOf p (step.Burst context) (guard p k (step.Burst context)) (guarded p k (step.Burst context))
        → IsStruckStep count f p k (step.Burst context)
    by_trap o is h = struck_by count f p k (step.Burst context) room o is
        (other_guard (inserted count f p.spec.faults) p k context e ∙ is)
        (same_with o (guarded p k (step.Burst context))
        (subst (λ (x : Option Fault). IsTrapOf p (step.Burst context) x (guarded p k (step.Burst context))) is h))

-- the fault belongs to this burst
own_struck : (count : ℕ) (f : Fault) (p : PartState) (k : Known) (context : ℕ) → count ≤ length p.spec.faults
    → own_faults (with_own (inserted count f p.spec.faults) p) ≡ put_after f (own_faults p)
    → StaysBefore f p context (guard p k (step.Burst context)) → IsStruckStep count f p k (step.Burst context)
own_struck count f p k context room e past = by_clauses (broken k (event_of p (step.Burst context))) refl
  where
    free : broken k (event_of p (step.Burst context)) ≡ [] → IsStruckStep count f p k (step.Burst context)
    free none =
        let is : guard p k (step.Burst context) ≡ None = ap (λ (cs : List Clause). trap_for cs (guard_trap context p k)) none in
        let few : turns_made p (context_of context p.domain.contexts) ≤ f.after = subst (StaysBefore f p context) is past in
        let same : IsSameBurst (inserted count f p.spec.faults) p (step.Burst context) =
        ap (λ (xs : List Fault). domain_burst context xs p.domain) e ∙ following_same f context p few in
        struck_by count f p k (step.Burst context) room None is (free_guard (inserted count f p.spec.faults) p k context same none) same

    cut : (clause : Clause) (more : List Clause) → broken k (event_of p (step.Burst context)) ≡ clause ∷ more
        → (o : Option Context) → context_of context p.domain.contexts ≡ o → IsStruckStep count f p k (step.Burst context)
    cut clause more some None none = let no : [] ≡ clause ∷ more = sym (none_breaks context p k none) ∙ some in absurd cc
    cut clause more some (Some x) runs =
        let t : Fault = guard_trap context p k in
        let n : ℕ = p.bursts + 1 in
        let q : PartState = with_own (p.spec.faults ++ t ∷ []) p in
        let is : guard p k (step.Burst context) ≡ Some t = ap (λ (cs : List Clause). trap_for cs t) some in
        let early : t.after < f.after = subst (StaysBefore f p context) is past in
        let here : (t.burst == n) ≡ true = eq-eqb n n refl in
        let few : turns_made q (context_of context p.domain.contexts) ≤ f.after =
        turns_few (inserted count f p.spec.faults) p k context f x e runs clause more some early in
        let faults : faults_of_burst n (inserted count f p.spec.faults ++ t ∷ []) ≡ put_after f (faults_of_burst n (p.spec.faults ++ t ∷ [])) =
        own_burst n (inserted count f p.spec.faults) t here ∙ ap (put_after t) e
        ∙ after_both t f (own_faults p) early
        ∙ ap (put_after f) (sym (own_burst n p.spec.faults t here)) in
        struck_by count f p k (step.Burst context) room (Some t) is
        (struck_guard (inserted count f p.spec.faults) p k context f x e runs clause more some early)
        (ap (λ (xs : List Fault). domain_burst context xs p.domain) faults ∙ following_same f context q few)

    by_clauses : (cs : List Clause) → broken k (event_of p (step.Burst context)) ≡ cs → IsStruckStep count f p k (step.Burst context)
    by_clauses [] none = free none
    by_clauses (c ∷ more) some = cut c more some (context_of context p.domain.contexts) refl

pub struck_step : (count : ℕ) (f : Fault) (p : PartState) (k : Known) (s : Step) → count ≤ length p.spec.faults
    → AreEarlier p.bursts (drop count p.spec.faults) → IsPastGuarded f p k s → IsStruckStep count f p k s
unfolding guarded
struck_step count f p k (step.Invoke thread o) room earlier past = record { part = refl; same = tt }
struck_step count f p k (step.Enter thread) room earlier past = record { part = refl; same = tt }
struck_step count f p k step.Stage room earlier past = record { part = refl; same = tt }
struck_step count f p k (step.Arrive frame) room earlier past = record { part = refl; same = tt }
struck_step count f p k (step.Burst context) room earlier past = split (f.burst == (p.bursts + 1))
    (λ own. own_struck count f p k context room
    (inserted_faults count f p.bursts p.spec.faults earlier ∙ own_burst (p.bursts + 1) (take count p.spec.faults) f own
    ∙ ap (put_after f) (sym (own_part count p.bursts p.spec.faults earlier)))
    (past (sym (eqb-true f.burst (p.bursts + 1) own))))
    (λ other. other_struck count f p k context room
    (inserted_faults count f p.bursts p.spec.faults earlier ∙ other_burst (p.bursts + 1) (take count p.spec.faults) f other
    ∙ sym (own_part count p.bursts p.spec.faults earlier)))
