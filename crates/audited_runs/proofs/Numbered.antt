-- The numbers of all events of one kind are met one by one.
use Rattle.std.proofs.Common.{◌≡◌, ℕ, suc, ◌<◌, ◌≤◌, ◌==◌, Bool, true, false, List, [], ◌∷◌, filter, length, sym, ap, ◌∙◌, subst, arith, eqb-true, true≢false}
use Rattle.std.proofs.lemmas.Bool.{eqb-false}
use Rattle.std.specs.List.{AllByRecursion}
use Rattle.desk_like.specs.Desks.{IsRisingFrom}
use Rattle.nook_data.specs.declared.steps.Event.{Event}
use Rattle.part_laws.proofs.Indices.{split}
use Rattle.threaded_run.proofs.Numbered.{ComeAfter, IsFoundAt, first_after, passes_here, positions_few, rest_after}
use Rattle.audited_runs.proofs.Shares.{filter_none, filter_same}

module _ (test : Event → Bool) (journal : List Event) where
  -- the numbers of all events after the first n that pass
  pub record AreAll (n : ℕ) (events : List Event) (numbers : List ℕ) : Type 0 where
    pub rising : IsRisingFrom n numbers
    pub indexed : AllByRecursion (IsFoundAt test journal) numbers
    pub count : length numbers ≡ length (filter test events)

  -- the next event passes: its number is the first of these
  pub passes_first : (n : ℕ) (e : Event) (events : List Event) (number : ℕ) (numbers : List ℕ) → ComeAfter journal n (e ∷ events) → test e ≡ true
      → AreAll n (e ∷ events) (number ∷ numbers) → (number ≡ suc n) × AreAll (suc n) events numbers
  passes_first n e events number numbers are passes h =
      let one : length (filter test (e ∷ events)) ≡ suc (length (filter test events)) = ap length (filter_same test e events passes) in
      let left : length numbers ≡ length (filter test events) = less (length numbers) (length (filter test events)) (h.count ∙ one) in
      split (number == suc n)
      (λ here.
      let is : number ≡ suc n = eqb-true number (suc n) here in
      (is, record { rising = subst (λ (p : ℕ). IsRisingFrom p numbers) is h.rising.1; indexed = h.indexed.1; count = left }))
      (λ there.
      let far : suc n < number = later n number h.rising.0 (eqb-false number (suc n) there) in
      let few : suc (length numbers) ≤ length (filter test events) =
      positions_few test journal (suc n) events (number ∷ numbers) (rest_after journal n e events are) (far, h.rising.1) h.indexed in
      absurd (past (length numbers) (length (filter test events)) left few))
    where
      less : (a b : ℕ) → suc a ≡ suc b → a ≡ b
      less a b e = omega arith

      later : (n number : ℕ) → n < number → (number ≡ suc n → ⊥) → suc n < number
      later n number l apart = omega arith

      past : (a b : ℕ) → a ≡ b → suc a ≤ b → ⊥
      past a b e l = omega arith

  -- it does not pass: the numbers stay
  pub passes_not : (n : ℕ) (e : Event) (events : List Event) (numbers : List ℕ) → ComeAfter journal n (e ∷ events) → test e ≡ false
      → AreAll n (e ∷ events) numbers → AreAll (suc n) events numbers
  passes_not n e events [] are fails h = record { rising = tt; indexed = tt; count = h.count ∙ ap length (filter_none test e events fails) }
  passes_not n e events (number ∷ numbers) are fails h = record {
    rising = (
      later n number h.rising.0 (λ is. true≢false (sym (passes_here test journal n e number (first_after journal n e events are) is h.indexed.0) ∙ fails)),
      h.rising.1,
    );
    indexed = h.indexed;
    count = h.count ∙ ap length (filter_none test e events fails);
  }
    where
      later : (n number : ℕ) → n < number → (number ≡ suc n → ⊥) → suc n < number
      later n number l apart = omega arith
