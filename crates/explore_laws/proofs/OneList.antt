-- A scenario has exactly one list of rows.
use Rattle.std.proofs.Common.{◌≡◌, ◌⊎◌, inl, inr, ℕ, zero, suc, ◌<◌, false, true, All, Contains, Option, None}
use Rattle.std.proofs.Common.{List, [], ◌∷◌, length, get_or, refl, sym, ap, ap₂, ◌∙◌, subst, arith}
use Rattle.std.proofs.lemmas.List.Elements.{All-contains}
use Rattle.explore_defs.specs.Explored.{AreOutcomes, AreRising, HasOutcome, IsFirst}
use Rattle.explore_defs.specs.Orders.{IsWholePath, IsWithin, Path, comes_before, led}
use Rattle.explore_defs.specs.Outcomes.{outcome_of}
use Rattle.explore_laws.proofs.AnyOrder.{is_row}
use Rattle.explore_laws.proofs.Words.{before_asym, before_same, before_self}
use Rattle.nook_data.proofs.Options.{same_inside}
use Rattle.nook_data.specs.Types.{Scenario}
use Rattle.nook_data.specs.Valid.{IsValidScenario}
use Rattle.run_defs.specs.Simulation.{Simulation, begins}
use Rattle.sim_run.proofs.Ending.{scheduled_ends}

-- ---- lists that rise

contains_cases : {X : Type 0} (x y : X) (xs : List X) → Contains (x ∷ xs) y → (x ≡ y) ⊎ Contains xs y
contains_cases x y xs h = by_position h.0 h.1 h.2
  where
    by_position : (k : ℕ) → k < suc (length xs) → get_or (x ∷ xs) k y ≡ y → (x ≡ y) ⊎ Contains xs y
    by_position zero l e = inl e
    by_position (suc k) l e = inr (k, omega arith, e)

contains_first : {X : Type 0} (x : X) (xs : List X) → Contains (x ∷ xs) x
contains_first x xs = (0, omega arith, refl)

contains_rest : {X : Type 0} (x y : X) (xs : List X) → Contains xs y → Contains (x ∷ xs) y
contains_rest x y xs h =
    let l : h.0 < length xs = h.1 in (suc h.0, omega arith, h.2)

true_not_false : true ≡ false → ⊥
true_not_false e = cc

abbrev ComesAfter : Path → Path → Type 0
ComesAfter path next = comes_before path.picks next.picks ≡ true

rising_first : (x y : Path) (xs ys : List Path) → AreRising (x ∷ xs) → AreRising (y ∷ ys) → Contains (y ∷ ys) x → Contains (x ∷ xs) y
    → x ≡ y
unfolding AreRising
rising_first x y xs ys rx ry there here = elim (contains_cases y x ys there) [
  | inl same ↦ sym same
  | inr later ↦ elim (contains_cases x y xs here) [
    | inl same ↦ same
    | inr after ↦ absurd (true_not_false
        (sym (All-contains (ComesAfter y) ys x ry.0 later)
        ∙ before_asym x.picks y.picks (All-contains (ComesAfter x) xs y rx.0 after)))
  ]
]

rising_rest : (x y f : Path) (xs ys : List Path) → AreRising (x ∷ xs) → x ≡ y → Contains xs f → Contains (y ∷ ys) f → Contains ys f
unfolding AreRising
rising_rest x y f xs ys rx same here there = elim (contains_cases y f ys there) [
  | inr later ↦ later
  | inl is ↦ absurd (true_not_false
      (sym (All-contains (ComesAfter x) xs f rx.0 here)
      ∙ ap (λ (p : Path). comes_before p.picks f.picks) (same ∙ is) ∙ before_self f.picks))
]

rising_same : (xs ys : List Path) → AreRising xs → AreRising ys → ((f : Path) → Contains xs f → Contains ys f)
    → ((f : Path) → Contains ys f → Contains xs f) → xs ≡ ys
unfolding AreRising
rising_same [] [] rx ry to back = refl
rising_same [] (y ∷ ys) rx ry to back = absurd (nothing y (back y (contains_first y ys)))
  where
    nothing : (y : Path) → Contains [] y → ⊥
    nothing y h =
        let l : h.0 < 0 = h.1 in omega arith
rising_same (x ∷ xs) [] rx ry to back = absurd (nothing x (to x (contains_first x xs)))
  where
    nothing : (y : Path) → Contains [] y → ⊥
    nothing y h =
        let l : h.0 < 0 = h.1 in omega arith
rising_same (x ∷ xs) (y ∷ ys) rx ry to back =
    let same : x ≡ y = rising_first x y xs ys rx ry (to x (contains_first x xs)) (back y (contains_first y ys)) in
    ap₂ (λ (z : Path) zs. z ∷ zs) same (rising_same xs ys rx.1 ry.1
    (λ f here. rising_rest x y f xs ys rx same here (to f (contains_rest x f xs here)))
    (λ f here. rising_rest y x f ys xs ry (sym same) here (back f (contains_rest y f ys here))))

-- ---- the rows

same_path : (scenario : Scenario) (a b : Path) → IsWholePath scenario a → IsWholePath scenario b → a.picks ≡ b.picks → a ≡ b
same_path scenario a b u v same =
    ap₂ {C = Path} (λ picks (end : Simulation). record { picks = picks; end = end }) same
    (same_inside (sym u.led ∙ ap (led (begins scenario)) same ∙ v.led))

same_member : (scenario : Scenario) (cut : Option (List ℕ)) (firsts others : List Path) → AreOutcomes scenario cut firsts
    → AreOutcomes scenario cut others → (f : Path) → Contains firsts f → Contains others f
same_member scenario cut firsts others a b f listed =
    let is : IsFirst scenario f = All-contains (IsFirst scenario) firsts f a.first listed in
    let row : HasOutcome others (outcome_of f.end) =
    b.each f is.whole (All-contains (λ (path : Path). IsWithin cut path.picks) firsts f a.within listed) in
    let other : IsFirst scenario row.first = All-contains (IsFirst scenario) others row.first b.first row.listed in
    subst (Contains others) (same_path scenario row.first f other.whole is.whole
    (before_same row.first.picks f.picks (is.least row.first other.whole row.same) (other.least f is.whole (sym row.same))))
    row.listed

pub one_list : (scenario : Scenario) (cut : Option (List ℕ)) (firsts others : List Path) → AreOutcomes scenario cut firsts
    → AreOutcomes scenario cut others → firsts ≡ others
one_list scenario cut firsts others a b =
    rising_same firsts others a.rising b.rising (same_member scenario cut firsts others a b) (same_member scenario cut others firsts b a)

pub some_row : (scenario : Scenario) (firsts : List Path) → IsValidScenario scenario → AreOutcomes scenario None firsts
    → 0 < length firsts
some_row scenario firsts v a =
    let run = scheduled_ends scenario v in
    let row : HasOutcome firsts (outcome_of run.0) = is_row scenario firsts scenario.schedule run.0 a run.1 in
    let l : row.listed.0 < length firsts = row.listed.1 in omega arith
