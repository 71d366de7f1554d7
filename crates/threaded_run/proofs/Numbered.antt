-- Event numbers of a journal: how many events of one kind there are.
use Rattle.std.proofs.Common.{◌≡◌, ◌⊎◌, inl, inr, ℕ, zero, suc, ◌+◌, ◌-◌, ◌<◌, ◌≤◌, ◌==◌, nat_lt, Bool, true, false, Some, List, [], ◌∷◌, ◌++◌, filter, length, slice_get, slice_index_or, refl, sym, ap, ◌∙◌, subst, arith, eqb-true}
use Rattle.std.proofs.lemmas.Bool.{eqb-false, lt-ltb, ltb-true}
use Rattle.std.specs.List.{AllByRecursion}
use Rattle.desk_like.specs.Desks.{IsAt, IsRisingFrom}
use Rattle.nook_data.specs.Numbered.{at_number}
use Rattle.nook_data.specs.declared.steps.Event.{Event}
use Rattle.part_laws.proofs.Indices.{some_same, split}
use Rattle.nook_data.proofs.Options.{none_is_some}

-- ---- lists and what is in them

-- the item is in the list
abbrev pub Has : {X : Type 0} → X → List X → Type 0
Has x [] = ⊥
Has x (y ∷ ys) = (x ≡ y) ⊎ Has x ys

pub has_contained : {X : Type 0} (x : X) (ys : List X) (k : ℕ) → k < length ys → slice_index_or ys k x ≡ x → Has x ys
has_contained x [] k within is = absurd (omega arith)
has_contained x (y ∷ ys) zero within is = inl (sym is)
has_contained x (y ∷ ys) (suc k) within is = inr (has_contained x ys k (omega arith) is)

pub has_append : {X : Type 0} (x : X) (ys zs : List X) → Has x (ys ++ zs) → Has x ys ⊎ Has x zs
has_append x [] zs h = inr h
has_append x (y ∷ ys) zs (inl e) = inl (inl e)
has_append x (y ∷ ys) zs (inr h) = elim (has_append x ys zs h) [ inl a ↦ inl (inr a) | inr b ↦ inr b ]

pub has_held : {X : Type 0} (P : X → Type 0) (x : X) (ys : List X) → AllByRecursion P ys → Has x ys → P x
has_held P x [] all h = absurd h
has_held P x (y ∷ ys) all (inl e) = subst P (sym e) all.0
has_held P x (y ∷ ys) all (inr h) = has_held P x ys all.1 h

module _ {X : Type 0} (test : X → Bool) where
  pub kept_here : (x : X) (xs : List X) → test x ≡ true → filter test (x ∷ xs) ≡ x ∷ filter test xs
  kept_here x xs h = rw h refl

  pub left_out : (x : X) (xs : List X) → test x ≡ false → filter test (x ∷ xs) ≡ filter test xs
  left_out x xs h = rw h refl

  one_more : (x : X) (xs : List X) → test x ≡ true → length (filter test (x ∷ xs)) ≡ suc (length (filter test xs))
  one_more x xs h = ap length (kept_here x xs h)

  as_many : (x : X) (xs : List X) → test x ≡ false → length (filter test (x ∷ xs)) ≡ length (filter test xs)
  as_many x xs h = ap length (left_out x xs h)

  no_fewer : (x : X) (xs : List X) → length (filter test xs) ≤ length (filter test (x ∷ xs))
  no_fewer x xs = split (test x)
      (λ h. let one = one_more x xs h in omega arith)
      (λ h. let none = as_many x xs h in omega arith)

  pub filter_short : (xs : List X) → length (filter test xs) ≤ length xs
  filter_short [] = omega arith
  filter_short (x ∷ xs) = let more : length (filter test xs) ≤ length xs = filter_short xs in split (test x)
      (λ h. let one = one_more x xs h in omega arith)
      (λ h. let none = as_many x xs h in omega arith)

  pub has_filter : (x : X) (xs : List X) → Has x xs → test x ≡ true → Has x (filter test xs)
  has_filter x [] h p = absurd h
  has_filter x (y ∷ xs) (inl e) p = subst (Has x) (sym (kept_here y xs (subst (λ z. test z ≡ true) e p))) (inl e)
  has_filter x (y ∷ xs) (inr h) p = split (test y)
      (λ q. subst (Has x) (sym (kept_here y xs q)) (inr (has_filter x xs h p)))
      (λ q. subst (Has x) (sym (left_out y xs q)) (has_filter x xs h p))

-- ---- numbers above another

abbrev above : ℕ → List ℕ → List ℕ
above n ys = filter (λ y. nat_lt n y) ys

above_less : (n : ℕ) (ys : List ℕ) → length (above (suc n) ys) ≤ length (above n ys)
above_less n [] = omega arith
above_less n (y ∷ ys) = let rest : length (above (suc n) ys) ≤ length (above n ys) = above_less n ys in split (nat_lt (suc n) y)
    (λ h.
    let far : suc n < y = ltb-true (suc n) y h in
    let a = one_more (λ z. nat_lt (suc n) z) y ys h in
    let b = one_more (λ z. nat_lt n z) y ys (lt-ltb n y (omega arith)) in
    omega arith)
    (λ h.
    let a = as_many (λ z. nat_lt (suc n) z) y ys h in
    let b = no_fewer (λ z. nat_lt n z) y ys in
    omega arith)

above_one : (n : ℕ) (ys : List ℕ) → Has (suc n) ys → suc (length (above (suc n) ys)) ≤ length (above n ys)
above_one n [] h = absurd h
above_one n (y ∷ ys) (inl e) =
    let rest : length (above (suc n) ys) ≤ length (above n ys) = above_less n ys in
    let a = as_many (λ z. nat_lt (suc n) z) y ys (not_above n y e) in
    let b = one_more (λ z. nat_lt n z) y ys (lt-ltb n y (omega arith)) in
    omega arith
  where
    not_above : (n y : ℕ) → suc n ≡ y → nat_lt (suc n) y ≡ false
    not_above n y e = split (nat_lt (suc n) y)
        (λ h. let far : suc n < y = ltb-true (suc n) y h in absurd (omega arith))
        (λ h. h)
above_one n (y ∷ ys) (inr h) = let rest : suc (length (above (suc n) ys)) ≤ length (above n ys) = above_one n ys h in split (nat_lt (suc n) y)
    (λ t.
    let far : suc n < y = ltb-true (suc n) y t in
    let a = one_more (λ z. nat_lt (suc n) z) y ys t in
    let b = one_more (λ z. nat_lt n z) y ys (lt-ltb n y (omega arith)) in
    omega arith)
    (λ f.
    let a = as_many (λ z. nat_lt (suc n) z) y ys f in
    let b = no_fewer (λ z. nat_lt n z) y ys in
    omega arith)

-- ---- events after a number

-- the events are those of the journal after the first n
abbrev pub ComeAfter : List Event → ℕ → List Event → Type 0
ComeAfter journal n events = (k : ℕ) → slice_get events k ≡ slice_get journal (n + k)

pub all_after : (journal : List Event) → ComeAfter journal 0 journal
all_after journal k = ap (slice_get journal) (plus k)
  where
    plus : (n : ℕ) → n ≡ 0 + n
    plus n = omega arith

pub first_after : (journal : List Event) (n : ℕ) (e : Event) (events : List Event) → ComeAfter journal n (e ∷ events) → slice_get journal n ≡ Some e
first_after journal n e events are = ap (slice_get journal) (plus n) ∙ sym (are 0)
  where
    plus : (n : ℕ) → n ≡ n + 0
    plus n = omega arith

pub rest_after : (journal : List Event) (n : ℕ) (e : Event) (events : List Event) → ComeAfter journal n (e ∷ events) → ComeAfter journal (suc n) events
rest_after journal n e events are = λ k. are (suc k) ∙ ap (slice_get journal) (next n k)
  where
    next : (n k : ℕ) → n + suc k ≡ suc n + k
    next n k = omega arith

module _ (test : Event → Bool) (journal : List Event) where
  -- the event with this number passes the test
  abbrev pub IsFoundAt : ℕ → Type 0
  IsFoundAt number = IsAt journal number (λ e. test e ≡ true)

  -- there is no event after the last
  none_numbered : (n number : ℕ) → ComeAfter journal n [] → n < number → IsFoundAt number → ⊥
  none_numbered n zero are l at = absurd (omega arith)
  none_numbered n (suc m) are l at =
      let there : n + (m - n) ≡ m = omega arith in
      none_is_some (are (m - n) ∙ ap (slice_get journal) there ∙ at.there)

  -- if the first number is that of this event, the event passes
  pub passes_here : (n : ℕ) (e : Event) (number : ℕ) → slice_get journal n ≡ Some e → number ≡ suc n → IsFoundAt number → test e ≡ true
  passes_here n e number here is at =
      let same : at.event ≡ e = some_same at.event e (sym at.there ∙ ap (λ (p : ℕ). at_number p journal) is ∙ here) in
      subst (λ x. test x ≡ true) same at.is

  -- at least as many events pass as there are numbers
  pub positions_few : (n : ℕ) (events : List Event) (numbers : List ℕ) → ComeAfter journal n events → IsRisingFrom n numbers → AllByRecursion IsFoundAt numbers
      → length numbers ≤ length (filter test events)
  positions_few n events [] are rising indexed = omega arith
  positions_few n [] (number ∷ numbers) are rising indexed = absurd (none_numbered n number are rising.0 indexed.0)
  positions_few n (e ∷ events) (number ∷ numbers) are rising indexed = split (number == suc n)
      (λ here.
      let is : number ≡ suc n = eqb-true number (suc n) here in
      let more : length numbers ≤ length (filter test events) =
      positions_few (suc n) events numbers (rest_after journal n e events are) (subst (λ (p : ℕ). IsRisingFrom p numbers) is rising.1) indexed.1 in
      let one = one_more test e events (passes_here n e number (first_after journal n e events are) is indexed.0) in
      omega arith)
      (λ there.
      let far : suc n < number = later n number rising.0 (eqb-false number (suc n) there) in
      let more : suc (length numbers) ≤ length (filter test events) =
      positions_few (suc n) events (number ∷ numbers) (rest_after journal n e events are) (far, rising.1) indexed in
      let least = no_fewer test e events in
      omega arith)
    where
      later : (n number : ℕ) → n < number → (number ≡ suc n → ⊥) → suc n < number
      later n number l apart = omega arith

  -- at most as many events pass as a list has numbers, if it has the numbers of all that pass
  positions_above : (n : ℕ) (events : List Event) (ys : List ℕ) → ComeAfter journal n events → ((number : ℕ) → n < number → IsFoundAt number → Has number ys)
      → length (filter test events) ≤ length (above n ys)
  positions_above n [] ys are h = omega arith
  positions_above n (e ∷ events) ys are h =
      let more : length (filter test events) ≤ length (above (suc n) ys) =
      positions_above (suc n) events ys (rest_after journal n e events are) (λ number l at. h number (omega arith) at) in
      split (test e)
      (λ t.
      let one = one_more test e events t in
      let here : Has (suc n) ys = h (suc n) (omega arith) record { event = e; there = first_after journal n e events are; is = t } in
      let step = above_one n ys here in
      omega arith)
      (λ f.
      let none = as_many test e events f in
      let step = above_less n ys in
      omega arith)

  pub positions_all : (ys : List ℕ) → ((number : ℕ) → 0 < number → IsFoundAt number → Has number ys) → length (filter test journal) ≤ length ys
  positions_all ys h =
      let within = positions_above 0 journal ys (all_after journal) h in
      let short = filter_short (λ y. nat_lt 0 y) ys in
      omega arith
