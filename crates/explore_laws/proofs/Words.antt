-- The order of words: shorter words first; words of the same length compare number by number.
use Rattle.std.proofs.Common.{◌≡◌, ℕ, ◌+◌, ◌<◌, ◌≤◌, ◌==◌, ◌&&◌, ◌||◌, nat_lt, Bool, true, false, List, [], ◌∷◌}
use Rattle.std.proofs.Common.{◌++◌, length}
use Rattle.std.proofs.Common.{refl, sym, ap₂, arith, eq-eqb, eqb-true, le-ltb, ltb-false, ltb-true, length-append}
use Rattle.explore_defs.specs.Orders.{comes_before, is_lower}
use Rattle.part_laws.proofs.Indices.{split}

-- a word that is not lower: its first number is not smaller, and if it is the same, the rest is not lower
record IsNotLower (x y : ℕ) (xs ys : List ℕ) : Type 0 where
  least : y ≤ x
  rest : x ≡ y → is_lower xs ys ≡ false

or_none : (a b : Bool) → (a || b) ≡ false → (a ≡ false) × (b ≡ false)
or_none false b h = (refl, h)
or_none true b h = absurd (cc)

not_lower : (x y : ℕ) (xs ys : List ℕ) → (nat_lt x y || (x == y && is_lower xs ys)) ≡ false → IsNotLower x y xs ys
not_lower x y xs ys h =
    let parts = or_none (nat_lt x y) (x == y && is_lower xs ys) h in record {
      least = ltb-false x y parts.0;
      rest = λ e. (rw (eq-eqb x y e) at parts.1);
    }

lower_not : (x y : ℕ) (xs ys : List ℕ) → IsNotLower x y xs ys → (nat_lt x y || (x == y && is_lower xs ys)) ≡ false
lower_not x y xs ys h = split (x == y)
    (λ same. rw (le-ltb x y h.least, same) (h.rest (eqb-true x y same)))
    (λ other. rw (le-ltb x y h.least, other) refl)

-- ---- words of the same length

lower_trans : (a b c : List ℕ) → length a ≡ length b → length b ≡ length c → is_lower a b ≡ false → is_lower b c ≡ false
    → is_lower a c ≡ false
unfolding is_lower
lower_trans [] b c l m h k = refl
lower_trans (x ∷ a) b [] l m h k = refl
lower_trans (x ∷ a) [] (z ∷ c) l m h k = absurd (omega arith)
lower_trans (x ∷ a) (y ∷ b) (z ∷ c) l m h k =
    let p : IsNotLower x y a b = not_lower x y a b h in
    let q : IsNotLower y z b c = not_lower y z b c k in
    let py : y ≤ x = p.least in
    let qz : z ≤ y = q.least in
    let la : length a ≡ length b = omega arith in
    let lb : length b ≡ length c = omega arith in
    lower_not x z a c (record {
      least = omega arith;
      rest = λ e. lower_trans a b c la lb (p.rest (omega arith)) (q.rest (omega arith));
    })

lower_asym : (a b : List ℕ) → is_lower a b ≡ true → is_lower b a ≡ false
unfolding is_lower
lower_asym [] b h = absurd (cc)
lower_asym (x ∷ a) [] h = absurd (cc)
lower_asym (x ∷ a) (y ∷ b) h = lower_not y x b a (record {
  least = least;
  rest = λ e.
      let no : nat_lt x y ≡ false = le-ltb x y (omega arith) in
      let same : (x == y) ≡ true = eq-eqb x y (sym e) in
      lower_asym a b (rw (no, same) at h);
})
  where
    falsehood : true ≡ false → ⊥
    falsehood e = cc

    least : x ≤ y
    least = split (nat_lt x y)
        (λ less.
        let l : x < y = ltb-true x y less in omega arith)
        (λ no. split (x == y)
        (λ same.
        let e : x ≡ y = eqb-true x y same in omega arith)
        (λ other. absurd (falsehood (sym (rw (no, other) at h)))))

lower_more : (a b : List ℕ) (x : ℕ) → length a ≡ length b → is_lower a b ≡ false → is_lower (a ++ x ∷ []) (b ++ x ∷ []) ≡ false
unfolding is_lower
lower_more [] [] x l h = lower_not x x [] [] (record { least = omega arith; rest = λ e. refl })
lower_more [] (y ∷ b) x l h = absurd (omega arith)
lower_more (p ∷ a) [] x l h = absurd (omega arith)
lower_more (p ∷ a) (q ∷ b) x l h =
    let parts : IsNotLower p q a b = not_lower p q a b h in
    let la : length a ≡ length b = omega arith in
    lower_not p q (a ++ x ∷ []) (b ++ x ∷ [])
    (record { least = parts.least; rest = λ e. lower_more a b x la (parts.rest e) })

-- ---- words of any length

pub before_trans : (a b c : List ℕ) → comes_before a b ≡ false → comes_before b c ≡ false → comes_before a c ≡ false
before_trans a b c h k =
    let p : IsNotLower (length a) (length b) a b = not_lower (length a) (length b) a b h in
    let q : IsNotLower (length b) (length c) b c = not_lower (length b) (length c) b c k in
    let pl : length b ≤ length a = p.least in
    let ql : length c ≤ length b = q.least in
    lower_not (length a) (length c) a c (record {
      least = omega arith;
      rest = λ e.
          let ab : length a ≡ length b = omega arith in
          let bc : length b ≡ length c = omega arith in
          lower_trans a b c ab bc (p.rest ab) (q.rest bc);
    })

pub before_asym : (a b : List ℕ) → comes_before a b ≡ true → comes_before b a ≡ false
unfolding is_lower
before_asym a b h = lower_asym (length a ∷ a) (length b ∷ b) h

pub before_more : (a b : List ℕ) (x : ℕ) → length a ≡ length b → comes_before a b ≡ false
    → comes_before (a ++ x ∷ []) (b ++ x ∷ []) ≡ false
before_more a b x l h =
    let p : IsNotLower (length a) (length b) a b = not_lower (length a) (length b) a b h in
    let la : length (a ++ x ∷ []) ≡ length a + 1 = length-append a (x ∷ []) in
    let lb : length (b ++ x ∷ []) ≡ length b + 1 = length-append b (x ∷ []) in
    lower_not (length (a ++ x ∷ [])) (length (b ++ x ∷ [])) (a ++ x ∷ []) (b ++ x ∷ []) (record {
      least = omega arith;
      rest = λ e. lower_more a b x l (p.rest l);
    })

-- prefixes of what is not past a word are not past it either
pub before_front : (w a : List ℕ) (x : ℕ) → comes_before w (a ++ x ∷ []) ≡ false → comes_before w a ≡ false
before_front w a x h =
    let p : IsNotLower (length w) (length (a ++ x ∷ [])) w (a ++ x ∷ []) =
    not_lower (length w) (length (a ++ x ∷ [])) w (a ++ x ∷ []) h in
    let pl : length (a ++ x ∷ []) ≤ length w = p.least in
    let la : length (a ++ x ∷ []) ≡ length a + 1 = length-append a (x ∷ []) in
    lower_not (length w) (length a) w a (record { least = omega arith; rest = λ e. absurd (omega arith) })

pub before_self : (a : List ℕ) → comes_before a a ≡ false
before_self a = split (comes_before a a) (λ before. before_asym a a before) (λ not. not)

lower_same : (a b : List ℕ) → length a ≡ length b → is_lower a b ≡ false → is_lower b a ≡ false → a ≡ b
unfolding is_lower
lower_same [] [] l h k = refl
lower_same [] (y ∷ b) l h k = absurd (omega arith)
lower_same (x ∷ a) [] l h k = absurd (omega arith)
lower_same (x ∷ a) (y ∷ b) l h k =
    let p : IsNotLower x y a b = not_lower x y a b h in
    let q : IsNotLower y x b a = not_lower y x b a k in
    let pl : y ≤ x = p.least in
    let ql : x ≤ y = q.least in
    let same : x ≡ y = omega arith in
    let rest : length a ≡ length b = omega arith in
    ap₂ (λ z xs. z ∷ xs) same (lower_same a b rest (p.rest same) (q.rest (sym same)))

-- two words, neither of which comes before the other, are the same
pub before_same : (a b : List ℕ) → comes_before a b ≡ false → comes_before b a ≡ false → a ≡ b
before_same a b h k =
    let p : IsNotLower (length a) (length b) a b = not_lower (length a) (length b) a b h in
    let q : IsNotLower (length b) (length a) b a = not_lower (length b) (length a) b a k in
    let pl : length b ≤ length a = p.least in
    let ql : length a ≤ length b = q.least in
    let same : length a ≡ length b = omega arith in
    lower_same a b same (p.rest same) (q.rest (sym same))
