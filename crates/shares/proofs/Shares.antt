-- Which points halves and joined shares have; next to the whole, a disjoint share has none.
use Rattle.std.proofs.Common.{◌≡◌, ℕ, ◌<◌, Bool, true, false, cond, nat_lt, ◌&&◌, ◌||◌, [], ◌∷◌, ◌++◌, ◌⊎◌, inl, inr, sym, refl, ap, ◌∙◌, arith}
use Rattle.std.proofs.lemmas.Bool.Decides.{nat_tests}
use Rattle.shares.specs.Shares.{Fixed, Share, bit_is, has_bits, owns, whole, above_bits, fresh_bit, with_bit, half, IsWhole}

-- ---- truth tables

or_or : (a b c : Bool) → (a || (b || c)) ≡ ((a || b) || c)
or_or true b c = refl
or_or false b c = refl

and_or : (a b c : Bool) → ((a && b) || (a && c)) ≡ (a && (b || c))
and_or true b c = refl
and_or false b c = refl

either_bit : (x a : Bool) → a ≡ ((bit_is false x && a) || (bit_is true x && a))
either_bit true true = refl
either_bit true false = refl
either_bit false true = refl
either_bit false false = refl

not_both_bits : (x a : Bool) → (bit_is false x && a) ≡ true → (bit_is true x && a) ≡ true → ⊥
not_both_bits true a e f = absurd (cc)
not_both_bits false a e f = absurd (cc)

same_bit : (b : Bool) → bit_is b b ≡ true
same_bit true = refl
same_bit false = refl

right_of : (a b : Bool) → (a && b) ≡ true → b ≡ true
right_of true b e = e
right_of false b e = absurd (cc)

both_of : (a b : Bool) → a ≡ true → b ≡ true → (a && b) ≡ true
both_of a b e f = ap (λ (z : Bool). z && b) e ∙ f

one_of : (a b : Bool) → (a || b) ≡ true → (a ≡ true) ⊎ (b ≡ true)
one_of true b e = inl refl
one_of false b e = inr e

and_false : (a : Bool) → (a && false) ≡ false
and_false true = refl
and_false false = refl

left_in : (a b : Bool) → a ≡ true → (a || b) ≡ true
left_in a b e = ap (λ (z : Bool). z || b) e

right_in : (a b : Bool) → b ≡ true → (a || b) ≡ true
right_in true b e = refl
right_in false b e = e

-- ---- joined shares

pub owns_append : (a b : Share) (f : ℕ → Bool) → owns (a ++ b) f ≡ (owns a f || owns b f)
owns_append [] b f = refl
owns_append (bits ∷ a) b f = ap (λ (z : Bool). has_bits bits f || z) (owns_append a b f) ∙ or_or (has_bits bits f) (owns a f) (owns b f)

pub in_left : (a b : Share) (f : ℕ → Bool) → owns a f ≡ true → owns (a ++ b) f ≡ true
in_left a b f e = owns_append a b f ∙ left_in (owns a f) (owns b f) e

pub in_right : (a b : Share) (f : ℕ → Bool) → owns b f ≡ true → owns (a ++ b) f ≡ true
in_right a b f e = owns_append a b f ∙ right_in (owns a f) (owns b f) e

-- a point of a joined share is in one of the two
pub in_one : (a b : Share) (f : ℕ → Bool) → owns (a ++ b) f ≡ true → (owns a f ≡ true) ⊎ (owns b f ≡ true)
in_one a b f e = one_of (owns a f) (owns b f) (sym (owns_append a b f) ∙ e)

-- ---- halves

owns_with : (n : ℕ) (b : Bool) (s : Share) (f : ℕ → Bool) → owns (with_bit n b s) f ≡ (bit_is b (f n) && owns s f)
owns_with n b [] f = sym (and_false (bit_is b (f n)))
owns_with n b (bits ∷ s) f = ap (λ (z : Bool). (bit_is b (f n) && has_bits bits f) || z) (owns_with n b s f) ∙ and_or (bit_is b (f n)) (has_bits bits f) (owns s f)

owns_half : (b : Bool) (s : Share) (f : ℕ → Bool) → owns (half b s) f ≡ (bit_is b (f (fresh_bit s)) && owns s f)
owns_half b s f = owns_with (fresh_bit s) b s f

pub owns_halves : (s : Share) (f : ℕ → Bool) → owns s f ≡ (owns (half false s) f || owns (half true s) f)
owns_halves s f = either_bit (f (fresh_bit s)) (owns s f)
    ∙ sym (ap (λ (z : Bool). z || owns (half true s) f) (owns_half false s f) ∙ ap (λ (z : Bool). (bit_is false (f (fresh_bit s)) && owns s f) || z) (owns_half true s f))

pub halves_apart : (s : Share) (f : ℕ → Bool) → owns (half false s) f ≡ true → owns (half true s) f ≡ true → ⊥
halves_apart s f e g = not_both_bits (f (fresh_bit s)) (owns s f) (sym (owns_half false s f) ∙ e) (sym (owns_half true s f) ∙ g)

-- every point of a half is a point of the share
pub half_in : (b : Bool) (s : Share) (f : ℕ → Bool) → owns (half b s) f ≡ true → owns s f ≡ true
half_in b s f e = right_of (bit_is b (f (fresh_bit s))) (owns s f) (sym (owns_half b s f) ∙ e)

-- ---- if a share has a point, so has each half of it

-- two points have the same bits below a number
abbrev pub Alike : ℕ → (ℕ → Bool) → (ℕ → Bool) → Type 0
Alike top f g = (n : ℕ) → n < top → f n ≡ g n

bits_like : (bits : Fixed) (f g : ℕ → Bool) → Alike (above_bits bits) f g → has_bits bits f ≡ has_bits bits g
bits_like [] f g like = refl
bits_like (x ∷ bits) f g like = ap (λ (z : Bool). bit_is x.1 z && has_bits bits f) (like x.0 (omega arith))
    ∙ ap (λ (z : Bool). bit_is x.1 (g x.0) && z) (bits_like bits f g (λ n lt. like n (omega arith)))

owns_like : (s : Share) (f g : ℕ → Bool) → Alike (fresh_bit s) f g → owns s f ≡ owns s g
owns_like [] f g like = refl
owns_like (bits ∷ s) f g like = ap (λ (z : Bool). z || owns s f) (bits_like bits f g (λ n lt. like n (omega arith)))
    ∙ ap (λ (z : Bool). has_bits bits g || z) (owns_like s f g (λ n lt. like n (omega arith)))

-- the point with every bit from a number on replaced by this one
abbrev then_bit : ℕ → Bool → (ℕ → Bool) → ℕ → Bool
then_bit top b f n = cond (nat_lt n top) (f n) b

below : (m n : ℕ) → m < n → nat_lt m n ≡ true
below m n h = grind (arith, nat_tests)

not_below : (n : ℕ) → nat_lt n n ≡ false
not_below n = grind (arith, nat_tests)

pub half_has : (b : Bool) (s : Share) (f : ℕ → Bool) → owns s f ≡ true → (g : ℕ → Bool) × (owns (half b s) g ≡ true)
half_has b s f e =
    let top = fresh_bit s in
    let g : ℕ → Bool = then_bit top b f in
    let there : g top ≡ b = ap (λ (z : Bool). cond z (f top) b) (not_below top) in
    let like : Alike top f g = λ n lt. sym (ap (λ (z : Bool). cond z (f n) b) (below n top lt)) in (
      g,
      owns_half b s g ∙ both_of (bit_is b (g top)) (owns s g) (ap (bit_is b) there ∙ same_bit b) (sym (owns_like s f g like) ∙ e),
    )

-- ---- the whole

pub whole_whole : IsWhole whole
whole_whole f = refl

-- if one share is the whole, a share that has no point in common with it has no point at all
pub none_over : (s t : Share) → IsWhole s → ((f : ℕ → Bool) → owns s f ≡ true → owns t f ≡ true → ⊥) → (f : ℕ → Bool) → owns t f ≡ true → ⊥
none_over s t all apart f e = apart f (all f) e
