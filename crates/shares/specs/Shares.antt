-- Shares of a whole. Whatever is split in two, passed around and joined again, in any order, is whole again once all of
-- it is back. A share is a set of points, and a point is an infinite sequence of bits. No sum or fraction is needed.
use Rattle.std.specs.Prelude.{◌≡◌, ℕ, suc, ◌+◌, Bool, true, false, ◌&&◌, ◌||◌, List, [], ◌∷◌, map}

-- some bits of a point, each by its number
abbrev pub Fixed : Type 0
Fixed = List (ℕ × Bool)

-- a share: the points that have all the bits of one of these lists
abbrev pub Share : Type 0
Share = List Fixed

-- the bit is this one
abbrev pub bit_is : Bool → Bool → Bool
bit_is true b = b
bit_is false true = false
bit_is false false = true

-- the point has all these bits
abbrev pub has_bits : Fixed → (ℕ → Bool) → Bool
has_bits [] point = true
has_bits (x ∷ bits) point = bit_is x.1 (point x.0) && has_bits bits point

-- the point is in the share
abbrev pub owns : Share → (ℕ → Bool) → Bool
owns [] point = false
owns (bits ∷ share) point = has_bits bits point || owns share point

-- the whole share: it has every point
abbrev pub whole : Share
whole = [] ∷ []

-- a number larger than the numbers of these bits
abbrev pub above_bits : Fixed → ℕ
above_bits [] = 0
above_bits (x ∷ bits) = suc (x.0 + above_bits bits)

-- a number larger than that of every bit that a share mentions
abbrev pub fresh_bit : Share → ℕ
fresh_bit [] = 0
fresh_bit (bits ∷ share) = above_bits bits + fresh_bit share

-- the points of a share with this bit
abbrev pub with_bit : ℕ → Bool → Share → Share
with_bit number bit share = map (λ bits. (number, bit) ∷ bits) share

-- one half of a share: a bit that the share does not mention is fixed
abbrev pub half : Bool → Share → Share
half bit share = with_bit (fresh_bit share) bit share

-- the share has every point
abbrev pub IsWhole : Share → Type 0
IsWhole share = (point : ℕ → Bool) → owns share point ≡ true
