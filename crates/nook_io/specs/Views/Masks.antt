use Rattle.std.specs.Prelude.{ℕ, Bool, nat_lt, bit_and, if◌then◌else◌}

-- Names for the tests of a listener's masks.

-- a bit that is set if the test holds
abbrev pub bit_if : ℕ → Bool → ℕ
bit_if bit test = if test then bit else 0

-- whether two masks have a common bit
abbrev pub masks_meet : ℕ → ℕ → Bool
masks_meet a b = nat_lt 0 (bit_and a b)
