use Rattle.std.specs.Prelude.{ℕ, ◌≡◌, ◌<◌, ◌&&◌, Bool, Option, Some, None, List, [], ◌∷◌, map, filter, nat_le, nat_lt, slice_get}
use Rattle.std.specs.Prelude.{Vec, vec_len, vec_capacity, if◌then◌else◌}
use Rattle.claim_index.specs.Claims.{takes_all, is_reading, is_writing, takes_frames, takes_stream, first_claimed}
use Rattle.claim_index.specs.Claims.{end_claimed}
use Rattle.claim_index.specs.declared.by_block.ByBlock.{ByBlock}
use Rattle.claim_index.specs.declared.claimants.Claimants.{Claimants}
use Rattle.claim_index.specs.declared.claim.Claim.{Claim}
use Rattle.claim_index.specs.declared.claim.Claimed.{Claimed}

-- The claims as the index keeps them.

abbrev pub numbers_in : {A : Type 0} → Option (Vec ℕ A) → List ℕ
numbers_in None = []
numbers_in (Some numbers) = numbers.items

-- the numbers of the calls that claim a block
abbrev pub numbers_at : ℕ → ByBlock → List ℕ
numbers_at block b = numbers_in (slice_get b.numbers.items block)

abbrev pub has_room : {A : Type 0} → Option (Vec ℕ A) → Type 0
has_room None = ⊥
has_room (Some numbers) = vec_len numbers < vec_capacity numbers

-- a block has room for one more number
abbrev pub HasRoomAt : ℕ → ByBlock → Type 0
HasRoomAt block b = has_room (slice_get b.numbers.items block)

abbrev pub is_within : ℕ → ℕ → ℕ → Bool
is_within first end block = nat_le first block && nat_lt block end

abbrev pub is_claimed : ℕ → Claimed → Bool
is_claimed block o = is_within (first_claimed o) (end_claimed o) block

-- whether a claim contains one of some blocks
abbrev pub is_touched : ℕ → ℕ → Claimed → Bool
is_touched first end o = nat_lt first end && (nat_lt first (end_claimed o) && nat_lt (first_claimed o) end)

-- the numbers of the calls whose claims pass a test
abbrev pub calls_that : (Claimed → Bool) → List Claim → List ℕ
calls_that test claims = map (λ k. k.call) (filter (λ k. test k.on) claims)

-- for each block, the calls of a kind that claim it
pub record AreByBlock (kind : Claimed → Bool) (claims : List Claim) (b : ByBlock) : Type 0 where
  pub at : (block : ℕ) → numbers_at block b ≡ calls_that (λ o. kind o && is_claimed block o) claims

-- the lists are those of the claims
pub record AreClaimantsOf (claims : List Claim) (c : Claimants) : Type 0 where
  pub everything : c.everything.items ≡ calls_that takes_all claims
  pub readers : AreByBlock is_reading claims c.readers
  pub writers : AreByBlock is_writing claims c.writers
  pub frames : c.frames.items ≡ calls_that takes_frames claims
  pub stream : c.stream.items ≡ calls_that takes_stream claims

-- the smaller of two numbers, if there are any
abbrev pub least : Option ℕ → Option ℕ → Option ℕ
least None b = b
least (Some a) None = Some a
least (Some a) (Some b) = Some (if nat_lt b a then b else a)

-- a number, if it is below another
abbrev pub number_before : ℕ → Option ℕ → Option ℕ
number_before call None = None
number_before call (Some n) = if nat_lt n call then Some n else None
