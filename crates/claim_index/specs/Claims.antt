use Rattle.std.specs.Prelude.{ℕ, ◌+◌, ◌/◌, ◌<◌, ◌==◌, ◌&&◌, ◌||◌, not, Bool, true, false, Option, Some, None, List, []}
use Rattle.std.specs.Prelude.{◌∷◌, map, filter, length, nat_le, nat_lt, option_map, if◌then◌else◌}
use Rattle.std.specs.List.{find}
use Rattle.claim_index.specs.declared.claim.Claim.{Claim}
use Rattle.claim_index.specs.declared.claim.Claimed.{Claimed}
use Rattle.claim_index.specs.declared.claim.Claimed.TheVariants as claimed
use Rattle.nook_data.specs.declared.calls.CallEntry.{CallEntry}
use Rattle.nook_data.specs.declared.classes.Class.{Class}
use Rattle.nook_data.specs.declared.classes.Class.TheVariants as class
use Rattle.nook_data.specs.declared.calls.Op.{Op}
use Rattle.nook_data.specs.declared.calls.Op.TheVariants as op
use Rattle.part_defs.specs.Views.CallLogs.{blocked_by}

-- What open calls claim.

-- what an operation claims
abbrev pub claimed_by : Op → Claimed
claimed_by (op.Read first count) = claimed.Reads first (first + count)
claimed_by (op.Write first words) = claimed.Writes first (first + length words / 16)
claimed_by (op.Send frame) = claimed.Nothing
claimed_by op.Recv = claimed.Frames
claimed_by op.Open = claimed.Stream
claimed_by (op.Play samples) = claimed.Stream
claimed_by op.Close = claimed.Stream
claimed_by (op.Get key) = claimed.Nothing
claimed_by (op.Set key value) = claimed.Everything

abbrev pub claim_of : CallEntry → Claim
claim_of c = record { call = c.call; on = claimed_by c.op }

-- the claims of the open calls
abbrev pub claims_of : List CallEntry → List Claim
claims_of pending = map claim_of pending

abbrev pub takes_all : Claimed → Bool
takes_all claimed.Everything = true
takes_all _ = false

abbrev pub is_reading : Claimed → Bool
is_reading (claimed.Reads first end) = true
is_reading _ = false

abbrev pub is_writing : Claimed → Bool
is_writing (claimed.Writes first end) = true
is_writing _ = false

abbrev pub takes_frames : Claimed → Bool
takes_frames claimed.Frames = true
takes_frames _ = false

abbrev pub takes_stream : Claimed → Bool
takes_stream claimed.Stream = true
takes_stream _ = false

-- the blocks that are claimed: from the first up to the end
abbrev pub first_claimed : Claimed → ℕ
first_claimed (claimed.Reads first end) = first
first_claimed (claimed.Writes first end) = first
first_claimed _ = 0

abbrev pub end_claimed : Claimed → ℕ
end_claimed (claimed.Reads first end) = end
end_claimed (claimed.Writes first end) = end
end_claimed _ = 0

-- a claim of blocks claims at least one
abbrev pub HasBlocks : Claimed → Type 0
HasBlocks (claimed.Reads first end) = first < end
HasBlocks (claimed.Writes first end) = first < end
HasBlocks _ = Unit {0}

abbrev pub meets : Claimed → Claimed → Bool
meets a b = nat_lt (first_claimed a) (end_claimed b) && nat_lt (first_claimed b) (end_claimed a)

-- whether two claims on a part of the class conflict, neither of them of everything
abbrev pub clashes : Class → Claimed → Claimed → Bool
clashes class.Block a b = (is_writing a || is_writing b) && meets a b
clashes class.Net a b = takes_frames a && takes_frames b
clashes class.Sound a b = takes_stream a && takes_stream b

abbrev pub conflict : Class → Claimed → Claimed → Bool
conflict class a b = takes_all a || takes_all b || clashes class a b

-- claims by their calls' numbers

abbrev pub is_claim : ℕ → Claim → Bool
is_claim call k = k.call == call

abbrev pub claim_by : ℕ → List Claim → Option Claim
claim_by call claims = find (is_claim call) claims

abbrev pub without_call : ℕ → List Claim → List Claim
without_call call claims = filter (λ k. not (is_claim call k)) claims

-- the numbers rise, and all are above the given number
abbrev pub AreRising : ℕ → List Claim → Type 0
AreRising low [] = Unit {0}
AreRising low (k ∷ claims) = (low < k.call) × AreRising k.call claims

-- whether the call's claim is the first
abbrev pub is_oldest : ℕ → List Claim → Bool
is_oldest call [] = false
is_oldest call (k ∷ claims) = is_claim call k

-- every number is below the given one
abbrev pub AreBelow : ℕ → List Claim → Type 0
AreBelow call [] = Unit {0}
AreBelow call (k ∷ claims) = (k.call < call) × AreBelow call claims

abbrev pub HaveBlocks : List Claim → Type 0
HaveBlocks [] = Unit {0}
HaveBlocks (k ∷ claims) = HasBlocks k.on × HaveBlocks claims

-- whether a claim is that of an earlier call and conflicts with the given claim
abbrev pub blocks_claim : Class → Claim → Claim → Bool
blocks_claim class k earlier = nat_lt earlier.call k.call && conflict class k.on earlier.on

-- the number of the first call whose claim passes a test
abbrev pub first_that : (Claimed → Bool) → List Claim → Option ℕ
first_that test claims = option_map (λ k. k.call) (find (λ k. test k.on) claims)

-- the number of the first call that blocks a claim; none if no call does
abbrev pub first_blocking : Class → Option Claim → List Claim → Option ℕ
first_blocking class None claims = None
first_blocking class (Some k) claims = option_map (λ earlier. earlier.call) (find (blocks_claim class k) claims)

-- the number of the open call that blocks an open call
abbrev pub blocker_of : Class → Option CallEntry → List CallEntry → Option ℕ
blocker_of class None pending = None
blocker_of class (Some c) pending = option_map (λ earlier. earlier.call) (blocked_by class c pending)
